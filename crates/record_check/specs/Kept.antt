-- The row of a record as the program tests it, on its own header and entries.
use Rattle.std.proofs.Math.Path.{◌≡◌, ap}
use Rattle.std.specs.Prelude.{ℕ, ◌+◌, ◌*◌, ◌/◌, ◌%◌, Bool, true, false, ◌&&◌, List, eqb, leb, ltb}
use Rattle.std.proofs.Common.{arith}
use Rattle.def_base.specs.Tests.{pick}
use Rattle.def_layout.specs.declared.Entry.{Entry}
use Rattle.def_layout.specs.Records.{Rec, kind_of, begin}
use Rattle.def_layout.specs.Rows.{Named, zero_unless, row_says, row, names_pages}
use Rattle.codec_slot.specs.declared.Header.{Header}
use Rattle.codec_slot.specs.declared.Header.TheVariants.{Full, Empty, Broken}
use Rattle.def_layout.specs.RecordBytes.{Slot, empty, full, other}
use Rattle.codec_slot.specs.Typed.{rec_of, typed_by}

-- The fields that a kind names, as a bit each.
unfoldable pub mask : Named → ℕ
mask f =
    pick f.level 512 0 + pick f.batch 256 0 + pick f.previous 128 0 + pick f.a 64 0 + pick f.b 32 0 + pick f.c 16 0
    + pick f.key 8 0 + pick f.second 4 0 + pick f.right 2 0 + pick f.entries 1 0

-- A key up to another, or above it.
unfoldable pub on_side : Bool → ℕ → ℕ → Bool
on_side true key k = leb k key
on_side false key k = ltb key k

-- A full slot keeps its row; any other slot keeps none.
unfoldable pub row_kept : Header → List Entry → Bool
row_kept (Full kind count level own batch previous a b c key second right) es = row own (rec_of kind count level batch previous a b c key second right es)
row_kept Empty es = false
row_kept Broken es = false

-- It names pages below n.
unfoldable pub pages_kept : ℕ → Header → Bool
pages_kept n (Full kind count level own batch previous a b c key second right) = ltb a n && (ltb b n && ltb c n)
pages_kept n Empty = false
pages_kept n Broken = false

-- What a row says within itself, of the numbers that it asks.
abbrev pub asked : (batch a key level : ℕ) → List Entry → Rec
asked batch a key level es =
    record { kind = begin; level = level; batch = batch; previous = 0; pageA = a; pageB = 0; pageC = 0; key = key; second = 0; right = 0; entries = es }

unfoldable pub says : (kind own batch a key level : ℕ) → List Entry → Bool
says kind own batch a key level es = row_says (kind_of kind) own (asked batch a key level es)

-- "Fields not named are zero", by the bits of a row: three fields of it.
unfoldable pub three_but : (row bit x y z : ℕ) → Bool
three_but row bit x y z =
    zero_unless (eqb (row / (bit * 4) % 2) 1) x && (zero_unless (eqb (row / (bit * 2) % 2) 1) y && zero_unless (eqb (row / bit % 2) 1) z)

-- The pages of a record that a slot holds.
unfoldable slot_pages : ℕ → Slot → Bool
slot_pages pages empty = false
slot_pages pages (full n r) = ltb r.pageA pages && (ltb r.pageB pages && ltb r.pageC pages)
slot_pages pages (other b) = false

-- Of a slot that reads as record number n, the two tests are those of the record.
module _ (bytes : List ℕ) (es : List Entry) (n : ℕ) (r : Rec) where
  pub row_kept_full : (h : Header) → typed_by bytes h es ≡ full n r → row_kept h es ≡ row n r
  unfolding typed_by row_kept
  row_kept_full (Full kind count level own batch previous a b c key second right) e = cc
  row_kept_full Empty e = let z : ◌≡◌ {A = ℕ} 0 1 = cc in absurd (omega arith)
  row_kept_full Broken e = let z : ◌≡◌ {A = ℕ} 0 1 = cc in absurd (omega arith)

  pub pages_kept_full : (pages : ℕ) (h : Header) → typed_by bytes h es ≡ full n r → pages_kept pages h ≡ names_pages pages r
  unfolding typed_by pages_kept names_pages slot_pages
  pages_kept_full pages (Full kind count level own batch previous a b c key second right) e =
      ap (λ (s : Slot). slot_pages pages s) e
  pages_kept_full pages Empty e = let z : ◌≡◌ {A = ℕ} 0 1 = cc in absurd (omega arith)
  pages_kept_full pages Broken e = let z : ◌≡◌ {A = ℕ} 0 1 = cc in absurd (omega arith)
