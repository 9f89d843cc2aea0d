-- WHAT BYTES SHOW FITS ITS FIELDS: the pages of an area that keeps the layout, their left links, and the records of a log that keeps its rows.
use Rattle.std.specs.Prelude.{ℕ, zero, suc, ◌+◌, ◌*◌, ◌/◌, ◌%◌, ◌^◌, ◌≤◌, ◌<◌, ◌≡◌, true, ◌&&◌, List, [], ◌∷◌, ◌++◌, map, eqb, leb, length}
use Rattle.std.proofs.Common.{sym, subst, arith, lit<}
use Rattle.std.proofs.Math.Nat.{mod-lt}
use Rattle.def_base.specs.Tests.{Case, yes!, no!, case, and_true, true_le}
use Rattle.def_layout.specs.Numbers.{be32, put32, entries_bytes, same_bytes, zeros}
use Rattle.def_layout.specs.PageBytes.{read_block, left_in}
use Rattle.def_layout.specs.Records.{Rec}
use Rattle.def_layout.specs.RecordBytes.{Slot, record_bytes, record_fields, full_by, slot_by, read_slot}
use Rattle.def_layout.specs.Rows.{row, named_only, carries, row_says, names_pages}
use Rattle.def_layout.specs.Sizes.{room, slot_size}
use Rattle.def_model.specs.Areas.{page_in, pages_of, block_ok, blocks_ok}
use Rattle.def_model.specs.Log.{records_of, slots_ok}
use Rattle.law_bytes.specs.Words.{Bytes, be32_lt}
use Rattle.law_bytes.specs.Same.{same_true}
use Rattle.law_bytes.specs.PageBytes.{Fits as PageFits}
use Rattle.law_bytes.specs.LeftLinks.{left_narrow}
use Rattle.law_bytes.specs.RecordBytes.{Fits as RecordFits, record_front, record_bytes_parts, word_kind, word_pages}
use Rattle.law_areas.specs.Pages.{AllPagesFit}
use Rattle.law_areas.specs.LaidPages.{bytes_append, bytes_put, four_words, entries_are_bytes, shown_entry, laid_page}
use Rattle.law_areas.specs.Logs.{AllFit as RecordsFit}
use Rattle.theory_history.specs.Linking.{NarrowLinks}

-- ---- an area of pages

block_fits : (n p : ℕ) (b : List ℕ) → block_ok n p (read_block b) ≡ true → PageFits (page_in (read_block b))
unfolding page_in
block_fits n p b l = let x = laid_page n p b l in subst (λ y. PageFits (page_in y)) (sym x.block) x.fits

-- `g` is what is done to a page's bytes before they are read: nothing, or the left link taken out.
pub blocks_fit : (g : List ℕ → List ℕ) (n p : ℕ) (bs : List (List ℕ)) → blocks_ok n p (map (λ b. read_block (g b)) bs) ≡ true → AllPagesFit (pages_of (map (λ b. read_block (g b)) bs))
unfolding blocks_ok
blocks_fit g n p [] l i h = absurd (omega arith)
blocks_fit g n p (b ∷ bs) l zero h = block_fits n p (g b) (and_true (block_ok n p (read_block (g b))) (blocks_ok n (suc p) (map (λ b. read_block (g b)) bs)) l).0
blocks_fit g n p (b ∷ bs) l (suc i) h = blocks_fit g n (suc p) bs (and_true (block_ok n p (read_block (g b))) (blocks_ok n (suc p) (map (λ b. read_block (g b)) bs)) l).1 i (omega arith)

-- Left links have ten bits, whatever the bytes.
pub links_narrow : (bs : List (List ℕ)) → NarrowLinks (map left_in bs)
links_narrow [] p = lit< tt
links_narrow (b ∷ bs) zero = left_narrow b
links_narrow (b ∷ bs) (suc p) = links_narrow bs p

-- ---- a record

record_front_bytes : (n : ℕ) (r : Rec) → Bytes (record_front n r)
unfolding record_front
record_front_bytes n r =
    let w = r.right % 1024 * 4194304 in
    let f = put32 (word_kind r) ++ put32 n ++ put32 r.batch ++ put32 r.previous in
    bytes_append (f ++ put32 (word_pages r) ++ put32 r.key ++ put32 r.second) (put32 w)
    (bytes_append (f ++ put32 (word_pages r) ++ put32 r.key) (put32 r.second)
    (bytes_append (f ++ put32 (word_pages r)) (put32 r.key)
    (bytes_append f (put32 (word_pages r)) (four_words (word_kind r) n r.batch r.previous) (bytes_put (word_pages r)))
    (bytes_put r.key))
    (bytes_put r.second))
    (bytes_put w)

record_is_bytes : (n : ℕ) (r : Rec) → Bytes (record_bytes n r)
record_is_bytes n r = subst Bytes (sym (record_bytes_parts n r)) (bytes_append (record_front n r) (entries_bytes r.entries) (record_front_bytes n r) (entries_are_bytes r.entries))

module _ (b : List ℕ) (w : Bytes b) where
  -- The row bounds the count.
  record_fits : (m : ℕ) → m < 2 ^ 32 → length (record_fields b).entries ≤ 14 → RecordFits m (record_fields b)
  unfolding record_fields
  record_fits m h c =
      record {
        own = h;
        level = mod-lt (be32 b 0 / 1048576) (lit< tt);
        batch = be32_lt b 8 w;
        previous = be32_lt b 12 w;
        pageA = omega (arith, be32_lt b 16 w);
        pageB = mod-lt (be32 b 16 / 4096) (lit< tt);
        pageC = mod-lt (be32 b 16 / 4) (lit< tt);
        key = be32_lt b 20 w;
        second = be32_lt b 24 w;
        right = omega (arith, be32_lt b 28 w);
        count = c;
        entry = λ i. shown_entry b w 32 (be32 b 0 / 16777216 % 16) i;
      }

-- ---- a log

row_count : (m : ℕ) (r : Rec) → row m r ≡ true → length r.entries ≤ 14
unfolding row
row_count m r e =
    let f = and_true (named_only (carries r.kind) r) _ e in
    true_le (length r.entries) room (and_true (leb (length r.entries) room) (row_says r.kind m r) f.1).0

full_fits : (n m : ℕ) (b : List ℕ) (s : List Slot) → m < 2 ^ 32 → Case (same_bytes (record_bytes (be32 b 4) (record_fields b)) b) → slots_ok n m (full_by (same_bytes (record_bytes (be32 b 4) (record_fields b)) b) b ∷ s) ≡ true
    → (slots_ok n (suc m) s ≡ true → RecordsFit (suc m) (records_of s)) → RecordsFit m (records_of (full_by (same_bytes (record_bytes (be32 b 4) (record_fields b)) b) b ∷ s))
unfolding records_of full_by RecordsFit slots_ok
full_fits n m b s low (yes! e) o i =
    let q : eqb (be32 b 4) m && (row m (record_fields b) && (names_pages n (record_fields b) && slots_ok n (suc m) s)) ≡ true = rw e at o in
    let (a, e₁) = and_true (eqb (be32 b 4) m) _ q in
    let (c, e₂) = and_true (row m (record_fields b)) _ e₁ in
    let (f, e₃) = and_true (names_pages n (record_fields b)) (slots_ok n (suc m) s) e₂ in
    let w : record_bytes (be32 b 4) (record_fields b) ≡ b = same_true (record_bytes (be32 b 4) (record_fields b)) b e in
    rw e (record_fits b (subst Bytes w (record_is_bytes (be32 b 4) (record_fields b))) m low (row_count m (record_fields b) c), i e₃)
full_fits n m b s low (no! e) o i = rw e tt

slot_fits : (n m : ℕ) (b : List ℕ) (s : List Slot) → m < 2 ^ 32 → Case (same_bytes (zeros slot_size) b) → slots_ok n m (slot_by (same_bytes (zeros slot_size) b) b ∷ s) ≡ true
    → (slots_ok n (suc m) s ≡ true → RecordsFit (suc m) (records_of s)) → RecordsFit m (records_of (slot_by (same_bytes (zeros slot_size) b) b ∷ s))
unfolding records_of slot_by RecordsFit
slot_fits n m b s low (yes! e) o i = rw e tt
slot_fits n m b s low (no! e) o i = rw e (full_fits n m b s low (case (same_bytes (record_bytes (be32 b 4) (record_fields b)) b)) (rw e at o) i)

pub slots_fit : (n m : ℕ) (bs : List (List ℕ)) → m + length bs ≤ 2 ^ 32 → slots_ok n m (map read_slot bs) ≡ true → RecordsFit m (records_of (map read_slot bs))
unfolding records_of read_slot RecordsFit
slots_fit n m [] h o = tt
slots_fit n m (b ∷ bs) h o = slot_fits n m b (map read_slot bs) (omega arith) (case (same_bytes (zeros slot_size) b)) o (slots_fit n (suc m) bs (omega arith))
