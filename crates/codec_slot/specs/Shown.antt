-- The slot that bytes show: empty, a record's bytes, or bytes that are no record's; and what the program makes of each.
use Rattle.std.specs.Prelude.{◌≡◌, refl, Bool, true, take, drop}
use Rattle.std.proofs.Math.Path.{ap, ap₂, sym, subst}
use Rattle.std.proofs.Common.{◌∙◌, mod-lt, div-add-mod', arith, lit<}
use Prim.Native.Nat.{ℕ, ◌+◌, ◌*◌, ◌/◌, ◌%◌, ◌<◌}
use Rattle.std.proofs.Math.Nat.{mod-eq_of_lt, div-div-eq-div-mul}
use Rattle.std.proofs.Math.Decide.{dec_lt}
use Rattle.std.proofs.Math.Dec.{eqb}
use Rattle.std.proofs.Math.Bool.{false, not}
use mathlib.Core.List.{List, ◌++◌}
use Rattle.std.proofs.Math.ListN.{length}
use Rattle.std.proofs.Math.Seq.{take-add}
use Rattle.def_base.specs.Tests.{clash, and_true, and_both, true_eq, eq_true, neq_false}
use Rattle.std.proofs.lemmas.Bool.{not-true, eqb-false}
use Rattle.def_layout.specs.declared.Entry.{Entry}
use Rattle.def_layout.specs.Entries.{entry_at, no_entry}
use Rattle.def_layout.specs.Numbers.{be32, tab, read_entry, entries_bytes, same_bytes, zeros}
use Rattle.def_layout.specs.Records.{Rec, kind_of, kind_number}
use Rattle.def_layout.specs.RecordBytes.{record_bytes, record_fields, full, other, full_by, slot_by, read_slot}
use Rattle.def_layout.specs.Sizes.{slot_size}
use Rattle.law_bytes.specs.Words.{Bytes, be32_lt, put_be32_at}
use Rattle.law_bytes.specs.Tables.{tab_length, getD_tab, getD_tab_past, tab_same}
use Rattle.law_bytes.specs.Same.{same_refl, same_false}
use Rattle.law_bytes.specs.EntryBytes.{entries_read, entries_unused, read_entry_past}
use Rattle.law_bytes.specs.Blank.{blank, blank_from, from_blank}
use Rattle.codec_slot.specs.declared.Header.{Header}
use Rattle.codec_slot.specs.declared.Header.TheVariants.{Full, Empty, Broken}
use Rattle.codec_slot.specs.Typed.{typed_by, shown_header, clean}
use Rattle.law_bytes.specs.RecordBytes.{reads_empty, number_back, kind_range, record_bytes_parts, record_front_length, word_kind, word_pages, word_0, word_16, word_28, record_front}

-- A quotient by m, by its own digits to the base k.
digit : (x m k : ℕ) → x / m ≡ x / (m * k) * k + x / m % k
digit x m k = sym (ap (λ (q : ℕ). q * k + x / m % k) (sym (div-div-eq-div-mul x m k)) ∙ div-add-mod' (x / m) k)

module _ (b : List ℕ) where
  fields_count : length (record_fields b).entries ≡ be32 b 0 / 16777216 % 16
  unfolding record_fields
  fields_count = tab_length (be32 b 0 / 16777216 % 16) (read_entry b 32)

  -- SHOWN: the header and the entries stand for the record that the bytes show.
  pub typed_shown : length b ≡ slot_size → typed_by b (shown_header b) (tab 14 (read_entry b 32)) ≡ full (be32 b 4) (record_fields b)
  unfolding typed_by shown_header record_fields
  typed_shown h =
      ap (λ (es : List Entry). full (be32 b 4) (with_entries es))
      (tab_same (be32 b 0 / 16777216 % 16) (entry_at (tab 14 (read_entry b 32))) (read_entry b 32) (λ i q. shown_entry i))
    where
      with_entries : List Entry → Rec
      with_entries es =
          record {
            kind = kind_of (be32 b 0 / 268435456);
            level = be32 b 0 / 1048576 % 16;
            batch = be32 b 8;
            previous = be32 b 12;
            pageA = be32 b 16 / 4194304;
            pageB = be32 b 16 / 4096 % 1024;
            pageC = be32 b 16 / 4 % 1024;
            key = be32 b 20;
            second = be32 b 24;
            right = be32 b 28 / 4194304;
            entries = es;
          }

      shown_entry : (i : ℕ) → entry_at (tab 14 (read_entry b 32)) i ≡ read_entry b 32 i
      shown_entry i =
          elim (dec_lt i 14) [
            | yes q ↦ getD_tab 14 i (read_entry b 32) no_entry q
            | no q ↦ getD_tab_past 14 i (read_entry b 32) no_entry (omega arith) ∙ sym (read_entry_past b 32 i (omega arith))
          ]

  -- A kind and zeros in the spare bits: the front is that of the fields.
  front_shown : Bytes b → length b ≡ slot_size → (be32 b 0 / 268435456 ≡ 0 → ⊥) → be32 b 0 % 1048576 ≡ 0 → be32 b 16 % 4 ≡ 0 → be32 b 28 % 4194304 ≡ 0
      → record_front (be32 b 4) (record_fields b) ≡ take 32 b
  unfolding record_front record_fields
  front_shown w size k s t u =
      let x : ℕ = be32 b 0 in
      let y : ℕ = be32 b 16 in
      let z : ℕ = be32 b 28 in
      let kn : kind_number (kind_of (x / 268435456)) ≡ x / 268435456 = number_back (x / 268435456) (omega arith) (omega (arith, be32_lt b 0 w)) in
      let cn : length (tab (x / 16777216 % 16) (read_entry b 32)) % 16 ≡ x / 16777216 % 16 =
      ap (λ (m : ℕ). m % 16) (tab_length (x / 16777216 % 16) (read_entry b 32)) ∙ mod-eq_of_lt (mod-lt (x / 16777216) (lit< tt)) in
      let ln : x / 1048576 % 16 % 16 ≡ x / 1048576 % 16 = mod-eq_of_lt (mod-lt (x / 1048576) (lit< tt)) in
      let an : y / 4194304 % 1024 ≡ y / 4194304 = mod-eq_of_lt (omega (arith, be32_lt b 16 w)) in
      let bn : y / 4096 % 1024 % 1024 ≡ y / 4096 % 1024 = mod-eq_of_lt (mod-lt (y / 4096) (lit< tt)) in
      let pn : y / 4 % 1024 % 1024 ≡ y / 4 % 1024 = mod-eq_of_lt (mod-lt (y / 4) (lit< tt)) in
      let rn : z / 4194304 % 1024 ≡ z / 4194304 = mod-eq_of_lt (omega (arith, be32_lt b 28 w)) in
      let w0 : x / 268435456 * 268435456 + x / 16777216 % 16 * 16777216 + x / 1048576 % 16 * 1048576 ≡ x = omega (arith, digit x 1048576 16, digit x 16777216 16) in
      let w16 : y / 4194304 * 4194304 + y / 4096 % 1024 * 4096 + y / 4 % 1024 * 4 ≡ y = omega (arith, digit y 4 1024, digit y 4096 1024) in
      let w28 : z / 4194304 * 4194304 ≡ z = omega (arith, u) in
      rw (kn, cn, ln, an, bn, pn, rn, w0, w16, w28)
      (rw (
        put_be32_at b 0 w (omega arith),
        put_be32_at b 4 w (omega arith),
        put_be32_at b 8 w (omega arith),
        put_be32_at b 12 w (omega arith),
        put_be32_at b 16 w (omega arith),
        put_be32_at b 20 w (omega arith),
        put_be32_at b 24 w (omega arith),
        put_be32_at b 28 w (omega arith),
      )
      (sym (rw (take-add 28 4 b, take-add 24 4 b, take-add 20 4 b, take-add 16 4 b, take-add 12 4 b, take-add 8 4 b, take-add 4 4 b))))

-- The five tests of a record's bytes, one by one.
unclean : (b : List ℕ) → record_bytes (be32 b 4) (record_fields b) ≡ b
    → (be32 b 0 ≡ word_kind (record_fields b)) × (be32 b 16 ≡ word_pages (record_fields b)) × (be32 b 28 ≡ (record_fields b).right % 1024 * 4194304)
unclean b e = (
  ap (λ (r : List ℕ). be32 r 0) (sym e) ∙ word_0 (be32 b 4) (record_fields b),
  ap (λ (r : List ℕ). be32 r 16) (sym e) ∙ word_16 (be32 b 4) (record_fields b),
  ap (λ (r : List ℕ). be32 r 28) (sym e) ∙ word_28 (be32 b 4) (record_fields b),
)

entries_are : (b : List ℕ) → entries_bytes (record_fields b).entries ≡ entries_bytes (tab (be32 b 0 / 16777216 % 16) (read_entry b 32))
unfolding record_fields
entries_are b = refl

kind_not_zero : (x : ℕ) (r : Rec) → x ≡ word_kind r → x / 268435456 ≡ 0 → ⊥
kind_not_zero x r e z = omega (arith, (kind_range r.kind).0)

module _ (b : List ℕ) where
  -- Clean bytes are those of the record that they show, and no others are.
  clean_record : Bytes b → length b ≡ slot_size → clean b (tab 14 (read_entry b 32)) ≡ true → record_bytes (be32 b 4) (record_fields b) ≡ b
  unfolding clean
  clean_record w size c =
      let p = and_true (not (eqb (be32 b 0 / 268435456) 0)) _ c in
      let q = and_true (eqb (be32 b 0 % 1048576) 0) _ p.1 in
      let r = and_true (eqb (be32 b 16 % 4) 0) _ q.1 in
      let s = and_true (eqb (be32 b 28 % 4194304) 0) (blank (drop (be32 b 0 / 16777216 % 16) (tab 14 (read_entry b 32)))) r.1 in
      let f = front_shown b w size (eqb-false (be32 b 0 / 268435456) 0 (not-true _ p.0)) (true_eq _ 0 q.0) (true_eq _ 0 r.0) (true_eq _ 0 s.0) in
      record_bytes_parts (be32 b 4) (record_fields b)
      ∙ ap₂ (λ (x y : List ℕ). x ++ y) f (entries_are b)
      ∙ entries_read b 32 (be32 b 0 / 16777216 % 16) w size
      (λ i l h. sym (getD_tab 14 i (read_entry b 32) no_entry h) ∙ blank_from (be32 b 0 / 16777216 % 16) (tab 14 (read_entry b 32)) s.1 i l)

  record_clean : record_bytes (be32 b 4) (record_fields b) ≡ b → clean b (tab 14 (read_entry b 32)) ≡ true
  unfolding clean
  record_clean e =
      let h = unclean b e in
      let k : eqb (be32 b 0 / 268435456) 0 ≡ false = neq_false (λ z. kind_not_zero (be32 b 0) (record_fields b) h.0 z) in
      let s : be32 b 0 % 1048576 ≡ 0 = omega (arith, h.0) in
      let t : be32 b 16 % 4 ≡ 0 = omega (arith, h.1) in
      let u : be32 b 28 % 4194304 ≡ 0 = omega (arith, h.2) in
      and_both (ap not k)
      (and_both (eq_true _ 0 s) (and_both (eq_true _ 0 t) (and_both (eq_true _ 0 u)
      (from_blank (be32 b 0 / 16777216 % 16) (tab 14 (read_entry b 32))
      (λ i l q.
      let q' : i < 14 = subst (λ (m : ℕ). i < m) (tab_length 14 (read_entry b 32)) q in
      getD_tab 14 i (read_entry b 32) no_entry q'
      ∙ entries_unused b 32 (be32 b 0 / 16777216 % 16) (record_front (be32 b 4) (record_fields b)) (record_front_length (be32 b 4) (record_fields b))
      (ap (λ (r : List ℕ). record_front (be32 b 4) (record_fields b) ++ r) (sym (entries_are b)) ∙ sym (record_bytes_parts (be32 b 4) (record_fields b)) ∙ e) i l q')))))

pub reads_full : (b : List ℕ) → Bytes b → length b ≡ slot_size → same_bytes (zeros slot_size) b ≡ false → clean b (tab 14 (read_entry b 32)) ≡ true
    → read_slot b ≡ full (be32 b 4) (record_fields b)
unfolding read_slot slot_by full_by
reads_full b w size z c =
    let e : same_bytes (record_bytes (be32 b 4) (record_fields b)) b ≡ true = rw (clean_record b w size c) (same_refl b) in
    rw (z, e)

reads_other : (b : List ℕ) → same_bytes (zeros slot_size) b ≡ false → clean b (tab 14 (read_entry b 32)) ≡ false → read_slot b ≡ other b
unfolding read_slot slot_by full_by
reads_other b z c = rw (z, same_false (record_bytes (be32 b 4) (record_fields b)) b (λ e. clash (sym (record_clean b e) ∙ c)))

-- What the program puts together from the words that it reads.
pub header_parts : (b : List ℕ) (w p o t v k s r : ℕ) → w ≡ be32 b 0 → p ≡ be32 b 16 → o ≡ be32 b 4 → t ≡ be32 b 8 → v ≡ be32 b 12 → k ≡ be32 b 20 → s ≡ be32 b 24 → r ≡ be32 b 28
    → Full (w / 268435456) (w / 16777216 % 16) (w / 1048576 % 16) o t v (p / 4194304) (p / 4096 % 1024) (p / 4 % 1024) k s (r / 4194304) ≡ shown_header b
unfolding shown_header
header_parts b w p o t v k s r ew ep eo et ev ek es er = rw (ew, ep, eo, et, ev, ek, es, er)

-- The tests as the program makes them, one after the other.
module _ (b : List ℕ) (es : List Entry) (w : ℕ) (ew : w ≡ be32 b 0) where
  pub no_kind : w / 268435456 ≡ 0 → clean b es ≡ false
  unfolding clean
  no_kind k = rw (← ew, clean, eq_true (w / 268435456) 0 k)

  module _ (k : w / 268435456 ≡ 0 → ⊥) where
    pub spare_kind : (w % 1048576 ≡ 0 → ⊥) → clean b es ≡ false
    unfolding clean
    spare_kind s = rw (← ew, clean, neq_false k, neq_false s)

    module _ (s : w % 1048576 ≡ 0) (p : ℕ) (ep : p ≡ be32 b 16) where
      pub spare_pages : (p % 4 ≡ 0 → ⊥) → clean b es ≡ false
      unfolding clean
      spare_pages t = rw (← ew, ← ep, clean, neq_false k, eq_true (w % 1048576) 0 s, neq_false t)

      module _ (t : p % 4 ≡ 0) (r : ℕ) (er : r ≡ be32 b 28) where
        pub spare_right : (r % 4194304 ≡ 0 → ⊥) → clean b es ≡ false
        unfolding clean
        spare_right u = rw (← ew, ← ep, ← er, clean, neq_false k, eq_true (w % 1048576) 0 s, eq_true (p % 4) 0 t, neq_false u)

        pub spare_none : r % 4194304 ≡ 0 → clean b es ≡ blank (drop (w / 16777216 % 16) es)
        unfolding clean
        spare_none u = rw (← ew, ← ep, ← er, clean, neq_false k, eq_true (w % 1048576) 0 s, eq_true (p % 4) 0 t, eq_true (r % 4194304) 0 u)

-- READ: the three ways out of the program's reading.
module _ (b : List ℕ) where
  at_size : (t : Bool) → length b ≡ slot_size → t ≡ same_bytes (zeros (length b)) b → same_bytes (zeros slot_size) b ≡ t
  at_size t size e = ap (λ (n : ℕ). same_bytes (zeros n) b) (sym size) ∙ sym e

  pub slot_empty : {t : Bool} (es : List Entry) → length b ≡ slot_size → t ≡ same_bytes (zeros (length b)) b → t ≡ true → typed_by b Empty es ≡ read_slot b
  unfolding typed_by
  slot_empty {t} es size z e = sym (reads_empty b (at_size t size z ∙ e))

  pub slot_full : (z t : Bool) (h : Header) (es : List Entry) → Bytes b → length b ≡ slot_size → z ≡ same_bytes (zeros (length b)) b → z ≡ false
      → es ≡ tab 14 (read_entry b 32) → t ≡ clean b es → t ≡ true → h ≡ shown_header b → typed_by b h es ≡ read_slot b
  slot_full z t h es w size ez e ee et f eh =
      rw (eh, ee) (typed_shown b size)
      ∙ sym (reads_full b w size (at_size z size ez ∙ e) (ap (clean b) (sym ee) ∙ sym et ∙ f))

  pub slot_broken : (z t : Bool) (es : List Entry) → length b ≡ slot_size → z ≡ same_bytes (zeros (length b)) b → z ≡ false
      → es ≡ tab 14 (read_entry b 32) → t ≡ clean b es → t ≡ false → typed_by b Broken es ≡ read_slot b
  unfolding typed_by
  slot_broken z t es size ez e ee et f = sym (reads_other b (at_size z size ez ∙ e) (ap (clean b) (sym ee) ∙ sym et ∙ f))
