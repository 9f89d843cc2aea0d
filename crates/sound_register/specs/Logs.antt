-- A log area whose slots are in order: its records in their slots and empty ones after them, each record within its fields' widths.
use Rattle.std.specs.Prelude.{◌≡◌, refl, ℕ, zero, suc, ◌-◌, ◌*◌, ◌/◌, ◌%◌, ◌≤◌, true, ◌&&◌, List, [], ◌∷◌, ◌++◌, take, drop, leb, eqb}
use Rattle.std.proofs.Math.Path.{ap}
use Rattle.std.proofs.Common.{ap₂, sym, ◌∙◌, subst, arith, length-take, lit<}
use Rattle.std.proofs.Math.Nat.{mod-lt}
use Rattle.std.proofs.Math.Decide.{dec_lt}
use Rattle.std.proofs.Math.ListN.{length, replicate}
use Rattle.def_base.specs.Tests.{every, Case, yes!, no!, case, clash, and_true, true_eq, true_le}
use Rattle.def_layout.specs.Entries.{entry_at, no_entry}
use Rattle.def_layout.specs.Numbers.{be32, same_bytes, zeros, tab, read_entry}
use Rattle.def_layout.specs.Records.{Rec}
use Rattle.def_layout.specs.RecordBytes.{Slot, empty, full, other, record_bytes, record_fields, full_by, slot_by, read_slot}
use Rattle.def_layout.specs.Sizes.{slot_size, room}
use Rattle.def_layout.specs.Rows.{carries, named_only, row_says, row, names_pages}
use Rattle.def_model.specs.Log.{is_empty, records_of, slots_from, log_area, slots_ok}
use Rattle.def_model.specs.Sound.{same_slots}
use Rattle.def_model.specs.OnBytes.{read_log, log_bytes}
use Rattle.law_bytes.specs.Words.{Bytes, be32_lt, bytes_take, bytes_drop}
use Rattle.law_bytes.specs.Pieces.{read_all, read_all_length}
use Rattle.law_bytes.specs.Same.{same_true}
use Rattle.law_bytes.specs.Tables.{getD_tab, getD_tab_past}
use Rattle.law_bytes.specs.EntryBytes.{EntryFits, read_entry_fits}
use Rattle.law_bytes.specs.RecordBytes.{Fits}
use Rattle.law_bytes.specs.LogAreas.{slots_of, slots_back}
use Rattle.law_areas.specs.AsPieces.{read_log_is, log_bytes_is}
use Rattle.law_areas.specs.Logs.{HoldsLog, AllFit, fit_take, area_holds, area_bytes_length, log_read}
use Rattle.sound_parts.specs.Stored.{same_slots_is}

-- ---- empty slots after the records

empty_rest : (s : List Slot) → every is_empty s ≡ true → s ≡ replicate (length s) empty
unfolding every is_empty
empty_rest [] e = refl
empty_rest (empty ∷ s) e = ap (λ (t : List Slot). empty ∷ t) (empty_rest s e)
empty_rest (full n r ∷ s) e = clash (sym e)
empty_rest (other b ∷ s) e = clash (sym e)

slots_in_order : (n k : ℕ) (s : List Slot) → slots_ok n k s ≡ true → s ≡ slots_from k (records_of s) ++ replicate (length s - length (records_of s)) empty
unfolding slots_ok records_of slots_from
slots_in_order n k [] h = refl
slots_in_order n k (empty ∷ s) h =
    let e : suc (length s) ≡ suc (length s) - 0 = omega arith in
    ap (λ (t : List Slot). empty ∷ t) (empty_rest s h) ∙ ap (λ (i : ℕ). replicate i empty) e
slots_in_order n k (other b ∷ s) h = clash (sym h)
slots_in_order n k (full m r ∷ s) h =
    let p = and_true (eqb m k) (row k r && (names_pages n r && slots_ok n (suc k) s)) h in
    let q = and_true (row k r) (names_pages n r && slots_ok n (suc k) s) p.1 in
    let t = and_true (names_pages n r) (slots_ok n (suc k) s) q.1 in
    let e : length s - length (records_of s) ≡ suc (length s) - suc (length (records_of s)) = omega arith in
    ap₂ (λ (x : ℕ) (y : List Slot). full x r ∷ y) (true_eq m k p.0)
    (slots_in_order n (suc k) s t.1 ∙ ap (λ (i : ℕ). slots_from (suc k) (records_of s) ++ replicate i empty) e)

-- ---- every record fits its slot

unfoldable number_of : Slot → ℕ
number_of empty = 0
number_of (full n r) = n
number_of (other b) = 0

unfoldable record_or : Rec → Slot → Rec
record_or d empty = d
record_or d (full n r) = r
record_or d (other b) = d

-- A full slot is what its bytes show.
full_shown : (b : List ℕ) (n : ℕ) (r : Rec) → read_slot b ≡ full n r → (be32 b 4 ≡ n) × (record_fields b ≡ r)
unfolding read_slot slot_by full_by number_of record_or
full_shown b n r e = go (case (same_bytes (zeros slot_size) b)) (case (same_bytes (record_bytes (be32 b 4) (record_fields b)) b))
  where
    go : Case (same_bytes (zeros slot_size) b) → Case (same_bytes (record_bytes (be32 b 4) (record_fields b)) b) → (be32 b 4 ≡ n) × (record_fields b ≡ r)
    go (yes! t) c =
        let f : empty ≡ full n r = rw t at e in
        let z : ◌≡◌ {A = ℕ} 0 1 = cc in
        absurd (omega arith)
    go (no! t) (no! u) =
        let f : other b ≡ full n r = rw (t, u) at e in
        let z : ◌≡◌ {A = ℕ} 0 1 = cc in
        absurd (omega arith)
    go (no! t) (yes! u) =
        let f : full (be32 b 4) (record_fields b) ≡ full n r = rw (t, u) at e in
        (ap number_of f, ap (record_or r) f)

module _ (b : List ℕ) (w : Bytes b) where
  shown_entry : (n i : ℕ) → EntryFits (entry_at (tab n (read_entry b 32)) i)
  shown_entry n i =
      elim (dec_lt i n) [
        | yes h ↦ subst EntryFits (sym (getD_tab n i (read_entry b 32) no_entry h)) (read_entry_fits b 32 i w)
        | no h ↦ subst EntryFits (sym (getD_tab_past n i (read_entry b 32) no_entry (omega arith))) (lit< tt, lit< tt)
      ]

  fields_fit : length (record_fields b).entries ≤ room → Fits (be32 b 4) (record_fields b)
  unfolding record_fields
  fields_fit c =
      record {
        own = be32_lt b 4 w;
        level = mod-lt (be32 b 0 / 1048576) (lit< tt);
        batch = be32_lt b 8 w;
        previous = be32_lt b 12 w;
        pageA = omega (arith, be32_lt b 16 w);
        pageB = mod-lt (be32 b 16 / 4096) (lit< tt);
        pageC = mod-lt (be32 b 16 / 4) (lit< tt);
        key = be32_lt b 20 w;
        second = be32_lt b 24 w;
        right = omega (arith, be32_lt b 28 w);
        count = c;
        entry = λ i. shown_entry (be32 b 0 / 16777216 % 16) i;
      }

row_room : (n : ℕ) (r : Rec) → row n r ≡ true → length r.entries ≤ room
unfolding row
row_room n r h =
    let p = and_true (named_only (carries r.kind) r) _ h in
    true_le (length r.entries) room (and_true (leb (length r.entries) room) (row_says r.kind n r) p.1).0

full_fits : (b : List ℕ) (n : ℕ) (r : Rec) → Bytes b → read_slot b ≡ full n r → length r.entries ≤ room → Fits n r
full_fits b n r w e c =
    let s = full_shown b n r e in
    subst (λ (k : ℕ). Fits k r) s.0
    (subst (λ (x : Rec). Fits (be32 b 4) x) s.1 (fields_fit b w (subst (λ (x : Rec). length x.entries ≤ room) (sym s.1) c)))

first_fits : (n k : ℕ) (b : List ℕ) (x : Slot) (s : List Slot) → Bytes b → read_slot b ≡ x → slots_ok n k (x ∷ s) ≡ true
    → (slots_ok n (suc k) s ≡ true → AllFit (suc k) (records_of s)) → AllFit k (records_of (x ∷ s))
unfolding slots_ok records_of AllFit
first_fits n k b empty s w e h f = tt
first_fits n k b (other c) s w e h f = tt
first_fits n k b (full m r) s w e h f =
    let p = and_true (eqb m k) (row k r && (names_pages n r && slots_ok n (suc k) s)) h in
    let q = and_true (row k r) (names_pages n r && slots_ok n (suc k) s) p.1 in
    let t = and_true (names_pages n r) (slots_ok n (suc k) s) q.1 in
    (subst (λ (i : ℕ). Fits i r) (true_eq m k p.0) (full_fits b m r w e (row_room k r q.0)), f t.1)

slots_fit : (n k m : ℕ) (b : List ℕ) → Bytes b → slots_ok n k (slots_of m b) ≡ true → AllFit k (records_of (slots_of m b))
unfolding read_all records_of AllFit
slots_fit n k zero b w h = tt
slots_fit n k (suc m) b w h =
    first_fits n k (take slot_size b) (read_slot (take slot_size b)) (slots_of m (drop slot_size b)) (bytes_take slot_size b w) refl h
    (λ g. slots_fit n (suc k) m (drop slot_size b) (bytes_drop b slot_size w) g)

-- ---- the area

-- An area of m slots as the definitions read it.
pub log_shown : (m : ℕ) (b : List ℕ) → length b ≡ slot_size * m → read_log b ≡ slots_of m b
log_shown m b size = let e : length b / slot_size ≡ m = omega arith in read_log_is b ∙ ap (λ (k : ℕ). slots_of k b) e

module _ (n m : ℕ) (b : List ℕ) (ok : slots_ok n 1 (slots_of m b) ≡ true) where
  pub area_is : slots_of m b ≡ log_area m (records_of (slots_of m b))
  unfolding log_area
  area_is =
      slots_in_order n 1 (slots_of m b) ok
      ∙ ap (λ (k : ℕ). slots_from 1 (records_of (slots_of m b)) ++ replicate (k - length (records_of (slots_of m b))) empty) (read_all_length slot_size read_slot m b)

  pub area_fits : Bytes b → AllFit 1 (records_of (slots_of m b))
  area_fits w = slots_fit n 1 m b w ok

  pub area_holds_log : length b ≡ slot_size * m → HoldsLog b (records_of (slots_of m b))
  area_holds_log size =
      subst (λ (x : List ℕ). HoldsLog x (records_of (slots_of m b))) (ap log_bytes (sym area_is) ∙ log_bytes_is (slots_of m b) ∙ slots_back m b size)
      (area_holds m (records_of (slots_of m b)))

-- A stable log that shows the first k records, and nothing else, holds them.
pub holds_first : (m k : ℕ) (s : List ℕ) (log : List Rec) → length s ≡ slot_size * m → length log ≤ m → AllFit 1 log
    → same_slots (slots_of m s) (log_area m (take k log)) ≡ true → HoldsLog s (take k log)
holds_first m k s log size few fits e =
    let y : List ℕ = log_bytes (log_area m (take k log)) in
    let z : length y ≡ slot_size * m = area_bytes_length m (take k log) (omega (arith, length-take k log)) in
    let shown : log_area m (take k log) ≡ slots_of m y = sym (log_read m (take k log) (area_holds m (take k log)) z (fit_take 1 k log fits)) ∙ log_shown m y z in
    let same : same_bytes s y ≡ true = sym (same_slots_is m s y size z) ∙ ap (same_slots (slots_of m s)) (sym shown) ∙ e in
    subst (λ (x : List ℕ). HoldsLog x (take k log)) (sym (same_true s y same)) (area_holds m (take k log))
