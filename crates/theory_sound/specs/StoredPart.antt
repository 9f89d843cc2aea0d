-- The stored part of the log: it stays the same while records follow it, and is the whole log after a commit's stores.
use Rattle.std.specs.Prelude.{ℕ, suc, ◌+◌, ◌-◌, ◌≤◌, ◌≡◌, refl, true, ◌&&◌, List, [], ◌∷◌, ◌++◌, length, take, drop, set, replicate, leb}
use Rattle.std.proofs.Common.{sym, ap, ◌∙◌, subst, append_assoc, append-nil, arith, suc-add, add-suc, add-zero, zero-add, length-append, length-set, length-drop, take-append-drop, length-take-le, take_all}
use Rattle.std.proofs.lemmas.List.{take-append-le}
use Rattle.def_base.specs.Tests.{clash, and_true, and_both, eq_true, le_true, true_le}
use Rattle.def_layout.specs.declared.Desk.{Desk}
use Rattle.def_layout.specs.Numbers.{same_bytes}
use Rattle.def_layout.specs.Records.{Rec}
use Rattle.def_layout.specs.RecordBytes.{Slot, empty, full, other, record_bytes}
use Rattle.def_model.specs.Areas.{Side, Areas, Store, store_page, store_slot, store, store_all, slot_stores, log_stores}
use Rattle.def_model.specs.Log.{slot_of, slots_from, log_area}
use Rattle.def_model.specs.Sound.{same_slot, same_slots, stored_ok, work_log}

bytes_same : (b : List ℕ) → same_bytes b b ≡ true
unfolding same_bytes
bytes_same [] = refl
bytes_same (x ∷ b) = and_both (eq_true x x refl) (bytes_same b)

pub slot_same : (x : Slot) → same_slot x x ≡ true
unfolding same_slot
slot_same empty = refl
slot_same (full n r) = bytes_same (record_bytes n r)
slot_same (other b) = bytes_same b

pub slots_same : (s : List Slot) → same_slots s s ≡ true
unfolding same_slots
slots_same [] = refl
slots_same (x ∷ s) = and_both (slot_same x) (slots_same s)

-- One record more in its slot.
slot_more : (j q : ℕ) (pre : List Rec) (r : Rec) (s : List Slot) → same_slots s (slots_from j pre ++ replicate (suc q) empty) ≡ true
    → same_slots (set s (length pre) (full (j + length pre) r)) (slots_from j (pre ++ r ∷ []) ++ replicate q empty) ≡ true
unfolding same_slots same_slot slots_from
slot_more j q [] r [] e = clash (sym e)
slot_more j q [] r (x ∷ s) e =
    let (a, b) = and_true (same_slot x empty) (same_slots s (replicate q empty)) e in
    subst (λ z. same_bytes (record_bytes z r) (record_bytes j r) && same_slots s (replicate q empty) ≡ true) (sym (add-zero j)) (and_both (bytes_same (record_bytes j r)) b)
slot_more j q (p ∷ pre) r [] e = clash (sym e)
slot_more j q (p ∷ pre) r (x ∷ s) e =
    let (a, b) = and_true (same_slot x (full j p)) (same_slots s (slots_from (suc j) pre ++ replicate (suc q) empty)) e in
    and_both a (subst (λ z. same_slots (set s (length pre) (full z r)) (slots_from (suc j) (pre ++ r ∷ []) ++ replicate q empty) ≡ true) (suc-add j (length pre) ∙ sym (add-suc j (length pre))) (slot_more (suc j) q pre r s b))

-- All of them.
slots_more : (q : ℕ) (rest pre : List Rec) (s : Side) → same_slots s.log (slots_from 1 pre ++ replicate (length rest + q) empty) ≡ true
    → same_slots (store_all (slot_stores (suc (length pre)) (slots_from (suc (length pre)) rest)) s).log (slots_from 1 (pre ++ rest) ++ replicate q empty) ≡ true
unfolding store_all slot_stores slots_from store
slots_more q [] pre s e = subst (λ z. same_slots s.log (slots_from 1 z ++ replicate q empty) ≡ true) (sym (append-nil pre)) (subst (λ z. same_slots s.log (slots_from 1 pre ++ replicate z empty) ≡ true) (zero-add q) e)
slots_more q (r ∷ rest) pre s e =
    let k : suc (length pre) - 1 ≡ length pre = omega arith in
    let one : same_slots (set s.log (length pre) (full (1 + length pre) r)) (slots_from 1 (pre ++ r ∷ []) ++ replicate (length rest + q) empty) ≡ true = slot_more 1 (length rest + q) pre r s.log (subst (λ z. same_slots s.log (slots_from 1 pre ++ replicate z empty) ≡ true) (suc-add (length rest) q) e) in
    let n : 1 + length pre ≡ suc (length pre) = omega arith in
    let t : Side = record { pages = s.pages; lefts = s.lefts; log = set s.log (suc (length pre) - 1) (full (suc (length pre)) r) } in
    let two : same_slots t.log (slots_from 1 (pre ++ r ∷ []) ++ replicate (length rest + q) empty) ≡ true = subst (λ z. same_slots (set s.log z (full (suc (length pre)) r)) (slots_from 1 (pre ++ r ∷ []) ++ replicate (length rest + q) empty) ≡ true) (sym k) (subst (λ z. same_slots (set s.log (length pre) (full z r)) (slots_from 1 (pre ++ r ∷ []) ++ replicate (length rest + q) empty) ≡ true) n one) in
    let l : length (pre ++ r ∷ []) ≡ suc (length pre) = length-append pre (r ∷ []) ∙ omega arith in
    let rec = slots_more q rest (pre ++ r ∷ []) t two in
    subst (λ z. same_slots (store_all (slot_stores (suc (suc (length pre))) (slots_from (suc (suc (length pre))) rest)) t).log (slots_from 1 z ++ replicate q empty) ≡ true) (append_assoc pre (r ∷ []) rest)
    (subst (λ z. same_slots (store_all (slot_stores (suc z) (slots_from (suc z) rest)) t).log (slots_from 1 ((pre ++ r ∷ []) ++ rest) ++ replicate q empty) ≡ true) l rec)

-- ---- the length of the area

same_length : (s t : List Slot) → same_slots s t ≡ true → length s ≡ length t
unfolding same_slots
same_length [] [] e = refl
same_length [] (y ∷ t) e = clash (sym e)
same_length (x ∷ s) [] e = clash (sym e)
same_length (x ∷ s) (y ∷ t) e = ap suc (same_length s t (and_true (same_slot x y) (same_slots s t) e).1)

pub stored_length : (ts : List Store) (s : Side) → length (store_all ts s).log ≡ length s.log
unfolding store_all store
stored_length [] s = refl
stored_length (store_page p x ∷ ts) s = stored_length ts _
stored_length (store_slot n x ∷ ts) s = stored_length ts _ ∙ length-set s.log (slot_of n) x

-- ---- the part of `sound`

-- The stable area and how much of a log it holds.
abbrev pub Stores : Side → ℕ → List Rec → Type 0
Stores stable stored log = (stored ≤ length log) × (same_slots stable.log (log_area (length stable.log) (take stored log)) ≡ true)

pub stores_ok : (a : Areas) (d : Desk) (log : List Rec) → work_log a ≡ log → Stores a.stable d.stored log → stored_ok a d ≡ true
unfolding stored_ok
stores_ok a d log e s =
    subst (λ z. leb d.stored (length z) && same_slots a.stable.log (log_area (length a.stable.log) (take d.stored z)) ≡ true) (sym e) (and_both (le_true d.stored (length log) s.0) s.1)

pub ok_stores : (a : Areas) (d : Desk) → stored_ok a d ≡ true → Stores a.stable d.stored (work_log a)
unfolding stored_ok
ok_stores a d e = let (x, y) = and_true (leb d.stored (length (work_log a))) _ e in (true_le d.stored (length (work_log a)) x, y)

-- Records follow.
pub stores_more : (stable : Side) (stored : ℕ) (log more : List Rec) → Stores stable stored log → Stores stable stored (log ++ more)
stores_more stable stored log more (l, s) =
    let e = length-append log more in
    (omega arith, subst (λ z. same_slots stable.log (log_area (length stable.log) z) ≡ true) (sym (take-append-le stored log more l)) s)

-- Every unstored record is stored.
pub stores_all : (stable : Side) (stored : ℕ) (log : List Rec) → length log ≤ length stable.log → Stores stable stored log → Stores (store_all (log_stores stored log) stable) (length log) log
unfolding log_stores log_area
stores_all stable stored log fits (l, s) =
    let pre = take stored log in
    let rest = drop stored log in
    let p : length pre ≡ stored = length-take-le stored log l in
    let d = length-drop stored log in
    let q = length stable.log - length log in
    let e : length stable.log - length pre ≡ length rest + q = omega arith in
    let s₁ : same_slots stable.log (slots_from 1 pre ++ replicate (length rest + q) empty) ≡ true = subst (λ z. same_slots stable.log (slots_from 1 pre ++ replicate z empty) ≡ true) e s in
    let s₂ = slots_more q rest pre stable s₁ in
    let ts = slot_stores (suc stored) (slots_from (suc stored) rest) in
    let s₃ : same_slots (store_all ts stable).log (slots_from 1 (pre ++ rest) ++ replicate q empty) ≡ true = subst (λ z. same_slots (store_all (slot_stores (suc z) (slots_from (suc z) rest)) stable).log (slots_from 1 (pre ++ rest) ++ replicate q empty) ≡ true) p s₂ in
    let s₄ : same_slots (store_all ts stable).log (slots_from 1 log ++ replicate q empty) ≡ true = subst (λ z. same_slots (store_all ts stable).log (slots_from 1 z ++ replicate q empty) ≡ true) (take-append-drop stored log) s₃ in
    let n = stored_length ts stable in (
      omega arith,
      subst (λ z. same_slots (store_all ts stable).log (log_area (length (store_all ts stable).log) z) ≡ true) (sym (take_all (length log) log (omega arith)))
          (subst (λ z. same_slots (store_all ts stable).log (slots_from 1 log ++ replicate (z - length log) empty) ≡ true) (sym n) s₄),
    )
