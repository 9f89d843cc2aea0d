-- SLOTS STORED ONE AFTER ANOTHER: what the log area has then. And what it has where refusal 4 finds nothing: its records, each in its slot, and empty slots.
use Rattle.std.specs.Prelude.{ℕ, suc, ◌-◌, ◌≡◌, refl, true, ◌&&◌, List, [], ◌∷◌, ◌++◌, length, set, replicate, eqb}
use Rattle.std.proofs.Common.{sym, ap, ◌∙◌, subst, append_assoc, arith, length-append}
use Rattle.std.proofs.Math.Seq.{set-append_seam}
use Rattle.def_base.specs.Tests.{clash, and_true, true_eq, every}
use Rattle.def_layout.specs.Rows.{row, names_pages}
use Rattle.def_layout.specs.RecordBytes.{Slot, empty, full, other}
use Rattle.def_model.specs.Areas.{Side, store, store_slot, store_all, slot_stores}
use Rattle.def_model.specs.Log.{is_empty, records_of, slots_from, slots_ok}

-- They take the places of as many.
pub slots_written : (xs pre old post : List Slot) (s : Side) → s.log ≡ pre ++ (old ++ post) → length old ≡ length xs → (store_all (slot_stores (suc (length pre)) xs) s).log ≡ pre ++ (xs ++ post)
unfolding store_all slot_stores store
slots_written [] pre [] post s e l = e
slots_written [] pre (o ∷ old) post s e l = absurd (omega arith)
slots_written (x ∷ xs) pre [] post s e l = absurd (omega arith)
slots_written (x ∷ xs) pre (o ∷ old) post s e l =
    let k : suc (length pre) - 1 ≡ length pre = omega arith in
    let q : set s.log (suc (length pre) - 1) x ≡ (pre ++ x ∷ []) ++ (old ++ post) = (λ i. set (e i) (k i) x) ∙ set-append_seam pre o (old ++ post) x ∙ sym (append_assoc pre (x ∷ []) (old ++ post)) in
    let n : length (pre ++ x ∷ []) ≡ suc (length pre) = length-append pre (x ∷ []) ∙ omega arith in
    let t : Side = record { pages = s.pages; lefts = s.lefts; log = set s.log (suc (length pre) - 1) x } in
    subst (λ z. (store_all (slot_stores (suc z) xs) t).log ≡ (pre ++ x ∷ []) ++ (xs ++ post)) n (slots_written xs (pre ++ x ∷ []) old post t q (omega arith)) ∙ append_assoc pre (x ∷ []) (xs ++ post)

-- They leave the pages.
pub slots_leave : (k : ℕ) (xs : List Slot) (s : Side) → (store_all (slot_stores k xs) s).pages ≡ s.pages
unfolding store_all slot_stores store
slots_leave k [] s = refl
slots_leave k (x ∷ xs) s = slots_leave (suc k) xs (store (store_slot k x) s)

-- ---- a log that keeps refusal 4

all_empty : (s : List Slot) → every is_empty s ≡ true → s ≡ replicate (length s) empty
unfolding every is_empty
all_empty [] e = refl
all_empty (empty ∷ s) e = ap (empty ∷◌) (all_empty s e)
all_empty (full n r ∷ s) e = clash (sym e)
all_empty (other b ∷ s) e = clash (sym e)

pub slots_exact : (n k : ℕ) (s : List Slot) → slots_ok n k s ≡ true → s ≡ slots_from k (records_of s) ++ replicate (length s - length (records_of s)) empty
unfolding slots_ok records_of slots_from every is_empty
slots_exact n k [] e = refl
slots_exact n k (empty ∷ s) e = all_empty (empty ∷ s) e ∙ ap (λ z. replicate z empty) (let q : suc (length s) ≡ suc (length s) - 0 = omega arith in q)
slots_exact n k (full j r ∷ s) e =
    let (a, e₁) = and_true (eqb j k) (row k r && (names_pages n r && slots_ok n (suc k) s)) e in
    let (b, e₂) = and_true (row k r) (names_pages n r && slots_ok n (suc k) s) e₁ in
    let (c, e₃) = and_true (names_pages n r) (slots_ok n (suc k) s) e₂ in
    let q : length s - length (records_of s) ≡ suc (length s) - suc (length (records_of s)) = omega arith in
    (λ i. full (true_eq j k a i) r ∷ slots_exact n (suc k) s e₃ i) ∙ ap (λ z. full k r ∷ (slots_from (suc k) (records_of s) ++ replicate z empty)) q
slots_exact n k (other b ∷ s) e = clash (sym e)
