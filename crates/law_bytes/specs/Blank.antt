-- Whether entries are zero, as unused entries have to be.
use Rattle.std.specs.Prelude.{◌≡◌, refl, ℕ, zero, suc, ◌+◌, ◌-◌, ◌<◌, ◌≤◌, Bool, true, false, ◌&&◌, List, [], ◌∷◌, drop, length, eqb}
use Rattle.std.proofs.Common.{ap, ap₂, sym, ◌∙◌, add-one, arith, length-drop, drop_of_length-le, drop-cons, get_or-drop}
use Rattle.def_base.specs.Tests.{and_true, and_both, true_eq, eq_true, neq_false}
use Rattle.def_layout.specs.declared.Entry.{Entry}
use Rattle.def_layout.specs.Entries.{entry, entry_at, no_entry}

unfoldable pub blank : List Entry → Bool
blank [] = true
blank (e ∷ es) = eqb e.key 0 && (eqb e.val 0 && blank es)

pub blank_all : (es : List Entry) → blank es ≡ true → (i : ℕ) → entry_at es i ≡ no_entry
unfolding blank
blank_all [] b i = refl
blank_all (e ∷ es) b zero =
    let p = and_true (eqb e.key 0) (eqb e.val 0 && blank es) b in
    let q = and_true (eqb e.val 0) (blank es) p.1 in
    ap₂ (λ (x y : ℕ). entry x y) (true_eq e.key 0 p.0) (true_eq e.val 0 q.0)
blank_all (e ∷ es) b (suc i) =
    let p = and_true (eqb e.key 0) (eqb e.val 0 && blank es) b in
    let q = and_true (eqb e.val 0) (blank es) p.1 in
    blank_all es q.1 i

all_blank : (es : List Entry) → ((i : ℕ) → i < length es → entry_at es i ≡ no_entry) → blank es ≡ true
unfolding blank
all_blank [] h = refl
all_blank (e ∷ es) h =
    let z : e ≡ no_entry = h 0 (omega arith) in
    and_both (eq_true e.key 0 (ap (λ (x : Entry). x.key) z))
    (and_both (eq_true e.val 0 (ap (λ (x : Entry). x.val) z)) (all_blank es (λ i l. h (suc i) (omega arith))))

-- The same of the entries from n on.
pub blank_from : (n : ℕ) (es : List Entry) → blank (drop n es) ≡ true → (i : ℕ) → n ≤ i → entry_at es i ≡ no_entry
blank_from n es b i h =
    let e : n + (i - n) ≡ i = omega arith in
    sym (get_or-drop n es (i - n) no_entry ∙ ap (λ (k : ℕ). entry_at es k) e) ∙ blank_all (drop n es) b (i - n)

pub from_blank : (n : ℕ) (es : List Entry) → ((i : ℕ) → n ≤ i → i < length es → entry_at es i ≡ no_entry) → blank (drop n es) ≡ true
from_blank n es h =
    all_blank (drop n es) (λ i l. get_or-drop n es i no_entry ∙ h (n + i) (omega arith) (omega (arith, length-drop n es)))

-- A turn of the test.
pub blank_step : (es : List Entry) (i : ℕ) → i < length es → (entry_at es i).key ≡ 0 → (entry_at es i).val ≡ 0 → blank (drop i es) ≡ blank (drop (i + 1) es)
unfolding blank
blank_step es i h k v = rw (drop-cons es i no_entry, blank, eq_true (entry_at es i).key 0 k, eq_true (entry_at es i).val 0 v, add-one i)

pub blank_key : (es : List Entry) (i : ℕ) → i < length es → ((entry_at es i).key ≡ 0 → ⊥) → blank (drop i es) ≡ false
unfolding blank
blank_key es i h n = rw (drop-cons es i no_entry, blank, neq_false n)

pub blank_val : (es : List Entry) (i : ℕ) → i < length es → (entry_at es i).key ≡ 0 → ((entry_at es i).val ≡ 0 → ⊥) → blank (drop i es) ≡ false
unfolding blank
blank_val es i h k n = rw (drop-cons es i no_entry, blank, eq_true (entry_at es i).key 0 k, neq_false n)

pub blank_none : (es : List Entry) (i : ℕ) → length es ≤ i → blank (drop i es) ≡ true
unfolding blank
blank_none es i h = rw (drop_of_length-le es {i = i} h)
