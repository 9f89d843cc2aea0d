-- A column of keys, as the library looks through it.
use Rattle.std.specs.Prelude.{ℕ, zero, suc, ◌+◌, ◌<◌, ◌≤◌, ◌≡◌, Bool, true, false, ◌&&◌, ◌||◌, List, [], ◌∷◌, length, get_or, leb, ltb, eqb}
use Rattle.std.proofs.Math.Path.{refl}
use Rattle.std.proofs.Common.{sym, ap, subst, ◌∙◌, add-one, arith}
use Rattle.std.specs.List.{list_any, IsAllAdjacentAnswer}
use Rattle.def_base.specs.Tests.{any, le_true, le_false, true_lt, false_lt}
use Rattle.def_model.specs.Loading.{keys_rise}

-- Whether a key passes a test.
pub any_listed : (test : ℕ → Bool) (ks : List ℕ) → list_any test ks ≡ any test ks
unfolding any
any_listed test [] = refl
any_listed test (k ∷ ks) = ap (λ b. test k || b) (any_listed test ks)

-- The keys from one on, of which the first is `from` at least.
rise_from : (from : ℕ) (ks : List ℕ) → (0 < length ks → from ≤ get_or ks 0 0) → ((i : ℕ) → suc i < length ks → get_or ks i 0 < get_or ks (suc i) 0) → keys_rise from ks ≡ true
unfolding keys_rise
rise_from from [] f h = refl
rise_from from (k ∷ ks) f h = rw (le_true from k (f (omega arith))) (rise_from (suc k) ks (λ l. h 0 (omega arith)) (λ i l. h (suc i) (omega arith)))

both_false : (b : Bool) → b && false ≡ false
both_false true = refl
both_false false = refl

-- Two neighbours that do not rise.
falls_from : (from : ℕ) (ks : List ℕ) (i : ℕ) → suc i < length ks → get_or ks (suc i) 0 ≤ get_or ks i 0 → keys_rise from ks ≡ false
unfolding keys_rise
falls_from from [] i l h = absurd (omega (arith, l))
falls_from from (k ∷ ks) (suc i) l h = rw (falls_from (suc k) ks i (omega (arith, l)) h) (both_false (leb from k))
falls_from from (k ∷ []) zero l h = absurd (omega (arith, l))
falls_from from (k ∷ m ∷ ks) zero l h = rw (le_false (suc k) m (omega (arith, h))) (both_false (leb from k))

-- A column whose neighbours were compared.
pub rise_is : (ks : List ℕ) (r : Bool) → IsAllAdjacentAnswer (λ x y b. b ≡ ltb x y) ks r → r ≡ keys_rise 0 ks
rise_is ks true h =
    sym (rise_from 0 ks (λ l. omega arith) (λ i l. true_lt _ _ (subst (λ n. ltb (get_or ks i 0) (get_or ks n 0) ≡ true) (add-one i) (sym (h i 0 (omega (arith, l)))))))
rise_is ks false h =
    let (i, l, f) = h in
    sym (falls_from 0 ks i (omega (arith, l)) (false_lt _ _ (subst (λ n. ltb (get_or ks i 0) (get_or ks n 0) ≡ false) (add-one i) (sym (f 0)))))
