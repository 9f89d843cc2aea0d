-- Tests on numbers as a program makes them: zero or not, and a number in a run of a match's arms.
use Rattle.std.specs.Prelude.{◌≡◌, ℕ, zero, suc, ◌+◌, ◌<◌, ◌≤◌, true, false, ltb}
use Rattle.std.proofs.Common.{subst, ⊎_elim, eq-or-lt_of_le, arith}
use Rattle.def_base.specs.Tests.{lt_true, lt_false}

pub zero_ltb : (p : ℕ) → p ≡ 0 → ltb 0 p ≡ false
zero_ltb p e = lt_false 0 p (omega arith)

pub pos_ltb : (p : ℕ) → (p ≡ 0 → ⊥) → ltb 0 p ≡ true
pos_ltb p n = lt_true 0 p (omega arith)

-- What holds of each number of a run of n from a on holds of a number in it.
unfoldable pub Run : (ℕ → Type 0) → ℕ → ℕ → Type 0
Run P zero a = Unit {0}
Run P (suc n) a = P a × Run P n (suc a)

pub in_run : (P : ℕ → Type 0) (n a k : ℕ) → Run P n a → a ≤ k → k < a + n → P k
unfolding Run
in_run P zero a k r h l = absurd (omega arith)
in_run P (suc n) a k r h l =
    ⊎_elim (λ (e : a ≡ k). subst P e r.0) (λ (q : a < k). in_run P n (suc a) k r.1 q (omega arith)) (eq-or-lt_of_le h)

-- A number that is not the next one is past it.
pub past : (a k : ℕ) → a ≤ k → (k ≡ a → ⊥) → a + 1 ≤ k
past a k h n = omega arith
