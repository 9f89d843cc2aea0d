-- A number in decimal.
use Rattle.std.specs.Prelude.{◌≡◌, ℕ, zero, suc, ◌+◌, ◌-◌, ◌*◌, ◌/◌, ◌%◌, ◌^◌, ◌≤◌, ◌<◌, true, false, List, [], ◌∷◌, ◌++◌, ltb, leb}
use Rattle.std.proofs.Common.{ap, ap₂, sym, subst, ◌∙◌}
use native.Mathlib.Omega.{arith, pow_step}
use Rattle.std.proofs.Math.Nat.{one-le-pow}
use Rattle.io.specs.Digits.{hex_digit_ascii, last_digits, IsDigitCount}
use Rattle.def_base.specs.Tests.{Case, yes!, no!, case, lt_true, lt_false, true_le, false_le}

-- The digits of n, the highest first, with no zeros before them; of a number with more digits than `most`, the last of them.
unfoldable pub digits_of : ℕ → ℕ → List ℕ
digits_of zero n = []
digits_of (suc most) n = elim (ltb n 10) [ true ↦ (48 + n) ∷ [] | false ↦ digits_of most (n / 10) ++ ((48 + n % 10) ∷ []) ]

-- A NUMBER IN DECIMAL, in ASCII. It has no more digits than n + 1.
unfoldable pub decimal : ℕ → List ℕ
decimal n = digits_of (n + 1) n

-- ---- for the code: the fewest digits that hold a number are these

digits_one : (most n : ℕ) → n < 10 → digits_of (suc most) n ≡ (48 + n) ∷ []
unfolding digits_of
digits_one most n h = rw (digits_of, lt_true n 10 h)

digits_more : (most n : ℕ) → ltb n 10 ≡ false → digits_of (suc most) n ≡ digits_of most (n / 10) ++ ((48 + n % 10) ∷ [])
unfolding digits_of
digits_more most n e = rw (digits_of, e)

digit_glyph : (d : ℕ) → d < 10 → hex_digit_ascii d ≡ 48 + d
digit_glyph d h = rw (lt_true d 10 h)

least_of : (k n : ℕ) → 0 < k → IsDigitCount 10 1 n (suc k) → 10 ^ k ≤ n
least_of k n h w =
    let e : suc k - 1 ≡ k = omega arith in
    subst (λ (x : ℕ). 10 ^ x ≤ n) e (w.2 (omega arith))

-- A further digit only where the number before it is not zero.
fewest_before : (k n : ℕ) → 10 ≤ n → IsDigitCount 10 1 n (suc (suc k)) → IsDigitCount 10 1 (n / 10) (suc k)
fewest_before k n h w =
    let e : 10 ^ suc (suc k) ≡ 10 * 10 ^ suc k = pow_step 10 (suc k) in
    let f : 10 ^ suc k ≡ 10 * 10 ^ k = pow_step 10 k in
    let low : 10 ^ suc k ≤ n = least_of (suc k) n (omega arith) w in
    let g : suc k - 1 ≡ k = omega arith in
    let below : 10 ^ (suc k - 1) ≤ n / 10 = subst (λ (x : ℕ). 10 ^ x ≤ n / 10) (sym g) (omega (arith, low, f)) in
    (omega arith, omega (arith, w.1, e), λ t. below)

pub fewest_digits : (k most n : ℕ) → n < most → IsDigitCount 10 1 n k → last_digits 10 k n ≡ digits_of most n
fewest_digits zero most n h w = absurd (omega (arith, w.0))
fewest_digits (suc k) zero n h w = absurd (omega (arith, h))
fewest_digits (suc zero) (suc most) n h w =
    let s : n < 10 = omega (arith, w.1) in
    let e : n % 10 ≡ n = omega arith in
    ap (λ (x : ℕ). x ∷ []) (ap hex_digit_ascii e ∙ digit_glyph n s) ∙ sym (digits_one most n s)
fewest_digits (suc (suc k)) (suc most) n h w =
    let f : 10 ^ suc k ≡ 10 * 10 ^ k = pow_step 10 k in
    let low : 10 ^ suc k ≤ n = least_of (suc k) n (omega arith) w in
    let p : 1 ≤ 10 ^ k = one-le-pow k 10 (omega arith) in
    let b : 10 ≤ n = omega (arith, low, f, p) in
    ap₂ (λ (x : List ℕ) (y : ℕ). x ++ (y ∷ [])) (fewest_digits (suc k) most (n / 10) (omega arith) (fewest_before k n b w)) (digit_glyph (n % 10) (omega arith))
    ∙ sym (digits_more most n (lt_false n 10 b))

pub decimal_is : (n k : ℕ) → IsDigitCount 10 1 n k → last_digits 10 k n ≡ decimal n
unfolding decimal
decimal_is n k w = fewest_digits k (n + 1) n (omega arith) w

-- A number of 32 bits has at most ten digits.
ten_places : (k : ℕ) → 10000000000 ≤ 10 ^ (k + 10)
ten_places zero = omega arith
ten_places (suc k) =
    let e : suc k + 10 ≡ suc (k + 10) = omega arith in
    let f : 10 ^ suc (k + 10) ≡ 10 * 10 ^ (k + 10) = pow_step 10 (k + 10) in
    subst (λ (i : ℕ). 10000000000 ≤ 10 ^ i) (sym e) (omega (arith, f, ten_places k))

pub fewest_ten : (n k : ℕ) → n < 4294967296 → IsDigitCount 10 1 n k → k ≤ 10
fewest_ten n k h w = go (case (leb k 10))
  where
    go : Case (leb k 10) → k ≤ 10
    go (yes! e) = true_le k 10 e
    go (no! e) =
        let l : 10 < k = false_le k 10 e in
        let f : k - 1 ≡ k - 11 + 10 = omega arith in
        let g : 10 ^ (k - 11 + 10) ≤ n = subst (λ (i : ℕ). 10 ^ i ≤ n) f (w.2 (omega (arith, l))) in
        absurd (omega (arith, g, ten_places (k - 11), h))
