-- A word of the map and its 32 marks: how many of the first k are set, and the last of them that is not.
use Rattle.std.specs.Prelude.{◌≡◌, refl, ℕ, zero, suc, ◌+◌, ◌-◌, ◌*◌, ◌/◌, ◌%◌, ◌^◌, ◌<◌, ◌≤◌, eqb, Bool, true, false, List, [], ◌∷◌, ◌++◌, get_or, length, take}
use Rattle.std.proofs.Common.{ap, ap₂, sym, ◌∙◌, subst, lt_of_le_of_lt, add-zero, add-suc, zero-add, mod-lt, pow-suc, div-one, arith, lit<, take-suc}
use Rattle.std.proofs.Math.Nat.{div-div-eq-div-mul, div-eq_of_lt, pow-succ'}
use Rattle.std.proofs.lemmas.Nat.{shr_le, ones-le}
use Rattle.std.specs.Int.Count.{count_trailing_zeros, under, ones_step, ones_in}
use Rattle.std.specs.Int.Count as digits
use Rattle.def_base.specs.Tests.{pick}
use Rattle.def_model.specs.TreeRules.{ones}
use Rattle.def_model.specs.Update.{highest}

-- ---- marks that are set

ones_none : ones [] ≡ 0
unfolding ones
ones_none = refl

pub ones_append : (l m : List Bool) → ones (l ++ m) ≡ ones l + ones m
unfolding ones
ones_append [] m = sym (zero-add (ones m))
ones_append (true ∷ l) m = ap suc (ones_append l m) ∙ omega arith
ones_append (false ∷ l) m = ones_append l m

one_mark : (d : ℕ) → d < 2 → ones (eqb d 1 ∷ []) ≡ d
unfolding ones
one_mark zero h = refl
one_mark (suc zero) h = refl
one_mark (suc (suc d)) h = absurd (omega arith)

ones_zero : digits.ones 0 ≡ 0
unfolding digits.ones ones_in
ones_zero = refl

-- Halving takes off the last digit.
half : (x j : ℕ) → x / 2 ^ j / 2 ≡ x / 2 ^ suc j
half x j = div-div-eq-div-mul x (2 ^ j) 2 ∙ ap (λ (m : ℕ). x / m) (sym (pow-suc 2 j))

-- Marks l are the digits of x, the most significant of n first.
abbrev pub Digits : ℕ → ℕ → List Bool → Type 0
Digits n x l = (k j : ℕ) → k + suc j ≡ n → get_or l k false ≡ eqb (x / 2 ^ j % 2) 1

-- The first k marks are as many as the ones among the digits that stand for them.
pub ones_word : (n x : ℕ) (l : List Bool) → x < 2 ^ n → n ≤ length l → Digits n x l → (k j : ℕ) → k + j ≡ n → ones (take k l) ≡ digits.ones (x / 2 ^ j)
ones_word n x l h s d zero j e =
    let q : j ≡ n = omega arith in
    ones_none ∙ sym (ap digits.ones (ap (λ (m : ℕ). x / 2 ^ m) q ∙ div-eq_of_lt h) ∙ ones_zero)
ones_word n x l h s d (suc k) j e =
    ap ones (take-suc l k false (omega arith))
    ∙ ones_append (take k l) (get_or l k false ∷ [])
    ∙ ap₂ (λ (a b : ℕ). a + b) (ones_word n x l h s d k (suc j) (omega arith))
    (ap (λ (b : Bool). ones (b ∷ [])) (d k j (omega arith)) ∙ one_mark (x / 2 ^ j % 2) (mod-lt (x / 2 ^ j) (lit< tt)))
    ∙ sym (ones_step (x / 2 ^ j) ∙ ap (λ (m : ℕ). x / 2 ^ j % 2 + digits.ones m) (half x j) ∙ omega arith)

-- ---- the last mark that is not set

-- The digits that stand for the first k of 32 marks, complemented: a one for each mark that is not set.
abbrev pub clear : ℕ → ℕ → ℕ
clear j x = (4294967295 - x) / 2 ^ j

comp_half : (q x : ℕ) → x < q * 2 → (q * 2 - 1 - x) / 2 ≡ q - 1 - x / 2
comp_half q x h = omega arith

comp_odd : (q x : ℕ) → x < q * 2 → (q * 2 - 1 - x) % 2 + x % 2 ≡ 1
comp_odd q x h = omega arith

-- A digit of the complement is the other one.
digit_not : (j n x : ℕ) → j < n → x < 2 ^ n → (2 ^ n - 1 - x) / 2 ^ j % 2 + x / 2 ^ j % 2 ≡ 1
digit_not j zero x h l = absurd (omega arith)
digit_not zero (suc n) x h l =
    let l' : x < 2 ^ n * 2 = subst (λ (m : ℕ). x < m) (pow-suc 2 n) l in
    rw (div-one (2 ^ suc n - 1 - x), div-one x, pow-suc 2 n) (comp_odd (2 ^ n) x l')
digit_not (suc j) (suc n) x h l =
    let l' : x < 2 ^ n * 2 = subst (λ (m : ℕ). x < m) (pow-suc 2 n) l in
    let down : (y : ℕ) → y / 2 ^ suc j ≡ y / 2 / 2 ^ j = λ y. ap (λ (m : ℕ). y / m) (pow-succ' 2 j) ∙ sym (div-div-eq-div-mul y 2 (2 ^ j)) in
    rw (down (2 ^ suc n - 1 - x), down x, pow-suc 2 n, comp_half (2 ^ n) x l') (digit_not j n (x / 2) (omega arith) (omega arith))

highest_step : (n : ℕ) (m : List Bool) → highest (suc n) m ≡ pick (get_or m n true) (highest n m) n
unfolding highest
highest_step n m = refl

trailing_step : (v c : ℕ) → count_trailing_zeros (suc v) c ≡ under (c % 2) (count_trailing_zeros v (c / 2))
unfolding count_trailing_zeros
trailing_step v c = refl

-- What is to be shown of the k marks from p on: none is clear, or the last clear one is where the zeros at the digits' end say.
abbrev pub LastClear : List Bool → ℕ → ℕ → ℕ → ℕ → Type 0
LastClear m p k v c = (c ≡ 0 → highest (p + k) m ≡ highest p m) × ((c ≡ 0 → ⊥) → highest (p + k) m + 1 + count_trailing_zeros v c ≡ p + k)

zero_odd : (c : ℕ) → c ≡ 0 → c % 2 ≡ 1 → ⊥
zero_odd c z o = omega arith

module _ (m : List Bool) (p x : ℕ) (small : x < 2 ^ 32) (d : (k j : ℕ) → k + suc j ≡ 32 → get_or m (p + k) true ≡ eqb (x / 2 ^ j % 2) 1) where
  step : (k j v b : ℕ) → k + suc j ≡ 32 → b ≡ x / 2 ^ j % 2 → b < 2 → LastClear m p k v (clear (suc j) x) → LastClear m p (suc k) (suc v) (clear j x)
  step k j v zero e eb hb ih =
      let c : ℕ = clear j x in
      let odd : c % 2 ≡ 1 = omega (arith, digit_not j 32 x (omega arith) small) in
      let mark : get_or m (p + k) true ≡ false = d k j e ∙ ap (λ (n : ℕ). eqb n 1) (sym eb) in
      let here : highest (p + suc k) m ≡ p + k = ap (λ (n : ℕ). highest n m) (add-suc p k) ∙ highest_step (p + k) m ∙ rw mark in
      let none : count_trailing_zeros (suc v) c ≡ 0 = trailing_step v c ∙ rw odd in
      (λ z. absurd (zero_odd c z odd), λ n. omega arith)
  step k j v (suc zero) e eb hb ih =
      let c : ℕ = clear j x in
      let c' : ℕ = clear (suc j) x in
      let even : c % 2 ≡ 0 = omega (arith, digit_not j 32 x (omega arith) small) in
      let halved : c / 2 ≡ c' = half (4294967295 - x) j in
      let mark : get_or m (p + k) true ≡ true = d k j e ∙ ap (λ (n : ℕ). eqb n 1) (sym eb) in
      let on : highest (p + suc k) m ≡ highest (p + k) m = ap (λ (n : ℕ). highest n m) (add-suc p k) ∙ highest_step (p + k) m ∙ rw mark in
      let more : count_trailing_zeros (suc v) c ≡ suc (count_trailing_zeros v c') = trailing_step v c ∙ rw (even, halved) in
      (λ z. on ∙ ih.0 (omega arith), λ n. let f = ih.1 (λ z. n (omega arith)) in omega arith)
  step k j v (suc (suc b)) e eb hb ih = absurd (omega arith)

  pub last_clear : (k j v : ℕ) → k + j ≡ 32 → k ≤ v → LastClear m p k v (clear j x)
  last_clear zero j v e h =
      let q : j ≡ 32 = omega arith in
      let z : clear j x ≡ 0 = ap (λ (n : ℕ). clear n x) q ∙ div-eq_of_lt (omega arith) in
      (λ y. ap (λ (n : ℕ). highest n m) (add-zero p), λ n. absurd (n z))
  last_clear (suc k) j zero e h = absurd (omega arith)
  last_clear (suc k) j (suc v) e h = step k j v (x / 2 ^ j % 2) (omega arith) refl (mod-lt (x / 2 ^ j) (lit< tt)) (last_clear k (suc j) v (omega arith) (omega arith))

-- Counts of digits, as the program takes them.
pub no_digits : (w k : ℕ) → w < 2 ^ 32 → k ≡ 0 → 0 ≡ digits.ones (w / 2 ^ (32 - k))
no_digits w k h e = sym (ap (λ (j : ℕ). digits.ones (w / 2 ^ (32 - j))) e ∙ ap digits.ones (div-eq_of_lt h) ∙ ones_zero)

pub ones_bound : (w k : ℕ) → w < 2 ^ 32 → digits.ones (w / 2 ^ (32 - k)) ≤ 32
ones_bound w k h = ones-le 32 (w / 2 ^ (32 - k)) (lt_of_le_of_lt (shr_le w (32 - k)) h)
