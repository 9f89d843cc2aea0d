-- The map's bits: a word holds 32 marks, most significant first; words and marks give each other back.
use Rattle.std.specs.Prelude.{◌≡◌, refl, ℕ, zero, suc, ◌+◌, ◌-◌, ◌*◌, ◌/◌, ◌%◌, ◌^◌, ◌<◌, eqb, Bool, true, false, List, [], ◌∷◌, get_or, drop}
use Rattle.std.proofs.Common.{ap, sym, ◌∙◌, subst, add-mul, mul_comm, mul_assoc, pow-suc, add_assoc, zero-add, mod-lt, add_comm, add-one, arith, lit<, get_or-drop}
use Rattle.std.proofs.Math.Nat.{mod-one}
use Rattle.std.proofs.Math.Arith.{digits_lt, digits_div}
use Rattle.std.proofs.lemmas.Nat.{mod-pow-add}
use Rattle.def_base.specs.Tests.{pick}
use Rattle.def_layout.specs.Numbers.{tab}
use Rattle.def_layout.specs.Pages.{map_bits}
use Rattle.def_layout.specs.PageBytes.{bits, marks_word}
use Rattle.law_bytes.specs.Tables.{getD_tab}

bits_none : (w : ℕ) (m : List Bool) → bits 0 w m ≡ w
unfolding bits
bits_none w m = refl

-- The first mark, and those after it: none stands for a mark that is not set.
bits_head : (n w : ℕ) (m : List Bool) → bits (suc n) w m ≡ bits n (2 * w + pick (get_or m 0 false) 1 0) (drop 1 m)
unfolding bits
bits_head n w [] = let e : 2 * w ≡ 2 * w + 0 = omega arith in ap (λ (k : ℕ). bits n k []) e
bits_head n w (b ∷ m) = refl

double : (w b q : ℕ) → (2 * w + b) * q ≡ w * (q * 2) + b * q
double w b q =
    add-mul (2 * w) b q
    ∙ ap (λ (k : ℕ). k + b * q) (ap (λ (k : ℕ). k * q) (mul_comm 2 w) ∙ mul_assoc w 2 q ∙ ap (λ (k : ℕ). w * k) (mul_comm 2 q))

-- What stands before the marks is shifted by as many digits as there are marks.
bits_high : (n w : ℕ) (m : List Bool) → bits n w m ≡ w * 2 ^ n + bits n 0 m
bits_high zero w m = rw (bits_none w m, bits_none 0 m) (omega arith)
bits_high (suc n) w m =
    let b : ℕ = pick (get_or m 0 false) 1 0 in
    let z : 2 * 0 + b ≡ b = omega arith in
    bits_head n w m
    ∙ bits_high n (2 * w + b) (drop 1 m)
    ∙ ap (λ (k : ℕ). k + bits n 0 (drop 1 m)) (double w b (2 ^ n) ∙ ap (λ (k : ℕ). w * k + b * 2 ^ n) (sym (pow-suc 2 n)))
    ∙ add_assoc (w * 2 ^ suc n) (b * 2 ^ n) (bits n 0 (drop 1 m))
    ∙ ap (λ (k : ℕ). w * 2 ^ suc n + k) (sym (bits_head n 0 m ∙ ap (λ (k : ℕ). bits n k (drop 1 m)) z ∙ bits_high n b (drop 1 m)))

one_digit : (b : Bool) → pick b 1 0 < 2
one_digit true = lit< tt
one_digit false = lit< tt

bits_lt : (n : ℕ) (m : List Bool) → bits n 0 m < 2 ^ n
bits_lt zero m = rw (bits_none 0 m) (lit< tt)
bits_lt (suc n) m =
    let b : ℕ = pick (get_or m 0 false) 1 0 in
    let z : 2 * 0 + b ≡ b = omega arith in
    let e : bits (suc n) 0 m ≡ b * 2 ^ n + bits n 0 (drop 1 m) = bits_head n 0 m ∙ ap (λ (k : ℕ). bits n k (drop 1 m)) z ∙ bits_high n b (drop 1 m) in
    rw e (subst (λ (k : ℕ). b * 2 ^ n + bits n 0 (drop 1 m) < k) (mul_comm 2 (2 ^ n) ∙ sym (pow-suc 2 n)) (digits_lt (one_digit (get_or m 0 false)) (bits_lt n (drop 1 m))))

-- What the marks say is read out of the word again.
bits_at : (n k j w : ℕ) (m : List Bool) → k + suc j ≡ n → bits n w m / 2 ^ j % 2 ≡ pick (get_or m k false) 1 0
bits_at zero k j w m e = absurd (omega arith)
bits_at (suc n) zero j w m e =
    let b : ℕ = pick (get_or m 0 false) 1 0 in
    let q : j ≡ n = omega arith in
    let d : bits (suc n) w m / 2 ^ n ≡ 2 * w + b = ap (λ (k : ℕ). k / 2 ^ n) (bits_head n w m ∙ bits_high n (2 * w + b) (drop 1 m)) ∙ digits_div (2 * w + b) (bits_lt n (drop 1 m)) in
    let o : (2 * w + b) % 2 ≡ b = omega (arith, one_digit (get_or m 0 false)) in
    rw (q, d) o
bits_at (suc n) (suc k) j w m e =
    ap (λ (x : ℕ). x / 2 ^ j % 2) (bits_head n w m)
    ∙ bits_at n k j (2 * w + pick (get_or m 0 false) 1 0) (drop 1 m) (omega arith)
    ∙ ap (λ (b : Bool). pick b 1 0) (get_or-drop 1 m k false ∙ ap (λ (i : ℕ). get_or m i false) (add_comm 1 k ∙ add-one k))

digit_pick : (d : ℕ) → d < 2 → pick (eqb d 1) 1 0 ≡ d
digit_pick zero h = refl
digit_pick (suc zero) h = refl
digit_pick (suc (suc d)) h = absurd (omega arith)

pick_digit : (b : Bool) → eqb (pick b 1 0) 1 ≡ b
pick_digit true = refl
pick_digit false = refl

-- Marks that are the digits of x give x back.
bits_word : (n x : ℕ) (m : List Bool) → ((k j : ℕ) → k + suc j ≡ n → get_or m k false ≡ eqb (x / 2 ^ j % 2) 1) → bits n 0 m ≡ x % 2 ^ n
bits_word zero x m h = bits_none 0 m ∙ sym (mod-one x)
bits_word (suc n) x m h =
    let b : ℕ = pick (get_or m 0 false) 1 0 in
    let z : 2 * 0 + b ≡ b = omega arith in
    let e : bits (suc n) 0 m ≡ b * 2 ^ n + bits n 0 (drop 1 m) = bits_head n 0 m ∙ ap (λ (k : ℕ). bits n k (drop 1 m)) z ∙ bits_high n b (drop 1 m) in
    let s : 1 + n ≡ suc n = add_comm 1 n ∙ add-one n in
    e
    ∙ ap (λ (k : ℕ). k * 2 ^ n + bits n 0 (drop 1 m)) (ap (λ (t : Bool). pick t 1 0) (h 0 n (zero-add (suc n))) ∙ digit_pick (x / 2 ^ n % 2) (mod-lt (x / 2 ^ n) (lit< tt)))
    ∙ ap (λ (k : ℕ). x / 2 ^ n % 2 * 2 ^ n + k)
    (bits_word n x (drop 1 m) (λ k j q. get_or-drop 1 m k false ∙ ap (λ (i : ℕ). get_or m i false) (add_comm 1 k ∙ add-one k) ∙ h (suc k) j (omega arith)))
    ∙ sym (mod-pow-add x 1 n)
    ∙ ap (λ (k : ℕ). x % 2 ^ k) s

-- Mark p of words of 32.
abbrev pub word_mark : (ℕ → ℕ) → ℕ → Bool
word_mark w p = eqb (w (p / 32) / 2 ^ (31 - p % 32) % 2) 1

pub word_of_marks : (w : ℕ → ℕ) (j : ℕ) → j < 28 → marks_word (tab map_bits (word_mark w)) j ≡ w j % 2 ^ 32
unfolding marks_word
word_of_marks w j h =
    bits_word 32 (w j) (drop (32 * j) (tab map_bits (word_mark w)))
    (λ k i e. get_or-drop (32 * j) (tab map_bits (word_mark w)) k false ∙ getD_tab map_bits (32 * j + k) (word_mark w) false (omega arith) ∙ digit k i e)
  where
    digit : (k i : ℕ) → k + suc i ≡ 32 → word_mark w (32 * j + k) ≡ eqb (w j / 2 ^ i % 2) 1
    digit k i e =
        let q : (32 * j + k) / 32 ≡ j = omega arith in
        let r : 31 - (32 * j + k) % 32 ≡ i = omega arith in
        rw (q, r)

pub mark_of_word : (m : List Bool) (p : ℕ) → word_mark (marks_word m) p ≡ get_or m p false
unfolding marks_word
mark_of_word m p =
    let e : 32 * (p / 32) + p % 32 ≡ p = omega arith in
    ap (λ (k : ℕ). eqb k 1) (bits_at 32 (p % 32) (31 - p % 32) 0 (drop (32 * (p / 32)) m) (omega arith))
    ∙ pick_digit (get_or (drop (32 * (p / 32)) m) (p % 32) false)
    ∙ get_or-drop (32 * (p / 32)) m (p % 32) false
    ∙ ap (λ (k : ℕ). get_or m k false) e

pub marks_word_lt : (m : List Bool) (j : ℕ) → marks_word m j < 2 ^ 32
unfolding marks_word
marks_word_lt m j = bits_lt 32 (drop (32 * j) m)
