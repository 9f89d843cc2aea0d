-- A mark that is set or cleared: one digit of one word.
use Rattle.std.specs.Prelude.{◌≡◌, refl, ℕ, suc, ◌+◌, ◌-◌, ◌*◌, ◌/◌, ◌%◌, ◌^◌, ◌<◌, ◌≤◌, Bool, true, List, get_or, length, set}
use Rattle.std.proofs.Math.Path.{ap, sym}
use Rattle.std.proofs.Common.{ap₂, ◌∙◌, subst, mod-lt, pow-suc, add-zero, add-mul, one-mul, mul_assoc, mod-eq_of_lt, arith, lit<, pow_pos, pow-add, shr-shr, shr_lt, length-set, get_or-set_other}
use Rattle.std.proofs.Math.Nat.{div-div-eq-div-mul, pow-succ'}
use Rattle.std.proofs.Math.Decide.{dec_lt}
use Rattle.std.proofs.Math.Dec.{eqb}
use Rattle.std.proofs.Math.Arith.{digits_lt}
use Rattle.std.proofs.Math.Pow.{split, high, low, field, mod-mod-pow, pow-lt}
use Rattle.std.proofs.Math.Bool.{false}
use Rattle.std.proofs.Math.Seq.{get_or-set_same}
use borrow.Author.Tests.{eqb-false}
use Rattle.def_base.specs.Tests.{pick, Case, yes!, no!, case, true_eq, eq_true, neq_false}
use Rattle.def_layout.specs.declared.Entry.{Entry}
use Rattle.def_layout.specs.Entries.{entry, entry_at, no_entry}
use Rattle.def_layout.specs.Pages.{map_bits}
use Rattle.law_bytes.specs.Tables.{tab_length, tab_is, getD_tab}
use Rattle.codec_page.specs.Typed.{map_word, map_mark}
use Rattle.codec_map.specs.Turns.{marks}

-- x and y differ at digit k alone.
pub record Digit (k x y d : ℕ) : Type 0 where
  pub above : x / 2 ^ suc k ≡ y / 2 ^ suc k
  pub below : x % 2 ^ k ≡ y % 2 ^ k
  pub at : y / 2 ^ k % 2 ≡ d

-- Every other digit is the same.
other_digit : (k x y d i : ℕ) → Digit k x y d → (i ≡ k → ⊥) → x / 2 ^ i % 2 ≡ y / 2 ^ i % 2
other_digit k x y d i w n =
    elim (dec_lt i k) [
      | yes l ↦ lower x l ∙ ap (λ (z : ℕ). z % 2 ^ (1 + i) / 2 ^ i) w.below ∙ sym (lower y l)
      | no l ↦ upper x (omega arith) ∙ ap (λ (z : ℕ). z / 2 ^ (i - suc k) % 2) w.above ∙ sym (upper y (omega arith))
    ]
  where
    lower : (z : ℕ) → i < k → z / 2 ^ i % 2 ≡ z % 2 ^ k % 2 ^ (1 + i) / 2 ^ i
    lower z l =
        let e : k - (1 + i) + (1 + i) ≡ k = omega arith in
        sym (field z 1 i) ∙ ap (λ (v : ℕ). v / 2 ^ i) (sym (ap (λ (m : ℕ). z % 2 ^ m % 2 ^ (1 + i)) (sym e) ∙ mod-mod-pow z (k - (1 + i)) (1 + i)))

    upper : (z : ℕ) → k < i → z / 2 ^ i % 2 ≡ z / 2 ^ suc k / 2 ^ (i - suc k) % 2
    upper z l =
        let e : suc k + (i - suc k) ≡ i = omega arith in
        ap (λ (v : ℕ). v % 2) (ap (λ (m : ℕ). z / 2 ^ m) (sym e) ∙ sym (shr-shr z (suc k) (i - suc k)))

-- A number by its digits above k, at k and below, and one more or less at k.
digit_parts : (k x h l a b : ℕ) → x ≡ (h * 2 + a) * 2 ^ k + l → l < 2 ^ k → a < 2 → b < 2 → Digit k x ((h * 2 + b) * 2 ^ k + l) b
digit_parts k x h l a b e hl ha hb =
    record {
      above = up x a e ha ∙ sym (up ((h * 2 + b) * 2 ^ k + l) b refl hb);
      below = ap (λ (z : ℕ). z % 2 ^ k) e ∙ low (h * 2 + a) k hl ∙ sym (low (h * 2 + b) k hl);
      at = ap (λ (z : ℕ). z % 2) (high (h * 2 + b) k hl) ∙ omega arith;
    }
  where
    up : (y c : ℕ) → y ≡ (h * 2 + c) * 2 ^ k + l → c < 2 → y / 2 ^ suc k ≡ h
    up y c q r =
        ap (λ (m : ℕ). y / m) (pow-suc 2 k) ∙ sym (div-div-eq-div-mul y (2 ^ k) 2)
        ∙ ap (λ (z : ℕ). z / 2) (ap (λ (z : ℕ). z / 2 ^ k) q ∙ high (h * 2 + c) k hl) ∙ omega arith

more : (h q : ℕ) → (h + 1) * q ≡ (h + 0) * q + q
more h q = add-mul h 1 q ∙ ap₂ (λ (a b : ℕ). a + b) (ap (λ (n : ℕ). n * q) (sym (add-zero h))) (one-mul q)

module _ (k x : ℕ) where
  whole : (d : ℕ) → x / 2 ^ k % 2 ≡ d → x ≡ (x / 2 ^ k / 2 * 2 + d) * 2 ^ k + x % 2 ^ k
  whole d e =
      let q : x / 2 ^ k / 2 * 2 + d ≡ x / 2 ^ k = omega arith in
      sym (ap (λ (z : ℕ). z * 2 ^ k + x % 2 ^ k) q ∙ split x k)

  small : x % 2 ^ k < 2 ^ k
  small = mod-lt x (pow_pos k)

  add_digit : (h l : ℕ) → (h * 2 + 1) * 2 ^ k + l ≡ (h * 2 + 0) * 2 ^ k + l + 2 ^ k
  add_digit h l = let e : (h * 2 + 1) * 2 ^ k ≡ (h * 2 + 0) * 2 ^ k + 2 ^ k = more (h * 2) (2 ^ k) in omega arith

  digit_set : x / 2 ^ k % 2 ≡ 0 → Digit k x (x + 2 ^ k) 1
  digit_set e =
      subst (λ (y : ℕ). Digit k x y 1) (add_digit (x / 2 ^ k / 2) (x % 2 ^ k) ∙ ap (λ (z : ℕ). z + 2 ^ k) (sym (whole 0 e)))
      (digit_parts k x (x / 2 ^ k / 2) (x % 2 ^ k) 0 1 (whole 0 e) small (lit< tt) (lit< tt))

  digit_cleared : x / 2 ^ k % 2 ≡ 1 → Digit k x (x - 2 ^ k) 0
  digit_cleared e =
      let q : x ≡ (x / 2 ^ k / 2 * 2 + 0) * 2 ^ k + x % 2 ^ k + 2 ^ k = whole 1 e ∙ add_digit (x / 2 ^ k / 2) (x % 2 ^ k) in
      subst (λ (y : ℕ). Digit k x y 0) (omega arith)
      (digit_parts k x (x / 2 ^ k / 2) (x % 2 ^ k) 1 0 (whole 1 e) small (lit< tt) (lit< tt))

  digit_kept : (d : ℕ) → x / 2 ^ k % 2 ≡ d → Digit k x x d
  digit_kept d e = record { above = refl; below = refl; at = e }

half_lt : (y m : ℕ) → y / 2 < m → y < m * 2
half_lt y m h = omega arith

odd_lt : (y m : ℕ) → y < m * 2 → y % 2 ≡ 0 → y + 1 < m * 2
odd_lt y m h e = omega arith

same_page : (q p : ℕ) → q / 32 ≡ p / 32 → 31 - q % 32 ≡ 31 - p % 32 → q ≡ p
same_page q p e f = omega arith

-- The sum fits, where the digit was clear.
pub add_fits : (k x : ℕ) → k < 32 → x < 2 ^ 32 → x / 2 ^ k % 2 ≡ 0 → x + 2 ^ k < 2 ^ 32
add_fits k x h l e =
    let s : 31 - k + suc k ≡ 32 = omega arith in
    let b : x / 2 ^ suc k < 2 ^ (31 - k) = shr_lt (31 - k) (suc k) (subst (λ (m : ℕ). x < 2 ^ m) (sym s) l) in
    let q : x / 2 ^ k < 2 ^ (31 - k) * 2 = half_lt (x / 2 ^ k) (2 ^ (31 - k)) (subst (λ (z : ℕ). z < 2 ^ (31 - k)) (ap (λ (m : ℕ). x / m) (pow-suc 2 k) ∙ sym (div-div-eq-div-mul x (2 ^ k) 2)) b) in
    let r : x / 2 ^ k + 1 < 2 ^ (31 - k) * 2 = odd_lt (x / 2 ^ k) (2 ^ (31 - k)) q e in
    let t : (x / 2 ^ k + 1) * 2 ^ k + x % 2 ^ k < 2 ^ (31 - k) * 2 * 2 ^ k = digits_lt r (mod-lt x (pow_pos k)) in
    let u : 2 ^ (31 - k) * 2 * 2 ^ k ≡ 2 ^ 32 = mul_assoc (2 ^ (31 - k)) 2 (2 ^ k) ∙ ap (λ (m : ℕ). 2 ^ (31 - k) * m) (sym (pow-succ' 2 k)) ∙ sym (pow-add 2 (31 - k) (suc k)) ∙ ap (λ (m : ℕ). 2 ^ m) s in
    let v : (x / 2 ^ k + 1) * 2 ^ k + x % 2 ^ k ≡ x + 2 ^ k =
    let w : (x / 2 ^ k + 1) * 2 ^ k ≡ x / 2 ^ k * 2 ^ k + 2 ^ k = more (x / 2 ^ k) (2 ^ k) ∙ ap (λ (n : ℕ). n * 2 ^ k + 2 ^ k) (add-zero (x / 2 ^ k)) in
    omega (arith, split x k) in
    subst (λ (z : ℕ). z < 2 ^ 32) v (subst (λ (z : ℕ). (x / 2 ^ k + 1) * 2 ^ k + x % 2 ^ k < z) u t)

-- SET: where one word has one digit changed, one mark is changed.
module _ (es fs : List Entry) (p x y d : ℕ) (h : p < map_bits) (ex : x ≡ map_word es (p / 32))
    (words : (q : ℕ) → map_word fs q ≡ pick (eqb q (p / 32)) y (map_word es q)) (w : Digit (31 - p % 32) x y d) where
  mark_at : (q : ℕ) → q < map_bits → Case (eqb q p) → Case (eqb (q / 32) (p / 32)) → map_mark fs q ≡ get_or (set (marks es) p (eqb d 1)) q false
  unfolding map_mark
  mark_at q l (yes! e) s =
      rw (true_eq q p e)
      (ap (λ (z : ℕ). eqb (z / 2 ^ (31 - p % 32) % 2) 1) (words (p / 32) ∙ rw (eq_true (p / 32) (p / 32) refl))
      ∙ ap (λ (z : ℕ). eqb z 1) w.at
      ∙ sym (get_or-set_same (marks es) p (eqb d 1) false (omega (arith, tab_length map_bits (map_mark es)))))
  mark_at q l (no! e) (yes! s) =
      let t : q / 32 ≡ p / 32 = true_eq (q / 32) (p / 32) s in
      let n = eqb-false q p e in
      ap (λ (z : ℕ). eqb (z / 2 ^ (31 - q % 32) % 2) 1) (words (q / 32) ∙ rw s)
      ∙ ap (λ (z : ℕ). eqb z 1) (sym (other_digit (31 - p % 32) x y d (31 - q % 32) w (λ r. n (same_page q p t r))))
      ∙ ap (λ (z : ℕ). eqb (z / 2 ^ (31 - q % 32) % 2) 1) (ex ∙ ap (map_word es) (sym t))
      ∙ sym (get_or-set_other (marks es) p q (eqb d 1) false n ∙ getD_tab map_bits q (map_mark es) false l)
  mark_at q l (no! e) (no! s) =
      ap (λ (z : ℕ). eqb (z / 2 ^ (31 - q % 32) % 2) 1) (words (q / 32) ∙ rw s)
      ∙ sym (get_or-set_other (marks es) p q (eqb d 1) false (eqb-false q p e) ∙ getD_tab map_bits q (map_mark es) false l)

  pub marks_set : marks fs ≡ set (marks es) p (eqb d 1)
  marks_set =
      tab_is map_bits (map_mark fs) (set (marks es) p (eqb d 1)) false (length-set (marks es) p (eqb d 1) ∙ tab_length map_bits (map_mark es))
      (λ q l. mark_at q l (case (eqb q p)) (case (eqb (q / 32) (p / 32))))

-- The same as the program has it: a one is shifted to the digit's place.
shifted : (k : ℕ) → k < 32 → 1 * 2 ^ k % 4294967296 ≡ 2 ^ k
shifted k h = ap (λ (z : ℕ). z % 4294967296) (one-mul (2 ^ k)) ∙ mod-eq_of_lt (pow-lt h)

not_one : (k x : ℕ) → (x / 2 ^ k % 2 ≡ 1 → ⊥) → x / 2 ^ k % 2 ≡ 0
not_one k x n = let l : x / 2 ^ k % 2 < 2 = mod-lt (x / 2 ^ k) (lit< tt) in omega arith

not_zero : (k x : ℕ) → (x / 2 ^ k % 2 ≡ 0 → ⊥) → x / 2 ^ k % 2 ≡ 1
not_zero k x n = let l : x / 2 ^ k % 2 < 2 = mod-lt (x / 2 ^ k) (lit< tt) in omega arith

at_least : (k x : ℕ) → x / 2 ^ k % 2 ≡ 1 → 2 ^ k ≤ x
at_least k x e =
    let q : x ≡ (x / 2 ^ k / 2 * 2 + 0) * 2 ^ k + x % 2 ^ k + 2 ^ k = whole k x 1 e ∙ add_digit k x (x / 2 ^ k / 2) (x % 2 ^ k) in
    omega arith

module _ (k x : ℕ) (on : Bool) (h : k < 32) where
  pub kept_on : on ≡ true → x / 2 ^ k % 2 ≡ 1 → Digit k x x (pick on 1 0)
  kept_on o e = subst (λ (b : Bool). Digit k x x (pick b 1 0)) (sym o) (digit_kept k x 1 e)

  pub kept_off : on ≡ false → x / 2 ^ k % 2 ≡ 0 → Digit k x x (pick on 1 0)
  kept_off o e = subst (λ (b : Bool). Digit k x x (pick b 1 0)) (sym o) (digit_kept k x 0 e)

  pub turned_on : on ≡ true → (x / 2 ^ k % 2 ≡ 1 → ⊥) → Digit k x (x + 1 * 2 ^ k % 4294967296) (pick on 1 0)
  turned_on o n = rw (shifted k h) (subst (λ (b : Bool). Digit k x (x + 2 ^ k) (pick b 1 0)) (sym o) (digit_set k x (not_one k x n)))

  pub turned_off : on ≡ false → (x / 2 ^ k % 2 ≡ 0 → ⊥) → Digit k x (x - 1 * 2 ^ k % 4294967296) (pick on 1 0)
  turned_off o n = rw (shifted k h) (subst (λ (b : Bool). Digit k x (x - 2 ^ k) (pick b 1 0)) (sym o) (digit_cleared k x (not_zero k x n)))

  pub sum_fits : x < 2 ^ 32 → (x / 2 ^ k % 2 ≡ 1 → ⊥) → x + 1 * 2 ^ k % 4294967296 < 4294967296
  sum_fits l n = rw (shifted k h) (add_fits k x h l (not_one k x n))

  pub digit_le : (x / 2 ^ k % 2 ≡ 0 → ⊥) → 1 * 2 ^ k % 4294967296 ≤ x
  digit_le n = rw (shifted k h) (at_least k x (not_zero k x n))

same_half : (q j : ℕ) → q / 2 ≡ j / 2 → q % 2 ≡ j % 2 → q ≡ j
same_half q j e f = omega arith

-- One word of an entry is new, and no other word.
module _ (es : List Entry) (j w : ℕ) (h : j / 2 < length es) where
  word_apart : (q : ℕ) (e : Entry) → (q / 2 ≡ j / 2 → ⊥) → map_word (set es (j / 2) e) q ≡ map_word es q
  unfolding map_word
  word_apart q e n = rw (get_or-set_other es (j / 2) (q / 2) e no_entry n)

  word_in : (q : ℕ) (e : Entry) → q / 2 ≡ j / 2 → map_word (set es (j / 2) e) q ≡ pick (eqb (q % 2) 0) e.key e.val
  unfolding map_word
  word_in q e s = rw (s, get_or-set_same es (j / 2) e no_entry h)

  word_was : (q : ℕ) → q / 2 ≡ j / 2 → map_word es q ≡ pick (eqb (q % 2) 0) (entry_at es (j / 2)).key (entry_at es (j / 2)).val
  unfolding map_word
  word_was q s = rw s

  by_place : (e : Entry) → pick (eqb (j % 2) 0) e.key e.val ≡ w
      → ((r : ℕ) → (r ≡ j % 2 → ⊥) → r < 2 → pick (eqb r 0) e.key e.val ≡ pick (eqb r 0) (entry_at es (j / 2)).key (entry_at es (j / 2)).val)
      → (q : ℕ) → Case (eqb q j) → Case (eqb (q / 2) (j / 2)) → map_word (set es (j / 2) e) q ≡ pick (eqb q j) w (map_word es q)
  by_place e here there q (yes! a) s = rw a (word_in q e (ap (λ (n : ℕ). n / 2) (true_eq q j a)) ∙ ap (λ (n : ℕ). pick (eqb (n % 2) 0) e.key e.val) (true_eq q j a) ∙ here)
  by_place e here there q (no! a) (yes! s) =
      let t : q / 2 ≡ j / 2 = true_eq (q / 2) (j / 2) s in
      let n = eqb-false q j a in
      rw a (word_in q e t ∙ there (q % 2) (λ r. n (same_half q j t r)) (mod-lt q (lit< tt)) ∙ sym (word_was q t))
  by_place e here there q (no! a) (no! s) = rw a (word_apart q e (eqb-false (q / 2) (j / 2) s))

  pub key_set : j % 2 ≡ 0 → (q : ℕ) → map_word (set es (j / 2) (entry w (entry_at es (j / 2)).val)) q ≡ pick (eqb q j) w (map_word es q)
  key_set z q = by_place (entry w (entry_at es (j / 2)).val) (rw z) (λ r n l. other r n l) q (case (eqb q j)) (case (eqb (q / 2) (j / 2)))
    where
      other : (r : ℕ) → (r ≡ j % 2 → ⊥) → r < 2 → pick (eqb r 0) w (entry_at es (j / 2)).val ≡ pick (eqb r 0) (entry_at es (j / 2)).key (entry_at es (j / 2)).val
      other r n l = let o : r ≡ 1 = omega arith in rw o

  pub val_set : (j % 2 ≡ 0 → ⊥) → (q : ℕ) → map_word (set es (j / 2) (entry (entry_at es (j / 2)).key w)) q ≡ pick (eqb q j) w (map_word es q)
  val_set z q = by_place (entry (entry_at es (j / 2)).key w) (rw (neq_false z)) (λ r n l. other r n l) q (case (eqb q j)) (case (eqb (q / 2) (j / 2)))
    where
      other : (r : ℕ) → (r ≡ j % 2 → ⊥) → r < 2 → pick (eqb r 0) (entry_at es (j / 2)).key w ≡ pick (eqb r 0) (entry_at es (j / 2)).key (entry_at es (j / 2)).val
      other r n l = let m : j % 2 < 2 = mod-lt j (lit< tt) in let o : r ≡ 0 = omega arith in rw o

pub mark_digit_of : (on : Bool) → eqb (pick on 1 0) 1 ≡ on
mark_digit_of true = refl
mark_digit_of false = refl
