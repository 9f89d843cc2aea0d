-- The test whether two lists of bytes are the same: its fact, and its steps.
use Rattle.std.specs.Prelude.{◌≡◌, refl, ℕ, ◌+◌, ◌<◌, ◌≤◌, Bool, true, false, ◌&&◌, List, [], ◌∷◌, get_or, drop, length, eqb}
use Rattle.std.proofs.Math.Path.{ap, sym}
use Rattle.std.proofs.Common.{◌∙◌, arith, drop_of_length-le}
use Rattle.std.proofs.Math.Numerals.{add-one}
use Rattle.std.proofs.Math.Bool.{and_assoc, and-true as and_last}
use Rattle.std.proofs.lemmas.List.{get_or-replicate, length-replicate}
use Rattle.std.proofs.Math.ListN.{get_or-eq_default}
use Rattle.std.proofs.Math.Decide.{dec_lt}
use Rattle.std.proofs.Math.Seq.{drop-cons}
use Rattle.def_base.specs.Tests.{Case, yes!, no!, case, clash, true_eq, eq_true, and_true, and_both}
use Rattle.def_layout.specs.Numbers.{be32, same_bytes, zeros}

pub same_refl : (x : List ℕ) → same_bytes x x ≡ true
unfolding same_bytes
same_refl [] = refl
same_refl (x ∷ xs) = and_both (eq_true x x refl) (same_refl xs)

pub same_true : (x y : List ℕ) → same_bytes x y ≡ true → x ≡ y
unfolding same_bytes
same_true [] [] e = refl
same_true [] (y ∷ ys) e = clash (sym e)
same_true (x ∷ xs) [] e = clash (sym e)
same_true (x ∷ xs) (y ∷ ys) e =
    let p = and_true (eqb x y) (same_bytes xs ys) e in
    let q : x ≡ y = true_eq x y p.0 in
    let r : xs ≡ ys = same_true xs ys p.1 in
    cc

pub same_false : (x y : List ℕ) → (x ≡ y → ⊥) → same_bytes x y ≡ false
same_false x y n = go (case (same_bytes x y))
  where
    go : Case (same_bytes x y) → same_bytes x y ≡ false
    go (no! e) = e
    go (yes! e) = absurd (n (same_true x y e))

-- A test that holds exactly when the lists are the same is the test.
pub same_iff : (t : Bool) (x y : List ℕ) → (t ≡ true → x ≡ y) → (x ≡ y → t ≡ true) → t ≡ same_bytes x y
same_iff true x y f g = sym (ap (λ (r : List ℕ). same_bytes x r) (sym (f refl)) ∙ same_refl x)
same_iff false x y f g = sym (same_false x y (λ e. clash (sym (g e))))

-- Lists of other lengths are not the same.
pub other_length : (x y : List ℕ) → (length x ≡ length y → ⊥) → same_bytes x y ≡ false
other_length x y n = same_false x y (λ e. n (ap length e))

same_end : (x y : List ℕ) (i : ℕ) → length x ≤ i → length y ≤ i → same_bytes (drop i x) (drop i y) ≡ true
unfolding same_bytes
same_end x y i h l = rw (drop_of_length-le x {i = i} h, drop_of_length-le y {i = i} l)

-- A turn of a comparison: what is alike before i, and the rest.
module _ (b : Bool) (x y : List ℕ) (i : ℕ) (e : same_bytes x y ≡ (b && same_bytes (drop i x) (drop i y))) where
  pub turn : (r : Bool) → i < length x → i < length y → r ≡ (b && eqb (get_or x i 0) (get_or y i 0))
      → same_bytes x y ≡ (r && same_bytes (drop (i + 1) x) (drop (i + 1) y))
  unfolding same_bytes
  turn r h l f =
      let more : same_bytes (drop i x) (drop i y) ≡ (eqb (get_or x i 0) (get_or y i 0) && same_bytes (drop (i + 1) x) (drop (i + 1) y)) =
      rw (drop-cons x i 0, drop-cons y i 0, same_bytes, add-one i) in
      e ∙ ap (λ (t : Bool). b && t) more
      ∙ sym (and_assoc b (eqb (get_or x i 0) (get_or y i 0)) (same_bytes (drop (i + 1) x) (drop (i + 1) y)))
      ∙ ap (λ (t : Bool). t && same_bytes (drop (i + 1) x) (drop (i + 1) y)) (sym f)

  pub turns_end : length x ≤ i → length y ≤ i → b ≡ same_bytes x y
  turns_end h l = sym (e ∙ ap (λ (t : Bool). b && t) (same_end x y i h l) ∙ and_last b)

-- The same against zeros.
zeros_length : (n : ℕ) → length (zeros n) ≡ n
zeros_length n = length-replicate {A = ℕ} n 0

zeros_at : (n i : ℕ) → get_or (zeros n) i 0 ≡ 0
zeros_at n i =
    elim (dec_lt i n) [
      | yes h ↦ get_or-replicate {A = ℕ} n i 0 0 h
      | no h ↦ get_or-eq_default (zeros n) 0 {n = i} (omega (arith, zeros_length n))
    ]

pub zeros_word : (n i : ℕ) → be32 (zeros n) i ≡ 0
unfolding be32
zeros_word n i = rw (zeros_at n i, zeros_at n (i + 1), zeros_at n (i + 2), zeros_at n (i + 3))

module _ (b : Bool) (x : List ℕ) (i : ℕ) (e : same_bytes (zeros (length x)) x ≡ (b && same_bytes (drop i (zeros (length x))) (drop i x))) where
  pub zeros_turn : (r : Bool) → i < length x → r ≡ (b && eqb 0 (get_or x i 0))
      → same_bytes (zeros (length x)) x ≡ (r && same_bytes (drop (i + 1) (zeros (length x))) (drop (i + 1) x))
  zeros_turn r h f =
      turn b (zeros (length x)) x i e r (omega (arith, zeros_length (length x))) h
      (f ∙ ap (λ (y : ℕ). b && eqb y (get_or x i 0)) (sym (zeros_at (length x) i)))

  pub zeros_end : length x ≤ i → b ≡ same_bytes (zeros (length x)) x
  zeros_end h = turns_end b (zeros (length x)) x i e (omega (arith, zeros_length (length x))) h
