-- An area cut into pieces of one width, each of them read; and pieces written one after the other.
use Rattle.std.specs.Prelude.{◌≡◌, get_or, take, set}
use Rattle.std.proofs.Math.Path.{refl, ap, ap₂, sym}
use Rattle.std.proofs.Common.{◌∙◌, subst, not-suc-le-zero, le_of_suc-le-suc, mul-suc, add_comm, arith, drop-drop, drop_at}
use Prim.Native.Nat.{ℕ, zero, suc, ◌+◌, ◌*◌, ◌<◌, ◌≤◌}
use Rattle.std.proofs.Math.Nat.{mul-zero, mul-le-mul_left}
use mathlib.Core.List.{List, [], ◌∷◌, ◌++◌}
use Rattle.std.proofs.Math.ListN.{drop, length, length-append, length-drop, take-append-drop, get_or-eq_default}
use Rattle.std.proofs.Math.Seq.{take_at}
use Rattle.law_bytes.specs.Words.{part}
use Rattle.law_bytes.specs.Patch.{patch, patch_zero, take_patch, drop_patch}

-- n pieces of w bytes, each read by f; and elements written by g.
unfoldable pub read_all : {A : Type 0} → ℕ → (List ℕ → A) → ℕ → List ℕ → List A
read_all w f zero s = []
read_all w f (suc n) s = f (take w s) ∷ read_all w f n (drop w s)

unfoldable pub write_all : {A : Type 0} → (A → List ℕ) → List A → List ℕ
write_all g [] = []
write_all g (x ∷ xs) = g x ++ write_all g xs

mul_up : (w p : ℕ) → w * suc p ≡ w + w * p
mul_up w p = mul-suc w p ∙ add_comm (w * p) w

module _ {A : Type 0} (w : ℕ) (f : List ℕ → A) where
  pub read_all_length : (n : ℕ) (s : List ℕ) → length (read_all w f n s) ≡ n
  unfolding read_all
  read_all_length zero s = refl
  read_all_length (suc n) s = ap suc (read_all_length n (drop w s))

  -- Element p is what its w bytes show; past the last there is none.
  pub read_all_at : (n p : ℕ) (s : List ℕ) (d : A) → p < n → get_or (read_all w f n s) p d ≡ f (part s (w * p) w)
  unfolding read_all
  read_all_at zero p s d h = absurd (not-suc-le-zero h)
  read_all_at (suc n) zero s d h = ap (λ (k : ℕ). f (take w (drop k s))) (sym (mul-zero w))
  read_all_at (suc n) (suc p) s d h =
      read_all_at n p (drop w s) d (le_of_suc-le-suc h)
      ∙ ap (λ (r : List ℕ). f (take w r)) (drop-drop (w * p) w s ∙ ap (λ (k : ℕ). drop k s) (sym (mul_up w p)))

  pub read_all_past : (n p : ℕ) (s : List ℕ) (d : A) → n ≤ p → get_or (read_all w f n s) p d ≡ d
  read_all_past n p s d h = get_or-eq_default (read_all w f n s) d {n = p} (subst (λ (k : ℕ). k ≤ p) (sym (read_all_length n s)) h)

  -- STORED: w bytes that are written over piece p are that element of the list.
  pub read_all_patch : (n p : ℕ) (s v : List ℕ) → length v ≡ w → p < n → w * n ≤ length s → read_all w f n (patch s (w * p) v) ≡ set (read_all w f n s) p (f v)
  unfolding read_all
  read_all_patch zero p s v z h l = absurd (not-suc-le-zero h)
  read_all_patch (suc n) zero s v z h l =
      let e : patch s (w * 0) v ≡ v ++ drop w s = ap (λ (k : ℕ). patch s k v) (mul-zero w) ∙ patch_zero s v w z in
      ap₂ (λ (x : A) (y : List A). x ∷ y)
      (ap (λ (r : List ℕ). f (take w r)) e ∙ ap f (take_at v (drop w s) w z))
      (ap (λ (r : List ℕ). read_all w f n (drop w r)) e ∙ ap (read_all w f n) (drop_at v (drop w s) w z))
  read_all_patch (suc n) (suc p) s v z h l =
      let u : w * suc n ≡ w + w * n = mul_up w n in
      let m : w * p ≤ w * n = mul-le-mul_left w (omega arith) in
      ap (λ (k : ℕ). read_all w f (suc n) (patch s k v)) (mul_up w p)
      ∙ ap₂ (λ (x : A) (y : List A). x ∷ y)
      (ap f (take_patch s v w (w * p) (omega arith)))
      (ap (read_all w f n) (drop_patch s v w (w * p) (omega arith)) ∙ read_all_patch n p (drop w s) v z (le_of_suc-le-suc h) (omega (arith, length-drop w s)))

-- Written and read, read and written.
unfoldable pub All : {A : Type 0} → (A → Type 0) → List A → Type 0
All P [] = Unit {0}
All P (x ∷ xs) = P x × All P xs

pub all_map : {A : Type 0} {P Q : A → Type 0} → ((x : A) → P x → Q x) → (xs : List A) → All P xs → All Q xs
unfolding All
all_map f [] h = tt
all_map f (x ∷ xs) h = (f x h.0, all_map f xs h.1)

module _ {A : Type 0} (w : ℕ) (f : List ℕ → A) (g : A → List ℕ) where
  pub read_write_all : ((x : A) → length (g x) ≡ w) → (xs : List A) → All (λ x. f (g x) ≡ x) xs → read_all w f (length xs) (write_all g xs) ≡ xs
  unfolding read_all write_all All
  read_write_all size [] q = refl
  read_write_all size (x ∷ xs) q =
      ap₂ (λ (y : A) (ys : List A). y ∷ ys)
      (ap f (take_at (g x) (write_all g xs) w (size x)) ∙ q.0)
      (ap (read_all w f (length xs)) (drop_at (g x) (write_all g xs) w (size x)) ∙ read_write_all size xs q.1)

  pub write_read_all : ((b : List ℕ) → g (f b) ≡ b) → (n : ℕ) (s : List ℕ) → length s ≡ w * n → write_all g (read_all w f n s) ≡ s
  unfolding read_all write_all
  write_read_all back zero [] h = refl
  write_read_all back zero (x ∷ s) h = absurd (omega (arith, mul-zero w))
  write_read_all back (suc n) s h =
      ap₂ (λ (x y : List ℕ). x ++ y) (back (take w s)) (write_read_all back n (drop w s) (omega (arith, length-drop w s, mul_up w n)))
      ∙ take-append-drop w s

module _ {A : Type 0} (w : ℕ) (g : A → List ℕ) (size : (x : A) → length (g x) ≡ w) where
  pub write_all_length : (xs : List A) → length (write_all g xs) ≡ w * length xs
  unfolding write_all
  write_all_length [] = sym (mul-zero w)
  write_all_length (x ∷ xs) = length-append (g x) (write_all g xs) ∙ omega (arith, size x, write_all_length xs, mul_up w (length xs))

  -- The bytes of a list with element p set are a patch.
  pub write_all_set : (xs : List A) (p : ℕ) (x : A) → p < length xs → write_all g (set xs p x) ≡ patch (write_all g xs) (w * p) (g x)
  unfolding write_all
  write_all_set [] p x h = absurd (omega arith)
  write_all_set (y ∷ ys) zero x h =
      sym (ap (λ (k : ℕ). patch (g y ++ write_all g ys) k (g x)) (mul-zero w)
      ∙ patch_zero (g y ++ write_all g ys) (g x) w (size x)
      ∙ ap (λ (r : List ℕ). g x ++ r) (drop_at (g y) (write_all g ys) w (size y)))
  write_all_set (y ∷ ys) (suc p) x h =
      let s : List ℕ = g y ++ write_all g ys in
      let m : w * p ≤ w * length ys = mul-le-mul_left w (omega arith) in
      let l : w + w * p ≤ length s = omega (arith, length-append (g y) (write_all g ys), size y, write_all_length ys) in
      ap (λ (r : List ℕ). g y ++ r) (write_all_set ys p x (omega arith))
      ∙ sym (ap (λ (k : ℕ). patch s k (g x)) (mul_up w p)
      ∙ sym (take-append-drop w (patch s (w + w * p) (g x)))
      ∙ ap₂ (λ (u v : List ℕ). u ++ v)
      (take_patch s (g x) w (w * p) l ∙ take_at (g y) (write_all g ys) w (size y))
      (drop_patch s (g x) w (w * p) l ∙ ap (λ (r : List ℕ). patch r (w * p) (g x)) (drop_at (g y) (write_all g ys) w (size y))))
