-- Bytes compared by the library's words.
use Rattle.std.specs.Prelude.{◌≡◌, refl, ℕ, Bool, true, ◌&&◌, List, [], ◌∷◌, ◌++◌, length, nat_eq}
use Rattle.std.specs.Cmp.Lexicographic.{pointwise}
use Rattle.std.proofs.Common.{arith, ap}
use Rattle.std.proofs.lemmas.Grind.{common_steps}
use Rattle.def_layout.specs.Numbers.{same_bytes, zeros}

pub pairwise : (xs ys : List ℕ) → pointwise nat_eq xs ys ≡ same_bytes xs ys
unfolding same_bytes
pairwise [] [] = refl
pairwise [] (y ∷ ys) = refl
pairwise (x ∷ xs) [] = refl
pairwise (x ∷ xs) (y ∷ ys) = ap (λ (b : Bool). nat_eq x y && b) (pairwise xs ys)

one : (x : ℕ) → same_bytes (zeros 1) (x ∷ []) ≡ (true && nat_eq x 0)
unfolding same_bytes
one x = grind (arith, common_steps)

-- One byte more at the end.
pub clear_next : (xs : List ℕ) (x : ℕ) → same_bytes (zeros (length (xs ++ x ∷ []))) (xs ++ x ∷ []) ≡ (same_bytes (zeros (length xs)) xs && nat_eq x 0)
unfolding same_bytes
clear_next [] x = one x
clear_next (y ∷ ys) x = let h = clear_next ys x in grind (arith, common_steps)
