-- A batch's place is the first position of its number.
use Rattle.std.specs.Prelude.{◌≡◌, refl, ℕ, ◌+◌, ◌<◌, List, [], ◌∷◌, length, eqb, Option, MatchOption}
use Rattle.std.specs.List.{position_from}
use Rattle.std.proofs.Common.{arith}
use Rattle.std.proofs.lemmas.Grind.{common_steps}
use Rattle.def_layout.specs.declared.Row.{Row}
use Rattle.law_bytes.specs.DeskRows.{place_of}

from : (b k : ℕ) (rs : List Row) → MatchOption (position_from (λ (r : Row). eqb r.batch b) k rs) (place_of b rs ≡ length rs) (λ i. (i ≡ k + place_of b rs) × (place_of b rs < length rs))
unfolding place_of
from b k [] = refl
from b k (r ∷ rs) = let h = from b (k + 1) rs in grind (arith, common_steps)

pub found : (b : ℕ) (rs : List Row) (o : Option ℕ) → length rs ≡ 8 → o ≡ position_from (λ (r : Row). eqb r.batch b) 0 rs
    → MatchOption o (place_of b rs ≡ 8) (λ i. (i ≡ place_of b rs) × (i < 8))
found b rs o h e = let s = from b 0 rs in grind (arith, common_steps)
