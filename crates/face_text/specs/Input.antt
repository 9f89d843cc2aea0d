-- The lines of a text.
use Rattle.std.specs.Prelude.{ℕ, true, false, List, [], ◌∷◌, ◌++◌, eqb}

-- A byte 10 ends a line. The last line may have no end, unless it is empty.
abbrev pub last_line : List ℕ → List (List ℕ)
last_line [] = []
last_line (x ∷ line) = (x ∷ line) ∷ []

-- The lines of a text, of which `line` is read already.
unfoldable pub lines_from : List ℕ → List ℕ → List (List ℕ)
lines_from line [] = last_line line
lines_from line (x ∷ text) = elim (eqb x 10) [ true ↦ line ∷ lines_from [] text | false ↦ lines_from (line ++ (x ∷ [])) text ]

abbrev pub lines : List ℕ → List (List ℕ)
lines text = lines_from [] text
