-- The desk and its 136 bytes. 01: "there the desk is 136 bytes, each number 32 bits".
use Rattle.std.specs.Prelude.{ℕ, ◌+◌, ◌*◌, Bool, true, false, ◌&&◌, List, [], ◌∷◌, ◌++◌, get_or, replicate, eqb}
use Rattle.def_layout.specs.declared.Row.{Row}
use Rattle.def_layout.specs.declared.Desk.{Desk}
use Rattle.def_layout.specs.Numbers.{be32, put32, tab, chunks}

-- 01: "eight batch rows".
abbrev pub most_open : ℕ
most_open = 8

abbrev pub no_row : Row
no_row = record { batch = 0; last = 0; undo = 0; pending = 0 }

abbrev pub row_at : List Row → ℕ → Row
row_at rows i = get_or rows i no_row

-- 01: "Used rows come first .. others are zero".
unfoldable pub eight_rows : List Row → List Row
eight_rows used = tab 8 (row_at used)

abbrev pub empty_desk : Desk
empty_desk = record { rows = replicate 8 no_row; logged = 0; stored = 0 }

unfoldable pub same_row : Row → Row → Bool
same_row x y = eqb x.batch y.batch && (eqb x.last y.last && (eqb x.undo y.undo && eqb x.pending y.pending))

unfoldable pub same_rows : List Row → List Row → Bool
same_rows [] [] = true
same_rows [] (y ∷ ys) = false
same_rows (x ∷ xs) [] = false
same_rows (x ∷ xs) (y ∷ ys) = same_row x y && same_rows xs ys

unfoldable pub same_desk : Desk → Desk → Bool
same_desk d e = same_rows d.rows e.rows && (eqb d.logged e.logged && eqb d.stored e.stored)

unfoldable pub row_bytes : Row → List ℕ
row_bytes x = put32 x.batch ++ put32 x.last ++ put32 x.undo ++ put32 x.pending

unfoldable pub desk_bytes : Desk → List ℕ
desk_bytes d = chunks 8 (λ i. row_bytes (row_at d.rows i)) ++ put32 d.logged ++ put32 d.stored

unfoldable pub read_row : List ℕ → ℕ → Row
read_row b i = record { batch = be32 b (16 * i); last = be32 b (16 * i + 4); undo = be32 b (16 * i + 8); pending = be32 b (16 * i + 12) }

unfoldable pub read_desk : List ℕ → Desk
read_desk b = record { rows = tab 8 (read_row b); logged = be32 b 128; stored = be32 b 132 }
