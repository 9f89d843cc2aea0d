-- The desk is what is said of it: the comparison of all fields is the definition's.
use Rattle.std.specs.Prelude.{◌≡◌, ℕ, Bool, ◌&&◌, List, [], ◌∷◌, eqb}
use Rattle.std.proofs.Math.Path.{refl, ap}
use lib.Pointwise.{pointwise}
use Rattle.def_layout.specs.declared.Row.{Row}
use Rattle.def_layout.specs.declared.Desk.{Desk}
use Rattle.def_layout.specs.Desks.{same_row, same_rows, same_desk}

rows_alike : (xs ys : List Row) → pointwise same_row xs ys ≡ same_rows xs ys
unfolding same_rows
rows_alike [] [] = refl
rows_alike [] (y ∷ ys) = refl
rows_alike (x ∷ xs) [] = refl
rows_alike (x ∷ xs) (y ∷ ys) = ap (λ (b : Bool). same_row x y && b) (rows_alike xs ys)

-- The desk as the log says it, whatever it says of the stored count.
abbrev pub desk_with : List Row → ℕ → ℕ → Desk
desk_with rows logged stored = record { rows = rows; logged = logged; stored = stored }

pub desk_alike : (d e : Desk) → pointwise (λ (x y : Row). eqb x.batch y.batch && (eqb x.last y.last && (eqb x.undo y.undo && eqb x.pending y.pending))) d.rows e.rows && (eqb d.logged e.logged && eqb d.stored e.stored) ≡ same_desk d e
unfolding same_desk same_row
desk_alike d e = ap (λ (b : Bool). b && (eqb d.logged e.logged && eqb d.stored e.stored)) (rows_alike d.rows e.rows)
