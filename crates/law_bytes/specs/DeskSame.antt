-- The test whether two desks are the same, and its fact.
use Rattle.std.specs.Prelude.{◌≡◌, refl, true, List, [], ◌∷◌, eqb}
use Rattle.std.proofs.Common.{sym, ap₂}
use Rattle.def_base.specs.Tests.{clash, and_true, and_both, true_eq, eq_true}
use Rattle.def_layout.specs.declared.Row.{Row}
use Rattle.def_layout.specs.declared.Desk.{Desk}
use Rattle.def_layout.specs.Desks.{same_row, same_rows, same_desk}

row_same : (x y : Row) → same_row x y ≡ true → x ≡ y
unfolding same_row
row_same x y e =
    let (b, e₁) = and_true (eqb x.batch y.batch) _ e in
    let (l, e₂) = and_true (eqb x.last y.last) _ e₁ in
    let (u, p) = and_true (eqb x.undo y.undo) (eqb x.pending y.pending) e₂ in
    let b' = true_eq x.batch y.batch b in
    let l' = true_eq x.last y.last l in
    let u' = true_eq x.undo y.undo u in
    let p' = true_eq x.pending y.pending p in
    λ i. record { batch = b' i; last = l' i; undo = u' i; pending = p' i }

rows_same : (xs ys : List Row) → same_rows xs ys ≡ true → xs ≡ ys
unfolding same_rows
rows_same [] [] e = refl
rows_same [] (y ∷ ys) e = clash (sym e)
rows_same (x ∷ xs) [] e = clash (sym e)
rows_same (x ∷ xs) (y ∷ ys) e =
    let (a, b) = and_true (same_row x y) (same_rows xs ys) e in
    ap₂ (λ r rs. r ∷ rs) (row_same x y a) (rows_same xs ys b)

pub desk_same : (d e : Desk) → same_desk d e ≡ true → d ≡ e
unfolding same_desk
desk_same d e h =
    let (r, h₁) = and_true (same_rows d.rows e.rows) _ h in
    let (l, s) = and_true (eqb d.logged e.logged) (eqb d.stored e.stored) h₁ in
    let r' = rows_same d.rows e.rows r in
    let l' = true_eq d.logged e.logged l in
    let s' = true_eq d.stored e.stored s in
    λ i. record { rows = r' i; logged = l' i; stored = s' i }

-- ---- and a desk is the same as itself

row_self : (x : Row) → same_row x x ≡ true
unfolding same_row
row_self x = and_both (eq_true x.batch x.batch refl) (and_both (eq_true x.last x.last refl) (and_both (eq_true x.undo x.undo refl) (eq_true x.pending x.pending refl)))

rows_self : (xs : List Row) → same_rows xs xs ≡ true
unfolding same_rows
rows_self [] = refl
rows_self (x ∷ xs) = and_both (row_self x) (rows_self xs)

pub desk_self : (d : Desk) → same_desk d d ≡ true
unfolding same_desk
desk_self d = and_both (rows_self d.rows) (and_both (eq_true d.logged d.logged refl) (eq_true d.stored d.stored refl))
