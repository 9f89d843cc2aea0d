-- `updated`: the row and the count anew.
use mathlib.Core.Path.{◌∙◌, ap}
use Rattle.def_layout.specs.declared.Desk.{Desk}
use Rattle.call_slides.proofs.updated.Goals as goal

pub returns : goal.returns
returns c =
    let a = c.args in
    c.with_logged.ensures ∙ ap (λ (e : Desk). record { rows = e.rows; logged = a.logged; stored = e.stored }) c.with_row.ensures
