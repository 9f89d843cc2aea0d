-- `mark_fits`: no marks, or the map's.
use mathlib.Core.Bool.{Bool}
use mathlib.Core.List.{List}
use mathlib.Core.Path.{ap, sym, ◌∙◌}
use Rattle.def_model.specs.Fit.{fits_map}
use Rattle.record_fit.specs.Rows.{marks_map, mark_node}
use Rattle.record_fit.proofs.mark_fits.Goals as goal

pub returns-in-Map : goal.returns-in-Map
returns-in-Map c = let a = c.args in c.bit_fits.ensures ∙ ap (λ (m : List Bool). fits_map a.taken a.q m) (sym (marks_map a.x c.in-Map.is))

pub returns-in_default : goal.returns-in_default
returns-in_default c = let a = c.args in mark_node a.x a.q a.taken c.in_default.not-Map
