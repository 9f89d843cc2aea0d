-- `desk_is`: the derived comparison of the desk.
use mathlib.Core.Path.{◌∙◌}
use Rattle.sound_parts.specs.Desks.{desk_alike, desk_with}
use Rattle.sound_parts.proofs.desk_is.Goals as goal

pub returns : goal.returns
returns c = let a = c.args in c.eq.ensures ∙ desk_alike a.d (desk_with a.rows a.logged a.d.stored)
