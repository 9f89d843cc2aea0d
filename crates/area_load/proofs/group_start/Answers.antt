-- `group_start`: where the page before ends.
use native.Mathlib.Omega.{arith}
use mathlib.Core.Path.{◌∙◌}
use Rattle.theory_load.specs.Places.{start_none, start_some}
use Rattle.area_load.proofs.group_start.Goals as goal

pub returns-then-j-eq0 : goal.returns-then-j-eq0
returns-then-j-eq0 c = start_none c.args.n c.args.j (omega arith)

pub returns : goal.returns
returns c = c.group_end.ensures ∙ start_some c.args.n c.args.j (omega arith)
