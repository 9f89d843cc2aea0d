-- `into_a`: no entry, or the first one's key.
use mathlib.Core.Path.{◌∙◌}
use Rattle.def_base.specs.Tests.{eq_true}
use Rattle.record_apply.specs.Pages.{into_a_none, into_a_first}
use Rattle.record_apply.proofs.into_a.Goals as goal

pub returns-then-r-eq0 : goal.returns-then-r-eq0
returns-then-r-eq0 c = eq_true _ _ c.if-r-eq0.true ∙ into_a_none c.args.r c.if-r-eq0.true

pub returns-else-r-eq0 : goal.returns-else-r-eq0
returns-else-r-eq0 c = into_a_first c.args.r c.if-r-eq0.false
