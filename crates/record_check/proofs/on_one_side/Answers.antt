-- `on_one_side`: up to the key, or else above it.
use mathlib.Core.Path.{sym, ◌∙◌}
use Rattle.def_layout.specs.Rows.{one_side}
use Rattle.record_check.specs.Kept.{on_side}
use Rattle.record_check.proofs.on_one_side.Goals as goal

pub returns-then-all_on : goal.returns-then-all_on
unfolding one_side on_side
returns-then-all_on c = c.if-all_on.true ∙ rw (sym c.all_on.ensures ∙ c.if-all_on.true)

pub returns-else-all_on : goal.returns-else-all_on
unfolding one_side on_side
returns-else-all_on c = c.all_on-else-all_on.ensures ∙ rw (sym c.all_on.ensures ∙ c.if-all_on.false)
