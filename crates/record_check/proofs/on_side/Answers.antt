-- `on_side`: by the side.
use Rattle.record_check.specs.Kept.{on_side}
use Rattle.record_check.proofs.on_side.Goals as goal

pub returns-then-low : goal.returns-then-low
unfolding on_side
returns-then-low c = rw c.if-low.true

pub returns-else-low : goal.returns-else-low
unfolding on_side
returns-else-low c = rw c.if-low.false
