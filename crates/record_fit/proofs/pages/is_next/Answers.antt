-- `is_next`: zero follows no number.
use Rattle.record_fit.specs.Tests.{next_zero, next_is}
use Rattle.record_fit.proofs.pages.is_next.Goals as goal

pub returns-then-a-eq0 : goal.returns-then-a-eq0
returns-then-a-eq0 c = let a = c.args in next_zero a.a a.level c.if-a-eq0.true

pub returns : goal.returns
returns c = let a = c.args in next_is a.a a.level c.if-a-eq0.false
