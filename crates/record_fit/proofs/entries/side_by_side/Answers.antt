-- `side_by_side`: nothing after u's place, or the two entries.
use Rattle.record_fit.specs.Tests.{side_none, side_here}
use Rattle.record_fit.proofs.entries.side_by_side.Goals as goal

pub returns-then-i-n : goal.returns-then-i-n
returns-then-i-n c = let a = c.args in side_none a.n a.es a.b a.u a.c a.w _ c.find-i.ensures.0 c.if-i-n.true

pub returns : goal.returns
returns c =
    let a = c.args in
    side_here a.n a.es a.b a.u a.c a.w c.find-i.result c.find-i.ensures.0 c.if-i-n.false
