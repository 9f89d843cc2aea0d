-- `ends_below`: no entry, or the last one's key.
use Rattle.record_fit.specs.Tests.{rising_none, rising_is}
use Rattle.record_fit.proofs.entries.ends_below.Goals as goal

pub returns-then-n-eq0 : goal.returns-then-n-eq0
returns-then-n-eq0 c = let a = c.args in rising_none a.n a.es a.k c.if-n-eq0.true

pub returns : goal.returns
returns c = let a = c.args in rising_is a.n a.es a.k c.if-n-eq0.false
