-- `last_key_is`: no entry, or the last one's key.
use Rattle.record_fit.specs.Tests.{last_none, last_is}
use Rattle.record_fit.proofs.entries.last_key_is.Goals as goal

pub returns-then-n-eq0 : goal.returns-then-n-eq0
returns-then-n-eq0 c = let a = c.args in last_none a.n a.es a.k c.if-n-eq0.true

pub returns : goal.returns
returns c = let a = c.args in last_is a.n a.es a.k c.if-n-eq0.false
