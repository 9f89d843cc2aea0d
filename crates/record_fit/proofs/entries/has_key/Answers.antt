-- `has_key`: no key not below k, another key at its place, or k.
use Rattle.record_fit.specs.Tests.{found_past, found_other, found_here}
use Rattle.record_fit.proofs.entries.has_key.Goals as goal

pub returns-then-i-n : goal.returns-then-i-n
returns-then-i-n c = let a = c.args in found_past a.n a.es a.k 0 _ c.find-i.ensures.0 c.if-i-n.true

pub returns-then-es-i : goal.returns-then-es-i
returns-then-es-i c = let a = c.args in found_other a.n a.es a.k 0 _ c.find-i.ensures.0 c.if-i-n.false c.if-es-i.true

pub returns : goal.returns
returns c = let a = c.args in found_here a.n a.es a.k 0 _ c.find-i.ensures.0 c.if-i-n.false c.if-es-i.false
