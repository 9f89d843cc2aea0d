-- `before`: none is before place 0.
use Rattle.tree_lookup.specs.Backwards.{before_none, before_at}
use Rattle.tree_lookup.proofs.before.Goals as goal

pub returns-then-i-eq0 : goal.returns-then-i-eq0
returns-then-i-eq0 c = before_none c.args.i c.args.es c.if-i-eq0.true

pub returns : goal.returns
returns c = before_at c.args.i c.args.es c.if-i-eq0.false
