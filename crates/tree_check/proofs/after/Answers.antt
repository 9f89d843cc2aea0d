-- `after`: no entry, or the last one's key.
use Rattle.tree_check.specs.Nodes.{after_none, after_last}
use Rattle.tree_check.proofs.after.Goals as goal

pub returns-then-m-eq0 : goal.returns-then-m-eq0
returns-then-m-eq0 c = let a = c.args in after_none a.es a.m a.from c.if-m-eq0.true

pub returns : goal.returns
returns c = let a = c.args in after_last a.es a.m a.from c.if-m-eq0.false
