-- `first_child`: no entry is left, or the one at hand.
use Rattle.tree_check.specs.Above.{child_none, child_here}
use Rattle.tree_check.proofs.first_child.Goals as goal

pub returns-then-c : goal.returns-then-c
returns-then-c c = child_none c.args.c c.if-c.true

pub returns : goal.returns
returns c = child_here c.args.c c.entry_of.result c.entry_of.ensures c.if-c.false
