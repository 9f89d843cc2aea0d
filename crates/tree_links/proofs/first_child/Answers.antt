-- `first_child`: the first entry's, where there is one.
use Rattle.tree_links.specs.Leaves.{child_none, child_first}
use Rattle.tree_links.proofs.first_child.Goals as goal

pub returns-then-size_of-eq0 : goal.returns-then-size_of-eq0
returns-then-size_of-eq0 c = let a = c.args in child_none a.x.entries _ _ c.size_of.ensures.0 c.if-size_of-eq0.true

pub returns : goal.returns
returns c = let a = c.args in child_first a.x.entries _ _ c.size_of.ensures.0 c.if-size_of-eq0.false
