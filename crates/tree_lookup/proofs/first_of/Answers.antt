-- `first_of`: by how many entries there are.
use Rattle.tree_lookup.specs.Searched.{first_none, first_at}
use Rattle.tree_lookup.proofs.first_of.Goals as goal

pub returns-then-size_of-eq0 : goal.returns-then-size_of-eq0
returns-then-size_of-eq0 c = first_none c.args.x.entries _ _ c.size_of.ensures.0 c.if-size_of-eq0.true

pub returns : goal.returns
returns c = first_at c.args.x.entries _ _ c.size_of.ensures.0 c.if-size_of-eq0.false
