-- `last_below`: the entry before the place of k.
use mathlib.Core.Path.{◌∙◌}
use Rattle.tree_lookup.specs.Backwards.{below_is}
use Rattle.tree_lookup.proofs.last_below.Goals as goal

pub returns : goal.returns
returns c short = let a = c.args in c.before-2.ensures ∙ below_is a.x short _ c.searched.ensures.0 a.k _ c.find.ensures.0 c.find.ensures.1
