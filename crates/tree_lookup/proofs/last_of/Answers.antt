-- `last_of`: the entry before the end.
use mathlib.Core.Path.{◌∙◌}
use Rattle.tree_lookup.specs.Backwards.{last_is}
use Rattle.tree_lookup.proofs.last_of.Goals as goal

pub returns : goal.returns
returns c short = c.before-2.ensures ∙ last_is c.args.x short _ c.searched.ensures.0
