-- `two_children`: the two entries that are set.
use borrow.Author.Rules.{rules}
use mathlib.Core.Path.{refl}
use Rattle.def_layout.specs.Numbers.{tab}
use Rattle.record_apply.proofs.lists.two_children.Goals as goal

pub returns : goal.returns
unfolding tab
returns c = (refl, search rules)
