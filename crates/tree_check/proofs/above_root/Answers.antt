-- `above_root`: the entry that the root is the child of.
use mathlib.Core.Path.{refl}
use Rattle.def_layout.specs.Numbers.{tab}
use Rattle.tree_check.proofs.above_root.Goals as goal

pub returns : goal.returns
unfolding tab
returns c = (refl, refl, refl)
