-- `searched`: by the kind and the count.
use native.Mathlib.Omega.{arith}
use mathlib.Core.Path.{◌∙◌, sym}
use Rattle.tree_lookup.specs.Searched.{searched_map, searched_node}
use Rattle.tree_lookup.proofs.searched.Goals as goal

pub returns-in-Map : goal.returns-in-Map
returns-in-Map c = (sym (searched_map c.args.x c.in-Map.is), omega arith)

pub returns-in_default : goal.returns-in_default
returns-in_default c = (c.min.ensures ∙ sym (searched_node c.args.x c.in_default.not-Map), omega (arith, c.min.ensures))
