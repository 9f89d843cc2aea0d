-- `node`: the entries in use are the first.
use Rattle.area_load.specs.Kinds.{node_typed}
use Rattle.area_load.proofs.node.Goals as goal

pub returns : goal.returns
returns c = node_typed _ _ _ _ _ _ _ c.at_level.ensures
