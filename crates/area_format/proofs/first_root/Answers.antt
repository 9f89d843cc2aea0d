-- `first_root` stands for an empty root.
use Rattle.area_format.specs.First.{typed_root}
use Rattle.area_format.proofs.first_root.Goals as goal

pub returns : goal.returns
returns c = typed_root
