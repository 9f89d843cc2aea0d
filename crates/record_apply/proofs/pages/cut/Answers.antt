-- `cut`: the level's four bits, and entries that are at most fourteen.
use Rattle.record_apply.specs.Pages.{cut_typed}
use Rattle.record_apply.proofs.pages.cut.Goals as goal

pub returns : goal.returns
returns c = cut_typed c.args.x c.requires
