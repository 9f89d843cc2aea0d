-- `update_has_pages`: the sum is the one of the reserves.
use Rattle.sound_parts.specs.Reserves.{update_pages_sum}
use Rattle.sound_parts.proofs.update_has_pages.Goals as goal

pub returns : goal.returns
returns c = let a = c.args in update_pages_sum a.free a.pending
