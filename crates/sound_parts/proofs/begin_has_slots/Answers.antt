-- `begin_has_slots`: the sum is the one of the reserves.
use Rattle.sound_parts.specs.Reserves.{begin_slots_sum}
use Rattle.sound_parts.proofs.begin_has_slots.Goals as goal

pub returns : goal.returns
returns c = let a = c.args in begin_slots_sum a.slots a.used a.pending a.batches
