-- `reserves_ok`: too few slots, or else the pages decide.
use mathlib.Core.Path.{sym}
use Rattle.sound_parts.specs.Reserves.{slots_short, pages_decide}
use Rattle.sound_parts.proofs.reserves_ok.Goals as goal

pub returns-then-slots-used : goal.returns-then-slots-used
returns-then-slots-used c = let a = c.args in sym (slots_short a.slots a.free a.used a.pending a.batches c.if-slots-used.true)

pub returns : goal.returns
returns c = let a = c.args in sym (pages_decide a.slots a.free a.used a.pending a.batches c.if-slots-used.false)
