-- `held_between`: from the key after the first.
use Rattle.sound_pending.specs.Rows.{held_between_is}
use Rattle.sound_pending.proofs.held_between.Goals as goal

pub returns : goal.returns
returns c = let a = c.args in held_between_is a.m a.log.now a.d.rows a.n _ a.low a.high c.held_within.ensures
