-- `held`: from the key up to itself.
use Rattle.sound_pending.specs.Rows.{held_is}
use Rattle.sound_pending.proofs.held.Goals as goal

pub returns : goal.returns
returns c = let a = c.args in held_is a.m a.log.now a.d.rows a.n _ a.k c.held_within.ensures
