-- `has_key`: from the key up to itself.
use Rattle.sound_pending.specs.Keys.{key_says}
use Rattle.sound_pending.proofs.has_key.Goals as goal

pub returns : goal.returns
returns c = let a = c.args in key_says a.k a.m a.log.now a.from a.count _ c.has_within.ensures
