-- `zero_from`: the rest is lent and tested.
use mathlib.Core.Path.{refl}
use Rattle.sound_parts.specs.Stored.{zero_rest}
use Rattle.sound_parts.proofs.zero_from.Goals as goal

pub returns : goal.returns
returns c = let a = c.args in zero_rest a.s.now _ a.a refl c.is_zero.ensures
