-- `begin`: refused at the entry, or the call on a sound register.
use mathlib.Core.Path.{refl}
use Rattle.call_register.proofs.begin.Goals as goal

pub returns-in-Err : goal.returns-in-Err
returns-in-Err c budget = c.in-Err.ensures _ budget _ c.refused.ensures refl

pub begin_in-requires : goal.begin_in-requires
begin_in-requires c = let z = c.in-Ok.ensures.sizes.0 in ((z.0.2, z.0.3), z.3, z.4)

pub returns-in-Ok : goal.returns-in-Ok
returns-in-Ok c budget = c.begin_in.ensures _ budget _ _ _ c.in-Ok.ensures.given
