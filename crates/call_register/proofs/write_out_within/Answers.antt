-- `write_out_within`: refused at the entry, or the call on a sound register.
use mathlib.Core.Path.{refl}
use Rattle.call_register.proofs.write_out_within.Goals as goal

pub returns-in-Err : goal.returns-in-Err
returns-in-Err c = c.in-Err.ensures _ _ _ c.refused.ensures refl

pub write_out_in-requires : goal.write_out_in-requires
write_out_in-requires c = let z = c.in-Ok.ensures.sizes in (z.0.0, z.0.1, z.0.2, z.0.3, z.1)

pub returns-in-Ok : goal.returns-in-Ok
returns-in-Ok c = c.write_out_in.ensures _ c.in-Ok.ensures.given
