-- `delete`: refused at the entry, or the call on a sound register.
use mathlib.Core.Path.{refl}
use Rattle.call_register.proofs.delete.Goals as goal

pub returns-in-Err : goal.returns-in-Err
returns-in-Err c budget = c.in-Err.ensures _ budget _ c.refused.ensures refl

pub delete_in-requires : goal.delete_in-requires
delete_in-requires c = let z = c.in-Ok.ensures.sizes.0 in (z.0, z.3, z.4, z.5)

pub returns-in-Ok : goal.returns-in-Ok
returns-in-Ok c budget = c.delete_in.ensures budget _ _ c.in-Ok.ensures.given
