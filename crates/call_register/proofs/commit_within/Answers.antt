-- `commit_within`: refused at the entry, or the call on a sound register.
use mathlib.Core.Path.{refl}
use Rattle.call_register.proofs.commit_within.Goals as goal

pub returns-in-Err : goal.returns-in-Err
returns-in-Err c = c.in-Err.ensures _ _ _ c.refused.ensures refl

pub commit_in-requires : goal.commit_in-requires
commit_in-requires c = let z = c.in-Ok.ensures.sizes.0 in ((z.0.2, z.0.3), (z.1.2, z.1.3), z.2, z.3)

pub returns-in-Ok : goal.returns-in-Ok
returns-in-Ok c = c.commit_in.ensures _ _ _ c.in-Ok.ensures.given
