-- `mark`: refused at the entry, or the call on a sound register.
use mathlib.Core.Path.{refl}
use Rattle.call_register.proofs.mark.Goals as goal

pub returns-in-Err : goal.returns-in-Err
returns-in-Err c budget = c.in-Err.ensures _ budget _ c.refused.ensures refl

pub returns-in-Ok : goal.returns-in-Ok
returns-in-Ok c budget = c.mark_in.ensures _ _ budget _ _ _ _ _ c.in-Ok.ensures.given
