-- `next`: refused at the entry, or the call on a sound register.
use mathlib.Core.Path.{refl}
use Rattle.call_register.proofs.next.Goals as goal

pub returns-in-Err : goal.returns-in-Err
returns-in-Err c budget = c.in-Err.ensures _ budget _ c.refused.ensures refl

pub next_in-requires : goal.next_in-requires
next_in-requires c = c.in-Ok.ensures.sizes.0.0

pub returns-in-Ok : goal.returns-in-Ok
returns-in-Ok c budget = c.next_in.ensures budget _ _ _ c.in-Ok.ensures.given
