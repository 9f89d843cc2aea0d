-- `insert`: refused for its key or at the entry, or the call on a sound register.
use Rattle.call_register.specs.Refusals.{insert_names, zero_as}
use Rattle.call_register.proofs.insert.Goals as goal

pub returns-then-k-eq0 : goal.returns-then-k-eq0
returns-then-k-eq0 c budget = zero_as _ _ _ _ _ _ _ _ budget _ c.if-k-eq0.true (c.refuse_zero.ensures _ _ budget)

pub returns-in-Err : goal.returns-in-Err
returns-in-Err c budget = c.in-Err.ensures _ budget _ c.refused.ensures (insert_names 0 _ 0 c.if-k-eq0.false)

pub insert_in-requires : goal.insert_in-requires
insert_in-requires c = let z = c.in-Ok.ensures.sizes.0 in (z.0, z.3, z.4, z.5, c.if-k-eq0.false)

pub returns-in-Ok : goal.returns-in-Ok
returns-in-Ok c budget = c.insert_in.ensures budget _ _ c.in-Ok.ensures.given
