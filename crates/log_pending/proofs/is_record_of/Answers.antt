-- `is_record_of`: no record, one past the last, a slot that is none, or by the record's batch.
use Prim.Native.Nat.{◌-◌}
use native.Mathlib.Omega.{arith}
use Rattle.log_pending.specs.Reading.{of_zero, of_past, of_none, of_read}
use Rattle.log_pending.proofs.is_record_of.Goals as goal

pub returns-then-number-eq0 : goal.returns-then-number-eq0
returns-then-number-eq0 c = let a = c.args in of_zero a.m a.log.now a.logged a.b a.number c.if-number-eq0.true

pub returns-then-number-logged : goal.returns-then-number-logged
returns-then-number-logged c = let a = c.args in of_past a.m a.log.now a.logged a.b a.number (omega (arith, c.if-number-logged.true))

pub returns-then-i-m : goal.returns-then-i-m
returns-then-i-m c =
    let a = c.args in
    of_none a.m a.log.now a.logged a.b a.number (a.number - 1) (omega (arith, c.if-number-eq0.false)) c.if-i-m.true (omega (arith, c.if-number-logged.false))

pub returns : goal.returns
returns c =
    let a = c.args in
    of_read a.m a.log.now a.logged a.b a.number (a.number - 1) _ (omega (arith, c.if-number-eq0.false)) (omega (arith, c.if-number-logged.false)) c.get32.ensures
