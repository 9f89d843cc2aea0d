-- `record_at`: past the last slot there is none; a record is read field by field.
use native.Mathlib.Omega.{arith}
use Rattle.record_redo.specs.Slots.{past_tells}
use Rattle.record_redo.specs.AtOnce.{record_tells}
use Rattle.record_redo.proofs.record_at.Goals as goal

pub returns-then-i-m : goal.returns-then-i-m
returns-then-i-m c =
    let a = c.args in
    (omega (arith, c.default.ensures.1.0), past_tells a.m a.i a.log.now c.default.result c.if-i-m.true)

pub returns : goal.returns
returns c =
    let a = c.args in
    let r = c.record_in in
    (r.ensures.0, record_tells a.m a.i a.log.now r.result (omega (arith, c.if-i-m.false)) r.ensures.1)
