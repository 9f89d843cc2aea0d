-- `line_at`: no record, a slot that is none, or the record's words.
use Prim.Native.Nat.{ℕ, ◌-◌, ◌/◌}
use mathlib.Core.Path.{ap}
use native.Mathlib.Omega.{arith}
use Rattle.log_pending.specs.Lines.{line_zero, line_past, line_read}
use Rattle.log_pending.proofs.line_at.Goals as goal

pub returns-then-number-eq0 : goal.returns-then-number-eq0
returns-then-number-eq0 c = let a = c.args in line_zero a.m a.log.now a.number _ c.if-number-eq0.true

pub returns-then-i-m : goal.returns-then-i-m
returns-then-i-m c =
    let a = c.args in
    line_past a.m a.log.now a.number _ (a.number - 1) (omega (arith, c.if-number-eq0.false)) c.if-i-m.true

pub returns : goal.returns
returns c =
    let a = c.args in
    line_read a.m a.log.now a.number (a.number - 1) (omega (arith, c.if-number-eq0.false)) _ _ _ _ _ (ap (λ (w : ℕ). w / 268435456) c.get32-kind.ensures) c.get32-key.ensures c.get32-value.ensures c.get32-previous.ensures c.pending_after-below.ensures
