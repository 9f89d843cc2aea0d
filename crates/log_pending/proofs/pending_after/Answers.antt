-- `pending_after`: no record, a slot that is none, or by the record's kind.
use Prim.Native.Nat.{ℕ, suc, ◌-◌, ◌/◌}
use mathlib.Core.Path.{◌≡◌, ap, sym, subst}
use native.Mathlib.Omega.{arith}
use Rattle.log_pending.specs.Reading.{TellsAfter, after_zero, after_past, after_update, after_undo, after_begin, after_other}
use Rattle.log_pending.proofs.pending_after.Goals as goal

pub returns-then-p-eq0 : goal.returns-then-p-eq0
returns-then-p-eq0 c = let a = c.args in after_zero a.m a.log.now a.p c.if-p-eq0.true

pub returns-then-i-m : goal.returns-then-i-m
returns-then-i-m c =
    let a = c.args in
    after_past a.m a.log.now a.p (a.p - 1) (omega (arith, c.if-p-eq0.false)) c.if-i-m.true

pub returns-in-2-to-3 : goal.returns-in-2-to-3
returns-in-2-to-3 c =
    let a = c.args in
    after_update a.m a.log.now a.p (a.p - 1) (omega (arith, c.if-p-eq0.false)) _ (ap (λ (w : ℕ). w / 268435456) c.get32-kind.ensures) (omega arith) (omega arith)

pub returns-in-4-to-5 : goal.returns-in-4-to-5
returns-in-4-to-5 c =
    let a = c.args in
    let n : a.p ≡ suc (a.p - 1) = omega (arith, c.if-p-eq0.false) in
    subst (TellsAfter a.m a.log.now a.p) (sym c.get32.ensures) (after_undo a.m a.log.now a.p (a.p - 1) n _ (ap (λ (w : ℕ). w / 268435456) c.get32-kind.ensures) (omega arith) (omega arith))

pub returns-in_default : goal.returns-in_default
returns-in_default c =
    let a = c.args in
    after_begin a.m a.log.now a.p (a.p - 1) (omega (arith, c.if-p-eq0.false)) _ (ap (λ (w : ℕ). w / 268435456) c.get32-kind.ensures) (omega arith)

pub returns-in_default-2 : goal.returns-in_default-2
returns-in_default-2 c =
    let a = c.args in
    after_other a.m a.log.now a.p (a.p - 1) (omega (arith, c.if-p-eq0.false)) _ (ap (λ (w : ℕ). w / 268435456) c.get32-kind.ensures) (omega arith)
