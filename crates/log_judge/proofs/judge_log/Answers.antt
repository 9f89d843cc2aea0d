-- `judge_log`: before slot i the records so far are in order, and the rows and marks show their batches.
use native.Mathlib.Omega.{arith}
use mathlib.Core.Path.{sym, ◌∙◌}
use Rattle.log_chain.specs.Shown.{shows_none}
use Rattle.log_judge.specs.Updates.{plain_full}
use Rattle.log_judge.specs.Alone.{same_front}
use Rattle.log_judge.specs.Turns.{update_halts, update_goes}
use Rattle.log_judge.specs.Judging.{going_start, going_low, going_on, going_off, ends_empty, ends_all}
use Rattle.log_judge.proofs.judge_log.Goals as goal

pub loop-i-init : goal.loop-i-init
loop-i-init c = let a = c.args in going_start a.n a.m a.log.now _ (shows_none _ c.no_rows.ensures)

pub alone-requires : goal.alone-requires
alone-requires c =
    let a = c.args in
    let l = c.loop-i in
    let q = c.requires in
    (q, c.loop-i-test.true, going_low a.n a.m a.log.now l.i l.batches q.1 l.invariant 0)

pub loop-i-preserved-in-Some : goal.loop-i-preserved-in-Some
loop-i-preserved-in-Some c =
    let a = c.args in
    let l = c.loop-i in
    going_on a.n a.m a.log.now l.i l.batches l.invariant c.loop-i-test.true _ (c.in-Some.ensures l.batches (same_front l.batches))

pub returns-in_err-p : goal.returns-in_err-p
returns-in_err-p c =
    let a = c.args in
    let l = c.loop-i in
    let u = c.in-Some-update_at.ensures in
    rw c.from_residual.ensures (going_off a.n a.m a.log.now l.i l.batches l.invariant c.loop-i-test.true (plain_full _ _ _ u.holds)
    (update_halts a.n a.m a.log.now l.i l.batches _ u c.in_err-p.ensures.goes))

pub longer-requires : goal.longer-requires
longer-requires c =
    let a = c.args in
    let l = c.loop-i in
    going_low a.n a.m a.log.now l.i l.batches c.requires.1 l.invariant c.in_ok-p.p

pub loop-i-preserved-in-Some-update_at : goal.loop-i-preserved-in-Some-update_at
loop-i-preserved-in-Some-update_at c =
    let a = c.args in
    let l = c.loop-i in
    going_on a.n a.m a.log.now l.i l.batches l.invariant c.loop-i-test.true _
    (update_goes a.n a.m a.log.now l.i l.batches _ c.in-Some-update_at.ensures _ c.in_ok-p.ensures.goes _ c.longer.ensures)

pub returns-then-empty_slot : goal.returns-then-empty_slot
returns-then-empty_slot c =
    let a = c.args in
    let l = c.loop-i in
    ends_empty a.n a.m a.log.now l.i l.batches l.invariant _ c.finished.ensures c.loop-i-test.true (sym c.empty_slot.ensures ∙ c.if-empty_slot.true)

pub judge_slot-requires : goal.judge_slot-requires
judge_slot-requires c =
    let a = c.args in
    let l = c.loop-i in
    let q = c.requires in
    (q, c.loop-i-test.true, going_low a.n a.m a.log.now l.i l.batches q.1 l.invariant)

pub returns-in_err-batches : goal.returns-in_err-batches
returns-in_err-batches c =
    let a = c.args in
    let l = c.loop-i in
    rw c.from_residual-in_err-batches.ensures (going_off a.n a.m a.log.now l.i l.batches l.invariant c.loop-i-test.true (sym c.empty_slot.ensures ∙ c.if-empty_slot.false) c.in_err-batches.ensures)

pub loop-i-preserved : goal.loop-i-preserved
loop-i-preserved c =
    let a = c.args in
    let l = c.loop-i in
    going_on a.n a.m a.log.now l.i l.batches l.invariant c.loop-i-test.true _ c.in_ok-batches.ensures

pub returns : goal.returns
returns c =
    let a = c.args in
    let l = c.loop-i in
    ends_all a.n a.m a.log.now l.i l.batches l.invariant _ c.finished-2.ensures (omega (arith, c.loop-i-test.false, l.auto.i-end))
