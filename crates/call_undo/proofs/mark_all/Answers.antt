-- `mark_all`: row after row; the rows say what the log says so far.
use mathlib.Core.Path.{refl, ◌∙◌}
use native.Mathlib.Omega.{arith}
use Rattle.call_undo.specs.Marking.{marking_start, marking_on, marking_end}
use Rattle.call_undo.proofs.mark_all.Goals as goal

pub loop-i-init : goal.loop-i-init
loop-i-init c = let a = c.args in (refl, refl, marking_start a.batches.marked a.used)

pub mark_row-x-requires : goal.mark_row-x-requires
mark_row-x-requires c =
    let p = c.requires.0 in
    let i = c.loop-i.invariant in
    (omega (arith, p, i.0), p.1, omega (arith, p, i.1), p.3)

pub loop-i-preserved : goal.loop-i-preserved
loop-i-preserved c =
    let l = c.loop-i in
    let u = c.mark_row-x in
    (u.auto.wp ∙ l.invariant.0, u.auto.wl ∙ l.invariant.1, marking_on c.args.used l.i l.invariant.2 u.result c.loop-i-test.true c.requires.1 u.ensures)

pub shape_of-wp : goal.shape_of-wp
shape_of-wp c = c.loop-i.invariant.0

pub shape_of-wl : goal.shape_of-wl
shape_of-wl c = c.loop-i.invariant.1

pub returns : goal.returns
returns c s h = let l = c.loop-i in marking_end c.args.used l.i l.invariant.2 (omega (arith, c.loop-i-test.false)) s h
