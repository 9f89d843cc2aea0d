-- `undo_all`: turn after turn, of the row with the largest number due, until nothing is.
use mathlib.Core.Path.{◌∙◌}
use native.Mathlib.Omega.{arith}
use Rattle.call_undo.specs.Settling.{settles_end, settles_idle, settles_on}
use Rattle.call_undo.proofs.undo_all.Goals as goal

pub returns-then-rows-p-eq0 : goal.returns-then-rows-p-eq0
returns-then-rows-p-eq0 c s l cs h g f d k =
    let i = c.loop in
    let p = c.newest_row-p in
    settles_idle c.args.count _ i.invariant.2 p.result p.ensures.1 c.if-rows-p-eq0.true s l cs h g f d k

pub loop-preserved : goal.loop-preserved
loop-preserved c =
    let l = c.loop in
    let u = c.undo_newest-x in
    let p = c.newest_row-p in (
      u.auto.wp ∙ l.invariant.0,
      u.auto.wl ∙ l.invariant.1,
      settles_on c.args.count _ l.invariant.2 p.result p.ensures.1 u.result _ (omega (arith, c.loop-test.true)) c.if-rows-p-eq0.false u.ensures,
    )

pub returns : goal.returns
returns c s l cs h g f d k = let i = c.loop in settles_end c.args.count _ i.invariant.2 (omega (arith, c.loop-test.false)) s l cs h g f d k
