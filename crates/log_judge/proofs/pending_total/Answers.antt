-- `pending_total`: the sum so far and that of the rest are the whole.
use borrow.Author.Rules.{rules}
use native.Mathlib.Omega.{arith}
use mathlib.Core.Path.{◌≡◌}
use lib.ListN.{length}
use Rattle.log_judge.specs.Accepted.{total_more, total_end}
use Rattle.log_judge.proofs.pending_total.Goals as goal

pub loop-row-preserved : goal.loop-row-preserved
loop-row-preserved c =
    let a = c.args in
    let l = c.loop-row in
    let h : length a.rows ≡ 8 = search rules in (
      omega (arith, l.invariant.0, c.requires l.row-index),
      total_more a.rows l.row-index l.t (omega (arith, h, c.loop-row-test.true)) l.invariant.1,
    )

pub returns : goal.returns
returns c =
    let a = c.args in
    let l = c.loop-row in
    let h : length a.rows ≡ 8 = search rules in
    omega (arith, total_end a.rows l.row-index l.t (omega (arith, h, c.loop-row-test.false)) l.invariant.1)
