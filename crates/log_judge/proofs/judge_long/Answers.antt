-- `judge_long`: no record, one that is not in order, or the record's step.
use mathlib.Core.Path.{sym, ◌∙◌}
use borrow.Author.Tests.{not-true, not-false}
use Rattle.log_judge.proofs.NotFull.{no_record}
use Rattle.log_judge.specs.Turns.{turned_none, out_of_order, turned_step}
use Rattle.log_judge.proofs.judge_long.Goals as goal

pub returns-in_default : goal.returns-in_default
returns-in_default c =
    let a = c.args in
    λ log bs rd l hd s. turned_none a.n _ _ bs (no_record _ _ _ _ c.in_default.not-Full c.read_at-s.ensures)

pub returns-then-not-in_order : goal.returns-then-not-in_order
returns-then-not-in_order c =
    let a = c.args in
    out_of_order a.n a.m a.log.now a.i a.batches _ _ _ _ _ _ _ _ _ _ _ _ _ _ c.read_at-s.ensures c.in-Full.is (sym c.in_order.ensures ∙ not-true _ c.if-not-in_order.true-raw)

pub returns : goal.returns
returns c =
    let a = c.args in
    turned_step a.n a.m a.log.now a.i a.batches _ _ _ _ _ _ _ _ _ _ _ _ _ _ c.read_at-s.ensures c.in-Full.is (sym c.in_order.ensures ∙ not-false _ c.if-not-in_order.false-raw) _ c.kind_number.ensures.0 _ c.step.ensures
