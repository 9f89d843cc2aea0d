-- `in_order`: the three tests in turn.
use mathlib.Core.Path.{◌≡◌, sym, ◌∙◌}
use mathlib.Core.Bool.{true, false}
use Prim.Native.Nat.{suc}
use native.Mathlib.Omega.{arith}
use lib.Dec.{eqb}
use borrow.Author.Tests.{not-true, not-false}
use Rattle.def_base.specs.Tests.{eq_true, neq_false}
use Rattle.record_check.specs.Kept.{row_kept}
use Rattle.log_judge.specs.Turns.{in_order}
use Rattle.log_judge.proofs.slots.in_order.Goals as goal

pub returns-then-own-i : goal.returns-then-own-i
unfolding in_order
returns-then-own-i c =
    let a = c.args in
    let y : eqb a.own (suc a.i) ≡ false = neq_false (λ (e : a.own ≡ suc a.i). c.if-own-i.true (omega (arith, e))) in
    sym (rw y)

pub returns-then-not-row_ok : goal.returns-then-not-row_ok
unfolding in_order
returns-then-not-row_ok c =
    let a = c.args in
    let y : eqb a.own (suc a.i) ≡ true = eq_true a.own (suc a.i) (omega (arith, c.if-own-i.false)) in
    let w : row_kept a.s.header a.s.entries ≡ false = sym c.row_ok.ensures ∙ not-true _ c.if-not-row_ok.true-raw in
    sym (rw (y, w))

pub returns : goal.returns
unfolding in_order
returns c =
    let a = c.args in
    let y : eqb a.own (suc a.i) ≡ true = eq_true a.own (suc a.i) (omega (arith, c.if-own-i.false)) in
    let w : row_kept a.s.header a.s.entries ≡ true = sym c.row_ok.ensures ∙ not-false _ c.if-not-row_ok.false-raw in
    c.pages_ok.ensures ∙ sym (rw (y, w))
