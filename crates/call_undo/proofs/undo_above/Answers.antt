-- `undo_above`: line after line down to the mark, each read from the log as it has grown.
use mathlib.Core.Path.{refl, ◌∙◌}
use mathlib.Core.Logic.{inl, inr}
use native.Mathlib.Omega.{arith}
use Rattle.call_undo.specs.Lines.{undoes_start, undoes_on, undoes_end}
use Rattle.call_undo.proofs.undo_above.Goals as goal

pub loop-left-init : goal.loop-left-init
loop-left-init c = let a = c.args in (refl, refl, refl, undoes_start a.mark a.row)

pub returns-then-row-mark : goal.returns-then-row-mark
returns-then-row-mark c = let a = c.args in let i = c.loop-left in undoes_end a.mark a.row i.row i.invariant.3 _ refl (inl c.if-row-mark.true)

pub line_at-x-requires : goal.line_at-x-requires
line_at-x-requires c =
    let p = c.requires in
    let i = c.loop-left.invariant in
    (omega (arith, p, i.1), p.3)

pub undo_line-run-requires : goal.undo_line-run-requires
undo_line-run-requires c =
    let p = c.requires in
    let i = c.loop-left.invariant in
    (omega (arith, p, i.0), p.1, omega (arith, p, i.1), p.3)

pub loop-left-preserved : goal.loop-left-preserved
loop-left-preserved c =
    let a = c.args in
    let l = c.loop-left in
    let u = c.undo_line-run in (
      u.auto.wp ∙ l.invariant.0,
      u.auto.wl ∙ l.invariant.1,
      refl,
      undoes_on a.mark a.row l.row l.invariant.3 u.result c.line_at-x.result _ (omega (arith, l.invariant.2, c.loop-left-test.true)) (omega (arith, c.if-row-mark.false)) c.line_at-x.ensures u.ensures,
    )

pub returns : goal.returns
returns c =
    let a = c.args in
    let i = c.loop-left in
    undoes_end a.mark a.row i.row i.invariant.3 _ refl (inr (omega (arith, i.invariant.2, c.loop-left-test.false)))
