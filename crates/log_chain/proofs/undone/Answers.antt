-- `undone`: no such batch, nothing pending, another line, or its row has a line less.
use Rattle.std.specs.Prelude.{Some}
use mathlib.Core.Path.{sym, subst, ◌∙◌}
use borrow.Author.Tests.{not-true, not-false}
use Rattle.log_chain.specs.declared.Batches.{Batches}
use Rattle.log_chain.specs.Undos.{StepsIn, undo_nowhere, undo_nothing, undo_wrong, undo_right}
use Rattle.log_chain.proofs.undone.Goals as goal

pub returns-in_err-i : goal.returns-in_err-i
returns-in_err-i c =
    let a = c.args in
    let q = c.requires in
    rw c.from_residual.ensures (undo_nowhere a.m a.log.now a.batches a.t q.1 q.2 c.in_err-i.ensures.places)

pub returns-then-row-eq0 : goal.returns-then-row-eq0
returns-then-row-eq0 c =
    let a = c.args in
    let q = c.requires in
    undo_nothing a.m a.log.now a.batches a.t q.1 q.2 _ c.in_ok-i.ensures.places c.if-row-eq0.true

pub returns-then-not-undoes : goal.returns-then-not-undoes
returns-then-not-undoes c =
    let a = c.args in
    let q = c.requires in
    undo_wrong a.m a.log.now a.batches a.t q.1 q.2 _ c.in_ok-i.ensures.places c.if-row-eq0.false _ c.line_at-line.ensures (sym c.undoes.ensures ∙ not-true _ c.if-not-undoes.true-raw)

pub returns : goal.returns
returns c =
    let a = c.args in
    let q = c.requires in
    subst (λ (o : Batches). StepsIn a.m a.log.now a.batches a.t (Some o)) (sym c.changed.ensures) (undo_right a.m a.log.now a.batches a.t q.1 q.2 _ c.in_ok-i.ensures.places c.if-row-eq0.false _ c.line_at-line.ensures (sym c.undoes.ensures ∙ not-false _ c.if-not-undoes.false-raw))
