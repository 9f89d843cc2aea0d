-- `ended`: no such batch, lines pending, another last record, or its row goes.
use Rattle.std.specs.Prelude.{Some}
use mathlib.Core.Path.{sym, subst}
use Rattle.log_chain.specs.declared.Batches.{Batches}
use Rattle.log_chain.specs.Steps.{Steps}
use Rattle.log_chain.specs.Ends.{end_nowhere, end_pending, end_elsewhere, ended}
use Rattle.log_chain.proofs.ended.Goals as goal

pub returns-in_err-i : goal.returns-in_err-i
returns-in_err-i c = let a = c.args in rw c.from_residual.ensures (end_nowhere a.batches a.t c.requires c.in_err-i.ensures.places)

pub returns-then-row-ne0 : goal.returns-then-row-ne0
returns-then-row-ne0 c =
    let a = c.args in
    end_pending a.batches a.t c.requires _ c.in_ok-i.ensures.places c.if-row-ne0.true

pub returns-then-row-t : goal.returns-then-row-t
returns-then-row-t c =
    let a = c.args in
    end_elsewhere a.batches a.t c.requires _ c.in_ok-i.ensures.places c.if-row-t.true

pub returns : goal.returns
returns c =
    let a = c.args in
    subst (λ (o : Batches). Steps a.batches a.t (Some o)) (sym c.dropped.ensures) (ended a.batches a.t c.requires _ c.in_ok-i.ensures.places c.if-row-ne0.false c.if-row-t.false)
