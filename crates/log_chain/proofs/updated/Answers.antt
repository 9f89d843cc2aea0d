-- `updated`: the batch does not go on, or its row has a line more.
use Rattle.std.specs.Prelude.{Some}
use mathlib.Core.Path.{sym, subst}
use Rattle.log_chain.specs.declared.Batches.{Batches}
use Rattle.log_chain.specs.Steps.{Steps}
use Rattle.log_chain.specs.Families.{updates_ask, halts, updates}
use Rattle.log_chain.proofs.updated.Goals as goal

pub returns-in_err-i : goal.returns-in_err-i
returns-in_err-i c =
    let a = c.args in
    let q = c.requires in
    rw c.from_residual.ensures (halts a.batches a.t (updates_ask a.t.kind q.0 q.1) c.in_err-i.ensures.goes)

pub longer-requires : goal.longer-requires
longer-requires c = c.requires.2 c.in_ok-i.i

pub returns : goal.returns
returns c =
    let a = c.args in
    let q = c.requires in
    subst (λ (o : Batches). Steps a.batches a.t (Some o)) (sym c.changed.ensures) (updates a.batches a.t _ c.in_ok-i.ensures.goes q.0 q.1 _ c.longer.ensures)
