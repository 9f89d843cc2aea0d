-- `committed`: the batch does not go on, or its row goes.
use Rattle.std.specs.Prelude.{Some}
use mathlib.Core.Path.{sym, subst}
use native.Mathlib.Omega.{arith}
use Rattle.log_chain.specs.declared.Batches.{Batches}
use Rattle.log_chain.specs.Steps.{Steps}
use Rattle.log_chain.specs.Families.{ends_ask, halts}
use Rattle.log_chain.specs.Ends.{commits}
use Rattle.log_chain.proofs.committed.Goals as goal

pub returns-in_err-i : goal.returns-in_err-i
returns-in_err-i c =
    let a = c.args in
    rw c.from_residual.ensures (halts a.batches a.t (ends_ask a.t.kind (omega arith) (omega arith)) c.in_err-i.ensures.goes)

pub returns : goal.returns
returns c =
    let a = c.args in
    subst (λ (o : Batches). Steps a.batches a.t (Some o)) (sym c.dropped.ensures) (commits a.batches a.t _ c.in_ok-i.ensures.goes c.requires)
