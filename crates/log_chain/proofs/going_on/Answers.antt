-- `going_on`: its place, its mark and its last record, one after the other.
use Rattle.log_chain.specs.Steps.{going_nowhere, going_marked, going_elsewhere, going_on}
use Rattle.log_chain.proofs.going_on.Goals as goal

pub returns-in_err-i-clause-goes : goal.returns-in_err-i-clause-goes
returns-in_err-i-clause-goes c = let a = c.args in rw c.from_residual.ensures (going_nowhere a.batches.now a.t c.in_err-i.ensures.places)

pub returns-then-batches-i-clause-goes : goal.returns-then-batches-i-clause-goes
returns-then-batches-i-clause-goes c =
    let a = c.args in
    going_marked a.batches.now a.t _ c.in_ok-i.ensures.places c.if-batches-i.true

pub returns-then-batches-i-2-clause-goes : goal.returns-then-batches-i-2-clause-goes
returns-then-batches-i-2-clause-goes c =
    let a = c.args in
    going_elsewhere a.batches.now a.t _ c.in_ok-i.ensures.places c.if-batches-i-2.true

pub returns-clause-goes : goal.returns-clause-goes
returns-clause-goes c =
    let a = c.args in
    going_on a.batches.now a.t _ c.in_ok-i.ensures.places c.if-batches-i.false c.if-batches-i-2.false
