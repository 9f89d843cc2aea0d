-- `step`: by the kind's family.
use native.Mathlib.Omega.{arith}
use Rattle.log_chain.specs.Ends.{passes}
use Rattle.log_chain.proofs.step.Goals as goal

pub returns-in-1 : goal.returns-in-1
returns-in-1 c = λ log bs x e h s w n. c.begun.ensures log bs x h s w n

pub returns-in-6 : goal.returns-in-6
returns-in-6 c = λ log bs x e h s w n. c.committed.ensures log bs x h s w n

pub returns-in-7 : goal.returns-in-7
returns-in-7 c = λ log bs x e h s w n. c.abort_marked.ensures log bs x h s w n

pub returns-in-8 : goal.returns-in-8
returns-in-8 c = λ log bs x e h s w n. c.ended.ensures log bs x h s w n

pub returns-in-2-to-3 : goal.returns-in-2-to-3
returns-in-2-to-3 c = λ log bs x e h s w n. c.updated.ensures log bs x h s w n

pub returns-in-4-to-5 : goal.returns-in-4-to-5
returns-in-4-to-5 c = λ log bs x e h s w n. c.undone.ensures log bs x e h s w n

pub returns-in_default-2 : goal.returns-in_default-2
returns-in_default-2 c =
    let a = c.args in
    let f = passes a.batches a.t (omega arith) c.requires.2 in
    λ log bs x e h s w n. f log bs x h s w n
