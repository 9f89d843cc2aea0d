-- `judge_slot`: by its words, or the long way.
use Rattle.log_judge.specs.Turns.{by_step}
use Rattle.log_judge.proofs.judge_slot.Goals as goal

pub step-requires : goal.step-requires
step-requires c =
    let p = c.requires in
    let t = c.in-Some.ensures in
    (p.0, t.least, t.small, p.2)

pub returns-in-Some : goal.returns-in-Some
returns-in-Some c =
    let a = c.args in
    let t = c.in-Some.ensures in
    by_step a.n a.m a.log.now a.i a.batches _ t.holds t.told _ c.step.ensures
