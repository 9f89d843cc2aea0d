-- `judge_log`: before slot i the records so far are in order, and the rows and marks show their batches.
use Rattle.log_judge.specs.Judging.{Going}
use Rattle.log_judge.proofs.judge_log.Given as goal

abbrev pub invariant-loop-i : goal.invariant-loop-i
invariant-loop-i l = Going l.n l.m l.log l.i l.batches
