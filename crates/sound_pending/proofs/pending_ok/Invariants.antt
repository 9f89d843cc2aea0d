-- `pending_ok`: so far every batch is in order.
use Rattle.law_bytes.specs.PageAreas.{pages_of}
use Rattle.sound_pending.specs.Rule.{RuleLeft}
use Rattle.sound_pending.proofs.pending_ok.Given as goal

abbrev pub invariant-loop-i : goal.invariant-loop-i
invariant-loop-i l = RuleLeft (pages_of l.n l.pages) l.m l.log l.rows l.i
