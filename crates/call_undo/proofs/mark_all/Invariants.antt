-- `mark_all`: row after row; the rows say what the log says so far.
use mathlib.Core.Path.{◌≡◌}
use lib.ListN.{length}
use Rattle.call_undo.specs.Marking.{Marking}
use Rattle.call_undo.proofs.mark_all.Given as goal

abbrev pub invariant-loop-i : goal.invariant-loop-i
invariant-loop-i l = (length l.wp ≡ length l.initial.wp) × (length l.wl ≡ length l.initial.wl) × Marking l.n l.m l.initial.wp l.initial.wl l.wp l.wl l.initial.run l.run l.initial.rows l.rows l.batches.marked l.used l.i
