-- `undo_above`: line after line down to the mark, each read from the log as it has grown.
use mathlib.Core.Path.{◌≡◌}
use lib.ListN.{length}
use Rattle.call_undo.specs.Lines.{Undoes}
use Rattle.call_undo.proofs.undo_above.Given as goal

abbrev pub invariant-loop-left : goal.invariant-loop-left
invariant-loop-left l = (length l.wp ≡ length l.initial.wp) × (length l.wl ≡ length l.initial.wl) × (l.row.pending ≡ l.left) × Undoes l.n l.m l.initial.wp l.initial.wl l.wp l.wl l.initial.run l.run l.mark l.initial.row l.row
