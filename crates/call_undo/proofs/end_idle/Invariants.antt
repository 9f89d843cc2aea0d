-- `end_idle`: row after row.
use mathlib.Core.Path.{◌≡◌}
use lib.ListN.{length}
use Rattle.call_undo.specs.Ending.{Ending}
use Rattle.call_undo.proofs.end_idle.Given as goal

abbrev pub invariant-loop-row : goal.invariant-loop-row
invariant-loop-row l = (length l.wp ≡ length l.initial.wp) × (length l.wl ≡ length l.initial.wl) × Ending l.n l.m l.initial.wp l.initial.wl l.wp l.wl l.initial.run l.run l.fn.rows l.used l.row-index
