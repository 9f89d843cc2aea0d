-- `undo_all`: turn after turn, of the row with the largest number due, until nothing is.
use mathlib.Core.Path.{◌≡◌}
use Prim.Native.Nat.{◌-◌}
use lib.ListN.{length}
use Rattle.call_undo.specs.Settling.{Settles}
use Rattle.call_undo.proofs.undo_all.Given as goal

abbrev pub invariant-loop : goal.invariant-loop
invariant-loop l = (length l.wp ≡ length l.initial.wp) × (length l.wl ≡ length l.initial.wl) × Settles l.n l.m l.initial.wp l.initial.wl l.wp l.wl l.initial.run l.run l.initial.rows l.rows l.count (l.count - l.counter)
