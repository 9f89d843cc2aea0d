-- `held_within`: no row so far holds such a key.
use Rattle.sound_pending.specs.Keys.{from_to}
use Rattle.sound_pending.specs.Rows.{DeskLeft}
use Rattle.sound_pending.proofs.held_within.Given as goal

abbrev pub invariant-loop-row : goal.invariant-loop-row
invariant-loop-row l = DeskLeft (from_to l.first l.last) l.m l.log l.fn.d.rows l.n l.row-index
