-- `row_apart`: so far every later batch is apart.
use Rattle.sound_pending.specs.Apart.{ApartLeft}
use Rattle.sound_pending.proofs.row_apart.Given as goal

abbrev pub invariant-loop-j : goal.invariant-loop-j
invariant-loop-j l = ApartLeft l.m l.log l.rows l.i l.j
