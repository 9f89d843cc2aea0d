-- `lines_alternate`: so far each alternates with the newest below it.
use Prim.Native.Nat.{◌-◌}
use Rattle.sound_pending.specs.Alternating.{AlternateLeft}
use Rattle.sound_pending.proofs.lines_alternate.Given as goal

abbrev pub invariant-loop-passed : goal.invariant-loop-passed
invariant-loop-passed l = AlternateLeft l.m l.log l.from l.count l.at (l.count - l.passed)
