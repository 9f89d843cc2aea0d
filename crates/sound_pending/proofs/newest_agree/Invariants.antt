-- `newest_agree`: so far each that is the newest on its key agrees.
use Prim.Native.Nat.{◌-◌}
use Rattle.law_bytes.specs.PageAreas.{pages_of}
use Rattle.sound_pending.specs.Agreeing.{AgreeLeft}
use Rattle.sound_pending.proofs.newest_agree.Given as goal

abbrev pub invariant-loop-passed : goal.invariant-loop-passed
invariant-loop-passed l = AgreeLeft (pages_of l.n l.pages) l.m l.log l.from l.count l.at (l.count - l.passed)
