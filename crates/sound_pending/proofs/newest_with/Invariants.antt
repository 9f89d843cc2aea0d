-- `newest_with`: no line so far has such a key, so the newest is that of the rest.
use Rattle.std.specs.Prelude.{ℕ, ◌-◌, Bool}
use Rattle.sound_pending.specs.Keys.{TestsBy, FirstLeft}
use Rattle.sound_pending.proofs.newest_with.Given as goal

abbrev pub invariant-loop-passed : goal.invariant-loop-passed
invariant-loop-passed g l = (t : ℕ → Bool) → TestsBy (λ key r. g.F.Fn.post l.test (key, tt) r) t → FirstLeft t l.m l.log l.from l.count l.at (l.count - l.passed)
