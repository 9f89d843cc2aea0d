-- `last_under`: the record is the same a height further down.
use mathlib.Core.Path.{◌≡◌}
use Prim.Native.Nat.{◌≤◌, ◌<◌}
use Rattle.theory_load.specs.Rungs.{count_up, under}
use Rattle.area_load.proofs.last_under.Given as goal

abbrev pub invariant-loop-h : goal.invariant-loop-h
invariant-loop-h l = (l.n ≤ 65536) × (l.j < count_up l.h l.n) × (under l.n l.height l.i ≡ under l.n l.h l.j)
