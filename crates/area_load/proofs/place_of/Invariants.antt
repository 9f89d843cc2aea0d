-- `place_of`: the levels from the leaves up, until the page is on one of them.
use Prim.Native.Nat.{◌≤◌, ◌<◌}
use Rattle.area_load.specs.Placed.{Rungs}
use Rattle.area_load.proofs.place_of.Given as goal

abbrev pub invariant-loop-count : goal.invariant-loop-count
invariant-loop-count l = (l.n ≤ 65536) × (l.p < l.end) × Rungs l.n l.height l.count l.end

abbrev pub decreases-loop-count : goal.decreases-loop-count
decreases-loop-count l = l.count
