-- `levels_ok`: as a level begins the walk from it down decides, and along a level the walk of what is left of it; a broken rule fails both.
use Prim.Native.Nat.{◌≤◌, ◌+◌, ◌*◌}
use Rattle.law_bytes.specs.PageAreas.{pages_of}
use Rattle.tree_check.specs.Turns.{Begun, Going}
use Rattle.tree_check.proofs.levels_ok.Given as goal

abbrev pub invariant-loop-p : goal.invariant-loop-p
invariant-loop-p l = (l.left ≤ l.n) × (l.count + l.left ≤ l.initial.count + l.n) × (l.initial.count + 896 * l.level ≤ 896 * 4294967296)
    × Going (pages_of l.n l.pages) l.level l.few l.initial.count l.first l.initial.above l.count l.p l.from l.left l.above

abbrev pub decreases-loop-p : goal.decreases-loop-p
decreases-loop-p l = l.left

abbrev pub invariant-levels : goal.invariant-levels
invariant-levels l = (l.count + 896 * l.level ≤ 896 * 4294967296) × Begun (pages_of l.n l.pages) l.level l.few l.count l.above

abbrev pub decreases-levels : goal.decreases-levels
decreases-levels l = l.level
