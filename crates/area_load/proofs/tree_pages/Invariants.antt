-- `tree_pages`: what is counted and what the levels left come to is the tree's count.
use Prim.Native.Nat.{◌+◌, ◌≤◌}
use Rattle.area_load.specs.Counting.{Counts}
use Rattle.area_load.proofs.tree_pages.Given as goal

abbrev pub invariant-loop-left : goal.invariant-loop-left
invariant-loop-left l = (l.pages + l.left ≤ l.n + 1) × Counts l.n l.left l.pages

abbrev pub decreases-loop-left : goal.decreases-loop-left
decreases-loop-left l = l.left
