-- `ready`: from a page's end on to the next page nothing is left out.
use mathlib.Core.Path.{◌≡◌}
use Rattle.law_bytes.specs.PageAreas.{pages_of}
use Rattle.tree_check.specs.Above.{rest}
use Rattle.tree_check.proofs.ready.Given as goal

abbrev pub invariant-loop-r : goal.invariant-loop-r
invariant-loop-r l = (rest (pages_of l.n l.pages) l.r ≡ rest (pages_of l.n l.pages) l.initial.r) × (l.r.due ≡ l.initial.r.due)

abbrev pub decreases-loop-r : goal.decreases-loop-r
decreases-loop-r l = l.r.left
