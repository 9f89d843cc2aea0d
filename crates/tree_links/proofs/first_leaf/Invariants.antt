-- `first_leaf`: the first leaf below the root is the one below the page that the way down has come to.
use mathlib.Core.Path.{◌≡◌}
use Prim.Native.Nat.{◌-◌}
use Rattle.law_bytes.specs.PageAreas.{pages_of}
use Rattle.tree_links.specs.Leaves.{down, first_leaf}
use Rattle.tree_links.proofs.first_leaf.Given as goal

abbrev pub invariant-loop : goal.invariant-loop
invariant-loop l = down (l.end - l.counter) (pages_of l.n l.pages) l.p ≡ first_leaf (pages_of l.n l.pages)
