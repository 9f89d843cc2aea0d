-- `leaf_of`: the leaf from the root is the leaf from the page that the way down has come to, as many levels below it as are left.
use mathlib.Core.Path.{◌≡◌}
use Prim.Native.Nat.{◌-◌}
use Rattle.law_bytes.specs.PageAreas.{pages_of}
use Rattle.def_model.specs.Lookup.{leaf_for, leaf_of}
use Rattle.tree_lookup.proofs.leaf_of.Given as goal

abbrev pub invariant-loop : goal.invariant-loop
invariant-loop l = leaf_of l.k (pages_of l.n l.pages) ≡ leaf_for (l.end - l.counter) l.k l.p (pages_of l.n l.pages)
