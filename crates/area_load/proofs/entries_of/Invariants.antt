-- `entries_of`: after i turns the first i entries are there.
use Prim.Native.Nat.{◌+◌, ◌-◌, ◌≤◌}
use mathlib.Core.Path.{◌≡◌}
use mathlib.Core.List.{◌++◌}
use lib.ListN.{drop}
use Rattle.def_layout.specs.Numbers.{tab}
use Rattle.def_model.specs.Loading.{columns}
use Rattle.theory_load.specs.Rungs.{level_entry}
use Rattle.area_load.proofs.entries_of.Given as goal

abbrev pub invariant-loop-i : goal.invariant-loop-i
invariant-loop-i l = (l.i ≤ l.i-end) × (l.es ≡ tab l.i (λ j. level_entry (columns l.keys l.values) l.x.height l.x.below (l.x.from + j)) ++ drop l.i l.initial.es)

abbrev pub decreases-loop-i : goal.decreases-loop-i
decreases-loop-i l = l.i-end - l.i
