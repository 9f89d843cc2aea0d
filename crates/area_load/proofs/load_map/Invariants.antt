-- `load_map`: after i turns the first i entries have their words.
use Prim.Native.Nat.{◌≤◌, ◌-◌}
use mathlib.Core.Path.{◌≡◌}
use mathlib.Core.List.{◌++◌}
use lib.ListN.{drop}
use Rattle.def_layout.specs.Numbers.{tab}
use Rattle.area_load.specs.Maps.{used_entry}
use Rattle.area_load.proofs.load_map.Given as goal

abbrev pub invariant-loop-i : goal.invariant-loop-i
invariant-loop-i l = (l.i ≤ 14) × (l.es ≡ tab l.i (used_entry l.used) ++ drop l.i l.initial.es)

abbrev pub decreases-loop-i : goal.decreases-loop-i
decreases-loop-i l = 14 - l.i
