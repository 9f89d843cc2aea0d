-- `level_count`: one height more at each turn.
use mathlib.Core.Path.{◌≡◌}
use Prim.Native.Nat.{◌≤◌}
use Rattle.theory_load.specs.Rungs.{count_up}
use Rattle.area_load.proofs.level_count.Given as goal

abbrev pub invariant-loop : goal.invariant-loop
invariant-loop l = (l.count ≡ count_up l.counter l.n) × (l.count ≤ 65536)
