-- `descend_remove`: level by level.
use mathlib.Core.Path.{◌≡◌}
use lib.ListN.{length}
use Prim.Native.Nat.{◌-◌}
use Rattle.tree_remove.specs.Joins.{Down}
use Rattle.tree_remove.proofs.descend_remove.Given as goal

abbrev pub invariant-loop : goal.invariant-loop
invariant-loop l = (length l.wp ≡ length l.initial.wp) × (length l.wl ≡ length l.initial.wl)
    × Down l.n l.m l.initial.wp l.initial.wl l.wp l.wl l.initial.at.run l.at.run l.k l.end l.initial.at.page (l.end - l.counter) l.at.page
