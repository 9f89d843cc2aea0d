-- `store_first`: after k turns the first k stores are made.
use mathlib.Core.Path.{◌≡◌}
use lib.ListN.{length}
use Rattle.area_lengths.specs.Lent.{lent}
use Rattle.area_store.specs.Lists.{Leads}
use Rattle.area_store.proofs.store_first.Given as goal

abbrev pub invariant-loop-k : goal.invariant-loop-k
invariant-loop-k l = (length l.sp ≡ length l.initial.sp) × (length l.sl ≡ length l.initial.sl) × Leads l.s l.k l.wp l.wl (lent l.wp l.initial.sp l.wl l.initial.sl) (lent l.wp l.sp l.wl l.sl)
