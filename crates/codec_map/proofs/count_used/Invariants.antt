-- `count_used`: after each word the ones are those of the pages passed.
use Prim.Native.Nat.{◌≤◌, ◌<◌, ◌-◌, ◌%◌}
use mathlib.Core.Path.{◌≡◌}
use lib.ListN.{take}
use Rattle.def_model.specs.TreeRules.{ones}
use Rattle.codec_map.specs.Turns.{marks}
use Rattle.codec_map.proofs.count_used.Given as goal

abbrev pub invariant-loop-p : goal.invariant-loop-p
invariant-loop-p l = (l.p ≤ l.n) × (l.p < l.n → (l.p % 32 ≡ 0) × (l.s ≤ l.p)) × (l.s ≡ ones (take l.p (marks l.es)))

abbrev pub decreases-loop-p : goal.decreases-loop-p
decreases-loop-p l = l.n - l.p
