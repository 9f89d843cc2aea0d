-- `highest_free`: the pages from p on are all marked, so the highest free one is below p.
use Prim.Native.Nat.{◌≤◌}
use mathlib.Core.Path.{◌≡◌}
use Rattle.def_model.specs.Update.{highest}
use Rattle.codec_map.specs.Turns.{marks}
use Rattle.codec_map.proofs.highest_free.Given as goal

abbrev pub invariant-loop-p : goal.invariant-loop-p
invariant-loop-p l = (l.p ≤ l.n) × (highest l.n (marks l.es) ≡ highest l.p (marks l.es))

abbrev pub decreases-loop-p : goal.decreases-loop-p
decreases-loop-p l = l.p
