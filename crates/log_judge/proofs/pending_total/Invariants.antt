-- `pending_total`: the sum so far and that of the rest are the whole.
use Prim.Native.Nat.{◌≤◌, ◌+◌, ◌*◌}
use mathlib.Core.Path.{◌≡◌}
use lib.ListN.{drop}
use Rattle.log_judge.specs.Accepted.{total}
use Rattle.log_judge.proofs.pending_total.Given as goal

abbrev pub invariant-loop-row : goal.invariant-loop-row
invariant-loop-row l = (l.t ≤ 16384 * l.row-index) × (l.t + total (drop l.row-index l.fn.rows) ≡ total l.fn.rows)
