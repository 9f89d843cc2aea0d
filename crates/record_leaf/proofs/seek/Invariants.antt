-- `seek`: of the entries from i on the place and whether one has the key are known, and entry i - 1 is next.
use Prim.Native.Nat.{◌≤◌, ◌+◌}
use mathlib.Core.Path.{◌≡◌}
use lib.ListN.{drop}
use Rattle.def_layout.specs.Entries.{place}
use Rattle.def_model.specs.Fit.{nowhere}
use Rattle.law_bytes.specs.EntryBytes.{used}
use Rattle.record_leaf.specs.Keys.{shown}
use Rattle.record_leaf.proofs.seek.Given as goal

abbrev pub invariant-loop-i : goal.invariant-loop-i
invariant-loop-i l = record {
  within : l.place ≤ l.n;
  place_known : l.place ≡ l.i + place l.k (drop l.i (used l.n (shown l.b)));
  missing_known : l.missing ≡ nowhere l.k (drop l.i (used l.n (shown l.b)));
}
