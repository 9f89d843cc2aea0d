-- `find`: no entry before i is the one, so the place is i and the place in the rest.
use Prim.Native.Nat.{◌≤◌, ◌+◌}
use mathlib.Core.Path.{◌≡◌}
use lib.ListN.{drop}
use Rattle.def_layout.specs.Entries.{place}
use Rattle.law_bytes.specs.EntryBytes.{used}
use Rattle.codec_entries.proofs.find.Given as goal

abbrev pub invariant-loop-place : goal.invariant-loop-place
invariant-loop-place l = (l.place ≤ l.n) × (place l.k (used l.n l.es) ≡ l.place + place l.k (drop l.place (used l.n l.es)))
