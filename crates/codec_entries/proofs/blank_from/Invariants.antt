-- `blank_from`: before i all is zero, so the answer is the answer for the rest.
use Prim.Native.Nat.{◌≤◌}
use mathlib.Core.Path.{◌≡◌}
use lib.ListN.{drop}
use Rattle.law_bytes.specs.Blank.{blank}
use Rattle.codec_entries.proofs.blank_from.Given as goal

abbrev pub invariant-loop-i : goal.invariant-loop-i
invariant-loop-i l = (l.n ≤ l.i) × (blank (drop l.n l.es) ≡ blank (drop l.i l.es))
