-- `nowhere`: the key stands at no place before i, so the answer is the answer for the rest.
use mathlib.Core.Path.{◌≡◌}
use lib.ListN.{drop}
use Rattle.def_model.specs.Fit.{nowhere}
use Rattle.law_bytes.specs.EntryBytes.{used}
use Rattle.record_fit.proofs.entries.nowhere.Given as goal

abbrev pub invariant-loop-i : goal.invariant-loop-i
invariant-loop-i l = nowhere l.k (used l.n l.es) ≡ nowhere l.k (drop l.i (used l.n l.es))
