-- `rises`: no key before i is too low, so the answer is the answer for the rest.
use mathlib.Core.Path.{◌≡◌}
use lib.ListN.{drop}
use Rattle.law_bytes.specs.EntryBytes.{used}
use Rattle.def_model.specs.TreeRules.{rising}
use Rattle.tree_check.proofs.rises.Given as goal

abbrev pub invariant-loop-i : goal.invariant-loop-i
invariant-loop-i l = rising l.from (used l.m l.es) ≡ rising l.least (drop l.i (used l.m l.es))
