-- `unmarked_from`: no page from n to i is marked, so the answer is the answer for the rest; a word without a mark is 32 of them.
use Prim.Native.Nat.{◌≤◌, ◌-◌}
use mathlib.Core.Path.{◌≡◌}
use Rattle.codec_page.specs.Layouts.{unmarked_from}
use Rattle.codec_page.proofs.unmarked_from.Given as goal

abbrev pub invariant-loop-i : goal.invariant-loop-i
invariant-loop-i l = (l.n ≤ l.i) × (unmarked_from l.n l.es ≡ unmarked_from l.i l.es)

abbrev pub decreases-loop-i : goal.decreases-loop-i
decreases-loop-i l = 896 - l.i
