-- `numbers_ok`: no page before p has too high a number, so the answer is the answer for the rest.
use mathlib.Core.Path.{◌≡◌}
use lib.ListN.{drop}
use Rattle.def_model.specs.Sound.{numbers_ok}
use Rattle.law_bytes.specs.PageAreas.{pages_of}
use Rattle.sound_parts.proofs.numbers_ok.Given as goal

abbrev pub invariant-loop-p : goal.invariant-loop-p
invariant-loop-p l = numbers_ok l.last (pages_of l.n l.pages) ≡ numbers_ok l.last (drop l.p (pages_of l.n l.pages))
