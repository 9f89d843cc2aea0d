-- `layouts_ok`: the pages before p keep the layout, so the answer is the answer for the rest.
use mathlib.Core.Path.{◌≡◌}
use lib.ListN.{drop}
use Rattle.def_model.specs.Areas.{blocks_ok}
use Rattle.law_bytes.specs.PageAreas.{blocks_by}
use Rattle.sound_parts.proofs.layouts_ok.Given as goal

abbrev pub invariant-loop-p : goal.invariant-loop-p
invariant-loop-p l = blocks_ok l.n 0 (blocks_by l.working l.n l.pages) ≡ blocks_ok l.n l.p (drop l.p (blocks_by l.working l.n l.pages))
