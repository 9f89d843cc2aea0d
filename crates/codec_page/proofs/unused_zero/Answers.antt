-- `unused_zero`: by the kind.
use mathlib.Core.Path.{◌∙◌}
use Rattle.codec_page.specs.Judged.{unused_zero}
use Rattle.codec_page.specs.Typed.{has_marks, marks_none}
use Rattle.codec_page.proofs.unused_zero.Goals as goal

pub returns-in-Map : goal.returns-in-Map
unfolding unused_zero has_marks
returns-in-Map c = let k = c.in-Map.is in rw k

pub returns-in_default : goal.returns-in_default
unfolding unused_zero
returns-in_default c = let k = marks_none c.args.x.kind c.in_default.not-Map in c.blank_from.ensures ∙ rw k
