-- `to_write`: by the kind.
use Rattle.codec_page.specs.Typed.{written, has_marks, marks_none}
use Rattle.codec_page.proofs.to_write.Goals as goal

pub returns-in-Map : goal.returns-in-Map
unfolding written has_marks
returns-in-Map c = let k = c.in-Map.is in rw k

pub returns-in_default : goal.returns-in_default
unfolding written
returns-in_default c = let k = marks_none c.args.p.kind c.in_default.not-Map in rw k
