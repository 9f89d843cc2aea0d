-- `put`: one store.
use mathlib.Core.Path.{refl}
use Rattle.face_text.specs.Puts.{puts_byte}
use Rattle.face_text.proofs.put.Goals as goal

pub returns : goal.returns
returns c = (refl, puts_byte c.args.out.now c.args.n c.args.x c.requires)
