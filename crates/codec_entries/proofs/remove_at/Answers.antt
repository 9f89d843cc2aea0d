-- `remove_at`: those before place i, then those after it.
use native.Mathlib.Omega.{arith}
use Rattle.codec_entries.specs.Arrays.{removed}
use Rattle.codec_entries.proofs.remove_at.Goals as goal

pub returns : goal.returns
returns c = let a = c.args in removed a.es _ a.n a.i (omega arith) (omega arith) c.spliced.ensures
