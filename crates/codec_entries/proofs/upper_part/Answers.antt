-- `upper_part`: nothing, then those from place i on.
use native.Mathlib.Omega.{arith}
use Rattle.codec_entries.specs.Arrays.{moved_down}
use Rattle.codec_entries.proofs.upper_part.Goals as goal

pub returns : goal.returns
returns c = let a = c.args in moved_down a.es _ a.n a.i (omega arith) (omega arith) c.spliced.ensures
