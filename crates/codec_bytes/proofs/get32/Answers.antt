-- `get32` is `be32` of the four bytes.
use native.Mathlib.Omega.{arith}
use Rattle.def_layout.specs.Numbers.{be32}
use Rattle.codec_bytes.proofs.get32.Goals as goal

pub returns : goal.returns
unfolding be32
returns c = omega arith
