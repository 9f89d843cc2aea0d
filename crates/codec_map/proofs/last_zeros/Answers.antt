-- `last_zeros`: at most 32, so the count fits.
use native.Mathlib.Omega.{arith}
use lib.Count.{trailing_le}
use Rattle.codec_map.proofs.last_zeros.Goals as goal

pub overflow_cast-result : goal.overflow_cast-result
overflow_cast-result c = omega (arith, trailing_le 32 c.args.c)
