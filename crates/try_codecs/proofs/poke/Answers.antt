-- `poke`: a store, or nothing past the end.
use mathlib.Core.Path.{sym}
use native.Mathlib.Omega.{arith}
use lib.Seq.{set_out}
use Rattle.try_codecs.proofs.poke.Goals as goal

pub returns-else-i-b : goal.returns-else-i-b
returns-else-i-b c = let a = c.args in sym (set_out a.b.now a.i a.v (omega (arith, c.if-i-b.false)))
