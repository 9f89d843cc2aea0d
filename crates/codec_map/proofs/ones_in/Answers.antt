-- `ones_in`: a shift by 32 is not one, so no digits are their own case.
use borrow.Author.Rules.{rules}
use native.Mathlib.Omega.{arith}
use mathlib.Core.Path.{refl}
use Rattle.codec_map.specs.Words.{no_digits, ones_bound}
use Rattle.codec_map.proofs.ones_in.Goals as goal

pub returns-then-k-eq0 : goal.returns-then-k-eq0
returns-then-k-eq0 c = (no_digits c.args.w c.args.k (search rules) c.if-k-eq0.true, search rules)

pub overflow_cast-result-2 : goal.overflow_cast-result-2
overflow_cast-result-2 c = omega (arith, ones_bound c.args.w c.args.k (search rules))

pub returns : goal.returns
returns c = (refl, ones_bound c.args.w c.args.k (search rules))
