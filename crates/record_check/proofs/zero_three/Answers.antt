-- `zero_three`: test by test.
use Rattle.std.proofs.Common.{arith}
use Rattle.std.proofs.lemmas.Grind.{common_steps}
use Rattle.record_check.specs.Kept.{three_but}
use Rattle.record_check.proofs.zero_three.Goals as goal
use Rattle.record_check.proofs.zero_three.Goals.{then-zero_or, else-zero_or}

pub returns-then-zero_or-2 : goal.returns-then-zero_or-2
unfolding three_but
returns-then-zero_or-2 c = elim c.if-zero_or.branch [ then-zero_or w ↦ grind (arith, common_steps) | else-zero_or w ↦ grind (arith, common_steps) ]

pub returns-else-zero_or-2 : goal.returns-else-zero_or-2
unfolding three_but
returns-else-zero_or-2 c = elim c.if-zero_or.branch [ then-zero_or w ↦ grind (arith, common_steps) | else-zero_or w ↦ grind (arith, common_steps) ]
