-- `level_ended`: test by test.
use Rattle.tree_check.specs.Above.{end_off, end_due, end_here}
use Rattle.tree_check.proofs.level_ended.Goals as goal

pub returns-then-from-ne-PAST_TOP : goal.returns-then-from-ne-PAST_TOP
returns-then-from-ne-PAST_TOP c = let a = c.args in end_off a.c a.from c.if-from-ne-PAST_TOP.true

pub returns-then-c : goal.returns-then-c
returns-then-c c = let a = c.args in end_due a.c a.from c.if-c.true

pub returns : goal.returns
returns c = let a = c.args in end_here a.c a.from c.if-from-ne-PAST_TOP.false c.if-c.false
