-- `redo_part`: by whether the record has the part.
use borrow.Author.Tests.{not-true, not-false}
use Rattle.record_redo.specs.Outcomes.{none_count}
use Rattle.record_redo.proofs.redo_part.Goals as goal

pub returns-then-not-on-clause-answer : goal.returns-then-not-on-clause-answer
returns-then-not-on-clause-answer c xs h keeps = rw (not-true c.args.on c.if-not-on.true-raw) (none_count xs h)

pub returns-clause-answer : goal.returns-clause-answer
returns-clause-answer c xs h keeps = rw (not-false c.args.on c.if-not-on.false-raw) (c.redo_checked.ensures.answer xs h keeps)
