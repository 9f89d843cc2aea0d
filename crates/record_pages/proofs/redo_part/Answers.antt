-- `redo_part`: if the record has the part.
use Rattle.record_pages.proofs.redo_part.Goals as goal

pub returns-then-on : goal.returns-then-on
returns-then-on c xs ls h keeps = rw c.if-on.true (c.redo_at.ensures xs ls h keeps)

pub returns-else-on : goal.returns-else-on
returns-else-on c xs ls h keeps = rw c.if-on.false h
