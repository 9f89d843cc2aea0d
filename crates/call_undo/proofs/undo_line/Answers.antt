-- `undo_line`: an insert's line by a removal, a delete's by an addition.
use Rattle.call_undo.specs.Lines.{line_removed, line_put}
use Rattle.call_undo.proofs.undo_line.Goals as goal

pub returns-then-x : goal.returns-then-x
returns-then-x c s y ys h e = let a = c.args in line_removed a.batch a.x s y ys e c.if-x.true (c.remove_record.ensures s h)

pub returns : goal.returns
returns c s y ys h e = let a = c.args in line_put a.batch a.x s y ys e c.if-x.false (c.put_record.ensures s h)
