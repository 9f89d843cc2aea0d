-- `undo_newest`: the line is read and undone; it was the batch's last, or it was not.
use Rattle.call_undo.specs.Settling.{line_left, line_last}
use Rattle.call_undo.proofs.undo_newest.Goals as goal

pub returns-then-row-ne1 : goal.returns-then-row-ne1
returns-then-row-ne1 c s l b y ys h g f e o k =
    let a = c.args in
    line_left a.row c.line_at-line.result c.line_at-line.ensures c.undo_line-u.ensures s l b y ys h g f e o k c.if-row-ne1.true

pub returns : goal.returns
returns c s l b y ys h g f e o k =
    let a = c.args in
    line_last a.row c.line_at-line.result c.line_at-line.ensures c.undo_line-u.ensures s l b y ys h g f e o k c.if-row-ne1.false c.end_batch-run.ensures
