-- `end_row`: something is pending, or nothing is.
use lib.Dec.{lit<}
use Rattle.call_undo.specs.Lines.{batch_keeping}
use Rattle.call_undo.specs.Ending.{row_busy, row_ended}
use Rattle.call_undo.proofs.end_row.Goals as goal

pub returns-then-row-ne0 : goal.returns-then-row-ne0
returns-then-row-ne0 c s b h e = row_busy s b c.args.row e c.if-row-ne0.true h

pub returns : goal.returns
returns c s b h e =
    let a = c.args in
    let r = c.batch_row-r.ensures.0 in
    row_ended s b a.row e c.if-row-ne0.false _ r (c.emit.ensures s h (batch_keeping a.t 8 a.row.batch a.row.last _ c.requires.3 (lit< tt) r))
