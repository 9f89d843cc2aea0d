-- `end_batch`: the record before is the last one.
use lib.Dec.{lit<}
use Rattle.call_undo.specs.Lines.{batch_keeping, end_last}
use Rattle.call_undo.proofs.end_batch.Goals as goal

pub returns : goal.returns
returns c s h =
    let a = c.args in
    let e = c.batch_row-r.ensures.0 in
    end_last h a.batch _ e (c.emit.ensures s h (batch_keeping a.t 8 a.batch a.t.logged _ c.requires.3 (lit< tt) e))
