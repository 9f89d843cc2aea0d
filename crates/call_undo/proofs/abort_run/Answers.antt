-- `abort_run`: its three parts.
use Rattle.call_undo.specs.Lines.{abort_parts}
use Rattle.call_undo.proofs.abort_run.Goals as goal

pub returns : goal.returns
returns c s y h e sits fits =
    let a = c.args in
    abort_parts h c.requires.3 a.row y _ e sits fits c.batch_row-r.ensures.0 (c.emit-marked.ensures s h) c.undo_above-undone.ensures c.end_batch.ensures
