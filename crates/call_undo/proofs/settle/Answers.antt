-- `settle`: its three rounds.
use Rattle.call_undo.specs.Settling.{settled}
use Rattle.call_undo.proofs.settle.Goals as goal

pub returns : goal.returns
returns c s h says marks holds fits =
    let a = c.args in
    settled h a.batches.rows a.batches.marked _ _ c.mark_all-x.result says marks holds fits c.used_rows-used.ensures.0 c.pending_total-count.ensures
    c.mark_all-x.ensures c.end_idle-u.ensures c.undo_all.ensures
