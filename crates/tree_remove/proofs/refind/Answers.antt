-- `refind`: the entry that leads to k, and the half covering it.
use Rattle.tree_remove.specs.Joins.{refind_is}
use Rattle.tree_remove.proofs.refind.Goals as goal

pub returns : goal.returns
returns c s h =
    let a = c.args in
    refind_is a.k a.p s _ c.entry_for-e.result _ (c.page_at-x.ensures.1 s.pages s.lefts h) c.entry_for-e.ensures (c.half.ensures s.pages s.lefts h)
