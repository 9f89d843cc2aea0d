-- `raised`: an index one level up, with its two entries.
use Rattle.record_apply.specs.Changes.{raised}
use Rattle.record_apply.proofs.raised.Goals as goal

pub returns : goal.returns
returns c =
    let a = c.args in
    raised a.r.level a.own a.r.key a.r.c a.r.b _ _ c.two_children-l.ensures.0 c.node.ensures
