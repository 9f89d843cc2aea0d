-- `link_child`: the row from the child that was read, logged and applied.
use mathlib.Core.Path.{subst}
use Rattle.tree_write.specs.Shows.{Shows}
use Rattle.tree_add.specs.Rows.{link_is, link_keeping}
use Rattle.tree_add.proofs.link_child.Goals as goal

pub returns : goal.returns
returns c s h =
    let a = c.args in
    let x = c.page_at-x in
    let q = x.ensures.1 s.pages s.lefts h.pages in
    let g = c.link_row.ensures.0 in
    subst (Shows a.n a.m _ _ _) (link_is h c.requires.3 a.p a.q a.w x.result q _ g)
    (c.emit.ensures s h (link_keeping h c.requires.3 a.p a.q a.w x.result q _ g c.ranges.q.fits c.ranges.w.fits))
