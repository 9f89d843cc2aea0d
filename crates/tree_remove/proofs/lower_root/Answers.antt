-- `lower_root`: the row from the child that was read.
use mathlib.Core.Path.{subst}
use Rattle.tree_write.specs.Shows.{Shows}
use Rattle.tree_remove.specs.Rows.{lower_is, lower_keeping}
use Rattle.tree_remove.proofs.lower_root.Goals as goal

pub returns : goal.returns
returns c s h =
    let a = c.args in
    let few = c.requires.3 in
    let x = c.page_at-x in
    let q = x.ensures.1 s.pages s.lefts h.pages in
    let e = c.list_of.ensures.0 in
    let g = c.lower_row.ensures.0 in
    subst (Shows a.n a.m _ _ _) (lower_is h few a.q x.result q _ e _ g)
    (c.emit.ensures s h (lower_keeping h few a.q x.result q _ e _ g c.ranges.q.fits))
