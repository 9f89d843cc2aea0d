-- `split_page`: the row from the page that was read, and the page taken.
use mathlib.Core.Path.{subst}
use Rattle.tree_write.specs.Shows.{Shows}
use Rattle.tree_add.specs.Rows.{split_here, split_is, split_keeping, split_goes}
use Rattle.tree_add.proofs.split_page.Goals as goal

pub returns : goal.returns
returns c s h =
    let a = c.args in
    let few = c.requires.3 in
    let x = c.page_at-x in
    let q = x.ensures.1 s.pages s.lefts h.pages in
    let b = c.fresh-b in
    let e = split_is h few a.p x.result q b.result _ c.split_of-r.ensures.0 in
    subst (Shows a.n a.m _ _ _) (split_goes h few a.p x.result q)
    (c.emit_taking.ensures s (split_here h few a.p x.result q) a.p h (split_keeping h few a.p x.result q b.result _ b.ensures.0 e) (b.ensures.1 s.pages s.lefts a.p h.pages) e)
