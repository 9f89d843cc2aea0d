-- `raise_root`: there is no right sibling, or the row from the root and the page taken.
use mathlib.Core.Path.{subst}
use Rattle.tree_write.specs.Shows.{Shows}
use Rattle.tree_add.specs.Rooms.{raise_stays}
use Rattle.tree_add.specs.Rows.{raise_of, raise_is, raise_keeping, raise_goes}
use Rattle.tree_add.proofs.raise_root.Goals as goal

pub returns-then-x-eq0 : goal.returns-then-x-eq0
returns-then-x-eq0 c s h = raise_stays _ (c.page_at-x.ensures.1 s.pages s.lefts h.pages) h c.if-x-eq0.true

pub returns : goal.returns
returns c s h =
    let a = c.args in
    let few = c.requires.3 in
    let x = c.page_at-x in
    let q = x.ensures.1 s.pages s.lefts h.pages in
    let b = c.fresh-c in
    let e = raise_is h few x.result q b.result _ _ c.list_of.ensures.0 c.raise_row-r.ensures.0 in
    subst (Shows a.n a.m _ _ _) (raise_goes h few x.result q c.if-x-eq0.false)
    (c.emit_taking.ensures s (raise_of h few x.result q) 1 h (raise_keeping h few x.result q b.result _ b.ensures.0 e) (b.ensures.1 s.pages s.lefts 1 h.pages) e)
