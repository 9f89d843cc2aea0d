-- `join`: a merge's row, or a redistribution's and a link.
use mathlib.Core.Path.{subst}
use native.Mathlib.Omega.{arith}
use Rattle.def_layout.specs.Records.{Rec}
use Rattle.def_model.specs.Update.{emit}
use Rattle.record_apply.specs.Pages.{rec}
use Rattle.tree_write.specs.Shows.{Shows}
use Rattle.tree_remove.specs.Rows.{merge_is, merge_keeping, redistribute_is, redistribute_keeping}
use Rattle.tree_remove.proofs.join.Goals as goal

pub emit-requires : goal.emit-requires
emit-requires c = let p = c.requires in (p, c.merge_row-row.ensures.1)

pub returns-then-x-y-le-MOST_ENTRIES : goal.returns-then-x-y-le-MOST_ENTRIES
returns-then-x-y-le-MOST_ENTRIES c s h =
    let a = c.args in
    let few = c.requires.3 in
    let x = c.page_at-x in
    let y = c.page_at-y in
    let i = x.ensures.1 s.pages s.lefts h.pages in
    let j = y.ensures.1 s.pages s.lefts h.pages in
    let e = c.list_of.ensures.0 in
    let g = c.merge_row-row.ensures.0 in
    subst (Shows a.n a.m _ _ _) (merge_is h few a.p a.l a.r x.result y.result i j _ _ e g a.w c.if-x-y-le-MOST_ENTRIES.true)
    (c.emit.ensures s h (merge_keeping h few a.p a.l a.r x.result y.result i j _ _ e g c.ranges.r.fits))

pub emit-u-requires : goal.emit-u-requires
emit-u-requires c = let p = c.requires in (p, c.redistribute_row-row.ensures.1)

pub link_child-requires : goal.link_child-requires
link_child-requires c = let p = c.requires in (omega (arith, p, c.emit-u.auto.wp), p.1, omega (arith, p, c.emit-u.auto.wl), p.3)

pub returns : goal.returns
returns c s h =
    let a = c.args in
    let few = c.requires.3 in
    let x = c.page_at-x in
    let y = c.page_at-y in
    let i = x.ensures.1 s.pages s.lefts h.pages in
    let j = y.ensures.1 s.pages s.lefts h.pages in
    let k = c.shared_key.ensures in
    let e = c.moved.ensures.0 in
    let g = c.redistribute_row-row.ensures.0 in
    let r : Rec = rec c.redistribute_row-row.result in
    subst (Shows a.n a.m _ _ _) (redistribute_is h few a.p a.l a.r x.result y.result i j _ _ _ k e g a.w (omega (arith, c.if-x-y-le-MOST_ENTRIES.false)))
    (c.link_child.ensures (emit r s) (c.emit-u.ensures s h (redistribute_keeping h few a.p a.l a.r x.result y.result i j _ _ _ k e g c.ranges.r.fits)))
