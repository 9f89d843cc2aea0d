-- `unlink_join`: the row from the two pages, and their join.
use mathlib.Core.Path.{subst}
use native.Mathlib.Omega.{arith}
use Rattle.def_layout.specs.Records.{Rec}
use Rattle.def_model.specs.Update.{emit}
use Rattle.record_apply.specs.Pages.{rec}
use Rattle.tree_write.specs.Shows.{Shows}
use Rattle.tree_remove.specs.Rows.{unlink_is, unlink_keeping}
use Rattle.tree_remove.proofs.unlink_join.Goals as goal

pub join-requires : goal.join-requires
join-requires c = let p = c.requires in (omega (arith, p, c.emit-u.auto.wp), p.1, omega (arith, p, c.emit-u.auto.wl), p.3)

pub returns : goal.returns
returns c s h =
    let a = c.args in
    let few = c.requires.3 in
    let x = c.page_at-x in
    let y = c.page_at-y in
    let i = x.ensures.1 s.pages s.lefts h.pages in
    let j = y.ensures.1 s.pages s.lefts h.pages in
    let g = c.unlink_row.ensures.0 in
    let r : Rec = rec c.unlink_row.result in
    subst (Shows a.n a.m _ _ _) (unlink_is h few a.p a.l a.r x.result y.result i j r g)
    (c.join.ensures (emit r s) (c.emit-u.ensures s h (unlink_keeping h few a.p a.l a.r x.result y.result i j r g c.ranges.l.fits c.ranges.r.fits)))
