-- `stocked`: it has enough, or room is made above it, it is joined and the page covering k found again.
use native.Mathlib.Omega.{arith}
use Rattle.def_model.specs.Update.{make_room}
use Rattle.tree_remove.specs.Joins.{stocked_stays, stocked_joins}
use Rattle.tree_remove.proofs.stocked.Goals as goal

pub returns-then-x-ne4 : goal.returns-then-x-ne4
returns-then-x-ne4 c e h =
    let a = c.args in
    stocked_stays h a.k _ (c.page_at-x.ensures.1 e.run.pages e.run.lefts h.run.pages) c.if-x-ne4.true

pub refind-requires : goal.refind-requires
refind-requires c = let p = c.requires in (omega (arith, p, c.make_room-a.auto.wp, c.restock-u.auto.wp), p.1)

pub returns : goal.returns
returns c e h =
    let a = c.args in
    let r = c.make_room-a.ensures e.run h.run in
    let x = c.page_at-x in
    stocked_joins h a.k x.result (x.ensures.1 e.run.pages e.run.lefts h.run.pages) _ c.make_room-a.result.page _ (omega (arith, c.if-x-ne4.false)) r.page
    (c.restock-u.ensures (make_room a.k a.d.parent e.run).run r.run)
    (λ y w. c.refind.ensures y w.pages)
