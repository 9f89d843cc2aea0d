-- `make_room`: there is room, or the page is split and the half found.
use native.Mathlib.Omega.{arith}
use Rattle.def_model.specs.Update.{split_page}
use Rattle.tree_add.specs.Rooms.{room_stays, room_split}
use Rattle.tree_add.proofs.make_room.Goals as goal

pub returns-then-x-ne-MOST_ENTRIES : goal.returns-then-x-ne-MOST_ENTRIES
returns-then-x-ne-MOST_ENTRIES c s h =
    let a = c.args in
    room_stays h a.k a.p _ (c.page_at-x.ensures.1 s.pages s.lefts h.pages) c.if-x-ne-MOST_ENTRIES.true

pub returns : goal.returns
returns c s h =
    let a = c.args in
    let g = c.split_page-u.ensures s h in
    room_split h a.k a.p _ (c.page_at-x.ensures.1 s.pages s.lefts h.pages) _ _ (omega (arith, c.if-x-ne-MOST_ENTRIES.false)) g (c.half.ensures (split_page a.p s).pages (split_page a.p s).lefts g.pages)
