-- `find_add`: the root raised, down to the leaf, and room there.
use Rattle.def_model.specs.Update.{raise_root, descend_add}
use Rattle.def_layout.specs.Pages.{at}
use Rattle.tree_add.specs.Rooms.{added_at}
use Rattle.tree_add.proofs.find_add.Goals as goal

pub returns : goal.returns
returns c s h =
    let a = c.args in
    let g = c.raise_root-u.ensures s h in
    let d = c.descend_add-a.ensures (raise_root s) g in
    added_at a.k s c.descend_add-a.result _ d.page (c.make_room.ensures (descend_add (at (raise_root s).pages 1).level a.k 1 (raise_root s)).run d.run)
