-- `put_record`: the record goes to the leaf that was found.
use Rattle.def_layout.specs.Records.{kind_of}
use Rattle.def_model.specs.Update.{find_add}
use Rattle.tree_add.specs.Rooms.{put_at}
use Rattle.tree_add.specs.Rows.{data_keeping}
use Rattle.tree_add.proofs.put_record.Goals as goal

pub returns : goal.returns
returns c s h =
    let a = c.args in
    let f = c.ranges in
    let d = c.find_add-a.ensures s h in
    let g = c.data_row-r.ensures.0 in
    put_at (kind_of a.kind) a.batch a.previous a.k a.v s c.find_add-a.result.page _ d.page g
    (c.emit.ensures (find_add a.k s).run d.run (data_keeping d.run c.requires.0.3 a.kind a.batch a.previous _ a.k a.v _ c.requires.1 f.k.fits f.v.fits g))
