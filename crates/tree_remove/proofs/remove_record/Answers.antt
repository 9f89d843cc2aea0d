-- `remove_record`: the record goes to the leaf that was come to.
use native.Mathlib.Omega.{arith}
use Rattle.def_layout.specs.Records.{kind_of}
use Rattle.def_model.specs.Update.{raise_root}
use Rattle.tree_add.specs.Rows.{data_keeping}
use Rattle.tree_remove.specs.Joins.{leaf_at, removed_at}
use Rattle.tree_remove.proofs.remove_record.Goals as goal

pub emit-requires : goal.emit-requires
emit-requires c =
    let p = c.requires in
    let d = c.descend_remove-a.auto in
    let r = c.raise_root-u.auto in
    ((omega (arith, p.0, r.wp, d.wp), p.0.1, omega (arith, p.0, r.wl, d.wl), p.0.3), c.data_row-r.ensures.1)

pub returns : goal.returns
returns c s h =
    let a = c.args in
    let f = c.ranges in
    let p = c.requires in
    let d = c.descend_remove-a.ensures (raise_root s) (c.raise_root-u.ensures s h) in
    let g = c.data_row-r.ensures.0 in
    removed_at (kind_of a.kind) a.batch a.previous a.k a.v s c.descend_remove-a.result.page _ d.page g
    (c.emit.ensures (leaf_at a.k s).run d.run (data_keeping d.run p.0.3 a.kind a.batch a.previous _ a.k a.v _ p.1 f.k.fits f.v.fits g))
