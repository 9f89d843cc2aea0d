-- `load_pages`: after p turns the first p pages are written.
use native.Mathlib.Omega.{arith}
use Prim.Native.Nat.{◌/◌}
use mathlib.Core.Path.{refl, ◌∙◌}
use lib.ListN.{length}
use Rattle.def_model.specs.Loading.{columns}
use Rattle.theory_load.specs.Columns.{columns_length}
use Rattle.area_load.specs.Columns.{loaded_page}
use Rattle.area_load.specs.Pages.{write_none, write_next, written_all}
use Rattle.area_load.proofs.load_pages.Goals as goal

pub loop-p-init : goal.loop-p-init
loop-p-init c = (refl, write_none _ _)

pub overflow_mul-p : goal.overflow_mul-p
overflow_mul-p c = let f = c.slice_known-1.given in omega arith

pub load_page-requires : goal.load_page-requires
load_page-requires c = c.requires.0

pub write_at-requires : goal.write_at-requires
write_at-requires c = let l = c.loop-p.invariant.0 in let h = c.requires.1 in omega arith

pub loop-p-preserved : goal.loop-p-preserved
loop-p-preserved c =
    let l = c.loop-p in
    let a = c.args in
    let k = c.write_at.auto.pages in (
      k ∙ l.invariant.0,
      write_next (loaded_page (columns a.keys.now a.values.now)) l.p a.wp.now l.wp c.write_at.new.pages _ l.invariant.1 c.write_at.ensures c.load_page.ensures,
    )

pub shape_of-wp : goal.shape_of-wp
shape_of-wp c = c.loop-p.invariant.0

pub returns : goal.returns
returns c =
    let l = c.loop-p in
    let a = c.args in
    let n = columns_length a.keys.now a.values.now c.requires.0.same in
    let h = c.requires.1 in
    let m = c.requires.2 in
    written_all (columns a.keys.now a.values.now) (length a.wp.now / 128) l.p a.wp.now l.wp (rw n (omega arith)) (omega arith) (omega arith) l.invariant.1
