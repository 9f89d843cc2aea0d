-- `load`: what is stored are the working areas as they were just loaded.
use Prim.Native.Nat.{suc, ◌/◌, ◌≤◌}
use mathlib.Core.Path.{sym, subst}
use lib.ListN.{length}
use Rattle.def_model.specs.Loading.{columns, loaded_count}
use Rattle.theory_load.specs.Columns.{columns_length}
use Rattle.area_format.specs.Started.{started}
use Rattle.area_format.proofs.load.Goals as goal

pub load_work-requires : goal.load_work-requires
load_work-requires c = let p = c.requires in (p.0.0, p.0.4, p.1, p.2)

pub returns : goal.returns
returns c =
    let a = c.args in
    let pre = c.requires in
    let work = c.load_work in
    let stored = c.store_started in
    let n = columns_length a.keys.now a.values.now pre.1.same in
    started (columns a.keys.now a.values.now) a.budget a.wp.now a.sp.now a.wl.now a.sl.now work.new.wp stored.new.sp work.new.wl stored.new.sl (subst (λ k. suc (loaded_count k) ≤ length a.wp.now / 128) (sym n) pre.2) work.ensures.0 work.ensures.1 work.auto.wp work.auto.wl stored.ensures
