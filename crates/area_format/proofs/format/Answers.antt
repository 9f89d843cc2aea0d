-- `format`: what is stored are the working areas as they were just formatted.
use Prim.Native.Nat.{◌/◌}
use mathlib.Core.List.{[]}
use lib.ListN.{length}
use Rattle.area_format.specs.Started.{started, none_fit}
use Rattle.area_format.proofs.format.Goals as goal

pub returns : goal.returns
returns c =
    let a = c.args in
    let work = c.format_work in
    let stored = c.store_started in
    started [] a.budget a.wp.now a.sp.now a.wl.now a.sl.now work.new.wp stored.new.sp work.new.wl stored.new.sl (none_fit (length a.wp.now / 128) c.requires.1) work.ensures.0 work.ensures.1 work.auto.wp work.auto.wl stored.ensures
