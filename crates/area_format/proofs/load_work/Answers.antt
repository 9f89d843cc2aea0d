-- `load_work`: empty slots are zeros.
use Prim.Native.Nat.{◌/◌}
use native.Mathlib.Omega.{arith}
use lib.ListN.{length}
use Rattle.area_format.specs.Started.{log_formatted}
use Rattle.area_format.proofs.load_work.Goals as goal

pub load_pages-requires : goal.load_pages-requires
load_pages-requires c = let p = c.requires in (p.2, p.0, p.3)

pub returns : goal.returns
returns c =
    let a = c.args in
    let zeroed = c.zero in
    (c.load_pages.ensures, log_formatted zeroed.new.dst (length a.wl.now) (length a.wl.now / 144) zeroed.ensures (omega (arith, c.requires)))
