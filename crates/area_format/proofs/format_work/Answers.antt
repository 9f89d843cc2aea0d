-- `format_work`: empty slots are zeros.
use Prim.Native.Nat.{◌/◌}
use native.Mathlib.Omega.{arith}
use lib.ListN.{length}
use Rattle.area_format.specs.Started.{log_formatted}
use Rattle.area_format.proofs.format_work.Goals as goal

pub returns : goal.returns
returns c =
    let a = c.args in
    let zeroed = c.zero in
    (c.format_pages.ensures, log_formatted zeroed.new.dst (length a.wl.now) (length a.wl.now / 144) zeroed.ensures (omega (arith, c.requires)))
