-- `format_pages`: two pages written over zeros.
use Prim.Native.Nat.{◌/◌}
use native.Mathlib.Omega.{arith}
use lib.ListN.{length}
use Rattle.codec_page.specs.Typed.{typed}
use Rattle.area_format.specs.Started.{pages_formatted}
use Rattle.area_format.proofs.format_pages.Goals as goal

pub returns : goal.returns
returns c =
    let a = c.args in
    let zeroed = c.zero in
    let first = c.load_map in
    let root = c.first_root in
    pages_formatted zeroed.new.dst c.write_at.new.pages c.write_at-2.new.pages (typed first.result) (typed root.result) (length a.wp.now) (length a.wp.now / 128) zeroed.ensures first.ensures c.write_at.ensures root.ensures c.write_at-2.ensures (omega (arith, c.requires)) (omega (arith, c.requires))
