-- `write_at`: the lent part came back as the page's bytes.
use Prim.Native.Nat.{◌+◌}
use native.Mathlib.Omega.{arith}
use Rattle.def_layout.specs.PageBytes.{page_bytes}
use Rattle.law_bytes.specs.Patch.{patch_back}
use Rattle.codec_page.specs.Typed.{typed}
use Rattle.law_bytes.specs.PageBytes.{page_bytes_length}
use Rattle.codec_page.proofs.write_at.Goals as goal

pub returns : goal.returns
returns c =
    let a = c.args in
    rw c.write_page.ensures (patch_back a.pages.now a.a (a.a + 128) (page_bytes (typed a.p)) (omega (arith, page_bytes_length (typed a.p))))
