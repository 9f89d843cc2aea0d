-- `store_at`: the lent part came back as the working page without its left link.
use Prim.Native.Nat.{◌+◌, ◌-◌}
use native.Mathlib.Omega.{arith}
use native.Mathlib.Nat.{add-sub_cancel_left}
use mathlib.Core.Path.{◌≡◌, ◌∙◌}
use Rattle.def_layout.specs.PageBytes.{without_left}
use Rattle.law_bytes.specs.Words.{part}
use Rattle.law_bytes.specs.Patch.{patch_back, part_length}
use Rattle.codec_page.specs.Working.{without_length}
use Rattle.codec_page.proofs.store_at.Goals as goal

pub returns : goal.returns
returns c =
    let a = c.args in
    let k : a.a + 128 - a.a ≡ 128 = add-sub_cancel_left a.a 128 in
    let e : c.copy_unlinked.new.dst ≡ without_left (part a.work.now a.a 128) = rw k at c.copy_unlinked.ensures in
    rw e (patch_back a.stable.now a.a (a.a + 128) (without_left (part a.work.now a.a 128)) (omega (arith, without_length (part a.work.now a.a 128) ∙ part_length a.work.now a.a 128 (omega arith))))
