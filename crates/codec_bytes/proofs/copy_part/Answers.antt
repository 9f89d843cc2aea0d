-- `copy_part`: the lent part came back as the source's.
use Prim.Native.Nat.{◌+◌, ◌-◌}
use native.Mathlib.Omega.{arith}
use native.Mathlib.Nat.{add-sub_cancel_left}
use mathlib.Core.Path.{◌≡◌}
use Rattle.law_bytes.specs.Words.{part}
use Rattle.law_bytes.specs.Patch.{patch_back, part_length}
use Rattle.codec_bytes.proofs.copy_part.Goals as goal

pub returns : goal.returns
returns c =
    let a = c.args in
    let k : a.b + a.n - a.b ≡ a.n = add-sub_cancel_left a.b a.n in
    let e : c.copy.new.dst ≡ part a.src.now a.b a.n = rw k at c.copy.ensures in
    rw e (patch_back a.dst.now a.a (a.a + a.n) (part a.src.now a.b a.n) (omega (arith, part_length a.src.now a.b a.n (omega arith))))
