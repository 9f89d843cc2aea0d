-- `set32`: the four bytes are one patch. The number is taken by its value, not by the text that gives it.
use Rattle.std.proofs.Common.{◌≡◌, refl, ◌∙◌, ap, arith}
use Prim.Native.Nat.{◌+◌}
use Rattle.def_layout.specs.Numbers.{put32}
use Rattle.law_bytes.specs.Patch.{patch_back}
use Rattle.codec_bytes.proofs.set32.Goals as goal

pub returns : goal.returns
unfolding put32
returns c =
    let a = c.args in
    let e : c.copy_from_slice.new.self ≡ put32 a.x = c.copy_from_slice.ensures.after ∙ c.to_be_bytes.ensures ∙ ap put32 (omega arith) in
    rw e (patch_back a.s.now a.i (a.i + 4) (put32 a.x) refl)
