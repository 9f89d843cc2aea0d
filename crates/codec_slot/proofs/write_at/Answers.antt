-- `write_at`: the lent part came back as the slot's bytes.
use mathlib.Core.Path.{◌∙◌, ap, ◌≡◌}
use Prim.Native.Nat.{ℕ, ◌+◌, ◌-◌}
use mathlib.Core.List.{List}
use native.Mathlib.Nat.{add-sub_cancel_left}
use native.Mathlib.Omega.{arith}
use Rattle.def_layout.specs.RecordBytes.{slot_bytes}
use Rattle.law_bytes.specs.Words.{part}
use Rattle.law_bytes.specs.Patch.{patch_back, part_length}
use Rattle.codec_slot.specs.Typed.{typed}
use Rattle.codec_slot.specs.Written.{slot_bytes_length}
use Rattle.codec_slot.proofs.write_at.Goals as goal

pub returns : goal.returns
returns c =
    let a = c.args in
    let k : a.at + 144 - a.at ≡ 144 = add-sub_cancel_left a.at 144 in
    let p : List ℕ = part a.log.now a.at 144 in
    let e = c.write_slot.ensures ∙ ap (λ (n : ℕ). slot_bytes (typed (part a.log.now a.at n) a.s)) k in
    rw e (patch_back a.log.now a.at (a.at + 144) (slot_bytes (typed p a.s)) (omega (arith, slot_bytes_length p a.s.header a.s.entries (part_length a.log.now a.at 144 (omega arith)))))
