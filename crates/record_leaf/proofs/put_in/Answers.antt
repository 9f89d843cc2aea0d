-- `put_in`: the key, the value, and the old entries behind them are one patch.
use Prim.Native.Nat.{ℕ, ◌+◌, ◌-◌, ◌*◌}
use native.Mathlib.Omega.{arith}
use mathlib.Core.Path.{ap, ◌∙◌}
use mathlib.Core.List.{List, ◌++◌}
use lib.ListN.{length-append}
use Rattle.def_layout.specs.Numbers.{put32}
use Rattle.law_bytes.specs.Words.{part, put32_length}
use Rattle.law_bytes.specs.Patch.{patch, then_patch}
use Rattle.record_leaf.specs.Bytes.{part_within}
use Rattle.record_leaf.proofs.put_in.Goals as goal

pub returns : goal.returns
returns c =
    let a = c.args in
    let p = c.requires in
    let s₁ = c.set32.ensures in
    let s₂ = c.set32-2.ensures in
    let s₃ = c.copy_part.ensures in
    let b : List ℕ = a.b.now in
    then_patch b _ _ (16 + 8 * a.i) (24 + 8 * a.i) (put32 a.k ++ put32 a.v) _
    (then_patch b _ _ (16 + 8 * a.i) (20 + 8 * a.i) (put32 a.k) (put32 a.v) s₁ s₂ (omega (arith, put32_length a.k)) (omega (arith, p.0, p.3, p.4)))
    s₃ (omega (arith, length-append (put32 a.k) (put32 a.v), put32_length a.k, put32_length a.v)) (omega (arith, p.0, p.3, p.4))
    ∙ ap (λ (w : List ℕ). patch b (16 + 8 * a.i) (put32 a.k ++ put32 a.v ++ w))
    (ap (λ (w : List ℕ). part w (8 * a.i) (8 * (a.n - a.i))) p.2 ∙ part_within b 16 112 (8 * a.i) (8 * (a.n - a.i)) (omega (arith, p.3, p.4)))
