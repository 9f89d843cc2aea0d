-- `take_out`: the old entries above the place, and a zero entry behind them, are one patch.
use Prim.Native.Nat.{ℕ, ◌+◌, ◌-◌, ◌*◌}
use native.Mathlib.Omega.{arith}
use mathlib.Core.Path.{◌≡◌, ap, ◌∙◌}
use mathlib.Core.List.{List, ◌++◌}
use lib.ListN.{length, length-append}
use Rattle.def_layout.specs.Numbers.{put32}
use Rattle.law_bytes.specs.Words.{part, put32_length}
use Rattle.law_bytes.specs.Patch.{patch, then_patch, part_length}
use Rattle.record_leaf.specs.Bytes.{part_within}
use Rattle.record_leaf.proofs.take_out.Goals as goal

pub returns : goal.returns
returns c =
    let a = c.args in
    let p = c.requires in
    let s₁ = c.copy_part.ensures in
    let s₂ = c.set32.ensures in
    let s₃ = c.set32-2.ensures in
    let b : List ℕ = a.b.now in
    let m : ℕ = 8 * (a.n - 1 - a.i) in
    let w : List ℕ = part b (24 + 8 * a.i) m in
    let z : 16 + (8 + 8 * a.i) ≡ 24 + 8 * a.i = omega arith in
    let l : length w ≡ m = part_length b (24 + 8 * a.i) m (omega (arith, p.0, p.3, p.4)) in
    let moved =
    s₁ ∙ ap (λ (v : List ℕ). patch b (16 + 8 * a.i) v)
    (ap (λ (v : List ℕ). part v (8 + 8 * a.i) m) p.2 ∙ part_within b 16 112 (8 + 8 * a.i) m (omega (arith, p.3, p.4)) ∙ ap (λ (j : ℕ). part b j m) z) in
    then_patch b _ _ (16 + 8 * a.i) (12 + 8 * a.n) (w ++ put32 0) (put32 0)
    (then_patch b _ _ (16 + 8 * a.i) (8 + 8 * a.n) w (put32 0) moved s₂ (omega (arith, p.3, p.4, l)) (omega (arith, p.0, p.3)))
    s₃ (omega (arith, p.3, p.4, l, length-append w (put32 0), put32_length 0)) (omega (arith, p.0, p.3))
