-- `stamp`: one word, then the other.
use mathlib.Core.Path.{◌∙◌, ap}
use mathlib.Core.List.{List}
use Prim.Native.Nat.{ℕ}
use Rattle.def_layout.specs.Numbers.{put32}
use Rattle.law_bytes.specs.Patch.{patch}
use Rattle.record_leaf.proofs.stamp.Goals as goal

pub returns : goal.returns
returns c =
    let a = c.args in
    c.set32-2.ensures ∙ ap (λ (s : List ℕ). patch s 8 (put32 a.own)) c.set32.ensures
