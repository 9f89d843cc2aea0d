-- `copy_unlinked`: of a leaf the first word is written again.
use borrow.Author.Rules.{rules}
use mathlib.Core.Path.{◌∙◌, ap}
use mathlib.Core.List.{List}
use Prim.Native.Nat.{ℕ}
use Rattle.def_layout.specs.Numbers.{put32}
use Rattle.law_bytes.specs.Patch.{patch}
use Rattle.codec_page.specs.Working.{leaf_copied, other_copied}
use Rattle.codec_page.proofs.copy_unlinked.Goals as goal

pub returns-then-is_leaf : goal.returns-then-is_leaf
returns-then-is_leaf c =
    let a = c.args in
    let q = c.requires in
    c.set32.ensures
    ∙ ap (λ (s : List ℕ). patch s 0 (put32 c.unlinked.result)) c.copy.ensures
    ∙ ap (λ (x : ℕ). patch a.src.now 0 (put32 x)) c.unlinked.ensures
    ∙ leaf_copied a.src.now (λ i. (c.shared_slice_known-1.given i).fits) q.1 _ c.get32-w.ensures (search rules)

pub returns-else-is_leaf : goal.returns-else-is_leaf
returns-else-is_leaf c =
    let a = c.args in
    let q = c.requires in
    c.copy.ensures ∙ other_copied a.src.now (λ i. (c.shared_slice_known-1.given i).fits) q.1 _ c.get32-w.ensures (search rules)
