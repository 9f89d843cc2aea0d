-- `left_of`: by the page's first word, if it is a leaf's.
use mathlib.Core.Path.{sym, ◌∙◌}
use borrow.Author.Tests.{not-true, not-false}
use native.Mathlib.Omega.{arith}
use Rattle.def_layout.specs.PageBytes.{left_in}
use Rattle.law_bytes.specs.Pieces.{read_all_past}
use Rattle.codec_page.specs.Working.{no_left_there, left_there}
use Rattle.codec_page.proofs.left_of.Goals as goal

pub returns-then-p-n : goal.returns-then-p-n
returns-then-p-n c =
    let a = c.args in
    sym (read_all_past 128 left_in a.n a.p a.pages.now 0 c.if-p-n.true)

pub returns-then-not-is_leaf : goal.returns-then-not-is_leaf
returns-then-not-is_leaf c =
    let a = c.args in
    let q = c.requires in
    no_left_there a.pages.now (λ i. (c.shared_slice_known-1.given i).fits) a.n a.p q.0 (omega arith) _ c.get32-w.ensures (sym c.is_leaf.ensures ∙ not-true _ c.if-not-is_leaf.true-raw)

pub returns : goal.returns
returns c =
    let a = c.args in
    let q = c.requires in
    left_there a.pages.now (λ i. (c.shared_slice_known-1.given i).fits) a.n a.p q.0 (omega arith) _ c.get32-w.ensures (sym c.is_leaf.ensures ∙ not-false _ c.if-not-is_leaf.false-raw)
