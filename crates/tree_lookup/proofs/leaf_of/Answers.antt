-- `leaf_of`: the leaf from the root is the leaf from the page that the way down has come to.
use native.Mathlib.Omega.{arith}
use mathlib.Core.Path.{◌∙◌}
use Rattle.law_bytes.specs.PageAreas.{pages_of}
use Rattle.tree_lookup.specs.Descent.{leaf_from, leaf_step, leaf_end}
use Rattle.tree_lookup.proofs.leaf_of.Goals as goal

pub loop-init : goal.loop-init
loop-init c =
    let a = c.args in
    leaf_from a.k (pages_of a.n a.pages.now) _ _ c.nth_page-root.ensures (omega arith)

pub loop-preserved : goal.loop-preserved
loop-preserved c =
    let a = c.args in
    let l = c.loop in
    l.invariant ∙ leaf_step a.k l.p (pages_of a.n a.pages.now) _ _ _ (omega arith) c.child_for-p.ensures

pub returns : goal.returns
returns c =
    let a = c.args in
    let l = c.loop in
    leaf_end a.k l.p (pages_of a.n a.pages.now) _ _ (omega arith) l.invariant c.covering.ensures
