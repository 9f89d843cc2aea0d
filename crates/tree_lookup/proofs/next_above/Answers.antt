-- `next_above`: no key is above the last one; else the leaf has it, or the leaf after it.
use mathlib.Core.Path.{◌∙◌}
use native.Mathlib.Numerals.{add-one}
use native.Mathlib.Omega.{arith}
use Rattle.law_bytes.specs.PageAreas.{pages_of}
use Rattle.tree_lookup.specs.Descent.{next_top, next_here, next_after}
use Rattle.tree_lookup.proofs.next_above.Goals as goal

pub returns-in_err-above : goal.returns-in_err-above
returns-in_err-above c =
    let a = c.args in
    rw c.from_residual.ensures (next_top a.k (pages_of a.n a.pages.now) (omega (arith, c.in_err-above.ensures)))

pub returns-in-Some : goal.returns-in-Some
returns-in-Some c =
    let a = c.args in
    let ok = c.in_ok-above.ensures in
    next_here a.k (pages_of a.n a.pages.now) _ _ (omega (arith, ok.0)) (ok.1 ∙ add-one a.k) c.leaf_of.ensures.1 _ c.in-Some.ensures

pub returns-in-None : goal.returns-in-None
returns-in-None c =
    let a = c.args in
    let ok = c.in_ok-above.ensures in
    next_after a.k (pages_of a.n a.pages.now) _ _ (omega (arith, ok.0)) (ok.1 ∙ add-one a.k) c.leaf_of.ensures.1 _ _ c.in-None.ensures c.nth_page.ensures c.first_of.ensures
