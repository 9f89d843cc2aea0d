-- `previous_below`: none is below 0; else the leaf has it, or the leaf to its left.
use mathlib.Core.Path.{◌≡◌, ◌∙◌, ap}
use Prim.Native.Nat.{◌-◌}
use native.Mathlib.Omega.{arith}
use Rattle.def_layout.specs.Pages.{at}
use Rattle.def_model.specs.Lookup.{leaf_of}
use Rattle.law_bytes.specs.PageAreas.{pages_of, lefts_of}
use Rattle.tree_lookup.specs.Backwards.{page_short, previous_zero, previous_here, previous_left}
use Rattle.tree_lookup.proofs.previous_below.Goals as goal

pub returns-in_err-below : goal.returns-in_err-below
returns-in_err-below c fits =
    let a = c.args in
    rw c.from_residual.ensures (previous_zero a.k (pages_of a.n a.pages.now) (lefts_of a.n a.pages.now) (omega (arith, c.in_err-below.ensures)))

pub returns-in-Some : goal.returns-in-Some
returns-in-Some c fits =
    let a = c.args in
    let xs = pages_of a.n a.pages.now in
    let ok = c.in_ok-below.ensures in
    let below : c.in_ok-below.below ≡ a.k - 1 = omega (arith, ok.1) in
    let leaf = c.leaf_of-leaf.ensures in
    previous_here a.k xs (lefts_of a.n a.pages.now) (omega (arith, ok.0)) _ _ (leaf.0 ∙ ap (λ i. leaf_of i xs) below) (leaf.1 ∙ ap (λ i. at xs (leaf_of i xs)) below) _
    (c.in-Some.ensures (page_short xs fits _ _ leaf.1))

pub returns-in-None : goal.returns-in-None
returns-in-None c fits =
    let a = c.args in
    let xs = pages_of a.n a.pages.now in
    let ok = c.in_ok-below.ensures in
    let below : c.in_ok-below.below ≡ a.k - 1 = omega (arith, ok.1) in
    let leaf = c.leaf_of-leaf.ensures in
    previous_left a.k xs (lefts_of a.n a.pages.now) (omega (arith, ok.0)) _ _ (leaf.0 ∙ ap (λ i. leaf_of i xs) below) (leaf.1 ∙ ap (λ i. at xs (leaf_of i xs)) below) _ _ _
    (c.in-None.ensures (page_short xs fits _ _ leaf.1)) c.left_of-left.ensures c.nth_page.ensures (c.last_of.ensures (page_short xs fits _ _ c.nth_page.ensures))
