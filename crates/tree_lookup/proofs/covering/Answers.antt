-- `covering`: by the high key of page p.
use mathlib.Core.Path.{refl}
use Prim.Native.Nat.{◌<◌, ◌≤◌}
use native.Mathlib.Omega.{arith}
use Rattle.law_bytes.specs.PageAreas.{pages_of}
use Rattle.tree_lookup.specs.Descent.{covering_here, covering_after}
use Rattle.tree_lookup.proofs.covering.Goals as goal

pub returns-then-k-x : goal.returns-then-k-x
returns-then-k-x c =
    let a = c.args in
    let h : a.k ≤ c.nth_page-x.result.high = omega arith in
    covering_here a.k a.p (pages_of a.n a.pages.now) _ c.nth_page-x.ensures h

pub returns : goal.returns
returns c =
    let a = c.args in
    let h : c.nth_page-x.result.high < a.k = omega arith in
    covering_after a.k a.p (pages_of a.n a.pages.now) _ _ _ c.nth_page-x.ensures h refl c.nth_page.ensures
