-- `first_leaf`: the first leaf below the root is the one below the page that the way down has come to.
use native.Mathlib.Omega.{arith}
use mathlib.Core.Path.{sym, ap, ◌∙◌}
use Rattle.def_layout.specs.Pages.{Page}
use Rattle.def_model.specs.TreeRules.{first_child}
use Rattle.law_bytes.specs.PageAreas.{pages_of}
use Rattle.tree_links.specs.Leaves.{down_from, down_step, down_end}
use Rattle.tree_links.proofs.first_leaf.Goals as goal

pub loop-init : goal.loop-init
loop-init c = let a = c.args in down_from (pages_of a.n a.pages.now) _ _ (omega arith) c.nth_page-root.ensures

pub loop-preserved : goal.loop-preserved
loop-preserved c =
    let a = c.args in
    let l = c.loop in
    sym (down_step _ _ (pages_of a.n a.pages.now) l.p _ (omega arith) (c.first_child-p.ensures ∙ ap (λ (x : Page). first_child x.entries) c.nth_page.ensures)) ∙ l.invariant

pub returns : goal.returns
returns c =
    let a = c.args in
    let l = c.loop in
    down_end _ (pages_of a.n a.pages.now) l.p (omega arith) l.invariant
