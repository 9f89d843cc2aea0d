-- `link_after`: what is there is linked already, or it is linked.
use mathlib.Core.Path.{subst}
use native.Mathlib.Omega.{arith}
use Rattle.tree_write.specs.Shows.{Shows}
use Rattle.tree_remove.specs.Joins.{after_stays, after_links}
use Rattle.tree_remove.proofs.link_after.Goals as goal

pub returns-then-x-w : goal.returns-then-x-w
returns-then-x-w c s h =
    let a = c.args in
    subst (Shows a.n a.m _ _ _) (after_stays s a.p a.r a.w _ (c.page_at-x.ensures.1 s.pages s.lefts h.pages) c.if-x-w.true) h

pub returns : goal.returns
returns c s h =
    let a = c.args in
    subst (Shows a.n a.m _ _ _) (after_links s a.p a.r a.w _ (c.page_at-x.ensures.1 s.pages s.lefts h.pages) (omega (arith, c.if-x-w.false))) (c.link_child.ensures s h)
