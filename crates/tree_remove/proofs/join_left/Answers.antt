-- `join_left`: by whether q comes right after d.
use mathlib.Core.Path.{subst}
use Rattle.tree_write.specs.Shows.{Shows}
use Rattle.tree_remove.specs.Joins.{left_child, left_linked}
use Rattle.tree_remove.proofs.join_left.Goals as goal

pub returns-then-x-q : goal.returns-then-x-q
returns-then-x-q c s h =
    let a = c.args in
    subst (Shows a.n a.m _ _ _) (left_child s a.p a.d a.q _ (c.page_at-x.ensures.1 s.pages s.lefts h.pages) c.if-x-q.true) (c.unlink_join.ensures s h)

pub returns : goal.returns
returns c s h =
    let a = c.args in
    subst (Shows a.n a.m _ _ _) (left_linked s a.p a.d a.q _ (c.page_at-x.ensures.1 s.pages s.lefts h.pages) c.if-x-q.false) (c.unlink_join-2.ensures s h)
