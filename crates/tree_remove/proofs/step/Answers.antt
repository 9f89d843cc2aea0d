-- `step`: the parent is no root, or has more links, or is lowered.
use mathlib.Core.Path.{subst}
use native.Mathlib.Omega.{arith}
use Rattle.tree_add.specs.Rooms.{ShowsAt}
use Rattle.tree_remove.specs.Joins.{step_other, step_many, step_lowers}
use Rattle.tree_remove.proofs.step.Goals as goal
use Rattle.tree_remove.proofs.step.Goals.{then-d-ne1-via-then-d-ne1, then-d-ne1-via-else-d-ne1+then-page_at-ne1}

pub returns-then-d-ne1 : goal.returns-then-d-ne1
returns-then-d-ne1 c e h =
    let a = c.args in
    elim c.then-d-ne1.branch [
      | then-d-ne1-via-then-d-ne1 w ↦ subst (ShowsAt a.n a.m _ _ _) (step_other h a.k w.if-d-ne1.true) (c.stocked.ensures e h)
      | then-d-ne1-via-else-d-ne1+then-page_at-ne1 w ↦
          subst (ShowsAt a.n a.m _ _ _) (step_many h a.k _ (omega (arith, w.if-d-ne1.false)) (w.page_at.ensures.1 e.run.pages e.run.lefts h.run.pages) w.if-page_at-ne1.true) (c.stocked.ensures e h)
    ]

pub returns : goal.returns
returns c e h =
    let a = c.args in
    step_lowers h a.k _ (omega (arith, c.if-d-ne1.false)) (c.page_at.ensures.1 e.run.pages e.run.lefts h.run.pages) _ (omega (arith, c.if-page_at-ne1.false)) (c.lower_root-u.ensures e.run h.run)
