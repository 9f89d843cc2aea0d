-- `descend_add`: level by level.
use mathlib.Core.Path.{refl, ◌∙◌}
use native.Mathlib.Omega.{arith}
use Rattle.tree_add.specs.Rooms.{down_start, down_step, down_end, level_is}
use Rattle.tree_add.proofs.descend_add.Goals as goal

pub loop-init : goal.loop-init
loop-init c = (refl, refl, down_start c.args.k _ _ _ (omega arith))

pub direct-d-requires : goal.direct-d-requires
direct-d-requires c =
    let p = c.requires in
    let i = c.loop.invariant in
    (omega (arith, p, i.0), p.1, omega (arith, p, i.1), p.3)

pub loop-preserved : goal.loop-preserved
loop-preserved c =
    let a = c.args in
    let l = c.loop in
    (c.direct-d.auto.wp ∙ l.invariant.0, c.direct-d.auto.wl ∙ l.invariant.1, down_step a.k _ _ l.at.page _ _ c.direct-d.result (omega arith) l.invariant.2 c.direct-d.ensures)

pub shape_of-wp : goal.shape_of-wp
shape_of-wp c = c.loop.invariant.0

pub shape_of-wl : goal.shape_of-wl
shape_of-wl c = c.loop.invariant.1

pub returns : goal.returns
returns c s h =
    let a = c.args in
    let l = c.loop in
    down_end a.k _ _ l.at.page _ s (omega arith) (level_is (c.page_at-root.ensures.1 s.pages s.lefts h.pages)) refl l.invariant.2 h
