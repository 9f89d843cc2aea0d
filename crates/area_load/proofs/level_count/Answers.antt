-- `level_count`: one height more at each turn.
use mathlib.Core.Path.{◌≡◌, refl, ap, ◌∙◌}
use native.Mathlib.Omega.{arith}
use Rattle.theory_load.specs.Rungs.{count_up, count_next}
use Rattle.area_load.proofs.level_count.Goals as goal

pub loop-init : goal.loop-init
unfolding count_up
loop-init c = (refl, omega arith)

pub overflow_add-count : goal.overflow_add-count
overflow_add-count c = omega arith

pub loop-preserved : goal.loop-preserved
loop-preserved c = (count_next _ _ _ c.loop.invariant.0, omega arith)

pub returns : goal.returns
returns c = c.loop.invariant.0 ∙ ap (λ h. count_up h c.args.n) (let e : c.loop.counter ≡ c.args.height = omega arith in e)
