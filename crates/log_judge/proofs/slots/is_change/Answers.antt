-- `is_change`: of a record of kind 9 to 15 in order, the step leaves rows and marks.
use mathlib.Core.Path.{sym, ◌∙◌}
use Rattle.def_base.specs.Tests.{clash}
use Rattle.log_chain.specs.Ends.{passes}
use Rattle.log_judge.specs.Turns.{turned_step}
use Rattle.log_judge.proofs.slots.is_change.Goals as goal

pub returns-then-get32-lt-FIRST_CHANGE : goal.returns-then-get32-lt-FIRST_CHANGE
returns-then-get32-lt-FIRST_CHANGE c on = clash (sym on)

pub returns-in_default : goal.returns-in_default
returns-in_default c on = clash (sym on)

pub returns-then-kind_number-lt9 : goal.returns-then-kind_number-lt9
returns-then-kind_number-lt9 c on = clash (sym on)

pub returns : goal.returns
returns c on o =
    let a = c.args in
    let k = c.kind_number in
    turned_step a.n a.m a.log.now a.i o _ _ _ _ _ _ _ _ _ _ _ _ _ _ c.read_at-s.ensures c.in-Full.is (sym c.in_order.ensures ∙ on) _ k.ensures.0 _
    (λ log bs x e h s w n. passes o _ c.if-kind_number-lt9.false k.ensures.2 log bs x h s w n)
