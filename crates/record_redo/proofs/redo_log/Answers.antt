-- `redo_log`: after i turns the first i records are done, and their slots are copied.
use borrow.Author.Rules.{rules}
use native.Mathlib.Omega.{arith}
use mathlib.Core.Path.{refl, ◌∙◌}
use Rattle.record_redo.specs.Logs.{no_turn, turn_on, turn_off, turns_end}
use Rattle.record_redo.proofs.redo_log.Goals as goal

pub loop-i-init : goal.loop-i-init
loop-i-init c = record { pages_size = refl; most = search rules; turned = no_turn _ _ _ _ _; to_size = refl; copied = refl }

pub returns-in_err-applied-clause-answer : goal.returns-in_err-applied-clause-answer
returns-in_err-applied-clause-answer c xs q h g e =
    let l = c.loop-i in
    rw c.from_residual.ensures
    (turn_off c.redo_slot.new.pages l.i l.count _ c.in_err-applied.ensures.answer xs q g (omega (arith, e, c.loop-i-test.true)) (l.invariant.turned xs q h g e) refl)

pub copy_slot-requires : goal.copy_slot-requires
copy_slot-requires c = (search rules, search rules, omega arith)

pub loop-i-preserved : goal.loop-i-preserved
loop-i-preserved c =
    let l = c.loop-i in
    record {
      pages_size = search rules;
      most = search rules;
      turned = λ xs q h g e.
          turn_on _ l.i l.count _ c.in_ok-applied.ensures.answer xs q g (omega (arith, e, c.loop-i-test.true)) (l.invariant.turned xs q h g e) refl;
      to_size = c.copy_slot.auto.to ∙ l.invariant.to_size;
      copied = c.copy_slot.ensures l.invariant.copied;
    }

pub returns-clause-answer : goal.returns-clause-answer
returns-clause-answer c xs q h g e =
    let l = c.loop-i in
    turns_end l.i _ xs q (omega (arith, e, c.loop-i-test.false, c.loop-i.auto)) (l.invariant.turned xs q h g e)
