-- `is_batch`: where every test passes, the words and the zeros say what the slot holds.
use native.Mathlib.Omega.{arith}
use mathlib.Core.Path.{sym, ◌∙◌}
use Rattle.def_base.specs.Tests.{clash}
use Rattle.log_judge.specs.Updates.{begin_so, commit_so, tail_clear}
use Rattle.log_judge.proofs.slots.is_batch.Goals as goal

pub returns-then-get32-number : goal.returns-then-get32-number
returns-then-get32-number c = λ e. clash (sym e)

pub returns-then-get32-ne0 : goal.returns-then-get32-ne0
returns-then-get32-ne0 c = λ e. clash (sym e)

pub returns-then-get32-ne0-2 : goal.returns-then-get32-ne0-2
returns-then-get32-ne0-2 c = λ e. clash (sym e)

pub returns-then-get32-ne0-3 : goal.returns-then-get32-ne0-3
returns-then-get32-ne0-3 c = λ e. clash (sym e)

pub returns-then-get32-ne0-4 : goal.returns-then-get32-ne0-4
returns-then-get32-ne0-4 c = λ e. clash (sym e)

pub returns-then-w-eq-COMMIT : goal.returns-then-w-eq-COMMIT
returns-then-w-eq-COMMIT c =
    let a = c.args in
    let size = c.requires in
    let w = c.get32-w in
    let k = c.if-w-eq-COMMIT.true in
    let o = sym c.get32.ensures ∙ c.if-get32-number.false in
    let p = sym c.get32-2.ensures ∙ c.if-get32-ne0.false in
    λ e. record {
      least = omega (arith, w.ensures, k);
      plain = λ n h.
          commit_so n a.number a.b.now (λ i. (c.shared_slice_known-1.given i).fits) size (omega (arith, p)) (omega (arith, p, h)) (sym c.get32-5.ensures ∙ c.if-get32-ne0-4.false)
          (tail_clear a.b.now size _ c.is_zero-clear.ensures e) w.result w.ensures (omega (arith, k)) (omega (arith, k)) (omega (arith, k)) o p
          (sym c.get32-3.ensures ∙ c.if-get32-ne0-2.false) (sym c.get32-4.ensures ∙ c.if-get32-ne0-3.false);
    }

pub returns-then-w-ne-BEGIN : goal.returns-then-w-ne-BEGIN
returns-then-w-ne-BEGIN c = λ e. clash (sym e)

pub returns-then-get32-number-2 : goal.returns-then-get32-number-2
returns-then-get32-number-2 c = λ e. clash (sym e)

pub returns-then-get32-ne0-5 : goal.returns-then-get32-ne0-5
returns-then-get32-ne0-5 c = λ e. clash (sym e)

pub returns : goal.returns
returns c =
    let a = c.args in
    let size = c.requires in
    let w = c.get32-w in
    let k = c.if-w-ne-BEGIN.false in
    let o = sym c.get32.ensures ∙ c.if-get32-number.false in
    let p = sym c.get32-2.ensures ∙ c.if-get32-ne0.false in
    λ e. record {
      least = omega (arith, w.ensures, k);
      plain = λ n h.
          begin_so n a.number a.b.now (λ i. (c.shared_slice_known-1.given i).fits) size (omega (arith, p)) (omega (arith, p, h)) (sym c.get32-5.ensures ∙ c.if-get32-ne0-4.false)
          (tail_clear a.b.now size _ c.is_zero-clear.ensures e) w.result w.ensures (omega (arith, k)) (omega (arith, k)) (omega (arith, k)) o
          (sym c.get32-6.ensures ∙ c.if-get32-number-2.false) (sym c.get32-7.ensures ∙ c.if-get32-ne0-5.false) p
          (sym c.get32-3.ensures ∙ c.if-get32-ne0-2.false) (sym c.get32-4.ensures ∙ c.if-get32-ne0-3.false);
    }
