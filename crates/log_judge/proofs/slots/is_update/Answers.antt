-- `is_update`: where every test passes, the words and the zeros say what the slot holds.
use native.Mathlib.Omega.{arith}
use mathlib.Core.Path.{sym, ◌∙◌}
use Rattle.def_base.specs.Tests.{clash}
use Rattle.log_judge.specs.Updates.{update_so, tail_clear}
use Rattle.log_judge.proofs.slots.is_update.Goals as goal

pub returns-then-w-ne0 : goal.returns-then-w-ne0
returns-then-w-ne0 c = λ e. clash (sym e)

pub returns-then-w-lt2 : goal.returns-then-w-lt2
returns-then-w-lt2 c = λ e. clash (sym e)

pub returns-then-w-gt3 : goal.returns-then-w-gt3
returns-then-w-gt3 c = λ e. clash (sym e)

pub returns-then-get32-own : goal.returns-then-get32-own
returns-then-get32-own c = λ e. clash (sym e)

pub returns-then-pages-ne0 : goal.returns-then-pages-ne0
returns-then-pages-ne0 c = λ e. clash (sym e)

pub returns-then-n-pages : goal.returns-then-n-pages
returns-then-n-pages c = λ e. clash (sym e)

pub returns-then-get32-ne0 : goal.returns-then-get32-ne0
returns-then-get32-ne0 c = λ e. clash (sym e)

pub returns : goal.returns
returns c =
    let a = c.args in
    let w = c.get32-w in
    let p = c.get32-pages in
    λ e. update_so a.n a.own a.b.now (λ i. (c.shared_slice_known-1.given i).fits) c.requires
    (omega (arith, p.ensures, c.if-pages-ne0.false)) (omega (arith, p.ensures, c.if-n-pages.false))
    (sym c.get32-2.ensures ∙ c.if-get32-ne0.false)
    (tail_clear a.b.now c.requires _ c.is_zero.ensures e)
    w.result w.ensures c.if-w-ne0.false (omega (arith, c.if-w-lt2.false)) (omega (arith, c.if-w-lt2.false)) (omega (arith, c.if-w-gt3.false))
    (sym c.get32.ensures ∙ c.if-get32-own.false)
