-- `layouts_ok`: the pages before p keep the layout, so the answer is the answer for the rest.
use borrow.Author.Tests.{not-true, not-false}
use native.Mathlib.Omega.{arith}
use mathlib.Core.Path.{refl, sym, ◌∙◌}
use Rattle.sound_parts.specs.Passes.{laid_out, breaks, laid_none}
use Rattle.sound_parts.proofs.layouts_ok.Goals as goal

pub loop-p-init : goal.loop-p-init
loop-p-init c = refl

pub returns-then-not-page_at_ok : goal.returns-then-not-page_at_ok
returns-then-not-page_at_ok c =
    let l = c.loop-p in
    let a = c.args in
    sym (l.invariant ∙ breaks a.working a.n l.p a.pages.now c.page_at_ok.ensures (omega arith) (not-true _ c.if-not-page_at_ok.true-raw))

pub loop-p-preserved : goal.loop-p-preserved
loop-p-preserved c =
    let l = c.loop-p in
    let a = c.args in
    l.invariant ∙ laid_out a.working a.n l.p a.pages.now c.page_at_ok.ensures (omega arith) (not-false _ c.if-not-page_at_ok.false-raw)

pub returns : goal.returns
returns c =
    let l = c.loop-p in
    let a = c.args in
    sym (l.invariant ∙ laid_none a.working a.n l.p a.pages.now (omega arith))
