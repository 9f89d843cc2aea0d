-- `redo_checked`: by the page's number, and by the judgement of it.
use mathlib.Core.List.{[]}
use mathlib.Core.Path.{sym, ◌∙◌}
use native.Mathlib.Omega.{arith}
use borrow.Author.Tests.{not-true, not-false}
use Rattle.record_apply.specs.Pages.{rec}
use Rattle.record_redo.specs.Pairs.{pair_higher, pair_misfit, pair_done}
use Rattle.record_redo.proofs.redo_checked.Goals as goal

pub returns-then-x-k-clause-answer : goal.returns-then-x-k-clause-answer
returns-then-x-k-clause-answer c xs h keeps =
    let a = c.args in
    let x = c.page_at-x in
    pair_higher a.k a.p (rec a.r) x.result xs h (x.ensures.1 xs [] h) c.if-x-k.true

pub returns-then-not-fits-clause-answer : goal.returns-then-not-fits-clause-answer
returns-then-not-fits-clause-answer c xs h keeps =
    let a = c.args in
    let x = c.page_at-x in
    pair_misfit a.k a.p (rec a.r) x.result xs h (x.ensures.1 xs [] h) (omega (arith, c.if-x-k.false)) (sym c.fits.ensures ∙ not-true _ c.if-not-fits.true-raw)

pub returns-clause-answer : goal.returns-clause-answer
returns-clause-answer c xs h keeps =
    let a = c.args in
    let x = c.page_at-x in
    pair_done a.k a.p (rec a.r) x.result xs h (x.ensures.1 xs [] h) c.apply-y.result (omega (arith, c.if-x-k.false))
    (sym c.fits.ensures ∙ not-false _ c.if-not-fits.false-raw) c.apply-y.ensures (λ f. c.put_page.ensures xs [] h f) keeps
