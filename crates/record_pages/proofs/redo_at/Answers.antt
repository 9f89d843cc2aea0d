-- `redo_at`: by the page's number.
use native.Mathlib.Omega.{arith}
use Rattle.record_apply.specs.Pages.{rec}
use Rattle.record_pages.specs.Records.{redo_lower, redo_higher}
use Rattle.record_pages.proofs.redo_at.Goals as goal

pub returns-then-x-k : goal.returns-then-x-k
returns-then-x-k c xs ls h keeps =
    let a = c.args in
    let x = c.page_at-x in
    redo_lower a.k a.p (rec a.r) x.result xs ls h (x.ensures.1 xs ls h) c.apply-y.result
    c.if-x-k.true c.apply-y.ensures
    (λ f. c.put_page.ensures xs ls h f) keeps

pub returns-else-x-k : goal.returns-else-x-k
returns-else-x-k c xs ls h keeps =
    let a = c.args in
    let x = c.page_at-x in
    redo_higher a.k a.p (rec a.r) x.result xs ls h (x.ensures.1 xs ls h) (omega (arith, c.if-x-k.false))
