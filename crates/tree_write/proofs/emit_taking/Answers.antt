-- `emit_taking`: there is a page, or none.
use mathlib.Core.Path.{sym, subst, ◌∙◌}
use native.Mathlib.Omega.{arith}
use Rattle.record_apply.specs.Pages.{rec}
use Rattle.tree_write.specs.Shows.{Shows}
use Rattle.tree_write.specs.Taking.{taking_emits, taking_halted, taking_none}
use Rattle.tree_write.proofs.emit_taking.Goals as goal

pub returns-then-b-ne0 : goal.returns-then-b-ne0
returns-then-b-ne0 c s f near h keeps e i =
    let a = c.args in
    subst (Shows a.n a.m _ _ _) (sym (taking_emits s f near a.b (rec a.r) e i c.if-b-ne0.true)) (c.emit.ensures s h keeps)

pub returns-then-is_some : goal.returns-then-is_some
returns-then-is_some c s f near h keeps e i =
    let a = c.args in
    let t = c.before_record-t in
    let some = sym c.is_some.ensures ∙ c.if-is_some.true in
    taking_halted s f near a.b (rec a.r) e i (omega (arith, c.if-b-ne0.false)) h t.result some (t.ensures.halts some)

pub returns : goal.returns
returns c s f near h keeps e i =
    let a = c.args in
    let goes = c.before_record-t.ensures.goes (sym c.is_some.ensures ∙ c.if-is_some.false) in
    let known = subst (λ u. Shows a.n a.m a.wp.now a.wl.now u s) (sym goes.0) h in
    taking_none s f near a.b (rec a.r) e i (omega (arith, c.if-b-ne0.false)) known goes.1 goes.2
