-- `emit`: stopped, full, or logged and applied.
use mathlib.Core.Path.{sym, subst, ◌∙◌}
use Prim.Native.Nat.{ℕ}
use native.Mathlib.Numerals.{add-one}
use Rattle.record_apply.specs.Pages.{rec}
use Rattle.record_pages.specs.Records.{Keeps}
use Rattle.tree_write.specs.Shows.{Shows, Keeping, emit_halted, emit_logs}
use Rattle.tree_write.proofs.emit.Goals as goal

pub returns-then-is_some : goal.returns-then-is_some
returns-then-is_some c s h keeps =
    let t = c.before_record-t in
    let e = sym c.is_some.ensures ∙ c.if-is_some.true in
    emit_halted h t.result (rec c.args.r) e (t.ensures.halts e)

pub returns : goal.returns
returns c s h keeps =
    let a = c.args in
    let t = c.before_record-t in
    let goes = t.ensures.goes (sym c.is_some.ensures ∙ c.if-is_some.false) in
    let known = subst (λ u. Shows a.n a.m a.wp.now a.wl.now u s) (sym goes.0) h in
    let keeping = subst (λ u. Keeping a.m u (rec a.r)) (sym goes.0) keeps in
    rw c.at.ensures
    (emit_logs known (rec a.r) _ goes.1 goes.2 (add-one t.result.logged) c.write_record.ensures c.write_record.auto.log
    (c.redo_record.ensures s.pages s.lefts known.pages (subst (λ (i : ℕ). Keeps i (rec a.r)) (sym (add-one t.result.logged)) (keeping goes.2))))
