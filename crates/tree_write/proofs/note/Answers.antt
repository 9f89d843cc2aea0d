-- `note`: stopped, full, or logged.
use mathlib.Core.Path.{sym, subst, ◌∙◌}
use native.Mathlib.Numerals.{add-one}
use native.Mathlib.Omega.{arith}
use Rattle.def_layout.specs.Records.{kind_of, batch_row}
use Rattle.tree_write.specs.Shows.{Shows, emit_halted, emit_notes}
use Rattle.tree_write.proofs.note.Goals as goal

pub returns-then-is_some : goal.returns-then-is_some
returns-then-is_some c =
    let a = c.args in
    let t = c.before_record-t in
    let e = sym c.is_some.ensures ∙ c.if-is_some.true in
    (omega (arith, t.ensures.same), λ l. omega (arith, t.ensures.same), λ n wp s h. emit_halted h t.result (batch_row (kind_of a.kind) a.batch a.previous) e (t.ensures.halts e))

pub returns : goal.returns
returns c =
    let a = c.args in
    let t = c.before_record-t in
    let goes = t.ensures.goes (sym c.is_some.ensures ∙ c.if-is_some.false) in
    rw c.at.ensures (
      omega (arith, t.ensures.same),
      λ l. omega (arith, goes.2),
      λ n wp s h. emit_notes (subst (λ u. Shows n a.m wp a.wl.now u s) (sym goes.0) h) (kind_of a.kind) a.batch a.previous _ _ c.requires.1 goes.1 goes.2 (add-one t.result.logged) c.batch_row-r.ensures.0
          c.write_record.ensures c.write_record.auto.log,
    )
