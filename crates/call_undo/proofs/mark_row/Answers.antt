-- `mark_row`: it had its mark, or gets it, or there was no slot for it.
use mathlib.Core.Path.{sym, ◌∙◌}
use lib.Dec.{lit<}
use Rattle.call_undo.specs.Lines.{batch_keeping}
use Rattle.call_undo.specs.Marking.{row_had, row_halted, row_marked}
use Rattle.call_undo.proofs.mark_row.Goals as goal

pub returns-then-marked : goal.returns-then-marked
returns-then-marked c s xs b ys h o e k = row_had s xs b ys c.args.row o e h (sym k ∙ c.if-marked.true)

pub returns-then-is_some : goal.returns-then-is_some
returns-then-is_some c s xs b ys h o e k =
    let a = c.args in
    let r = c.batch_row-r.ensures.0 in
    row_halted s xs b ys a.row o e (sym k ∙ c.if-marked.false) _ r
    (c.emit-u.ensures s h (batch_keeping a.t 7 a.row.batch a.row.last _ c.requires.3 (lit< tt) r)) (sym c.is_some.ensures ∙ c.if-is_some.true)

pub returns : goal.returns
returns c s xs b ys h o e k =
    let a = c.args in
    let r = c.batch_row-r.ensures.0 in
    row_marked s xs b ys a.row o e (sym k ∙ c.if-marked.false) _ r
    (c.emit-u.ensures s h (batch_keeping a.t 7 a.row.batch a.row.last _ c.requires.3 (lit< tt) r)) (sym c.is_some.ensures ∙ c.if-is_some.false)
