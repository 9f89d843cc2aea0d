-- Undo. 01: "undoes newest first, always from the root": an insert's undo goes down the tree as a delete does and a delete's as an insert does, wherever
-- the slide stands by now. It is logged once, and so are the tree changes on its way; neither is undone.
use Rattle.std.specs.Prelude.{ℕ, zero, suc, ◌-◌, Bool, true, false, List, [], ◌∷◌, ltb}
use Rattle.std.proofs.Math.Option.{Option, none, some}
use Rattle.def_base.specs.Tests.{pick}
use Rattle.def_layout.specs.Records.{abort_mark, end, undo_insert, undo_delete, batch_row}
use Rattle.def_model.specs.Update.{Run, emit, put_record, remove_record}
use Rattle.def_model.specs.Batches.{Line, Batch, next_undo, rest_of, change_batch}

unfoldable pub undo_by : (adds : Bool) → ℕ → ℕ → Line → Run → Run
undo_by true n next l s = remove_record undo_insert n next l.key 0 s
undo_by false n next l s = put_record undo_delete n next l.key l.value s

-- Line l of batch n is undone; `next` is next to undo after it.
unfoldable pub undo_line : ℕ → ℕ → Line → Run → Run
undo_line n next l s = undo_by l.adds n next l s

-- 02, U2: "undo every pending update it made after that mark": batch n's lines, newest first, down to the first that is not above the mark. Their
-- numbers fall, so none above it is left (`theory_ledger/Marks`).
unfoldable pub undo_above : (mark : ℕ) → ℕ → List Line → Run → Run
undo_above mark n [] s = s
undo_above mark n (l ∷ ls) s = pick (ltb mark l.number) (undo_above mark n ls (undo_line n (next_undo ls) l s)) s

-- "The undo is logged as abort's is, without 7 or 8."
unfoldable pub return_run : ℕ → Batch → Run → Run
return_run mark b s = undo_above mark b.number b.lines s

-- An 8 right after the batch's last record.
unfoldable pub end_batch : ℕ → Run → Run
end_batch n s = emit (batch_row end n (s.due - 1)) s

-- ---- a whole batch

-- 01: "Abort writes a 7, undoes newest first, always from the root, then writes an 8." Its undo is a return to 0.
unfoldable pub abort_run : Batch → Run → Run
abort_run b s = end_batch b.number (return_run 0 b (emit (batch_row abort_mark b.number b.last) s))

-- ---- every open batch, at a restart

-- 01: "writes a 7 for each open batch without one by batch number".
unfoldable pub mark_by : (marked : Bool) → Batch → Run → Run
mark_by true b s = s
mark_by false b s = emit (batch_row abort_mark b.number b.last) s

unfoldable pub mark_all : List Batch → Run → Run
mark_all [] s = s
mark_all (b ∷ bs) s = mark_all bs (mark_by b.marked b s)

-- 01: "then in that order an 8 for each with nothing pending".
unfoldable pub end_by : List Line → Batch → Run → Run
end_by [] b s = emit (batch_row end b.number b.last) s
end_by (l ∷ ls) b s = s

unfoldable pub end_idle : List Batch → Run → Run
end_idle [] s = s
end_idle (b ∷ bs) s = end_idle bs (end_by b.lines b s)

-- The batch that has the largest log number due.
unfoldable pub newer : Batch → Option Batch → Option Batch
newer b none = some b
newer b (some c) = pick (ltb (next_undo b.lines) (next_undo c.lines)) (some c) (some b)

unfoldable pub newest_due : List Batch → Option Batch
newest_due [] = none
newest_due (b ∷ bs) = newer b (newest_due bs)

unfoldable pub with_lines : List Line → Batch → Batch
with_lines ls b = record { number = b.number; last = b.last; marked = b.marked; lines = ls }

unfoldable pub after_line : List Line → ℕ → Run → Run
after_line [] n s = end_batch n s
after_line (l ∷ ls) n s = s

-- Its newest line is undone, "with an 8 right after a batch's last".
unfoldable pub undo_newest : List Line → ℕ → Run → Run
undo_newest [] n s = s
undo_newest (l ∷ ls) n s = after_line ls n (undo_line n (next_undo ls) l s)

unfoldable pub without_newest : Batch → List Batch → List Batch
without_newest b bs = change_batch b.number (with_lines (rest_of b.lines)) bs

-- What is left to undo, and the run so far.
pub record Undoing : Type 0 where
  pub batches : List Batch
  pub run : Run

unfoldable pub undo_step : Option Batch → List Batch → Run → Undoing
undo_step none bs s = record { batches = bs; run = s }
undo_step (some b) bs s = record { batches = without_newest b bs; run = undo_newest b.lines b.number s }

-- 01: "undoes always the largest log number due", as often as there are pending updates.
unfoldable pub undo_all : ℕ → List Batch → Run → Run
undo_all zero bs s = s
undo_all (suc f) bs s = let u = undo_step (newest_due bs) bs s in undo_all f u.batches u.run
