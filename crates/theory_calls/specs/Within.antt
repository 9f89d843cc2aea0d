-- Runs keep within the slots: what an update or an abort logs is taken off its room.
use Rattle.std.specs.Prelude.{ℕ, ◌≡◌, Bool, true, false}
use Rattle.def_layout.specs.Records.{Kind, undo_insert, undo_delete}
use Rattle.def_model.specs.Update.{Run, stopped, put_record, remove_record}
use Rattle.def_model.specs.Batches.{Line, Batch}
use Rattle.def_model.specs.Undo.{undo_by, undo_line, return_run, end_batch, abort_run}
use Rattle.theory_update.specs.Run.Keeps.{keep_find_add, keep_find_remove, keep_above}
use Rattle.theory_room.specs.Reasons.{Within, emit_within}

stop_within : (m : ℕ) (s : Run) → s.stop ≡ 0 → Within m s → Within m (stopped 18 s)
stop_within m s z w = w

pub put_within : (m : ℕ) (kind : Kind) (batch previous k v : ℕ) (s : Run) → Within m s → Within m (put_record kind batch previous k v s)
unfolding put_record
put_within m kind batch previous k v s w = emit_within m _ _ (keep_find_add (Within m) (λ r q t. emit_within m r t) (stop_within m) k s w)

pub remove_within : (m : ℕ) (kind : Kind) (batch previous k v : ℕ) (s : Run) → Within m s → Within m (remove_record kind batch previous k v s)
unfolding remove_record
remove_within m kind batch previous k v s w = emit_within m _ _ (keep_find_remove (Within m) (λ r q t. emit_within m r t) (stop_within m) _ k s w)

by_within : (m : ℕ) (a : Bool) (n next : ℕ) (l : Line) (s : Run) → Within m s → Within m (undo_by a n next l s)
unfolding undo_by
by_within m true n next l s w = remove_within m undo_insert n next l.key 0 s w
by_within m false n next l s w = put_within m undo_delete n next l.key l.value s w

pub return_within : (m mark : ℕ) (b : Batch) (s : Run) → Within m s → Within m (return_run mark b s)
unfolding return_run undo_line
return_within m mark b s w = keep_above (Within m) b.number (λ next l s. by_within m l.adds b.number next l s) mark b.lines s w

pub abort_within : (m : ℕ) (b : Batch) (s : Run) → Within m s → Within m (abort_run b s)
unfolding abort_run end_batch
abort_within m b s w = emit_within m _ _ (return_within m 0 b _ (emit_within m _ s w))
