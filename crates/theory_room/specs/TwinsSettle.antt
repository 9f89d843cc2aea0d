-- Twin runs stay twins through undo and a restart's work.
use Prim.Native.Nat.{ℕ, zero, suc, ◌+◌, ◌-◌, ◌≤◌}
use Rattle.std.specs.Prelude.{◌≡◌, Bool, length}
use Rattle.std.proofs.Common.{subst, arith}
use Rattle.std.proofs.Math.Option.{Option, none, some}
use Rattle.std.proofs.Math.Bool.{true, false}
use mathlib.Core.List.{List, [], ◌∷◌}
use Rattle.def_model.specs.Update.{Run}
use Rattle.def_model.specs.Batches.{Line, Batch, next_undo, open_batches, pending_count}
use Rattle.def_model.specs.Undo.{Undoing, undo_by, undo_line, end_batch, mark_by, mark_all, end_by, end_idle, newest_due, after_line, undo_newest, without_newest, undo_step, undo_all}
use Rattle.def_model.specs.Restart.{settle}
use Rattle.def_recovery.specs.Demand3.{with_room}
use Rattle.theory_room.specs.CountedUndo.{count_mark_all, count_end_idle, count_after_line, count_undo_all}
use Rattle.theory_room.specs.Twins.{Short, short_updates, Past, past_updates, Ample, twin, Twins, same, parted, twins_emit}
use Rattle.theory_room.specs.TwinsAdd.{twins_put}
use Rattle.theory_room.specs.TwinsRemove.{twins_remove}

-- What is left to undo, and the runs so far.
pub data TwinsUndoing (m : ℕ) : Undoing → Undoing → Type 0 where
  same_undoing : (bs : List Batch) (t : Run) → Ample m t → TwinsUndoing m (record { batches = bs; run = twin m t }) (record { batches = bs; run = t })
  parted_undoing : {a b : Undoing} → Short a.run → Past m b.run → TwinsUndoing m a b

module _ (m : ℕ) where
  -- ---- marks and ends

  twins_mark_by : (b : Bool) (x : Batch) (t : Run) → Ample m t → Twins m (mark_by b x (twin m t)) (mark_by b x t)
  unfolding mark_by
  twins_mark_by true x t a = same t a
  twins_mark_by false x t a = twins_emit m _ t a

  pub twins_mark_all : (bs : List Batch) {s t : Run} → Twins m s t → Twins m (mark_all bs s) (mark_all bs t)
  unfolding mark_all
  twins_mark_all [] h = h
  twins_mark_all (b ∷ bs) (same t a) = twins_mark_all bs (twins_mark_by b.marked b t a)
  twins_mark_all (b ∷ bs) (parted {s = s} {t = t} x y) = parted (count_mark_all _ 0 short_updates (b ∷ bs) 0 s x) (count_mark_all _ 0 (past_updates m) (b ∷ bs) 0 t y)

  twins_end_by : (ls : List Line) (x : Batch) (t : Run) → Ample m t → Twins m (end_by ls x (twin m t)) (end_by ls x t)
  unfolding end_by
  twins_end_by [] x t a = twins_emit m _ t a
  twins_end_by (l ∷ ls) x t a = same t a

  pub twins_end_idle : (bs : List Batch) {s t : Run} → Twins m s t → Twins m (end_idle bs s) (end_idle bs t)
  unfolding end_idle
  twins_end_idle [] h = h
  twins_end_idle (b ∷ bs) (same t a) = twins_end_idle bs (twins_end_by b.lines b t a)
  twins_end_idle (b ∷ bs) (parted {s = s} {t = t} x y) = parted (count_end_idle _ 0 short_updates (b ∷ bs) 0 s x) (count_end_idle _ 0 (past_updates m) (b ∷ bs) 0 t y)

  -- ---- undo

  twins_undo_by : (b : Bool) (x next : ℕ) (l : Line) (t : Run) → Ample m t → Twins m (undo_by b x next l (twin m t)) (undo_by b x next l t)
  unfolding undo_by
  twins_undo_by true x next l t a = twins_remove m _ _ _ _ _ t a
  twins_undo_by false x next l t a = twins_put m _ _ _ _ _ t a

  pub twins_undo_line : (x next : ℕ) (l : Line) (t : Run) → Ample m t → Twins m (undo_line x next l (twin m t)) (undo_line x next l t)
  unfolding undo_line
  twins_undo_line x next l t a = twins_undo_by l.adds x next l t a

  pub twins_end_batch : (x : ℕ) (t : Run) → Ample m t → Twins m (end_batch x (twin m t)) (end_batch x t)
  unfolding end_batch
  twins_end_batch x t a = twins_emit m _ t a

  twins_after_line : (ls : List Line) (x : ℕ) {s t : Run} → Twins m s t → Twins m (after_line ls x s) (after_line ls x t)
  unfolding after_line
  twins_after_line [] x (same t a) = twins_end_batch x t a
  twins_after_line [] x (parted {s = s} {t = t} u v) = parted (count_after_line _ 0 short_updates [] 0 x s u) (count_after_line _ 0 (past_updates m) [] 0 x t v)
  twins_after_line (l ∷ ls) x h = h

  twins_undo_newest : (ls : List Line) (x : ℕ) (t : Run) → Ample m t → Twins m (undo_newest ls x (twin m t)) (undo_newest ls x t)
  unfolding undo_newest
  twins_undo_newest [] x t a = same t a
  twins_undo_newest (l ∷ ls) x t a = twins_after_line ls x (twins_undo_line x (next_undo ls) l t a)

  twins_left : (bs : List Batch) {s t : Run} → Twins m s t → TwinsUndoing m (record { batches = bs; run = s }) (record { batches = bs; run = t })
  twins_left bs (same t a) = same_undoing bs t a
  twins_left bs (parted x y) = parted_undoing x y

  twins_undo_step : (o : Option Batch) (bs : List Batch) (t : Run) → Ample m t → TwinsUndoing m (undo_step o bs (twin m t)) (undo_step o bs t)
  unfolding undo_step
  twins_undo_step none bs t a = same_undoing bs t a
  twins_undo_step (some b) bs t a = twins_left (without_newest b bs) (twins_undo_newest b.lines b.number t a)

  pub twins_undo_all : (f : ℕ) (bs : List Batch) (t : Run) → Ample m t → Twins m (undo_all f bs (twin m t)) (undo_all f bs t)
  unfolding undo_all
  twins_undo_all zero bs t a = same t a
  twins_undo_all (suc f) bs t a = go (twins_undo_step (newest_due bs) bs t a) (λ cs u b. twins_undo_all f cs u b)
    where
      go : {d e : Undoing} → TwinsUndoing m d e → ((cs : List Batch) (u : Run) → Ample m u → Twins m (undo_all f cs (twin m u)) (undo_all f cs u))
          → Twins m (undo_all f d.batches d.run) (undo_all f e.batches e.run)
      go (same_undoing cs u b) further = further cs u b
      go (parted_undoing {a = d} {b = e} x y) further = parted (count_undo_all _ 0 short_updates f d.batches 0 d.run x) (count_undo_all _ 0 (past_updates m) f e.batches 0 e.run y)

  -- ---- what a restart settles

  twins_idle : {s t : Run} → Twins m s t → Twins m (end_idle (open_batches s.log) s) (end_idle (open_batches t.log) t)
  twins_idle (same t a) = twins_end_idle (open_batches t.log) (same t a)
  twins_idle (parted {s = s} {t = t} x y) = parted (count_end_idle _ 0 short_updates _ 0 s x) (count_end_idle _ 0 (past_updates m) _ 0 t y)

  twins_undone : (f : ℕ) {s t : Run} → Twins m s t → Twins m (undo_all f (open_batches s.log) s) (undo_all f (open_batches t.log) t)
  twins_undone f (same t a) = twins_undo_all f (open_batches t.log) t a
  twins_undone f (parted {s = s} {t = t} x y) = parted (count_undo_all _ 0 short_updates f _ 0 s x) (count_undo_all _ 0 (past_updates m) f _ 0 t y)

twins_start : (n : ℕ) (t : Run) → n ≤ t.room → Twins (length t.log + n) (with_room n t) t
twins_start n t h =
    let e : length t.log + n - length t.log ≡ n = omega arith in
    subst (λ k. Twins (length t.log + n) (with_room k t) t) e (same t (record { fits = omega arith; wide = omega arith }))

-- With room for n records, and with more.
pub twins_settle : (n : ℕ) (t : Run) → n ≤ t.room → Twins (length t.log + n) (settle (with_room n t)) (settle t)
unfolding settle
twins_settle n t h = twins_undone _ (pending_count (open_batches t.log)) (twins_idle _ (twins_mark_all _ (open_batches t.log) (twins_start n t h)))
