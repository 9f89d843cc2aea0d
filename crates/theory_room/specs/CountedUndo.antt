-- The same for undo and for what a restart settles, given what an update may write.
use Prim.Native.Nat.{ℕ, zero, suc, ◌+◌}
use Rattle.std.specs.Prelude.{◌≡◌, Bool}
use Rattle.std.proofs.Math.Path.{subst}
use Rattle.std.proofs.Math.Option.{Option, none, some}
use Rattle.std.proofs.Math.Bool.{true, false}
use mathlib.Core.List.{List, [], ◌∷◌}
use native.Mathlib.Omega.{arith}
use Rattle.std.proofs.Math.ListN.{length}
use Rattle.def_layout.specs.Records.{Kind, Rec}
use Rattle.def_model.specs.Update.{Run, emit, emit_taking, put_record, remove_record}
use Rattle.def_model.specs.Batches.{Line, Batch, next_undo, open_batches, pending_count}
use Rattle.def_model.specs.Undo.{undo_by, undo_line, end_batch, mark_by, mark_all, end_by, end_idle, newest_due, after_line, undo_newest, undo_step, undo_all}
use Rattle.def_model.specs.Restart.{settle}
use Rattle.theory_room.specs.Counted.{Counted, count_put, count_remove}

-- An update writes at most m records.
pub record Updates (I : ℕ → Run → Type 0) (m : ℕ) : Type 0 where
  pub records : Counted I
  pub puts : (n : ℕ) (kind : Kind) (batch previous k v : ℕ) (s : Run) → I n s → I (m + n) (put_record kind batch previous k v s)
  pub removes : (n : ℕ) (kind : Kind) (batch previous k v : ℕ) (s : Run) → I n s → I (m + n) (remove_record kind batch previous k v s)

-- The count after so many rounds of an update and one record.
unfoldable pub rounds : ℕ → ℕ → ℕ → ℕ
rounds zero m n = n
rounds (suc f) m n = rounds f m (suc (m + n))

module _ (I : ℕ → Run → Type 0) (m : ℕ) (c : Updates I m) where
  pub count_mark_by : (b : Bool) (n : ℕ) (x : Batch) (s : Run) → I n s → I (suc n) (mark_by b x s)
  unfolding mark_by
  count_mark_by true n x s i = c.records.later n s i
  count_mark_by false n x s i = c.records.emits n _ s i

  pub count_mark_all : (bs : List Batch) (n : ℕ) (s : Run) → I n s → I (length bs + n) (mark_all bs s)
  unfolding mark_all
  count_mark_all [] n s i = let e : n ≡ 0 + n = omega arith in subst (λ z. I z s) e i
  count_mark_all (b ∷ bs) n s i =
      let e : length bs + suc n ≡ suc (length bs) + n = omega arith in
      subst (λ z. I z (mark_all bs (mark_by b.marked b s))) e (count_mark_all bs (suc n) (mark_by b.marked b s) (count_mark_by b.marked n b s i))

  pub count_end_by : (ls : List Line) (n : ℕ) (x : Batch) (s : Run) → I n s → I (suc n) (end_by ls x s)
  unfolding end_by
  count_end_by [] n x s i = c.records.emits n _ s i
  count_end_by (l ∷ ls) n x s i = c.records.later n s i

  pub count_end_idle : (bs : List Batch) (n : ℕ) (s : Run) → I n s → I (length bs + n) (end_idle bs s)
  unfolding end_idle
  count_end_idle [] n s i = let e : n ≡ 0 + n = omega arith in subst (λ z. I z s) e i
  count_end_idle (b ∷ bs) n s i =
      let e : length bs + suc n ≡ suc (length bs) + n = omega arith in
      subst (λ z. I z (end_idle bs (end_by b.lines b s))) e (count_end_idle bs (suc n) (end_by b.lines b s) (count_end_by b.lines n b s i))

  pub count_undo_by : (b : Bool) (n x next : ℕ) (l : Line) (s : Run) → I n s → I (m + n) (undo_by b x next l s)
  unfolding undo_by
  count_undo_by true n x next l s i = c.removes n _ _ _ _ _ s i
  count_undo_by false n x next l s i = c.puts n _ _ _ _ _ s i

  pub count_undo_line : (n x next : ℕ) (l : Line) (s : Run) → I n s → I (m + n) (undo_line x next l s)
  unfolding undo_line
  count_undo_line n x next l s i = count_undo_by l.adds n x next l s i

  pub count_end_batch : (n x : ℕ) (s : Run) → I n s → I (suc n) (end_batch x s)
  unfolding end_batch
  count_end_batch n x s i = c.records.emits n _ s i

  pub count_after_line : (ls : List Line) (n x : ℕ) (s : Run) → I n s → I (suc n) (after_line ls x s)
  unfolding after_line
  count_after_line [] n x s i = count_end_batch n x s i
  count_after_line (l ∷ ls) n x s i = c.records.later n s i

  count_wait : (k n : ℕ) (s : Run) → I n s → I (k + n) s
  count_wait zero n s i = let e : n ≡ 0 + n = omega arith in subst (λ z. I z s) e i
  count_wait (suc k) n s i = let e : suc (k + n) ≡ suc k + n = omega arith in subst (λ z. I z s) e (c.records.later (k + n) s (count_wait k n s i))

  pub count_undo_newest : (ls : List Line) (n x : ℕ) (s : Run) → I n s → I (suc (m + n)) (undo_newest ls x s)
  unfolding undo_newest
  count_undo_newest [] n x s i = c.records.later (m + n) s (count_wait m n s i)
  count_undo_newest (l ∷ ls) n x s i = count_after_line ls (m + n) x _ (count_undo_line n x (next_undo ls) l s i)

  pub count_undo_step : (o : Option Batch) (bs : List Batch) (n : ℕ) (s : Run) → I n s → I (suc (m + n)) (undo_step o bs s).run
  unfolding undo_step
  count_undo_step none bs n s i = c.records.later (m + n) s (count_wait m n s i)
  count_undo_step (some b) bs n s i = count_undo_newest b.lines n b.number s i

  pub count_undo_all : (f : ℕ) (bs : List Batch) (n : ℕ) (s : Run) → I n s → I (rounds f m n) (undo_all f bs s)
  unfolding undo_all rounds
  count_undo_all zero bs n s i = i
  count_undo_all (suc f) bs n s i = let u = undo_step (newest_due bs) bs s in count_undo_all f u.batches (suc (m + n)) u.run (count_undo_step (newest_due bs) bs n s i)

-- What every record keeps, whatever the count, an update and a restart's work keep.
module _ (J : Run → Type 0) (emits : (r : Rec) (s : Run) → J s → J (emit r s)) (takes : (f : ℕ → Rec) (near : ℕ) (s : Run) → J s → J (emit_taking f near s)) where
  pub kept_records : Counted (λ n s. J s)
  kept_records = record { emits = λ n. emits; takes = λ n. takes; later = λ n s i. i }

  pub kept_updates : Updates (λ n s. J s) 0
  kept_updates = record { records = kept_records; puts = count_put (λ n s. J s) kept_records; removes = count_remove (λ n s. J s) kept_records }

  pub keep_settle : (s : Run) → J s → J (settle s)
  unfolding settle
  keep_settle s i =
      let t = mark_all (open_batches s.log) s in
      let u = end_idle (open_batches t.log) t in
      count_undo_all (λ n r. J r) 0 kept_updates (pending_count (open_batches s.log)) (open_batches u.log) 0 u
      (count_end_idle (λ n r. J r) 0 kept_updates (open_batches t.log) 0 t (count_mark_all (λ n r. J r) 0 kept_updates (open_batches s.log) 0 s i))
