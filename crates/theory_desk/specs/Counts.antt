-- How many updates are pending, and how many batches are open, after each call's records.
use Prim.Native.Nat.{ℕ, suc, ◌+◌}
use Rattle.std.specs.Prelude.{◌≡◌, true, false}
use Rattle.std.proofs.Math.Path.{refl, ap}
use Rattle.std.proofs.Common.{◌∙◌}
use Rattle.std.proofs.Math.Option.{some}
use mathlib.Core.List.{List, [], ◌∷◌, ◌++◌}
use native.Mathlib.Omega.{arith}
use Rattle.std.proofs.Math.ListN.{length, length-append}
use Rattle.def_layout.specs.Records.{Rec, begin, insert, delete, batch_row, data_row}
use Rattle.def_model.specs.Batches.{Line, Batch, find_batch, change_batch, drop_batch, written, tell, open_batches, pending_count}
use Rattle.theory_update.specs.Run.Wrote.{AllStructural}
use Rattle.theory_ledger.specs.Telling.{open_more}
use Rattle.theory_desk.specs.After.{open_last}
use Rattle.theory_desk.specs.Counting.{change_pending, change_count, drop_pending, more_pending}

module _ (log after : List Rec) where
  pub begun_counts : (n previous : ℕ) → after ≡ log ++ batch_row begin n previous ∷ []
      → (pending_count (open_batches after) ≡ pending_count (open_batches log)) × (length (open_batches after) ≡ suc (length (open_batches log)))
  unfolding tell
  begun_counts n previous e =
      let x : Batch = record { number = suc (length log); last = suc (length log); marked = false; lines = [] } in
      let o : open_batches after ≡ open_batches log ++ x ∷ [] = ap open_batches e ∙ open_more log (batch_row begin n previous) in
      (ap pending_count o ∙ more_pending (open_batches log) x refl, ap length o ∙ length-append (open_batches log) (x ∷ []) ∙ omega arith)

  -- ---- an update

  wrote_counts : (b n : ℕ) (l : Line) (y : Batch) → find_batch b (open_batches log) ≡ some y → open_batches after ≡ change_batch b (written n l) (open_batches log)
      → (pending_count (open_batches after) ≡ suc (pending_count (open_batches log))) × (length (open_batches after) ≡ length (open_batches log))
  unfolding written
  wrote_counts b n l y f o =
      let p = change_pending b (written n l) (open_batches log) y f in
      (ap pending_count o ∙ omega arith, ap length o ∙ change_count b (written n l) (open_batches log))

  pub inserted_counts : (body : List Rec) (b previous a k v : ℕ) (y : Batch) → AllStructural body → after ≡ log ++ (body ++ data_row insert b previous a k v ∷ [])
      → find_batch b (open_batches log) ≡ some y
      → (pending_count (open_batches after) ≡ suc (pending_count (open_batches log))) × (length (open_batches after) ≡ length (open_batches log))
  unfolding tell
  inserted_counts body b previous a k v y q e f =
      wrote_counts b (length after) (record { number = length after; adds = true; key = k; value = v }) y f (open_last log after body (data_row insert b previous a k v) q e)

  pub deleted_counts : (body : List Rec) (b previous a k v : ℕ) (y : Batch) → AllStructural body → after ≡ log ++ (body ++ data_row delete b previous a k v ∷ [])
      → find_batch b (open_batches log) ≡ some y
      → (pending_count (open_batches after) ≡ suc (pending_count (open_batches log))) × (length (open_batches after) ≡ length (open_batches log))
  unfolding tell
  deleted_counts body b previous a k v y q e f =
      wrote_counts b (length after) (record { number = length after; adds = false; key = k; value = v }) y f (open_last log after body (data_row delete b previous a k v) q e)

  -- ---- a batch gone, by a commit or an abort

  pub dropped_counts : (b : ℕ) (y : Batch) → find_batch b (open_batches log) ≡ some y → open_batches after ≡ drop_batch b (open_batches log)
      → (pending_count (open_batches after) + length y.lines ≡ pending_count (open_batches log)) × (suc (length (open_batches after)) ≡ length (open_batches log))
  dropped_counts b y f o =
      let (p, l) = drop_pending b (open_batches log) y f in
      let ep = ap pending_count o in
      let el = ap length o in
      (omega arith, omega arith)
