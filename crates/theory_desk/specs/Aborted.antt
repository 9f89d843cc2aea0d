-- The open batches after a run: what a record that was logged tells, and that an abort takes its batch away and leaves the others.
use Rattle.std.specs.Prelude.{ℕ, suc, ◌≡◌, refl, Bool, List, [], ◌∷◌, ◌++◌, length, ltb}
use Rattle.std.proofs.Common.{sym, ap, ◌∙◌, arith}
use Rattle.std.proofs.Math.Bool.{true, false}
use Rattle.std.proofs.Math.Decide.{ℕ_discrete}
use Rattle.def_base.specs.Tests.{Case, yes!, no!, case}
use Rattle.def_layout.specs.Records.{Rec, abort_mark, batch_row}
use Rattle.def_model.specs.Update.{Run, going, logged, emit_by, emit, put_record, remove_record}
use Rattle.def_model.specs.Batches.{Line, Batch, drop_batch, undone, mark_set, tell, open_batches}
use Rattle.def_model.specs.Undo.{undo_by, undo_line, undo_above, return_run, end_batch, abort_run}
use Rattle.theory_update.specs.Run.Keeps.{Structural, keep_find_add, keep_find_remove, keep_above, stuck_emit}
use Rattle.theory_update.specs.Run.Way.{emit_goes, emit_stops}
use Rattle.theory_ledger.specs.Batching.{drop_change}
use Rattle.theory_ledger.specs.Telling.{open_more}
use Rattle.theory_desk.specs.After.{structural_tells}

-- ---- one record

-- A record that did not stop the run was logged.
pub emit_log : (r : Rec) (s : Run) → (emit r s).stop ≡ 0 → (emit r s).log ≡ s.log ++ r ∷ []
emit_log r s z = go (ℕ_discrete s.stop 0) (case (ltb 0 s.room))
  where
    go : Dec (s.stop ≡ 0) → Case (ltb 0 s.room) → (emit r s).log ≡ s.log ++ r ∷ []
    go (no n) c = absurd (stuck_emit r s n z)
    go (yes e) (yes! f) = ap (λ t. t.log) (emit_goes r s e f)
    go (yes e) (no! f) = let w : 17 ≡ (emit r s).stop = sym (ap (λ t. t.stop) (emit_stops r s e f)) in absurd (omega arith)

-- What holds of the log with it and without it holds after it, stopped or not.
log_by : (P : List Rec → Type 0) (a b : Bool) (r : Rec) (s : Run) → P s.log → P (s.log ++ r ∷ []) → P (emit_by a b r s).log
unfolding emit_by logged
log_by P true true r s p q = q
log_by P true false r s p q = p
log_by P false b r s p q = p

log_either : (P : List Rec → Type 0) (r : Rec) (s : Run) → P s.log → P (s.log ++ r ∷ []) → P (emit r s).log
unfolding emit
log_either P r s p q = log_by P (going s) (ltb 0 s.room) r s p q

-- ---- an abort

-- The batches but number n, which its marks and undos and the records of the tree leave as they were.
module _ (n : ℕ) (others : List Batch) where
  abbrev Beside : Run → Type 0
  Beside s = drop_batch n (open_batches s.log) ≡ others

  beside_emit : (r : Rec) (s : Run) → ((m : ℕ) (bs : List Batch) → drop_batch n (tell r.kind m r bs) ≡ drop_batch n bs) → Beside s → Beside (emit r s)
  beside_emit r s k i =
      log_either (λ log. drop_batch n (open_batches log) ≡ others) r s i
      (ap (drop_batch n) (open_more s.log r) ∙ k (suc (length s.log)) (open_batches s.log) ∙ i)

  beside_tree : (r : Rec) → Structural r.kind → (s : Run) → Beside s → Beside (emit r s)
  beside_tree r q s i = beside_emit r s (λ m bs. ap (drop_batch n) (structural_tells r.kind q m r bs)) i

  beside_undo : (a : Bool) (next : ℕ) (l : Line) (s : Run) → Beside s → Beside (undo_by a n next l s)
  unfolding undo_by put_record remove_record tell undone
  beside_undo true next l s i = beside_emit _ _ (λ m bs. drop_change n (undone m) bs (λ b. refl)) (keep_find_remove Beside beside_tree (λ t z j. j) _ l.key s i)
  beside_undo false next l s i = beside_emit _ _ (λ m bs. drop_change n (undone m) bs (λ b. refl)) (keep_find_add Beside beside_tree (λ t z j. j) l.key s i)

  beside_above : (mark : ℕ) (ls : List Line) (s : Run) → Beside s → Beside (undo_above mark n ls s)
  unfolding undo_line
  beside_above mark ls s i = keep_above Beside n (λ next l s. beside_undo l.adds next l s) mark ls s i

  beside_mark : (previous : ℕ) (s : Run) → Beside s → Beside (emit (batch_row abort_mark n previous) s)
  unfolding tell mark_set
  beside_mark previous s i = beside_emit (batch_row abort_mark n previous) s (λ m bs. drop_change n (mark_set m) bs (λ b. refl)) i

-- AN ABORT that did not stop takes its batch away.
pub open_aborted : (b : Batch) (s : Run) → (abort_run b s).stop ≡ 0 → open_batches (abort_run b s).log ≡ drop_batch b.number (open_batches s.log)
unfolding abort_run return_run end_batch tell
open_aborted b s z =
    let others = drop_batch b.number (open_batches s.log) in
    let t = emit (batch_row abort_mark b.number b.last) s in
    let u = undo_above 0 b.number b.lines t in
    ap open_batches (emit_log _ u z) ∙ open_more u.log _ ∙ beside_above b.number others 0 b.lines t (beside_mark b.number others b.last s refl)
