-- THE LAST RECORD OF AN OPEN BATCH IS ITS LATEST (02, U2): one of its own, and the log has no later one of that batch.
use Rattle.std.specs.Prelude.{ℕ, zero, suc, ◌≤◌, ◌<◌, ◌≡◌, refl, ◌≢◌, true, false, ◌||◌, List, [], ◌∷◌, ◌++◌, length, leb, ltb, eqb}
use Rattle.std.proofs.Common.{sym, ap, ◌∙◌, subst, append_assoc, append-nil, arith, length-append}
use Rattle.std.proofs.Math.Option.{some}
use Rattle.std.proofs.Math.Decide.{ℕ_discrete}
use Rattle.std.proofs.Math.ListN.{get_or-append}
use Rattle.std.proofs.Math.Seq.{get_or-append_seam}
use Rattle.def_base.specs.Tests.{pick, Case, yes!, no!, case, none_some, some_inj, and_true, true_le, true_eq}
use Rattle.def_layout.specs.Rows.{carries, named_only, row, row_says}
use Rattle.def_layout.specs.Records.{Rec, Kind, begin, insert, delete, undo_insert, undo_delete, commit, abort_mark, end, split, link, unlink, merge, redistribute, raise, lower}
use Rattle.def_model.specs.Log.{no_record, record_at}
use Rattle.def_model.specs.Batches.{Batch, find_batch, change_batch, drop_batch, written, undone, mark_set, tell, told, open_batches, is_record_of}
use Rattle.theory_ledger.specs.Held.{Fresh, Distinct, false_neq}
use Rattle.theory_ledger.specs.Batching.{Within, within_fresh}
use Rattle.theory_ledger.specs.Telling.{Numbered, numbered_tell}
use Rattle.theory_history.specs.Core.{RowsOk}
use Rattle.theory_history.specs.OwnRecords.{of_parts, says, last_of_own}

-- Number n is the greatest of batch b's records.
pub record Latest (b n : ℕ) (log : List Rec) : Type 0 where
  pub own : is_record_of b n log ≡ true
  pub none_later : (m : ℕ) → is_record_of b m log ≡ true → m ≤ n

-- So there is one at most.
pub latest_one : {b n m : ℕ} {log : List Rec} → Latest b n log → Latest b m log → n ≡ m
latest_one {n = n} {m = m} x y = let p = x.none_later m y.own in let q = y.none_later n x.own in omega arith

-- ---- one record more

of_within : (b m : ℕ) (log : List Rec) → is_record_of b m log ≡ true → m ≤ length log
unfolding is_record_of
of_within b m log e = true_le m (length log) (and_true (leb m (length log)) _ (and_true (ltb 0 m) _ e).1).0

-- A record of another batch is none of this one's.
of_fewer : (b m : ℕ) (log : List Rec) (r : Rec) → r.batch ≢ b → is_record_of b m (log ++ r ∷ []) ≡ true → is_record_of b m log ≡ true
unfolding is_record_of record_at
of_fewer b zero log r d e = e
of_fewer b (suc m) log r d e =
    let w = and_true (leb (suc m) (length (log ++ r ∷ []))) (eqb b (record_at (log ++ r ∷ []) (suc m)).batch) (and_true (ltb 0 (suc m)) _ e).1 in
    let k = length-append log (r ∷ []) in
    let h = true_le (suc m) (length (log ++ r ∷ [])) w.0 in
    go (true_eq b (record_at (log ++ r ∷ []) (suc m)).batch w.1) (omega arith) (ℕ_discrete m (length log))
  where
    go : b ≡ (record_at (log ++ r ∷ []) (suc m)).batch → m ≤ length log → Dec (m ≡ length log) → is_record_of b (suc m) log ≡ true
    go w h (yes z) = absurd (d (sym (w ∙ ap (λ j. (record_at (log ++ r ∷ []) (suc j)).batch) z ∙ ap (λ q. q.batch) (get_or-append_seam log r [] no_record))))
    go w h (no z) = of_parts b (suc m) log (omega arith) (omega arith) (ap (λ q. q.batch) (sym (get_or-append log (r ∷ []) no_record m (omega arith))) ∙ sym w)

-- ---- each open batch

-- It has a number above 0, and no record after its last.
unfoldable Ends : List Rec → List Batch → Type 0
Ends log [] = Unit {0}
Ends log (b ∷ bs) = (0 < b.number) × ((m : ℕ) → is_record_of b.number m log ≡ true → m ≤ b.last) × Ends log bs

-- A record of none of them.
ends_more : (log : List Rec) (r : Rec) (bs : List Batch) → Fresh r.batch bs → Ends log bs → Ends (log ++ r ∷ []) bs
unfolding Ends Fresh
ends_more log r [] f h = tt
ends_more log r (b ∷ bs) f h = (h.0, (λ m e. h.1 m (of_fewer b.number m log r f.0 e)), ends_more log r bs f.1 h.2)

ends_change : (log : List Rec) (r : Rec) (f : Batch → Batch) (bs : List Batch) → ((b : Batch) → (f b).number ≡ b.number) → ((b : Batch) → (f b).last ≡ suc (length log)) → Distinct bs → Ends log bs → Ends (log ++ r ∷ []) (change_batch r.batch f bs)
unfolding Ends Distinct change_batch
ends_change log r f [] k l d h = tt
ends_change log r f (b ∷ bs) k l d h = go (case (eqb r.batch b.number)) (ends_change log r f bs k l d.1 h.2)
  where
    go : Case (eqb r.batch b.number) → Ends (log ++ r ∷ []) (change_batch r.batch f bs) → Ends (log ++ r ∷ []) (pick (eqb r.batch b.number) (f b ∷ bs) (b ∷ change_batch r.batch f bs))
    go (yes! t) i =
        let p = h.0 in
        let n = k b in
        rw t (omega arith, (λ m e. let w = of_within (f b).number m (log ++ r ∷ []) e in let y = length-append log (r ∷ []) in let z = l b in omega arith), ends_more log r bs (subst (λ n. Fresh n bs) (sym (true_eq r.batch b.number t)) d.0) h.2)
    go (no! t) i = rw t (h.0, (λ m e. h.1 m (of_fewer b.number m log r (false_neq r.batch b.number t) e)), i)

ends_drop : (log : List Rec) (r : Rec) (bs : List Batch) → Distinct bs → Ends log bs → Ends (log ++ r ∷ []) (drop_batch r.batch bs)
unfolding Ends Distinct drop_batch
ends_drop log r [] d h = tt
ends_drop log r (b ∷ bs) d h = go (case (eqb r.batch b.number)) (ends_drop log r bs d.1 h.2)
  where
    go : Case (eqb r.batch b.number) → Ends (log ++ r ∷ []) (drop_batch r.batch bs) → Ends (log ++ r ∷ []) (pick (eqb r.batch b.number) bs (b ∷ drop_batch r.batch bs))
    go (yes! t) i = rw t (ends_more log r bs (subst (λ n. Fresh n bs) (sym (true_eq r.batch b.number t)) d.0) h.2)
    go (no! t) i = rw t (h.0, (λ m e. h.1 m (of_fewer b.number m log r (false_neq r.batch b.number t) e)), i)

-- A begin's number is that of no open batch.
ends_begin : (log : List Rec) (bs : List Batch) (b : Batch) → 0 < b.number → length log ≤ b.last → Ends log bs → Ends log (bs ++ b ∷ [])
unfolding Ends
ends_begin log [] b p l h = (p, (λ m e. let w = of_within b.number m log e in omega arith), tt)
ends_begin log (a ∷ bs) b p l h = (h.0, h.1, ends_begin log bs b p l h.2)

-- The record of a tree change is of no batch.
above_zero : (log : List Rec) (bs : List Batch) → Ends log bs → Fresh 0 bs
unfolding Ends Fresh
above_zero log [] h = tt
above_zero log (b ∷ bs) h = let p = h.0 in (omega arith, above_zero log bs h.2)

of_none : (k : Kind) (r : Rec) → named_only (carries k) r ≡ true → (carries k).batch ≡ false → r.batch ≡ 0
unfolding named_only
of_none k r e f = let z = (and_true ((carries k).batch || eqb r.batch 0) _ (and_true ((carries k).level || eqb r.level 0) _ e).1).0 in true_eq r.batch 0 (sym (ap (λ t. t || eqb r.batch 0) f) ∙ z)

ends_tree : (k : Kind) (log : List Rec) (r : Rec) (bs : List Batch) → named_only (carries k) r ≡ true → (carries k).batch ≡ false → Ends log bs → Ends (log ++ r ∷ []) bs
ends_tree k log r bs e f h = ends_more log r bs (subst (λ n. Fresh n bs) (sym (of_none k r e f)) (above_zero log bs h)) h

ends_tell : (k : Kind) (log : List Rec) (r : Rec) (bs : List Batch) → named_only (carries k) r ≡ true → row_says k (suc (length log)) r ≡ true → Numbered (length log) bs → Ends log bs → Ends (log ++ r ∷ []) (tell k (suc (length log)) r bs)
unfolding tell written undone mark_set row_says carries
ends_tell begin log r bs c e n h =
    let l = length-append log (r ∷ []) in
    ends_begin (log ++ r ∷ []) bs _ (omega arith) (omega arith) (ends_more log r bs (subst (λ z. Fresh z bs) (sym (true_eq r.batch (suc (length log)) e)) (within_fresh (length log) (suc (length log)) bs (omega arith) n.within)) h)
ends_tell insert log r bs c e n h = ends_change log r _ bs (λ b. refl) (λ b. refl) n.distinct h
ends_tell delete log r bs c e n h = ends_change log r _ bs (λ b. refl) (λ b. refl) n.distinct h
ends_tell undo_insert log r bs c e n h = ends_change log r _ bs (λ b. refl) (λ b. refl) n.distinct h
ends_tell undo_delete log r bs c e n h = ends_change log r _ bs (λ b. refl) (λ b. refl) n.distinct h
ends_tell commit log r bs c e n h = ends_drop log r bs n.distinct h
ends_tell abort_mark log r bs c e n h = ends_change log r _ bs (λ b. refl) (λ b. refl) n.distinct h
ends_tell end log r bs c e n h = ends_drop log r bs n.distinct h
ends_tell split log r bs c e n h = ends_tree split log r bs c refl h
ends_tell link log r bs c e n h = ends_tree link log r bs c refl h
ends_tell unlink log r bs c e n h = ends_tree unlink log r bs c refl h
ends_tell merge log r bs c e n h = ends_tree merge log r bs c refl h
ends_tell redistribute log r bs c e n h = ends_tree redistribute log r bs c refl h
ends_tell raise log r bs c e n h = ends_tree raise log r bs c refl h
ends_tell lower log r bs c e n h = ends_tree lower log r bs c refl h

names : (m : ℕ) (r : Rec) → row m r ≡ true → named_only (carries r.kind) r ≡ true
unfolding row
names m r e = (and_true (named_only (carries r.kind) r) _ e).0

ends_told : (log rest : List Rec) (bs : List Batch) → RowsOk (suc (length log)) rest → Numbered (length log) bs → Ends log bs → Ends (log ++ rest) (told (suc (length log)) rest bs)
unfolding RowsOk told
ends_told log [] bs w n h = subst (λ l. Ends l bs) (sym (append-nil log)) h
ends_told log (r ∷ rest) bs w n h =
    let z : length (log ++ r ∷ []) ≡ suc (length log) = length-append log (r ∷ []) ∙ omega arith in
    let bs' = tell r.kind (suc (length log)) r bs in
    let i = ends_told (log ++ r ∷ []) rest bs' (subst (λ m. RowsOk (suc m) rest) (sym z) w.1) (subst (λ m. Numbered m bs') (sym z) (numbered_tell r.kind (length log) r bs n))
    (ends_tell r.kind log r bs (names (suc (length log)) r w.0) (says (suc (length log)) r w.0) n h) in
    subst (λ l. Ends l (told (suc (suc (length log))) rest bs')) (append_assoc log (r ∷ []) rest) (subst (λ m. Ends ((log ++ r ∷ []) ++ rest) (told (suc m) rest bs')) z i)

found_ends : (log : List Rec) (n : ℕ) (bs : List Batch) (b : Batch) → Ends log bs → find_batch n bs ≡ some b → (m : ℕ) → is_record_of n m log ≡ true → m ≤ b.last
unfolding Ends find_batch
found_ends log n [] b h e = none_some e
found_ends log n (a ∷ bs) b h e = go (case (eqb n a.number)) (found_ends log n bs b h.2)
  where
    go : Case (eqb n a.number) → (find_batch n bs ≡ some b → (m : ℕ) → is_record_of n m log ≡ true → m ≤ b.last) → (m : ℕ) → is_record_of n m log ≡ true → m ≤ b.last
    go (yes! t) i = subst (λ x. (m : ℕ) → is_record_of n m log ≡ true → m ≤ x.last) (some_inj (rw t at e)) (subst (λ j. (m : ℕ) → is_record_of j m log ≡ true → m ≤ a.last) (sym (true_eq n a.number t)) h.1)
    go (no! t) i = i (rw t at e)

-- Of every log whose records keep their rows.
pub last_is_latest : (log : List Rec) (n : ℕ) (b : Batch) → RowsOk 1 log → find_batch n (open_batches log) ≡ some b → Latest n b.last log
unfolding open_batches Ends Distinct Within
last_is_latest log n b w e =
    record { own = last_of_own log n b w e; none_later = found_ends log n (open_batches log) b (ends_told [] log [] w (record { distinct = tt; within = tt }) tt) e }
