-- A BATCH'S LAST RECORD IS ONE OF ITS OWN (02, U2): so what mark answers is a mark, and stays one while the log grows.
use Rattle.std.specs.Prelude.{ℕ, zero, suc, ◌≤◌, ◌<◌, ◌≡◌, refl, Bool, true, false, List, [], ◌∷◌, ◌++◌, length, leb, ltb, eqb}
use Rattle.std.proofs.Common.{sym, ap, ◌∙◌, subst, append_assoc, append-nil, arith, length-append}
use Rattle.std.proofs.Math.Option.{some}
use Rattle.std.proofs.Math.ListN.{get_or-append}
use Rattle.std.proofs.Math.Seq.{get_or-append_seam}
use Rattle.def_base.specs.Tests.{pick, Case, yes!, no!, case, none_some, some_inj, and_true, and_both, true_lt, true_le, le_true, lt_true, true_eq, eq_true}
use Rattle.def_layout.specs.Sizes.{room}
use Rattle.def_layout.specs.Rows.{carries, named_only, row, row_says}
use Rattle.def_layout.specs.Records.{Rec, Kind, begin, insert, delete, undo_insert, undo_delete, commit, abort_mark, end, split, link, unlink, merge, redistribute, raise, lower}
use Rattle.def_model.specs.Log.{no_record, record_at}
use Rattle.def_model.specs.Batches.{Batch, find_batch, change_batch, drop_batch, written, undone, mark_set, tell, told, open_batches, is_record_of}
use Rattle.theory_history.specs.Core.{RowsOk}

-- ---- a record of a batch, in a log that grows

pub of_parts : (b n : ℕ) (log : List Rec) → 0 < n → n ≤ length log → (record_at log n).batch ≡ b → is_record_of b n log ≡ true
unfolding is_record_of
of_parts b n log p l e = and_both (lt_true 0 n p) (and_both (le_true n (length log) l) (eq_true b (record_at log n).batch (sym e)))

pub of_more : (b n : ℕ) (log more : List Rec) → is_record_of b n log ≡ true → is_record_of b n (log ++ more) ≡ true
unfolding is_record_of record_at
of_more b n log more e =
    let (p, e₁) = and_true (ltb 0 n) _ e in
    let (l, q) = and_true (leb n (length log)) _ e₁ in
    let k = length-append log more in
    let h = true_le n (length log) l in
    of_parts b n (log ++ more) (true_lt 0 n p) (omega arith) (at n h ∙ sym (true_eq b (record_at log n).batch q))
  where
    at : (n : ℕ) → n ≤ length log → (record_at (log ++ more) n).batch ≡ (record_at log n).batch
    at zero h = refl
    at (suc n) h = ap (λ r. r.batch) (get_or-append log more no_record n (omega arith))

of_next : (b : ℕ) (log : List Rec) (r : Rec) → r.batch ≡ b → is_record_of b (suc (length log)) (log ++ r ∷ []) ≡ true
unfolding record_at
of_next b log r e = let k = length-append log (r ∷ []) in of_parts b (suc (length log)) (log ++ r ∷ []) (omega arith) (omega arith) (ap (λ q. q.batch) (get_or-append_seam log r [] no_record) ∙ e)

-- ---- each batch's last record

unfoldable Own : List Rec → List Batch → Type 0
Own log [] = Unit {0}
Own log (b ∷ bs) = (is_record_of b.number b.last log ≡ true) × Own log bs

own_more : (log more : List Rec) (bs : List Batch) → Own log bs → Own (log ++ more) bs
unfolding Own
own_more log more [] h = tt
own_more log more (b ∷ bs) h = (of_more b.number b.last log more h.0, own_more log more bs h.1)

own_end : (log : List Rec) (bs : List Batch) (b : Batch) → Own log bs → is_record_of b.number b.last log ≡ true → Own log (bs ++ b ∷ [])
unfolding Own
own_end log [] b h e = (e, tt)
own_end log (a ∷ bs) b h e = (h.0, own_end log bs b h.1 e)

own_drop : (log : List Rec) (n : ℕ) (bs : List Batch) → Own log bs → Own log (drop_batch n bs)
unfolding Own drop_batch
own_drop log n [] h = tt
own_drop log n (b ∷ bs) h = go (eqb n b.number) (own_drop log n bs h.1)
  where
    go : (t : Bool) → Own log (drop_batch n bs) → Own log (pick t bs (b ∷ drop_batch n bs))
    go true i = h.1
    go false i = (h.0, i)

-- The record is the last of the batch that it names.
own_change : (log : List Rec) (r : Rec) (f : Batch → Batch) (bs : List Batch) → ((b : Batch) → (f b).number ≡ b.number) → ((b : Batch) → (f b).last ≡ suc (length log)) → Own log bs → Own (log ++ r ∷ []) (change_batch r.batch f bs)
unfolding Own change_batch
own_change log r f [] k l h = tt
own_change log r f (b ∷ bs) k l h = go (case (eqb r.batch b.number)) (own_change log r f bs k l h.1)
  where
    go : Case (eqb r.batch b.number) → Own (log ++ r ∷ []) (change_batch r.batch f bs) → Own (log ++ r ∷ []) (pick (eqb r.batch b.number) (f b ∷ bs) (b ∷ change_batch r.batch f bs))
    go (yes! t) i = rw t (subst (λ n. is_record_of (f b).number n (log ++ r ∷ []) ≡ true) (sym (l b)) (of_next (f b).number log r (true_eq r.batch b.number t ∙ sym (k b))), own_more log (r ∷ []) bs h.1)
    go (no! t) i = rw t (of_more b.number b.last log (r ∷ []) h.0, i)

own_tell : (k : Kind) (log : List Rec) (r : Rec) (bs : List Batch) → row_says k (suc (length log)) r ≡ true → Own log bs → Own (log ++ r ∷ []) (tell k (suc (length log)) r bs)
unfolding tell written undone mark_set row_says
own_tell begin log r bs e h = own_end (log ++ r ∷ []) bs _ (own_more log (r ∷ []) bs h) (of_next (suc (length log)) log r (true_eq r.batch (suc (length log)) e))
own_tell insert log r bs e h = own_change log r _ bs (λ b. refl) (λ b. refl) h
own_tell delete log r bs e h = own_change log r _ bs (λ b. refl) (λ b. refl) h
own_tell undo_insert log r bs e h = own_change log r _ bs (λ b. refl) (λ b. refl) h
own_tell undo_delete log r bs e h = own_change log r _ bs (λ b. refl) (λ b. refl) h
own_tell commit log r bs e h = own_drop (log ++ r ∷ []) r.batch bs (own_more log (r ∷ []) bs h)
own_tell abort_mark log r bs e h = own_change log r _ bs (λ b. refl) (λ b. refl) h
own_tell end log r bs e h = own_drop (log ++ r ∷ []) r.batch bs (own_more log (r ∷ []) bs h)
own_tell split log r bs e h = own_more log (r ∷ []) bs h
own_tell link log r bs e h = own_more log (r ∷ []) bs h
own_tell unlink log r bs e h = own_more log (r ∷ []) bs h
own_tell merge log r bs e h = own_more log (r ∷ []) bs h
own_tell redistribute log r bs e h = own_more log (r ∷ []) bs h
own_tell raise log r bs e h = own_more log (r ∷ []) bs h
own_tell lower log r bs e h = own_more log (r ∷ []) bs h

pub says : (m : ℕ) (r : Rec) → row m r ≡ true → row_says r.kind m r ≡ true
unfolding row
says m r e = (and_true (leb (length r.entries) room) _ (and_true (named_only (carries r.kind) r) _ e).1).1

own_told : (log rest : List Rec) (bs : List Batch) → RowsOk (suc (length log)) rest → Own log bs → Own (log ++ rest) (told (suc (length log)) rest bs)
unfolding RowsOk told
own_told log [] bs w h = subst (λ l. Own l bs) (sym (append-nil log)) h
own_told log (r ∷ rest) bs w h =
    let n : length (log ++ r ∷ []) ≡ suc (length log) = length-append log (r ∷ []) ∙ omega arith in
    let i = own_told (log ++ r ∷ []) rest (tell r.kind (suc (length log)) r bs) (subst (λ m. RowsOk (suc m) rest) (sym n) w.1) (own_tell r.kind log r bs (says (suc (length log)) r w.0) h) in
    subst (λ l. Own l (told (suc (suc (length log))) rest (tell r.kind (suc (length log)) r bs))) (append_assoc log (r ∷ []) rest)
    (subst (λ m. Own ((log ++ r ∷ []) ++ rest) (told (suc m) rest (tell r.kind (suc (length log)) r bs))) n i)

found_own : (log : List Rec) (n : ℕ) (bs : List Batch) (b : Batch) → Own log bs → find_batch n bs ≡ some b → is_record_of n b.last log ≡ true
unfolding Own find_batch
found_own log n [] b h e = none_some e
found_own log n (a ∷ bs) b h e = go (case (eqb n a.number)) (found_own log n bs b h.1)
  where
    go : Case (eqb n a.number) → (find_batch n bs ≡ some b → is_record_of n b.last log ≡ true) → is_record_of n b.last log ≡ true
    go (yes! t) i = subst (λ x. is_record_of n x.last log ≡ true) (some_inj (rw t at e)) (subst (λ m. is_record_of m a.last log ≡ true) (sym (true_eq n a.number t)) h.0)
    go (no! t) i = i (rw t at e)

-- Of every log whose records keep their rows.
pub last_of_own : (log : List Rec) (n : ℕ) (b : Batch) → RowsOk 1 log → find_batch n (open_batches log) ≡ some b → is_record_of n b.last log ≡ true
unfolding open_batches Own
last_of_own log n b w e = found_own log n (open_batches log) b (own_told [] log [] w tt) e
