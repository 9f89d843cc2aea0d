-- How many updates are pending and how many batches are open, after each record that a batch writes.
use Rattle.std.specs.Prelude.{ℕ, suc, ◌+◌, ◌≡◌, refl, Bool, true, false, List, [], ◌∷◌, ◌++◌, length, eqb}
use Rattle.std.proofs.Common.{ap, arith}
use Rattle.std.proofs.Math.Option.{some}
use Rattle.def_base.specs.Tests.{pick, Case, yes!, no!, case, none_some, some_inj}
use Rattle.def_model.specs.Batches.{Batch, find_batch, change_batch, drop_batch, pending_count}

-- A batch that changes, by its number of lines.
pub change_pending : (n : ℕ) (f : Batch → Batch) (bs : List Batch) (y : Batch) → find_batch n bs ≡ some y → pending_count (change_batch n f bs) + length y.lines ≡ pending_count bs + length (f y).lines
unfolding pending_count change_batch find_batch
change_pending n f [] y e = none_some e
change_pending n f (b ∷ bs) y e = go (case (eqb n b.number)) (change_pending n f bs y)
  where
    go : Case (eqb n b.number) → (find_batch n bs ≡ some y → pending_count (change_batch n f bs) + length y.lines ≡ pending_count bs + length (f y).lines)
        → pending_count (pick (eqb n b.number) (f b ∷ bs) (b ∷ change_batch n f bs)) + length y.lines ≡ length b.lines + pending_count bs + length (f y).lines
    go (yes! t) i = let q : b ≡ y = some_inj (rw t at e) in let u : length b.lines ≡ length y.lines = ap (λ z. length z.lines) q in let v : length (f b).lines ≡ length (f y).lines = ap (λ z. length (f z).lines) q in rw t (omega arith)
    go (no! t) i = let q = i (rw t at e) in rw t (omega arith)

pub change_count : (n : ℕ) (f : Batch → Batch) (bs : List Batch) → length (change_batch n f bs) ≡ length bs
unfolding change_batch
change_count n f [] = refl
change_count n f (b ∷ bs) = go (eqb n b.number) (change_count n f bs)
  where
    go : (t : Bool) → length (change_batch n f bs) ≡ length bs → length (pick t (f b ∷ bs) (b ∷ change_batch n f bs)) ≡ suc (length bs)
    go true i = refl
    go false i = ap suc i

-- A batch that is gone.
pub drop_pending : (n : ℕ) (bs : List Batch) (y : Batch) → find_batch n bs ≡ some y → (pending_count (drop_batch n bs) + length y.lines ≡ pending_count bs) × (suc (length (drop_batch n bs)) ≡ length bs)
unfolding pending_count drop_batch find_batch
drop_pending n [] y e = none_some e
drop_pending n (b ∷ bs) y e = go (case (eqb n b.number)) (drop_pending n bs y)
  where
    go : Case (eqb n b.number) → (find_batch n bs ≡ some y → (pending_count (drop_batch n bs) + length y.lines ≡ pending_count bs) × (suc (length (drop_batch n bs)) ≡ length bs))
        → (pending_count (pick (eqb n b.number) bs (b ∷ drop_batch n bs)) + length y.lines ≡ length b.lines + pending_count bs) × (suc (length (pick (eqb n b.number) bs (b ∷ drop_batch n bs))) ≡ suc (length bs))
    go (yes! t) i = let q : b ≡ y = some_inj (rw t at e) in let u : length b.lines ≡ length y.lines = ap (λ z. length z.lines) q in (rw t (omega arith), rw t refl)
    go (no! t) i = let (q, r) = i (rw t at e) in (rw t (omega arith), rw t (ap suc r))

-- A batch more.
pub more_pending : (bs : List Batch) (b : Batch) → b.lines ≡ [] → pending_count (bs ++ b ∷ []) ≡ pending_count bs
unfolding pending_count
more_pending [] b e = let z : length b.lines ≡ 0 = ap length e in omega arith
more_pending (a ∷ bs) b e = ap (λ z. length a.lines + z) (more_pending bs b e)
