-- Lists of open batches: what holds of all of them and of one that is found, changed, dropped or new; and how many lines are pending.
use Rattle.std.specs.Prelude.{ℕ, ◌+◌, ◌≤◌, ◌≡◌, Bool, length, eqb}
use Rattle.std.proofs.Common.{sym, ap, arith}
use Rattle.std.proofs.Math.Path.{subst}
use Rattle.std.proofs.Math.Option.{some}
use Rattle.std.proofs.Math.Bool.{true, false}
use mathlib.Core.List.{List, [], ◌∷◌, ◌++◌}
use Rattle.def_base.specs.Tests.{pick, Case, yes!, no!, case, none_some, some_inj}
use Rattle.def_model.specs.Batches.{Batch, find_batch, change_batch, drop_batch, pending_count}
use Rattle.law_bytes.specs.Pieces.{All}

module _ (P : Batch → Type 0) where
  pub all_found : (n : ℕ) (bs : List Batch) (b : Batch) → find_batch n bs ≡ some b → All P bs → P b
  unfolding find_batch All
  all_found n [] b e h = none_some e
  all_found n (a ∷ bs) b e h = go (case (eqb n a.number)) (all_found n bs b)
    where
      go : Case (eqb n a.number) → (find_batch n bs ≡ some b → All P bs → P b) → P b
      go (yes! t) i = subst P (some_inj (rw t at e)) h.0
      go (no! t) i = i (rw t at e) h.1

  pub all_drop : (n : ℕ) (bs : List Batch) → All P bs → All P (drop_batch n bs)
  unfolding drop_batch All
  all_drop n [] h = tt
  all_drop n (a ∷ bs) h = go (eqb n a.number) (all_drop n bs h.1)
    where
      go : (t : Bool) → All P (drop_batch n bs) → All P (pick t bs (a ∷ drop_batch n bs))
      go true i = h.1
      go false i = (h.0, i)

  pub all_end : (bs : List Batch) (b : Batch) → P b → All P bs → All P (bs ++ b ∷ [])
  unfolding All
  all_end [] b p h = (p, tt)
  all_end (a ∷ bs) b p h = (h.0, all_end bs b p h.1)

  pub all_change : (n : ℕ) (f : Batch → Batch) (bs : List Batch) (b : Batch) → find_batch n bs ≡ some b → P (f b) → All P bs → All P (change_batch n f bs)
  unfolding find_batch change_batch All
  all_change n f [] b e p h = tt
  all_change n f (a ∷ bs) b e p h = go (case (eqb n a.number)) (all_change n f bs b)
    where
      go : Case (eqb n a.number) → (find_batch n bs ≡ some b → P (f b) → All P bs → All P (change_batch n f bs))
          → All P (pick (eqb n a.number) (f a ∷ bs) (a ∷ change_batch n f bs))
      go (yes! t) i = rw t (subst (λ (x : Batch). P (f x)) (sym (some_inj (rw t at e))) p, h.1)
      go (no! t) i = rw t (h.0, i (rw t at e) p h.1)

-- ---- how many lines are pending

pub count_change : (n : ℕ) (f : Batch → Batch) (bs : List Batch) (b : Batch) → find_batch n bs ≡ some b
    → pending_count (change_batch n f bs) + length b.lines ≡ pending_count bs + length (f b).lines
unfolding find_batch change_batch pending_count
count_change n f [] b e = none_some e
count_change n f (a ∷ bs) b e = go (case (eqb n a.number)) (count_change n f bs b)
  where
    go : Case (eqb n a.number) → (find_batch n bs ≡ some b → pending_count (change_batch n f bs) + length b.lines ≡ pending_count bs + length (f b).lines)
        → pending_count (pick (eqb n a.number) (f a ∷ bs) (a ∷ change_batch n f bs)) + length b.lines ≡ length a.lines + pending_count bs + length (f b).lines
    go (yes! t) i =
        let z : a ≡ b = some_inj (rw t at e) in
        let u : length a.lines ≡ length b.lines = ap (λ (x : Batch). length x.lines) z in
        let v : length (f a).lines ≡ length (f b).lines = ap (λ (x : Batch). length (f x).lines) z in
        rw t (omega arith)
    go (no! t) i = let w = i (rw t at e) in rw t (omega arith)

pub count_drop : (n : ℕ) (bs : List Batch) → pending_count (drop_batch n bs) ≤ pending_count bs
unfolding drop_batch pending_count
count_drop n [] = omega arith
count_drop n (a ∷ bs) = go (eqb n a.number) (count_drop n bs)
  where
    go : (t : Bool) → pending_count (drop_batch n bs) ≤ pending_count bs → pending_count (pick t bs (a ∷ drop_batch n bs)) ≤ length a.lines + pending_count bs
    go true i = omega arith
    go false i = omega arith

pub count_end : (bs : List Batch) (b : Batch) → pending_count (bs ++ b ∷ []) ≡ pending_count bs + length b.lines
unfolding pending_count
count_end [] b = omega arith
count_end (a ∷ bs) b = let e = count_end bs b in omega arith
