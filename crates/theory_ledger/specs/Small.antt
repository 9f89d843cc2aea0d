-- Pending keys are keys: not above top. Every record keeps that.
use Rattle.std.specs.Prelude.{ℕ, ◌≤◌, ◌≡◌, Bool, true, false, List, [], ◌∷◌, ◌++◌, eqb}
use Rattle.std.proofs.Common.{subst}
use Rattle.std.proofs.Math.Option.{some}
use Rattle.def_base.specs.Tests.{pick, Case, yes!, no!, case, none_some, some_inj}
use Rattle.def_layout.specs.Entries.{top}
use Rattle.def_model.specs.Batches.{Line, Batch, rest_of, find_batch, change_batch, drop_batch}

unfoldable pub SmallLines : List Line → Type 0
SmallLines [] = Unit {0}
SmallLines (l ∷ ls) = (l.key ≤ top) × SmallLines ls

unfoldable pub Small : List Batch → Type 0
Small [] = Unit {0}
Small (b ∷ bs) = SmallLines b.lines × Small bs

pub small_change : (n : ℕ) (f : Batch → Batch) (bs : List Batch) → ((b : Batch) → SmallLines b.lines → SmallLines (f b).lines) → Small bs → Small (change_batch n f bs)
unfolding Small change_batch
small_change n f [] g h = tt
small_change n f (b ∷ bs) g h = go (eqb n b.number) (small_change n f bs g h.1)
  where
    go : (t : Bool) → Small (change_batch n f bs) → Small (pick t (f b ∷ bs) (b ∷ change_batch n f bs))
    go true i = (g b h.0, h.1)
    go false i = (h.0, i)

pub small_drop : (n : ℕ) (bs : List Batch) → Small bs → Small (drop_batch n bs)
unfolding Small drop_batch
small_drop n [] h = tt
small_drop n (b ∷ bs) h = go (eqb n b.number) (small_drop n bs h.1)
  where
    go : (t : Bool) → Small (drop_batch n bs) → Small (pick t bs (b ∷ drop_batch n bs))
    go true i = h.1
    go false i = (h.0, i)

pub small_end : (bs : List Batch) (b : Batch) → SmallLines b.lines → Small bs → Small (bs ++ b ∷ [])
unfolding Small
small_end [] b g h = (g, tt)
small_end (a ∷ bs) b g h = (h.0, small_end bs b g h.1)

pub found_small : (n : ℕ) (bs : List Batch) (b : Batch) → Small bs → find_batch n bs ≡ some b → SmallLines b.lines
unfolding Small find_batch
found_small n [] b h e = none_some e
found_small n (a ∷ bs) b h e = go (case (eqb n a.number)) (found_small n bs b h.1)
  where
    go : Case (eqb n a.number) → (find_batch n bs ≡ some b → SmallLines b.lines) → SmallLines b.lines
    go (yes! t) i = subst (λ y. SmallLines y.lines) (some_inj (rw t at e)) h.0
    go (no! t) i = i (rw t at e)

pub small_first : (l : Line) (ls : List Line) → SmallLines (l ∷ ls) → l.key ≤ top
unfolding SmallLines
small_first l ls h = h.0

pub small_rest : (ls : List Line) → SmallLines ls → SmallLines (rest_of ls)
unfolding SmallLines rest_of
small_rest [] h = tt
small_rest (l ∷ ls) h = h.1
