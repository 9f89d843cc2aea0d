-- Lists of open batches: finding, changing and dropping one by its number; numbers are distinct and rise no higher than the log.
use Rattle.std.specs.Prelude.{ℕ, suc, ◌≤◌, ◌<◌, ◌≡◌, refl, ◌≢◌, Bool, true, false, List, [], ◌∷◌, ◌++◌, eqb}
use Rattle.std.proofs.Common.{sym, ap, ◌∙◌, subst, arith}
use Rattle.std.proofs.Math.Option.{some}
use Rattle.def_base.specs.Tests.{pick, Case, yes!, no!, case, none_some, some_inj, true_eq, eq_true, neq_false}
use Rattle.def_model.specs.Batches.{Line, Batch, find_batch, change_batch, drop_batch}
use Rattle.theory_ledger.specs.Held.{Fresh, Distinct}

-- ---- finding

pub find_number : (n : ℕ) (bs : List Batch) (b : Batch) → find_batch n bs ≡ some b → n ≡ b.number
unfolding find_batch
find_number n [] b e = none_some e
find_number n (a ∷ bs) b e = go (case (eqb n a.number)) (find_number n bs b)
  where
    go : Case (eqb n a.number) → (find_batch n bs ≡ some b → n ≡ b.number) → n ≡ b.number
    go (yes! t) i = true_eq n a.number t ∙ ap (λ x. x.number) (some_inj (rw t at e))
    go (no! t) i = i (rw t at e)

-- The batch that was changed is found changed.
pub find_change : (n : ℕ) (f : Batch → Batch) (bs : List Batch) (b : Batch) → find_batch n bs ≡ some b → (f b).number ≡ b.number → find_batch n (change_batch n f bs) ≡ some (f b)
unfolding find_batch change_batch
find_change n f [] b e k = none_some e
find_change n f (a ∷ bs) b e k = go (case (eqb n a.number)) (find_change n f bs b)
  where
    go : Case (eqb n a.number) → (find_batch n bs ≡ some b → (f b).number ≡ b.number → find_batch n (change_batch n f bs) ≡ some (f b))
        → find_batch n (pick (eqb n a.number) (f a ∷ bs) (a ∷ change_batch n f bs)) ≡ some (f b)
    go (no! t) i = rw (t, t) (i (rw t at e) k)
    go (yes! t) i =
        let z : a ≡ b = some_inj (rw t at e) in
        let w : n ≡ (f a).number = true_eq n a.number t ∙ ap (λ x. x.number) z ∙ sym k ∙ ap (λ x. (f x).number) (sym z) in
        rw (t, eq_true n (f a).number w) (ap (λ x. some (f x)) z)

-- Another one is found as it was.
pub find_change_other : (m n : ℕ) (f : Batch → Batch) (bs : List Batch) → ((b : Batch) → (f b).number ≡ b.number) → m ≢ n → find_batch m (change_batch n f bs) ≡ find_batch m bs
unfolding find_batch change_batch
find_change_other m n f [] k d = refl
find_change_other m n f (a ∷ bs) k d = go (case (eqb n a.number)) (find_change_other m n f bs k d)
  where
    go : Case (eqb n a.number) → find_batch m (change_batch n f bs) ≡ find_batch m bs
        → find_batch m (pick (eqb n a.number) (f a ∷ bs) (a ∷ change_batch n f bs)) ≡ pick (eqb m a.number) (some a) (find_batch m bs)
    go (no! t) i = rw (t, i)
    go (yes! t) i =
        let w : m ≢ a.number = λ e. d (e ∙ sym (true_eq n a.number t)) in
        let w' : m ≢ (f a).number = λ e. w (e ∙ k a) in
        rw (t, neq_false w, neq_false w')

pub find_end : (n : ℕ) (bs : List Batch) (b : Batch) → Fresh n bs → n ≡ b.number → find_batch n (bs ++ b ∷ []) ≡ some b
unfolding find_batch Fresh
find_end n [] b f e = rw (eq_true n b.number e)
find_end n (a ∷ bs) b f e = rw (neq_false f.0) (find_end n bs b f.1 e)

-- Dropped, it is gone however it was changed.
pub drop_change : (n : ℕ) (f : Batch → Batch) (bs : List Batch) → ((b : Batch) → (f b).number ≡ b.number) → drop_batch n (change_batch n f bs) ≡ drop_batch n bs
unfolding drop_batch change_batch
drop_change n f [] k = refl
drop_change n f (b ∷ bs) k = go (case (eqb n b.number)) (drop_change n f bs k)
  where
    go : Case (eqb n b.number) → drop_batch n (change_batch n f bs) ≡ drop_batch n bs → drop_batch n (pick (eqb n b.number) (f b ∷ bs) (b ∷ change_batch n f bs)) ≡ pick (eqb n b.number) bs (b ∷ drop_batch n bs)
    go (no! t) i = rw (t, t, i)
    go (yes! t) i = rw (t, eq_true n (f b).number (true_eq n b.number t ∙ sym (k b)))

-- A batch that the change leaves as it is; and one change after another.
pub change_none : (n : ℕ) (f : Batch → Batch) (bs : List Batch) (b : Batch) → find_batch n bs ≡ some b → f b ≡ b → change_batch n f bs ≡ bs
unfolding find_batch change_batch
change_none n f [] b e k = refl
change_none n f (a ∷ bs) b e k = go (case (eqb n a.number)) (change_none n f bs b)
  where
    go : Case (eqb n a.number) → (find_batch n bs ≡ some b → f b ≡ b → change_batch n f bs ≡ bs) → pick (eqb n a.number) (f a ∷ bs) (a ∷ change_batch n f bs) ≡ a ∷ bs
    go (yes! t) i = rw t (ap (◌∷ bs) (subst (λ x. f x ≡ x) (sym (some_inj (rw t at e))) k))
    go (no! t) i = rw t (ap (a ∷◌) (i (rw t at e) k))

pub change_twice : (n : ℕ) (f g : Batch → Batch) (bs : List Batch) → ((b : Batch) → (g b).number ≡ b.number) → change_batch n f (change_batch n g bs) ≡ change_batch n (λ b. f (g b)) bs
unfolding change_batch
change_twice n f g [] k = refl
change_twice n f g (b ∷ bs) k = go (case (eqb n b.number)) (change_twice n f g bs k)
  where
    go : Case (eqb n b.number) → change_batch n f (change_batch n g bs) ≡ change_batch n (λ b. f (g b)) bs
        → change_batch n f (pick (eqb n b.number) (g b ∷ bs) (b ∷ change_batch n g bs)) ≡ pick (eqb n b.number) (f (g b) ∷ bs) (b ∷ change_batch n (λ b. f (g b)) bs)
    go (no! t) i = rw (t, t, i)
    go (yes! t) i = rw (t, eq_true n (g b).number (true_eq n b.number t ∙ sym (k b)))

-- ---- numbers

-- Lines' numbers fall strictly, from below n down to 1 at least: the newest first.
unfoldable pub Falls : ℕ → List Line → Type 0
Falls n [] = Unit {0}
Falls n (l ∷ ls) = (0 < l.number) × (l.number < n) × Falls l.number ls

-- The batches' numbers and their lines' are not above m.
unfoldable pub Within : ℕ → List Batch → Type 0
Within m [] = Unit {0}
Within m (b ∷ bs) = (b.number ≤ m) × Falls (suc m) b.lines × Within m bs

pub falls_more : (m n : ℕ) (ls : List Line) → m ≤ n → Falls m ls → Falls n ls
unfolding Falls
falls_more m n [] l h = tt
falls_more m n (x ∷ ls) l h = let a = h.1 in (h.0, omega arith, h.2)

pub within_more : (m : ℕ) (bs : List Batch) → Within m bs → Within (suc m) bs
unfolding Within
within_more m [] h = tt
within_more m (b ∷ bs) h = let a = h.0 in (omega arith, falls_more (suc m) (suc (suc m)) b.lines (omega arith) h.1, within_more m bs h.2)

pub within_fresh : (m n : ℕ) (bs : List Batch) → m < n → Within m bs → Fresh n bs
unfolding Within Fresh
within_fresh m n [] l h = tt
within_fresh m n (b ∷ bs) l h = let a = h.0 in (omega arith, within_fresh m n bs l h.2)

-- An open batch's lines.
pub within_found : (m n : ℕ) (bs : List Batch) (b : Batch) → Within m bs → find_batch n bs ≡ some b → Falls (suc m) b.lines
unfolding Within find_batch
within_found m n [] b h e = none_some e
within_found m n (a ∷ bs) b h e = go (case (eqb n a.number)) (within_found m n bs b h.2)
  where
    go : Case (eqb n a.number) → (find_batch n bs ≡ some b → Falls (suc m) b.lines) → Falls (suc m) b.lines
    go (yes! t) i = subst (λ y. Falls (suc m) y.lines) (some_inj (rw t at e)) h.1
    go (no! t) i = i (rw t at e)

-- ---- what each record does to them

pub fresh_change : (m n : ℕ) (f : Batch → Batch) (bs : List Batch) → ((b : Batch) → (f b).number ≡ b.number) → Fresh m bs → Fresh m (change_batch n f bs)
unfolding Fresh change_batch
fresh_change m n f [] k h = tt
fresh_change m n f (b ∷ bs) k h = go (eqb n b.number) (fresh_change m n f bs k h.1)
  where
    go : (t : Bool) → Fresh m (change_batch n f bs) → Fresh m (pick t (f b ∷ bs) (b ∷ change_batch n f bs))
    go true i = ((λ e. h.0 (e ∙ k b)), h.1)
    go false i = (h.0, i)

pub distinct_change : (n : ℕ) (f : Batch → Batch) (bs : List Batch) → ((b : Batch) → (f b).number ≡ b.number) → Distinct bs → Distinct (change_batch n f bs)
unfolding Distinct change_batch
distinct_change n f [] k h = tt
distinct_change n f (b ∷ bs) k h = go (eqb n b.number) (distinct_change n f bs k h.1)
  where
    go : (t : Bool) → Distinct (change_batch n f bs) → Distinct (pick t (f b ∷ bs) (b ∷ change_batch n f bs))
    go true i = (subst (λ m. Fresh m bs) (sym (k b)) h.0, h.1)
    go false i = (fresh_change b.number n f bs k h.0, i)

fresh_drop : (m n : ℕ) (bs : List Batch) → Fresh m bs → Fresh m (drop_batch n bs)
unfolding Fresh drop_batch
fresh_drop m n [] h = tt
fresh_drop m n (b ∷ bs) h = go (eqb n b.number) (fresh_drop m n bs h.1)
  where
    go : (t : Bool) → Fresh m (drop_batch n bs) → Fresh m (pick t bs (b ∷ drop_batch n bs))
    go true i = h.1
    go false i = (h.0, i)

pub distinct_drop : (n : ℕ) (bs : List Batch) → Distinct bs → Distinct (drop_batch n bs)
unfolding Distinct drop_batch
distinct_drop n [] h = tt
distinct_drop n (b ∷ bs) h = go (eqb n b.number) (distinct_drop n bs h.1)
  where
    go : (t : Bool) → Distinct (drop_batch n bs) → Distinct (pick t bs (b ∷ drop_batch n bs))
    go true i = h.1
    go false i = (fresh_drop b.number n bs h.0, i)

pub distinct_end : (bs : List Batch) (b : Batch) → Fresh b.number bs → Distinct bs → Distinct (bs ++ b ∷ [])
unfolding Distinct Fresh
distinct_end [] b f h = (tt, tt)
distinct_end (a ∷ bs) b f h = (more bs h.0, distinct_end bs b f.1 h.1)
  where
    more : (cs : List Batch) → Fresh a.number cs → Fresh a.number (cs ++ b ∷ [])
    more [] g = ((λ e. f.0 (sym e)), tt)
    more (c ∷ cs) g = (g.0, more cs g.1)

-- By record m + 1.
pub within_change : (m n : ℕ) (f : Batch → Batch) (bs : List Batch) → ((b : Batch) → (f b).number ≡ b.number) → ((b : Batch) → Falls (suc m) b.lines → Falls (suc (suc m)) (f b).lines)
    → Within m bs → Within (suc m) (change_batch n f bs)
unfolding Within change_batch
within_change m n f [] k g h = tt
within_change m n f (b ∷ bs) k g h = go (eqb n b.number) (within_change m n f bs k g h.2)
  where
    go : (t : Bool) → Within (suc m) (change_batch n f bs) → Within (suc m) (pick t (f b ∷ bs) (b ∷ change_batch n f bs))
    go true i = let a = h.0 in (subst (λ x. x ≤ suc m) (sym (k b)) (omega arith), g b h.1, within_more m bs h.2)
    go false i = let a = h.0 in (omega arith, falls_more (suc m) (suc (suc m)) b.lines (omega arith) h.1, i)

pub within_drop : (m n : ℕ) (bs : List Batch) → Within m bs → Within m (drop_batch n bs)
unfolding Within drop_batch
within_drop m n [] h = tt
within_drop m n (b ∷ bs) h = go (eqb n b.number) (within_drop m n bs h.2)
  where
    go : (t : Bool) → Within m (drop_batch n bs) → Within m (pick t bs (b ∷ drop_batch n bs))
    go true i = h.2
    go false i = (h.0, h.1, i)

pub within_end : (m : ℕ) (bs : List Batch) (b : Batch) → b.number ≤ m → Falls (suc m) b.lines → Within m bs → Within m (bs ++ b ∷ [])
unfolding Within
within_end m [] b l g h = (l, g, tt)
within_end m (a ∷ bs) b l g h = (h.0, h.1, within_end m bs b l g h.2)
