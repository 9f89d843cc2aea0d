-- Looking up, filing and removing in a list whose keys rise; and where only a part of the list matters.
use Rattle.std.specs.Prelude.{ℕ, suc, ◌≤◌, ◌<◌, ◌≡◌, refl, ◌≢◌, Bool, true, false, List, [], ◌∷◌, ◌++◌, length, ltb, eqb}
use Rattle.std.proofs.Common.{sym, ap, ◌∙◌, arith}
use Rattle.std.proofs.Math.Option.{none, some}
use Rattle.std.proofs.Math.Decide.{dec_le, ℕ_discrete}
use Rattle.def_base.specs.Tests.{pick, Case, yes!, no!, case, clash, none_some, some_inj, lt_true, true_lt, false_lt, lt_false, true_eq, eq_true, neq_false}
use Rattle.def_layout.specs.declared.Entry.{Entry}
use Rattle.def_layout.specs.Entries.{entry, seek, look, insert_sorted, remove_key}
use Rattle.def_model.specs.Fit.{after}
use Rattle.theory_tree.specs.Order.Keys.{Rising, rising_weaken, after_grows, after_mono}

-- ---- looking up after filing and removing

pub look_below : (k from : ℕ) (l : List Entry) → Rising from l → k < from → look k l ≡ none
unfolding look Rising
look_below k from [] r h = refl
look_below k from (e ∷ es) r h = let a = r.0 in rw (lt_false e.key k (omega arith), neq_false {a = k} {b = e.key} (omega arith))

look_nil : (k : ℕ) → look k [] ≡ none
unfolding look
look_nil k = refl

look_head : (e : Entry) (l : List Entry) → look e.key (e ∷ l) ≡ some e.val
unfolding look
look_head e l = rw (lt_false e.key e.key (omega arith), eq_true e.key e.key refl)

-- The first entry matters for its own key alone.
pub look_tail : (k : ℕ) (e : Entry) (es : List Entry) → k ≢ e.key → Rising (suc e.key) es → look k (e ∷ es) ≡ look k es
unfolding look
look_tail k e es n r = go (case (ltb e.key k))
  where
    go : Case (ltb e.key k) → pick (ltb e.key k) (look k es) (pick (eqb k e.key) (some e.val) none) ≡ look k es
    go (yes! c) = rw c
    go (no! c) = let h = false_lt e.key k c in rw (c, neq_false n) (sym (look_below k (suc e.key) es r (omega arith)))

pub look_insert : (k v : ℕ) (l : List Entry) → look k (insert_sorted k v l) ≡ some v
unfolding look insert_sorted
look_insert k v [] = rw (lt_false k k (omega arith), eq_true k k refl)
look_insert k v (e ∷ es) = go (case (ltb e.key k)) (look_insert k v es)
  where
    go : Case (ltb e.key k) → look k (insert_sorted k v es) ≡ some v
        → look k (pick (ltb e.key k) (e ∷ insert_sorted k v es) (entry k v ∷ e ∷ es)) ≡ some v
    go (yes! c) i = rw (c, c) i
    go (no! c) i = rw (c, lt_false k k (omega arith), eq_true k k refl)

pub look_insert_other : (k j v : ℕ) (l : List Entry) → k ≢ j → look k (insert_sorted j v l) ≡ look k l
unfolding look insert_sorted
look_insert_other k j v [] n = go (ltb j k)
  where
    go : (b : Bool) → pick b none (pick (eqb k j) (some v) none) ≡ none
    go true = refl
    go false = rw (neq_false n)
look_insert_other k j v (e ∷ es) n = go (case (ltb e.key j)) (case (ltb j k)) (look_insert_other k j v es n)
  where
    go : Case (ltb e.key j) → Case (ltb j k) → look k (insert_sorted j v es) ≡ look k es
        → look k (pick (ltb e.key j) (e ∷ insert_sorted j v es) (entry j v ∷ e ∷ es)) ≡ look k (e ∷ es)
    go (yes! c) x i = rw (c, i)
    go (no! c) (yes! x) i = rw (c, x)
    go (no! c) (no! x) i =
        let a = false_lt e.key j c in
        let b = false_lt j k x in
        rw (c, x, neq_false n, lt_false e.key k (omega arith), neq_false {a = k} {b = e.key} (omega arith))

pub look_remove : (k from : ℕ) (l : List Entry) → Rising from l → look k (remove_key k l) ≡ none
unfolding look remove_key Rising
look_remove k from [] r = refl
look_remove k from (e ∷ es) r = go (case (ltb e.key k)) (case (eqb k e.key)) (look_remove k (suc e.key) es r.1)
  where
    go : Case (ltb e.key k) → Case (eqb k e.key) → look k (remove_key k es) ≡ none
        → look k (pick (ltb e.key k) (e ∷ remove_key k es) (pick (eqb k e.key) es (e ∷ es))) ≡ none
    go (yes! c) x i = rw (c, c) i
    go (no! c) (yes! x) i = let z = true_eq k e.key x in rw (c, x) (look_below k (suc e.key) es r.1 (omega arith))
    go (no! c) (no! x) i = rw (c, x, c, x)

pub look_remove_other : (k j from : ℕ) (l : List Entry) → Rising from l → k ≢ j → look k (remove_key j l) ≡ look k l
unfolding look remove_key Rising
look_remove_other k j from [] r n = refl
look_remove_other k j from (e ∷ es) r n = go (case (ltb e.key j)) (case (eqb j e.key)) (look_remove_other k j (suc e.key) es r.1 n)
  where
    go : Case (ltb e.key j) → Case (eqb j e.key) → look k (remove_key j es) ≡ look k es
        → look k (pick (ltb e.key j) (e ∷ remove_key j es) (pick (eqb j e.key) es (e ∷ es))) ≡ look k (e ∷ es)
    go (yes! c) x i = rw (c, i)
    go (no! c) (yes! x) i = let z = true_eq j e.key x in rw (c, x) (sym (look_tail k e es (λ w. n (w ∙ sym z)) r.1))
    go (no! c) (no! x) i = rw (c, x)

-- The lesser first key of two lists in order tells them apart.
heads : (from : ℕ) (d e : Entry) (l m : List Entry) → Rising from (e ∷ m) → look d.key (d ∷ l) ≡ look d.key (e ∷ m) → e.key ≤ d.key
unfolding Rising
heads from d e l m s f = go (dec_le e.key d.key)
  where
    go : Dec (e.key ≤ d.key) → e.key ≤ d.key
    go (yes h) = h
    go (no h) =
        let a : look d.key (e ∷ m) ≡ none = look_below d.key e.key (e ∷ m) (omega arith, s.1) (omega arith) in
        none_some (sym a ∙ sym f ∙ look_head d l)

-- Two lists in order with the same values are the same.
pub look_ext : (from : ℕ) (l m : List Entry) → Rising from l → Rising from m → ((k : ℕ) → look k l ≡ look k m) → l ≡ m
unfolding Rising
look_ext from [] [] r s f = refl
look_ext from [] (e ∷ m) r s f = none_some (sym (look_nil e.key) ∙ f e.key ∙ look_head e m)
look_ext from (d ∷ l) [] r s f = none_some (sym (look_nil d.key) ∙ sym (f d.key) ∙ look_head d l)
look_ext from (d ∷ l) (e ∷ m) r s f =
    let a = heads from d e l m s (f d.key) in
    let b = heads from e d m l r (sym (f e.key)) in
    let c : d.key ≡ e.key = omega arith in
    let v : d.val ≡ e.val = some_inj (sym (look_head d l) ∙ f d.key ∙ ap (λ k. look k (e ∷ m)) c ∙ look_head e m) in
    let t = look_ext (suc d.key) l m r.1 (rw c s.1) (λ k. tails c k (ℕ_discrete k d.key)) in
    λ i. entry (c i) (v i) ∷ t i
  where
    tails : d.key ≡ e.key → (k : ℕ) → Dec (k ≡ d.key) → look k l ≡ look k m
    tails c k (yes h) = look_below k (suc d.key) l r.1 (omega arith) ∙ sym (look_below k (suc e.key) m s.1 (omega arith))
    tails c k (no h) = sym (look_tail k d l h r.1) ∙ f k ∙ look_tail k e m (λ w. h (w ∙ sym c)) s.1

-- ---- order and length after filing and removing

pub rising_insert : (k v from : ℕ) (l : List Entry) → from ≤ k → Rising from l → look k l ≡ none → Rising from (insert_sorted k v l)
unfolding Rising insert_sorted look
rising_insert k v from [] h r n = (h, tt)
rising_insert k v from (e ∷ es) h r n = go (case (ltb e.key k)) (case (eqb k e.key)) (λ a b. rising_insert k v (suc e.key) es a r.1 b)
  where
    go : Case (ltb e.key k) → Case (eqb k e.key) → (suc e.key ≤ k → look k es ≡ none → Rising (suc e.key) (insert_sorted k v es))
        → Rising from (pick (ltb e.key k) (e ∷ insert_sorted k v es) (entry k v ∷ e ∷ es))
    go (yes! c) x i = rw c (r.0, i (true_lt e.key k c) (rw c at n))
    go (no! c) (yes! x) i = let y : some e.val ≡ none = rw (c, x) at n in none_some (sym y)
    go (no! c) (no! x) i =
        let a = false_lt e.key k c in
        let d : k ≢ e.key = λ w. clash (sym (eq_true k e.key w) ∙ x) in
        rw c (h, (omega arith, r.1))

pub rising_remove : (k from : ℕ) (l : List Entry) → Rising from l → Rising from (remove_key k l)
unfolding Rising remove_key
rising_remove k from [] r = tt
rising_remove k from (e ∷ es) r = go (ltb e.key k) (eqb k e.key) (rising_remove k (suc e.key) es r.1)
  where
    a : from ≤ e.key
    a = r.0

    go : (b c : Bool) → Rising (suc e.key) (remove_key k es) → Rising from (pick b (e ∷ remove_key k es) (pick c es (e ∷ es)))
    go true c i = (r.0, i)
    go false true i = rising_weaken from (suc e.key) es (omega arith) r.1
    go false false i = r

pub insert_length : (k v : ℕ) (l : List Entry) → length (insert_sorted k v l) ≡ suc (length l)
unfolding insert_sorted
insert_length k v [] = refl
insert_length k v (e ∷ es) = go (ltb e.key k) (insert_length k v es)
  where
    go : (b : Bool) → length (insert_sorted k v es) ≡ suc (length es)
        → length (pick b (e ∷ insert_sorted k v es) (entry k v ∷ e ∷ es)) ≡ suc (suc (length es))
    go true i = ap suc i
    go false i = refl

pub remove_length : (k u : ℕ) (l : List Entry) → look k l ≡ some u → suc (length (remove_key k l)) ≡ length l
unfolding remove_key look
remove_length k u [] h = none_some h
remove_length k u (e ∷ es) h = go (case (ltb e.key k)) (case (eqb k e.key)) (remove_length k u es)
  where
    go : Case (ltb e.key k) → Case (eqb k e.key) → (look k es ≡ some u → suc (length (remove_key k es)) ≡ length es)
        → suc (length (pick (ltb e.key k) (e ∷ remove_key k es) (pick (eqb k e.key) es (e ∷ es)))) ≡ suc (length es)
    go (yes! c) x i = rw c (ap suc (i (rw c at h)))
    go (no! c) (yes! x) i = rw (c, x)
    go (no! c) (no! x) i = let y : none ≡ some u = rw (c, x) at h in none_some y

pub insert_after : (k v from h : ℕ) (l : List Entry) → after from l ≤ suc h → k ≤ h → after from (insert_sorted k v l) ≤ suc h
unfolding insert_sorted after
insert_after k v from h [] a b = omega arith
insert_after k v from h (e ∷ es) a b = go (ltb e.key k) (insert_after k v (suc e.key) h es a b)
  where
    go : (t : Bool) → after (suc e.key) (insert_sorted k v es) ≤ suc h
        → after from (pick t (e ∷ insert_sorted k v es) (entry k v ∷ e ∷ es)) ≤ suc h
    go true i = i
    go false i = a

pub remove_after : (k from : ℕ) (l : List Entry) → Rising from l → after from (remove_key k l) ≤ after from l
unfolding remove_key after Rising
remove_after k from [] r = omega arith
remove_after k from (e ∷ es) r = go (ltb e.key k) (eqb k e.key) (remove_after k (suc e.key) es r.1)
  where
    go : (b c : Bool) → after (suc e.key) (remove_key k es) ≤ after (suc e.key) es
        → after from (pick b (e ∷ remove_key k es) (pick c es (e ∷ es))) ≤ after (suc e.key) es
    go true c i = i
    go false true i = let h = r.0 in after_mono from (suc e.key) es (omega arith)
    go false false i = omega arith

-- ---- a part of the list: what stands before it is below k, what stands after it is above

pub seek_skip : (k from : ℕ) (es fs : List Entry) → Rising from es → after from es ≤ k → seek k (es ++ fs) ≡ seek k fs
unfolding seek Rising after
seek_skip k from [] fs r l = refl
seek_skip k from (e ∷ es) fs r l =
    let g = after_grows (suc e.key) es r.1 in
    rw (lt_true e.key k (omega arith)) (seek_skip k (suc e.key) es fs r.1 l)

pub look_skip : (k from : ℕ) (es fs : List Entry) → Rising from es → after from es ≤ k → look k (es ++ fs) ≡ look k fs
unfolding look Rising after
look_skip k from [] fs r l = refl
look_skip k from (e ∷ es) fs r l =
    let g = after_grows (suc e.key) es r.1 in
    rw (lt_true e.key k (omega arith)) (look_skip k (suc e.key) es fs r.1 l)

pub insert_skip : (k v from : ℕ) (es fs : List Entry) → Rising from es → after from es ≤ k → insert_sorted k v (es ++ fs) ≡ es ++ insert_sorted k v fs
unfolding insert_sorted Rising after
insert_skip k v from [] fs r l = refl
insert_skip k v from (e ∷ es) fs r l =
    let g = after_grows (suc e.key) es r.1 in
    rw (lt_true e.key k (omega arith)) (ap (e ∷◌) (insert_skip k v (suc e.key) es fs r.1 l))

pub remove_skip : (k from : ℕ) (es fs : List Entry) → Rising from es → after from es ≤ k → remove_key k (es ++ fs) ≡ es ++ remove_key k fs
unfolding remove_key Rising after
remove_skip k from [] fs r l = refl
remove_skip k from (e ∷ es) fs r l =
    let g = after_grows (suc e.key) es r.1 in
    rw (lt_true e.key k (omega arith)) (ap (e ∷◌) (remove_skip k (suc e.key) es fs r.1 l))

pub look_stay : (k from : ℕ) (es fs : List Entry) → Rising from fs → k < from → look k (es ++ fs) ≡ look k es
unfolding look
look_stay k from [] fs r l = look_below k from fs r l
look_stay k from (e ∷ es) fs r l = ap (λ z. pick (ltb e.key k) z (pick (eqb k e.key) (some e.val) none)) (look_stay k from es fs r l)

insert_front : (k v from : ℕ) (fs : List Entry) → Rising from fs → k < from → insert_sorted k v fs ≡ entry k v ∷ fs
unfolding insert_sorted Rising
insert_front k v from [] r l = refl
insert_front k v from (e ∷ fs) r l = let a = r.0 in rw (lt_false e.key k (omega arith))

pub insert_stay : (k v from : ℕ) (es fs : List Entry) → Rising from fs → k < from → insert_sorted k v (es ++ fs) ≡ insert_sorted k v es ++ fs
unfolding insert_sorted
insert_stay k v from [] fs r l = insert_front k v from fs r l
insert_stay k v from (e ∷ es) fs r l = go (insert_stay k v from es fs r l) (ltb e.key k)
  where
    go : insert_sorted k v (es ++ fs) ≡ insert_sorted k v es ++ fs → (b : Bool)
        → pick b (e ∷ insert_sorted k v (es ++ fs)) (entry k v ∷ e ∷ (es ++ fs)) ≡ pick b (e ∷ insert_sorted k v es) (entry k v ∷ e ∷ es) ++ fs
    go i true = ap (e ∷◌) i
    go i false = refl

remove_front : (k from : ℕ) (fs : List Entry) → Rising from fs → k < from → remove_key k fs ≡ fs
unfolding remove_key Rising
remove_front k from [] r l = refl
remove_front k from (e ∷ fs) r l = let a = r.0 in rw (lt_false e.key k (omega arith), neq_false {a = k} {b = e.key} (omega arith))

pub remove_stay : (k from : ℕ) (es fs : List Entry) → Rising from fs → k < from → remove_key k (es ++ fs) ≡ remove_key k es ++ fs
unfolding remove_key
remove_stay k from [] fs r l = remove_front k from fs r l
remove_stay k from (e ∷ es) fs r l = go (remove_stay k from es fs r l) (ltb e.key k) (eqb k e.key)
  where
    go : remove_key k (es ++ fs) ≡ remove_key k es ++ fs → (b c : Bool)
        → pick b (e ∷ remove_key k (es ++ fs)) (pick c (es ++ fs) (e ∷ (es ++ fs))) ≡ pick b (e ∷ remove_key k es) (pick c es (e ∷ es)) ++ fs
    go i true c = ap (e ∷◌) i
    go i false true = refl
    go i false false = refl
