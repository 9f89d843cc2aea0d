-- Search, insertion and removal in entries, by the place of a key: the first entry whose key is not below it.
use Rattle.std.specs.Prelude.{◌≡◌, refl, ℕ, suc, ◌+◌, ◌<◌, ◌≤◌, List, [], ◌∷◌, ◌++◌, length, take, drop, ltb}
use Rattle.std.proofs.Common.{ap, sym, ◌∙◌, add-one, arith}
use Rattle.std.proofs.Math.Option.{none, some}
use Rattle.def_base.specs.Tests.{Case, yes!, no!, case, eq_true, neq_false}
use Rattle.def_layout.specs.declared.Entry.{Entry}
use Rattle.def_layout.specs.Entries.{entry, entry_at, key_at, place, seek, look, insert_sorted, remove_key}

place_le : (k : ℕ) (es : List Entry) → place k es ≤ length es
unfolding place
place_le k [] = omega arith
place_le k (e ∷ es) = go (case (ltb e.key k)) (place_le k es)
  where
    go : Case (ltb e.key k) → place k es ≤ length es → place k (e ∷ es) ≤ suc (length es)
    go (yes! t) h = rw t (omega arith)
    go (no! t) h = rw t (omega arith)

-- Insertion goes to the place.
pub insert_sorted_place : (k v : ℕ) (es : List Entry) → insert_sorted k v es ≡ take (place k es) es ++ entry k v ∷ drop (place k es) es
unfolding place insert_sorted
insert_sorted_place k v [] = refl
insert_sorted_place k v (e ∷ es) = go (case (ltb e.key k)) (insert_sorted_place k v es)
  where
    go : Case (ltb e.key k) → insert_sorted k v es ≡ take (place k es) es ++ entry k v ∷ drop (place k es) es
        → insert_sorted k v (e ∷ es) ≡ take (place k (e ∷ es)) (e ∷ es) ++ entry k v ∷ drop (place k (e ∷ es)) (e ∷ es)
    go (yes! t) again = rw t (ap (λ (r : List Entry). e ∷ r) again)
    go (no! t) again = rw t

-- A key that is there stands at its place, and goes from there.
pub remove_key_place : (k : ℕ) (es : List Entry) → place k es < length es → key_at es (place k es) ≡ k
    → remove_key k es ≡ take (place k es) es ++ drop (place k es + 1) es
unfolding place remove_key
remove_key_place k [] h q = absurd (omega arith)
remove_key_place k (e ∷ es) h q = go (case (ltb e.key k)) h q (remove_key_place k es)
  where
    go : Case (ltb e.key k) → place k (e ∷ es) < suc (length es) → key_at (e ∷ es) (place k (e ∷ es)) ≡ k
        → (place k es < length es → key_at es (place k es) ≡ k → remove_key k es ≡ take (place k es) es ++ drop (place k es + 1) es)
        → remove_key k (e ∷ es) ≡ take (place k (e ∷ es)) (e ∷ es) ++ drop (place k (e ∷ es) + 1) (e ∷ es)
    go (yes! t) h q again =
        let q' : key_at es (place k es) ≡ k = rw t at q in
        let h' : suc (place k es) < suc (length es) = rw t at h in
        rw (t, add-one (suc (place k es))) (ap (λ (r : List Entry). e ∷ r) (again (omega arith) q' ∙ rw (add-one (place k es))))
    go (no! t) h q again =
        let q' : e.key ≡ k = rw t at q in
        rw (t, eq_true k e.key (sym q'))

-- What is filed under a key, and the first entry not below it.
pub look_here : (k : ℕ) (es : List Entry) → place k es < length es → key_at es (place k es) ≡ k → look k es ≡ some (entry_at es (place k es)).val
unfolding place look
look_here k [] h q = absurd (omega arith)
look_here k (e ∷ es) h q = go (case (ltb e.key k)) h q (look_here k es)
  where
    go : Case (ltb e.key k) → place k (e ∷ es) < suc (length es) → key_at (e ∷ es) (place k (e ∷ es)) ≡ k
        → (place k es < length es → key_at es (place k es) ≡ k → look k es ≡ some (entry_at es (place k es)).val)
        → look k (e ∷ es) ≡ some (entry_at (e ∷ es) (place k (e ∷ es))).val
    go (yes! t) h q again =
        let q' : key_at es (place k es) ≡ k = rw t at q in
        let h' : suc (place k es) < suc (length es) = rw t at h in
        rw t (again (omega arith) q')
    go (no! t) h q again =
        let q' : e.key ≡ k = rw t at q in
        rw (t, eq_true k e.key (sym q'))

pub look_other : (k : ℕ) (es : List Entry) → (key_at es (place k es) ≡ k → ⊥) → look k es ≡ none
unfolding place look
look_other k [] n = refl
look_other k (e ∷ es) n = go (case (ltb e.key k)) n (look_other k es)
  where
    go : Case (ltb e.key k) → (key_at (e ∷ es) (place k (e ∷ es)) ≡ k → ⊥) → ((key_at es (place k es) ≡ k → ⊥) → look k es ≡ none) → look k (e ∷ es) ≡ none
    go (yes! t) n again = let n' : key_at es (place k es) ≡ k → ⊥ = rw t at n in rw t (again n')
    go (no! t) n again = let n' : e.key ≡ k → ⊥ = rw t at n in rw (t, neq_false (λ (q : k ≡ e.key). n' (sym q)))

pub look_past : (k : ℕ) (es : List Entry) → length es ≤ place k es → look k es ≡ none
unfolding place look
look_past k [] h = refl
look_past k (e ∷ es) h = go (case (ltb e.key k)) h (look_past k es)
  where
    go : Case (ltb e.key k) → suc (length es) ≤ place k (e ∷ es) → (length es ≤ place k es → look k es ≡ none) → look k (e ∷ es) ≡ none
    go (yes! t) h again = let h' : suc (length es) ≤ suc (place k es) = rw t at h in rw t (again (omega arith))
    go (no! t) h again = let h' : suc (length es) ≤ 0 = rw t at h in absurd (omega arith)

pub seek_here : (k : ℕ) (es : List Entry) → place k es < length es → seek k es ≡ some (entry_at es (place k es))
unfolding place seek
seek_here k [] h = absurd (omega arith)
seek_here k (e ∷ es) h = go (case (ltb e.key k)) h (seek_here k es)
  where
    go : Case (ltb e.key k) → place k (e ∷ es) < suc (length es) → (place k es < length es → seek k es ≡ some (entry_at es (place k es))) → seek k (e ∷ es) ≡ some (entry_at (e ∷ es) (place k (e ∷ es)))
    go (yes! t) h again = let h' : suc (place k es) < suc (length es) = rw t at h in rw t (again (omega arith))
    go (no! t) h again = rw t

pub seek_past : (k : ℕ) (es : List Entry) → length es ≤ place k es → seek k es ≡ none
unfolding place seek
seek_past k [] h = refl
seek_past k (e ∷ es) h = go (case (ltb e.key k)) h (seek_past k es)
  where
    go : Case (ltb e.key k) → suc (length es) ≤ place k (e ∷ es) → (length es ≤ place k es → seek k es ≡ none) → seek k (e ∷ es) ≡ none
    go (yes! t) h again = let h' : suc (length es) ≤ suc (place k es) = rw t at h in rw t (again (omega arith))
    go (no! t) h again = let h' : suc (length es) ≤ 0 = rw t at h in absurd (omega arith)
