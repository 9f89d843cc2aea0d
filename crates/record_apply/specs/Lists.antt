-- The entries that a record's change leaves, by the place of a key, as the program finds them.
use Rattle.std.specs.Prelude.{◌≡◌, refl, ℕ, suc, ◌+◌, ◌-◌, ◌<◌, ◌≤◌, List, [], ◌∷◌, ◌++◌, length, drop, set, ltb}
use Rattle.std.proofs.Math.Path.{ap, sym}
use Rattle.std.proofs.Common.{◌∙◌, add-one, take_all}
use native.Mathlib.Omega.{arith}
use Rattle.std.proofs.Math.ListN.{take}
use Rattle.def_base.specs.Tests.{Case, yes!, no!, case, neq_false}
use Rattle.def_layout.specs.declared.Entry.{Entry}
use Rattle.def_layout.specs.Entries.{entry, entry_at, key_at, place, insert_sorted, remove_key}
use Rattle.law_bytes.specs.Tables.{tab_length}
use Rattle.law_bytes.specs.EntryBytes.{used, used_in}
use Rattle.codec_entries.specs.Places.{insert_sorted_place, remove_key_place}
use Rattle.codec_entries.specs.Arrays.{used_take, used_set}
use Rattle.codec_entries.specs.Turns.{used_rest_none}
use Rattle.def_layout.specs.Numbers.{tab}
use Rattle.def_model.specs.Change.{link_in, unlink_in}
use Rattle.record_apply.specs.declared.lists.EntryList.{EntryList}

-- The entries of a list of the program's.
abbrev pub listed : EntryList → List Entry
listed l = used l.count l.entries

-- ---- by the place of a key

remove_key_past : (k : ℕ) (es : List Entry) → length es ≤ place k es → remove_key k es ≡ es
unfolding place remove_key
remove_key_past k [] h = refl
remove_key_past k (e ∷ es) h = go (case (ltb e.key k)) h (remove_key_past k es)
  where
    go : Case (ltb e.key k) → suc (length es) ≤ place k (e ∷ es) → (length es ≤ place k es → remove_key k es ≡ es) → remove_key k (e ∷ es) ≡ e ∷ es
    go (yes! t) h again =
        let h' : suc (length es) ≤ suc (place k es) = rw t at h in rw t (ap (λ (r : List Entry). e ∷ r) (again (omega arith)))
    go (no! t) h again = let h' : suc (length es) ≤ 0 = rw t at h in absurd (omega arith)

remove_key_other : (k : ℕ) (es : List Entry) → (key_at es (place k es) ≡ k → ⊥) → remove_key k es ≡ es
unfolding place remove_key
remove_key_other k [] n = refl
remove_key_other k (e ∷ es) n = go (case (ltb e.key k)) n (remove_key_other k es)
  where
    go : Case (ltb e.key k) → (key_at (e ∷ es) (place k (e ∷ es)) ≡ k → ⊥) → ((key_at es (place k es) ≡ k → ⊥) → remove_key k es ≡ es) → remove_key k (e ∷ es) ≡ e ∷ es
    go (yes! t) n again =
        let n' : key_at es (place k es) ≡ k → ⊥ = rw t at n in rw t (ap (λ (r : List Entry). e ∷ r) (again n'))
    go (no! t) n again = let n' : e.key ≡ k → ⊥ = rw t at n in rw (t, neq_false (λ (q : k ≡ e.key). n' (sym q)))

-- A link goes to the place of w: the entry there becomes (w, c), and (u, b) stands before it.
link_in_place : (b u c w : ℕ) (es : List Entry) → place w es < length es
    → link_in b u c w es
    ≡ take (place w es) (set es (place w es) (entry w c)) ++ entry u b ∷ drop (place w es) (set es (place w es) (entry w c))
unfolding place link_in
link_in_place b u c w [] h = absurd (omega arith)
link_in_place b u c w (e ∷ es) h = go (case (ltb e.key w)) h (link_in_place b u c w es)
  where
    go : Case (ltb e.key w) → place w (e ∷ es) < suc (length es)
        → (place w es < length es → link_in b u c w es
        ≡ take (place w es) (set es (place w es) (entry w c)) ++ entry u b ∷ drop (place w es) (set es (place w es) (entry w c)))
        → link_in b u c w (e ∷ es)
        ≡ take (place w (e ∷ es)) (set (e ∷ es) (place w (e ∷ es)) (entry w c)) ++ entry u b ∷ drop (place w (e ∷ es)) (set (e ∷ es) (place w (e ∷ es)) (entry w c))
    go (yes! t) h again =
        let h' : suc (place w es) < suc (length es) = rw t at h in rw t (ap (λ (r : List Entry). e ∷ r) (again (omega arith)))
    go (no! t) h again = rw t

link_in_past : (b u c w : ℕ) (es : List Entry) → length es ≤ place w es → link_in b u c w es ≡ es
unfolding place link_in
link_in_past b u c w [] h = refl
link_in_past b u c w (e ∷ es) h = go (case (ltb e.key w)) h (link_in_past b u c w es)
  where
    go : Case (ltb e.key w) → suc (length es) ≤ place w (e ∷ es) → (length es ≤ place w es → link_in b u c w es ≡ es) → link_in b u c w (e ∷ es) ≡ e ∷ es
    go (yes! t) h again =
        let h' : suc (length es) ≤ suc (place w es) = rw t at h in rw t (ap (λ (r : List Entry). e ∷ r) (again (omega arith)))
    go (no! t) h again = let h' : suc (length es) ≤ 0 = rw t at h in absurd (omega arith)

-- An unlink goes to the place of u: the entry after it becomes (w, b), and the one there goes.
unlink_in_place : (b u w : ℕ) (es : List Entry) → place u es + 1 < length es
    → unlink_in b u w es
    ≡ take (place u es) (set es (place u es + 1) (entry w b)) ++ drop (place u es + 1) (set es (place u es + 1) (entry w b))
unfolding place unlink_in
unlink_in_place b u w [] h = absurd (omega arith)
unlink_in_place b u w (e ∷ []) h = absurd (omega arith)
unlink_in_place b u w (e ∷ f ∷ es) h = go (case (ltb e.key u)) h (unlink_in_place b u w (f ∷ es))
  where
    go : Case (ltb e.key u) → place u (e ∷ f ∷ es) + 1 < suc (suc (length es))
        → (place u (f ∷ es) + 1 < suc (length es) → unlink_in b u w (f ∷ es)
        ≡ take (place u (f ∷ es)) (set (f ∷ es) (place u (f ∷ es) + 1) (entry w b)) ++ drop (place u (f ∷ es) + 1) (set (f ∷ es) (place u (f ∷ es) + 1) (entry w b)))
        → unlink_in b u w (e ∷ f ∷ es)
        ≡ take (place u (e ∷ f ∷ es)) (set (e ∷ f ∷ es) (place u (e ∷ f ∷ es) + 1) (entry w b))
        ++ drop (place u (e ∷ f ∷ es) + 1) (set (e ∷ f ∷ es) (place u (e ∷ f ∷ es) + 1) (entry w b))
    go (yes! t) h again =
        let h' : suc (place u (f ∷ es)) + 1 < suc (suc (length es)) = rw t at h in
        rw (t, add-one (suc (place u (f ∷ es)))) (ap (λ (r : List Entry). e ∷ r) (again (omega arith) ∙ rw (add-one (place u (f ∷ es)))))
    go (no! t) h again = rw t

unlink_in_past : (b u w : ℕ) (es : List Entry) → length es ≤ place u es + 1 → unlink_in b u w es ≡ es
unfolding place unlink_in
unlink_in_past b u w [] h = refl
unlink_in_past b u w (e ∷ []) h = refl
unlink_in_past b u w (e ∷ f ∷ es) h = go (case (ltb e.key u)) h (unlink_in_past b u w (f ∷ es))
  where
    go : Case (ltb e.key u) → suc (suc (length es)) ≤ place u (e ∷ f ∷ es) + 1
        → (suc (length es) ≤ place u (f ∷ es) + 1 → unlink_in b u w (f ∷ es) ≡ f ∷ es) → unlink_in b u w (e ∷ f ∷ es) ≡ e ∷ f ∷ es
    go (yes! t) h again =
        let h' : suc (suc (length es)) ≤ suc (place u (f ∷ es)) + 1 = rw t at h in
        rw t (ap (λ (r : List Entry). e ∷ r) (again (omega arith)))
    go (no! t) h again = let h' : suc (suc (length es)) ≤ 1 = rw t at h in absurd (omega arith)

-- ---- of an array's first n, as the program makes them

-- Of at most fourteen entries the first fourteen are all.
pub at_most_room : (n : ℕ) (es l : List Entry) → n ≤ 14 → used n es ≡ l → used n es ≡ take 14 l
at_most_room n es l h e = sym (take_all 14 (used n es) (omega (arith, tab_length n (entry_at es)))) ∙ ap (λ (r : List Entry). take 14 r) e

module _ (n : ℕ) (es : List Entry) where
  n_used : length (used n es) ≡ n
  n_used = tab_length n (entry_at es)

  pub inserted_key : (k v i : ℕ) (l : List Entry) → i ≡ place k (used n es) → l ≡ take 14 (take i (used n es) ++ entry k v ∷ drop i (used n es))
      → l ≡ take 14 (insert_sorted k v (used n es))
  inserted_key k v i l p e =
      e ∙ ap (λ (j : ℕ). take 14 (take j (used n es) ++ entry k v ∷ drop j (used n es))) p
      ∙ ap (λ (r : List Entry). take 14 r) (sym (insert_sorted_place k v (used n es)))

  module _ (room : n ≤ 14) where
    pub key_past : (k i : ℕ) → i ≡ place k (used n es) → n ≤ i → used n es ≡ take 14 (remove_key k (used n es))
    key_past k i p h = at_most_room n es (remove_key k (used n es)) room (sym (remove_key_past k (used n es) (omega (arith, n_used))))

    pub key_other : (k i : ℕ) → i ≡ place k (used n es) → i < n → (key_at es i ≡ k → ⊥) → used n es ≡ take 14 (remove_key k (used n es))
    key_other k i p h o =
        at_most_room n es (remove_key k (used n es)) room
        (sym (remove_key_other k (used n es) (λ q. o (ap (λ (e : Entry). e.key) (sym (used_in n i es h)) ∙ ap (λ (j : ℕ). key_at (used n es) j) p ∙ q))))

    pub removed_key : (k i : ℕ) (fs : List Entry) → i ≡ place k (used n es) → i < n → key_at es i ≡ k
        → used (n - 1) fs ≡ take i (used n es) ++ drop (i + 1) (used n es) → used (n - 1) fs ≡ take 14 (remove_key k (used n es))
    removed_key k i fs p h q e =
        at_most_room (n - 1) fs (remove_key k (used n es)) (omega arith)
        (e ∙ ap (λ (j : ℕ). take j (used n es) ++ drop (j + 1) (used n es)) p
        ∙ sym (remove_key_place k (used n es) (omega (arith, n_used))
        (ap (λ (j : ℕ). key_at (used n es) j) (sym p) ∙ ap (λ (x : Entry). x.key) (used_in n i es h) ∙ q)))

    pub link_none : (b u c w i : ℕ) → i ≡ place w (used n es) → n ≤ i → used n es ≡ take 14 (link_in b u c w (used n es))
    link_none b u c w i p h = at_most_room n es (link_in b u c w (used n es)) room (sym (link_in_past b u c w (used n es) (omega (arith, n_used))))

    pub linked : (b u c w i : ℕ) (l : List Entry) → i ≡ place w (used n es) → i < n → n ≤ length es
        → l ≡ take 14 (take i (used n (set es i (entry w c))) ++ entry u b ∷ drop i (used n (set es i (entry w c))))
        → l ≡ take 14 (link_in b u c w (used n es))
    linked b u c w i l p h q e =
        e ∙ ap (λ (r : List Entry). take 14 (take i r ++ entry u b ∷ drop i r)) (used_set es n i (entry w c) h q)
        ∙ ap (λ (j : ℕ). take 14 (take j (set (used n es) j (entry w c)) ++ entry u b ∷ drop j (set (used n es) j (entry w c)))) p
        ∙ ap (λ (r : List Entry). take 14 r) (sym (link_in_place b u c w (used n es) (omega (arith, n_used))))

    pub unlink_none : (b u w i : ℕ) → i ≡ place u (used n es) → n ≤ i + 1 → used n es ≡ take 14 (unlink_in b u w (used n es))
    unlink_none b u w i p h = at_most_room n es (unlink_in b u w (used n es)) room (sym (unlink_in_past b u w (used n es) (omega (arith, n_used))))

    pub unlinked : (b u w i : ℕ) (fs : List Entry) → i ≡ place u (used n es) → i + 1 < n → n ≤ length es
        → used (n - 1) fs ≡ take i (used n (set es (i + 1) (entry w b))) ++ drop (i + 1) (used n (set es (i + 1) (entry w b)))
        → used (n - 1) fs ≡ take 14 (unlink_in b u w (used n es))
    unlinked b u w i fs p h q e =
        at_most_room (n - 1) fs (unlink_in b u w (used n es)) (omega arith)
        (e ∙ ap (λ (r : List Entry). take i r ++ drop (i + 1) r) (used_set es n (i + 1) (entry w b) h q)
        ∙ ap (λ (j : ℕ). take j (set (used n es) (j + 1) (entry w b)) ++ drop (j + 1) (set (used n es) (j + 1) (entry w b))) p
        ∙ sym (unlink_in_place b u w (used n es) (omega (arith, n_used))))

-- ---- fewer entries

module _ (n m : ℕ) (es : List Entry) where
  pub last_off : m < n → used (n - m) es ≡ take (n - m) (used n es)
  last_off h = used_take es (n - m) n (omega arith)

  pub all_off : n ≤ m → used 0 es ≡ take (n - m) (used n es)
  unfolding tab
  all_off h = let z : 0 ≡ n - m = omega arith in ap (λ (k : ℕ). take k (used n es)) z

  pub first_off : n ≤ m → used 0 es ≡ drop m (used n es)
  unfolding tab
  first_off h = sym (used_rest_none es n m h)
