-- Turns of the loops over entries in use: the search, the test of the children's bits, and the comparison of two lists.
use Rattle.std.specs.Prelude.{◌≡◌, refl, ℕ, suc, ◌+◌, ◌<◌, ◌≤◌, Bool, true, false, ◌&&◌, List, [], ◌∷◌, length, drop, eqb, ltb}
use Rattle.std.proofs.Common.{ap, sym, ◌∙◌, add-one, arith, drop_of_length-le, drop-cons}
use Rattle.def_base.specs.Tests.{every, lt_true, lt_false, eq_true, neq_false}
use Rattle.def_layout.specs.declared.Entry.{Entry}
use Rattle.def_layout.specs.Entries.{entry_at, key_at, no_entry, place, ten_bits, same_entries}
use Rattle.law_bytes.specs.Tables.{tab_length}
use Rattle.law_bytes.specs.EntryBytes.{used, used_in}

module _ (es : List Entry) (n : ℕ) where
  used_length : length (used n es) ≡ n
  used_length = tab_length n (entry_at es)

  -- The rest from i on begins with entry i of the array.
  pub used_cons : (i : ℕ) → i < n → drop i (used n es) ≡ entry_at es i ∷ drop (i + 1) (used n es)
  used_cons i h =
      drop-cons (used n es) i no_entry (omega (arith, used_length))
      ∙ rw (used_in n i es h) (ap (λ (k : ℕ). entry_at es i ∷ drop k (used n es)) (sym (add-one i)))

  pub used_rest_none : (i : ℕ) → n ≤ i → drop i (used n es) ≡ []
  used_rest_none i h = drop_of_length-le (used n es) {i = i} (omega (arith, used_length))

  -- The search.
  pub find_more : (k i r : ℕ) → i < n → key_at es i < k → r ≡ i + place k (drop i (used n es)) → r ≡ i + 1 + place k (drop (i + 1) (used n es))
  unfolding place
  find_more k i r h l e = e ∙ rw (used_cons i h, lt_true (key_at es i) k l) (omega arith)

  pub find_here : (k i r : ℕ) → i < n → k ≤ key_at es i → r ≡ i + place k (drop i (used n es)) → r ≡ i
  unfolding place
  find_here k i r h l e = e ∙ rw (used_cons i h, lt_false (key_at es i) k l) (omega arith)

  pub find_none : (k i r : ℕ) → n ≤ i → r ≡ i + place k (drop i (used n es)) → r ≡ i
  unfolding place
  find_none k i r h e = e ∙ rw (used_rest_none i h) (omega arith)

-- A test of every entry.
module _ (f : Entry → Bool) (es : List Entry) (n : ℕ) where
  pub every_more : (i : ℕ) → i < n → f (entry_at es i) ≡ true → every f (drop i (used n es)) ≡ every f (drop (i + 1) (used n es))
  unfolding every
  every_more i h e = rw (used_cons es n i h, every, e)

  pub every_off : (i : ℕ) → i < n → f (entry_at es i) ≡ false → every f (drop i (used n es)) ≡ false
  unfolding every
  every_off i h e = rw (used_cons es n i h, every, e)

  pub every_none : (i : ℕ) → n ≤ i → every f (drop i (used n es)) ≡ true
  unfolding every
  every_none i h = rw (used_rest_none es n i h)

-- That of the children's bits.
pub ten_bits_every : (es : List Entry) → ten_bits es ≡ every (λ e. ltb e.val 1024) es
unfolding ten_bits every
ten_bits_every [] = refl
ten_bits_every (e ∷ es) = ap (λ (b : Bool). ltb e.val 1024 && b) (ten_bits_every es)

-- Two lists of entries.
same_entries_length : (es fs : List Entry) → (length es ≡ length fs → ⊥) → same_entries es fs ≡ false
unfolding same_entries
same_entries_length [] [] n = absurd (n refl)
same_entries_length [] (f ∷ fs) n = refl
same_entries_length (e ∷ es) [] n = refl
same_entries_length (e ∷ es) (f ∷ fs) n =
    rw (same_entries_length es fs (λ q. n (ap suc q))) (and_false (eqb e.key f.key) (eqb e.val f.val))
  where
    and_false : (a b : Bool) → a && (b && false) ≡ false
    and_false true true = refl
    and_false true false = refl
    and_false false b = refl

module _ (es fs : List Entry) (n : ℕ) where
  pub same_more : (i : ℕ) → i < n → key_at es i ≡ key_at fs i → (entry_at es i).val ≡ (entry_at fs i).val
      → same_entries (drop i (used n es)) (drop i (used n fs)) ≡ same_entries (drop (i + 1) (used n es)) (drop (i + 1) (used n fs))
  unfolding same_entries
  same_more i h k v =
      rw (used_cons es n i h, used_cons fs n i h, same_entries, eq_true (key_at es i) (key_at fs i) k, eq_true (entry_at es i).val (entry_at fs i).val v)

  pub same_key_off : (i : ℕ) → i < n → (key_at es i ≡ key_at fs i → ⊥) → same_entries (drop i (used n es)) (drop i (used n fs)) ≡ false
  unfolding same_entries
  same_key_off i h k = rw (used_cons es n i h, used_cons fs n i h, same_entries, neq_false k)

  pub same_val_off : (i : ℕ) → i < n → key_at es i ≡ key_at fs i → ((entry_at es i).val ≡ (entry_at fs i).val → ⊥)
      → same_entries (drop i (used n es)) (drop i (used n fs)) ≡ false
  unfolding same_entries
  same_val_off i h k v =
      rw (used_cons es n i h, used_cons fs n i h, same_entries, eq_true (key_at es i) (key_at fs i) k, neq_false v)

  pub same_none : (i : ℕ) → n ≤ i → same_entries (drop i (used n es)) (drop i (used n fs)) ≡ true
  unfolding same_entries
  same_none i h = rw (used_rest_none es n i h, used_rest_none fs n i h)

pub same_counts : (es fs : List Entry) (n m : ℕ) → (n ≡ m → ⊥) → same_entries (used n es) (used m fs) ≡ false
same_counts es fs n m k =
    same_entries_length (used n es) (used m fs) (λ q. k (sym (tab_length n (entry_at es)) ∙ q ∙ tab_length m (entry_at fs)))
