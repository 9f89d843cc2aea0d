-- The tests on entries that refusal 5 makes, by the place of a key and by the last entry, as the program makes them.
use Rattle.std.specs.Prelude.{◌≡◌, Bool, true, false, ◌&&◌, length, take, drop, ltb, leb, eqb}
use Rattle.std.proofs.Math.Path.{refl, ap, sym}
use Rattle.std.proofs.Common.{ap₂, ◌∙◌, add-one, take_all}
use Prim.Native.Nat.{ℕ, suc, ◌+◌, ◌-◌, ◌<◌, ◌≤◌, min}
use native.Mathlib.Omega.{arith}
use Rattle.std.proofs.Math.Decide.{dec_lt}
use Rattle.std.proofs.lemmas.Bool.{eqb-false}
use mathlib.Core.List.{List, [], ◌∷◌, ◌++◌, append_assoc}
use Rattle.std.proofs.Math.Option.{none, some}
use Rattle.def_base.specs.Tests.{Case, yes!, no!, case, le_true, le_false, true_lt, false_lt, true_eq, eq_true, neq_false}
use Rattle.def_layout.specs.declared.Entry.{Entry}
use Rattle.def_layout.specs.Entries.{entry_at, key_at, place, look, same_entries}
use Rattle.def_layout.specs.Numbers.{tab}
use Rattle.law_bytes.specs.Tables.{tab_length}
use Rattle.law_bytes.specs.EntryBytes.{used, used_in}
use Rattle.codec_entries.specs.Places.{look_here, look_other, look_past}
use Rattle.codec_entries.specs.Arrays.{used_take}
use Rattle.def_model.specs.Fit.{found, found_value, after, last_key_is, link_fits, side_by_side}

-- Two tests, each by what it says.
pub both_of : {a b a' b' : Bool} → a ≡ a' → b ≡ b' → (a && b) ≡ (a' && b')
both_of p q = ap₂ (λ (x y : Bool). x && y) p q

-- ---- numbers

suc_eqb : (a k : ℕ) → eqb a k ≡ eqb (suc a) (suc k)
suc_eqb a k = go (case (eqb a k))
  where
    go : Case (eqb a k) → eqb a k ≡ eqb (suc a) (suc k)
    go (yes! t) = t ∙ sym (eq_true (suc a) (suc k) (ap suc (true_eq a k t)))
    go (no! t) = t ∙ sym (neq_false (λ (e : suc a ≡ suc k). let n : a ≡ k → ⊥ = eqb-false a k t in let q : a ≡ k = omega arith in n q))

lt_leb_suc : (a k : ℕ) → ltb a k ≡ leb (suc a) k
lt_leb_suc a k = go (case (ltb a k))
  where
    go : Case (ltb a k) → ltb a k ≡ leb (suc a) k
    go (yes! t) = let l : a < k = true_lt a k t in t ∙ sym (le_true (suc a) k (omega arith))
    go (no! t) = let l : k ≤ a = false_lt a k t in t ∙ sym (le_false (suc a) k (omega arith))

pub next_zero : (a l : ℕ) → a ≡ 0 → false ≡ eqb a (suc l)
next_zero a l e = sym (neq_false (λ (q : a ≡ suc l). omega arith))

pub next_is : (a l : ℕ) → (a ≡ 0 → ⊥) → eqb (a - 1) l ≡ eqb a (suc l)
next_is a l n = let z : suc (a - 1) ≡ a = omega arith in suc_eqb (a - 1) l ∙ ap (λ (k : ℕ). eqb k (suc l)) z

-- ---- a key's entry

module _ (n : ℕ) (es : List Entry) (k v i : ℕ) (p : i ≡ place k (used n es)) where
  n_used : length (used n es) ≡ n
  n_used = tab_length n (entry_at es)

  none_past : n ≤ i → look k (used n es) ≡ none
  none_past h = look_past k (used n es) (omega (arith, n_used))

  key_is : i < n → key_at (used n es) (place k (used n es)) ≡ key_at es i
  key_is h = ap (λ (j : ℕ). key_at (used n es) j) (sym p) ∙ ap (λ (e : Entry). e.key) (used_in n i es h)

  val_is : i < n → (entry_at (used n es) (place k (used n es))).val ≡ (entry_at es i).val
  val_is h = ap (λ (j : ℕ). (entry_at (used n es) j).val) (sym p) ∙ ap (λ (e : Entry). e.val) (used_in n i es h)

  none_other : i < n → (key_at es i ≡ k → ⊥) → look k (used n es) ≡ none
  none_other h o = look_other k (used n es) (λ q. o (sym (key_is h) ∙ q))

  some_here : i < n → key_at es i ≡ k → look k (used n es) ≡ some (entry_at es i).val
  some_here h q = look_here k (used n es) (omega (arith, n_used)) (key_is h ∙ q) ∙ ap some (val_is h)

  pub found_past : n ≤ i → false ≡ found (look k (used n es))
  unfolding found
  found_past h = sym (ap found (none_past h))

  pub found_other : i < n → (key_at es i ≡ k → ⊥) → false ≡ found (look k (used n es))
  unfolding found
  found_other h o = sym (ap found (none_other h o))

  pub found_here : i < n → key_at es i ≡ k → true ≡ found (look k (used n es))
  unfolding found
  found_here h q = sym (ap found (some_here h q))

  pub value_past : n ≤ i → false ≡ found_value v (look k (used n es))
  unfolding found_value
  value_past h = sym (ap (found_value v) (none_past h))

  pub value_other : i < n → (key_at es i ≡ k → ⊥) → false ≡ found_value v (look k (used n es))
  unfolding found_value
  value_other h o = sym (ap (found_value v) (none_other h o))

  pub value_here : i < n → key_at es i ≡ k → eqb (entry_at es i).val v ≡ found_value v (look k (used n es))
  unfolding found_value
  value_here h q = sym (ap (found_value v) (some_here h q))

-- ---- the last entry

after_snoc : (from : ℕ) (l : List Entry) (e : Entry) → after from (l ++ e ∷ []) ≡ suc e.key
unfolding after
after_snoc from [] e = refl
after_snoc from (f ∷ l) e = after_snoc (suc f.key) l e

module _ (n : ℕ) (es : List Entry) where
  after_used : (l : List Entry) (from : ℕ) → (n ≡ 0 → ⊥) → after from (l ++ used n es) ≡ suc (key_at es (n - 1))
  unfolding tab
  after_used l from o =
      let z : n ≡ suc (n - 1) = omega arith in
      ap (λ (k : ℕ). after from (l ++ used k es)) z ∙ last (n - 1)
    where
      last : (m : ℕ) → after from (l ++ used (suc m) es) ≡ suc (key_at es m)
      last m = ap (λ (r : List Entry). after from r) (sym (append_assoc l (tab m (entry_at es)) (entry_at es m ∷ []))) ∙ after_snoc from (l ++ tab m (entry_at es)) (entry_at es m)

  pub after_none : n ≡ 0 → (from : ℕ) → after from (used n es) ≡ from
  unfolding after tab
  after_none e from = rw e

  pub last_none : (k : ℕ) → n ≡ 0 → false ≡ last_key_is k (used n es)
  last_none k e = sym (ap (λ (a : ℕ). eqb a (suc k)) (after_none e 0) ∙ neq_false (λ (q : 0 ≡ suc k). omega arith))

  pub last_is : (k : ℕ) → (n ≡ 0 → ⊥) → eqb (key_at es (n - 1)) k ≡ last_key_is k (used n es)
  last_is k o = suc_eqb (key_at es (n - 1)) k ∙ sym (ap (λ (a : ℕ). eqb a (suc k)) (after_used [] 0 o))

  pub rising_none : (k : ℕ) → n ≡ 0 → true ≡ leb (after 0 (used n es)) k
  rising_none k e = sym (ap (λ (a : ℕ). leb a k) (after_none e 0) ∙ le_true 0 k (omega arith))

  pub rising_is : (k : ℕ) → (n ≡ 0 → ⊥) → ltb (key_at es (n - 1)) k ≡ leb (after 0 (used n es)) k
  rising_is k o = lt_leb_suc (key_at es (n - 1)) k ∙ sym (ap (λ (a : ℕ). leb a k) (after_used [] 0 o))

  -- Behind other entries.
  pub joined_last : (l : List Entry) (k : ℕ) → (n ≡ 0 → ⊥) → last_key_is k (used n es) ≡ last_key_is k (l ++ used n es)
  joined_last l k o = ap (λ (a : ℕ). eqb a (suc k)) (after_used [] 0 o ∙ sym (after_used l 0 o))

  pub joined_none : (l : List Entry) (k : ℕ) → n ≡ 0 → last_key_is k l ≡ last_key_is k (l ++ used n es)
  unfolding tab
  joined_none l k e = sym (rw e (ap (λ (r : List Entry). last_key_is k r) (append_nil l)))
    where
      append_nil : (l : List Entry) → l ++ [] ≡ l
      append_nil [] = refl
      append_nil (e ∷ l) = ap (λ (r : List Entry). e ∷ r) (append_nil l)

-- ---- parts of the entries

module _ (n m : ℕ) (es fs : List Entry) where
  pub ends_are : (k : ℕ) (gs : List Entry) (t : Bool) → k ≡ n - m → used (n - k) gs ≡ drop k (used n es) → t ≡ same_entries (used (n - k) gs) (used m fs)
      → t ≡ same_entries (drop (n - m) (used n es)) (used m fs)
  ends_are k gs t p q e = e ∙ ap (λ (l : List Entry). same_entries l (used m fs)) (q ∙ ap (λ (j : ℕ). drop j (used n es)) p)

  pub starts_are : (k : ℕ) (t : Bool) → k ≡ min m n → t ≡ same_entries (used k es) (used m fs) → t ≡ same_entries (take m (used n es)) (used m fs)
  starts_are k t p e = e ∙ ap (λ (l : List Entry). same_entries l (used m fs)) first
    where
      first : used k es ≡ take m (used n es)
      first =
          elim (dec_lt m n) [
            | yes h ↦ let z : k ≡ m = omega arith in ap (λ (j : ℕ). used j es) z ∙ used_take es m n (omega arith)
            | no h ↦ let z : k ≡ n = omega arith in ap (λ (j : ℕ). used j es) z ∙ sym (take_all m (used n es) (omega (arith, tab_length n (entry_at es))))
          ]

-- ---- a link's and an unlink's entries

link_fits_past : (b u w from : ℕ) (es : List Entry) → length es ≤ place w es → link_fits b u w from es ≡ false
unfolding place link_fits
link_fits_past b u w from [] h = refl
link_fits_past b u w from (e ∷ es) h = go (case (ltb e.key w)) h (link_fits_past b u w (suc e.key) es)
  where
    go : Case (ltb e.key w) → suc (length es) ≤ place w (e ∷ es) → (length es ≤ place w es → link_fits b u w (suc e.key) es ≡ false) → link_fits b u w from (e ∷ es) ≡ false
    go (yes! t) h again = let h' : suc (length es) ≤ suc (place w es) = rw t at h in rw t (again (omega arith))
    go (no! t) h again = let h' : suc (length es) ≤ 0 = rw t at h in absurd (omega arith)

link_fits_place : (b u w from : ℕ) (es : List Entry) → place w es < length es
    → link_fits b u w from es
    ≡ eqb (key_at es (place w es)) w && (eqb (entry_at es (place w es)).val b && (leb (after from (take (place w es) es)) u && ltb u w))
unfolding place link_fits after
link_fits_place b u w from [] h = absurd (omega arith)
link_fits_place b u w from (e ∷ es) h = go (case (ltb e.key w)) h (link_fits_place b u w (suc e.key) es)
  where
    go : Case (ltb e.key w) → place w (e ∷ es) < suc (length es)
        → (place w es < length es → link_fits b u w (suc e.key) es
        ≡ eqb (key_at es (place w es)) w && (eqb (entry_at es (place w es)).val b && (leb (after (suc e.key) (take (place w es) es)) u && ltb u w)))
        → link_fits b u w from (e ∷ es)
        ≡ eqb (key_at (e ∷ es) (place w (e ∷ es))) w
        && (eqb (entry_at (e ∷ es) (place w (e ∷ es))).val b && (leb (after from (take (place w (e ∷ es)) (e ∷ es))) u && ltb u w))
    go (yes! t) h again = let h' : suc (place w es) < suc (length es) = rw t at h in rw t (again (omega arith))
    go (no! t) h again = rw t

side_past : (b u c w : ℕ) (es : List Entry) → length es ≤ place u es + 1 → side_by_side b u c w es ≡ false
unfolding place side_by_side
side_past b u c w [] h = refl
side_past b u c w (e ∷ []) h = refl
side_past b u c w (e ∷ f ∷ es) h = go (case (ltb e.key u)) h (side_past b u c w (f ∷ es))
  where
    go : Case (ltb e.key u) → suc (suc (length es)) ≤ place u (e ∷ f ∷ es) + 1
        → (suc (length es) ≤ place u (f ∷ es) + 1 → side_by_side b u c w (f ∷ es) ≡ false) → side_by_side b u c w (e ∷ f ∷ es) ≡ false
    go (yes! t) h again = let h' : suc (suc (length es)) ≤ suc (place u (f ∷ es)) + 1 = rw t at h in rw t (again (omega arith))
    go (no! t) h again = let h' : suc (suc (length es)) ≤ 1 = rw t at h in absurd (omega arith)

side_place : (b u c w : ℕ) (es : List Entry) → place u es + 1 < length es
    → side_by_side b u c w es
    ≡ eqb (key_at es (place u es)) u && (eqb (entry_at es (place u es)).val b && (eqb (key_at es (place u es + 1)) w && eqb (entry_at es (place u es + 1)).val c))
unfolding place side_by_side
side_place b u c w [] h = absurd (omega arith)
side_place b u c w (e ∷ []) h = absurd (omega arith)
side_place b u c w (e ∷ f ∷ es) h = go (case (ltb e.key u)) h (side_place b u c w (f ∷ es))
  where
    go : Case (ltb e.key u) → place u (e ∷ f ∷ es) + 1 < suc (suc (length es))
        → (place u (f ∷ es) + 1 < suc (length es) → side_by_side b u c w (f ∷ es)
        ≡ eqb (key_at (f ∷ es) (place u (f ∷ es))) u
        && (eqb (entry_at (f ∷ es) (place u (f ∷ es))).val b && (eqb (key_at (f ∷ es) (place u (f ∷ es) + 1)) w && eqb (entry_at (f ∷ es) (place u (f ∷ es) + 1)).val c)))
        → side_by_side b u c w (e ∷ f ∷ es)
        ≡ eqb (key_at (e ∷ f ∷ es) (place u (e ∷ f ∷ es))) u
        && (eqb (entry_at (e ∷ f ∷ es) (place u (e ∷ f ∷ es))).val b
        && (eqb (key_at (e ∷ f ∷ es) (place u (e ∷ f ∷ es) + 1)) w && eqb (entry_at (e ∷ f ∷ es) (place u (e ∷ f ∷ es) + 1)).val c))
    go (yes! t) h again =
        let h' : suc (place u (f ∷ es)) + 1 < suc (suc (length es)) = rw t at h in
        rw (t, add-one (suc (place u (f ∷ es)))) (again (omega arith) ∙ rw (add-one (place u (f ∷ es))))
    go (no! t) h again = rw t

module _ (n : ℕ) (es : List Entry) where
  used_length : length (used n es) ≡ n
  used_length = tab_length n (entry_at es)

  pub link_past : (b u w i : ℕ) → i ≡ place w (used n es) → n ≤ i → false ≡ link_fits b u w 0 (used n es)
  link_past b u w i p h = sym (link_fits_past b u w 0 (used n es) (omega (arith, used_length)))

  pub link_here : (b u w i : ℕ) → i ≡ place w (used n es) → i < n
      → eqb (key_at es i) w && (eqb (entry_at es i).val b && (leb (after 0 (used i es)) u && ltb u w)) ≡ link_fits b u w 0 (used n es)
  link_here b u w i p h =
      sym (link_fits_place b u w 0 (used n es) (omega (arith, used_length))
      ∙ ap (λ (j : ℕ). eqb (key_at (used n es) j) w && (eqb (entry_at (used n es) j).val b && (leb (after 0 (take j (used n es))) u && ltb u w))) (sym p)
      ∙ ap₂ (λ (e : Entry) (l : List Entry). eqb e.key w && (eqb e.val b && (leb (after 0 l) u && ltb u w))) (used_in n i es h) (sym (used_take es i n (omega arith))))

  pub side_none : (b u c w i : ℕ) → i ≡ place u (used n es) → n ≤ i + 1 → false ≡ side_by_side b u c w (used n es)
  side_none b u c w i p h = sym (side_past b u c w (used n es) (omega (arith, used_length)))

  pub side_here : (b u c w i : ℕ) → i ≡ place u (used n es) → i + 1 < n
      → eqb (key_at es i) u && (eqb (entry_at es i).val b && (eqb (key_at es (i + 1)) w && eqb (entry_at es (i + 1)).val c)) ≡ side_by_side b u c w (used n es)
  side_here b u c w i p h =
      sym (side_place b u c w (used n es) (omega (arith, used_length))
      ∙ ap (λ (j : ℕ). eqb (key_at (used n es) j) u && (eqb (entry_at (used n es) j).val b && (eqb (key_at (used n es) (j + 1)) w && eqb (entry_at (used n es) (j + 1)).val c))) (sym p)
      ∙ ap₂ (λ (e f : Entry). eqb e.key u && (eqb e.val b && (eqb f.key w && eqb f.val c))) (used_in n i es (omega arith)) (used_in n (i + 1) es h))
