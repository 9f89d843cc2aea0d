-- Lists by the rule of their elements: their elements, and what a loop that fills an array from the front makes turn by turn.
use Rattle.std.specs.Prelude.{◌≡◌, get_or, drop, set, length}
use Rattle.std.proofs.Math.Path.{refl, ap, sym}
use Rattle.std.proofs.Common.{◌∙◌, subst, eq-or-lt_of_le, le_of_suc-le-suc, not-suc-le-zero, arith, drop-cons, ext_get_or}
use Prim.Native.Nat.{ℕ, zero, suc, ◌+◌, ◌<◌, ◌≤◌}
use Rattle.std.proofs.Math.Logic.{⊎_elim}
use Rattle.std.proofs.Math.Numerals.{add-one}
use Rattle.std.proofs.Math.Decide.{dec_lt}
use mathlib.Core.List.{List, [], ◌∷◌, ◌++◌, append_assoc, append-nil}
use Rattle.std.proofs.Math.ListN.{length-append, get_or-append, get_or-eq_default}
use Rattle.std.proofs.Math.Seq.{set_at, get_or_at, drop-length}
use Rattle.def_layout.specs.Numbers.{tab}

module _ {A : Type 0} where
  pub tab_length : (n : ℕ) (f : ℕ → A) → length (tab n f) ≡ n
  unfolding tab
  tab_length zero f = refl
  tab_length (suc n) f = length-append (tab n f) (f n ∷ []) ∙ omega (arith, tab_length n f)

  -- A loop that stores element after element: before, at a turn, after.
  pub tab_none : (f : ℕ → A) (l : List A) → l ≡ tab 0 f ++ drop 0 l
  unfolding tab
  tab_none f l = refl

  pub tab_step : (i : ℕ) (f : ℕ → A) (l k : List A) (v : A) → i < length l → k ≡ tab i f ++ drop i l → v ≡ f i
      → set k i v ≡ tab (i + 1) f ++ drop (i + 1) l
  unfolding tab
  tab_step i f l k v h e ev =
      rw (e, ev)
      (rw (drop-cons l i v, set_at (tab i f) (get_or l i v) (drop (suc i) l) (f i) i (tab_length i f), add-one i)
      (sym (append_assoc (tab i f) (f i ∷ []) (drop (suc i) l))))

  pub tab_end : (n i : ℕ) (f : ℕ → A) (l k : List A) → length l ≡ n → i ≡ n → k ≡ tab i f ++ drop i l → k ≡ tab n f
  tab_end n i f l k h hi e =
      e ∙ ap (λ (j : ℕ). tab j f ++ drop j l) hi
      ∙ subst (λ (j : ℕ). tab n f ++ drop j l ≡ tab n f) h (ap (λ (r : List A). tab n f ++ r) (drop-length l) ∙ append-nil (tab n f))

  pub getD_tab : (n i : ℕ) (f : ℕ → A) (d : A) → i < n → get_or (tab n f) i d ≡ f i
  unfolding tab
  getD_tab zero i f d h = absurd (not-suc-le-zero h)
  getD_tab (suc n) i f d h =
      ⊎_elim
      (λ (e : i ≡ n). get_or_at (tab n f) (f n) [] d i (tab_length n f ∙ sym e) ∙ ap f (sym e))
      (λ (l : i < n). get_or-append (tab n f) (f n ∷ []) d i (subst (λ (k : ℕ). i < k) (sym (tab_length n f)) l) ∙ getD_tab n i f d l)
      (eq-or-lt_of_le (le_of_suc-le-suc h))

  pub getD_tab_past : (n i : ℕ) (f : ℕ → A) (d : A) → n ≤ i → get_or (tab n f) i d ≡ d
  getD_tab_past n i f d h = get_or-eq_default (tab n f) d {n = i} (subst (λ (k : ℕ). k ≤ i) (sym (tab_length n f)) h)

  -- A list is the table of its elements; a table goes by its rule alone.
  pub tab_is : (n : ℕ) (f : ℕ → A) (l : List A) (d : A) → length l ≡ n → ((i : ℕ) → i < n → f i ≡ get_or l i d) → tab n f ≡ l
  tab_is n f l d h e =
      ext_get_or d (tab n f) l (tab_length n f ∙ sym h)
      (λ i b. let q : i < n = subst (λ (k : ℕ). i < k) (tab_length n f) b in getD_tab n i f d q ∙ e i q)

  pub tab_same : (n : ℕ) (f g : ℕ → A) → ((i : ℕ) → i < n → f i ≡ g i) → tab n f ≡ tab n g
  unfolding tab
  tab_same zero f g e = refl
  tab_same (suc n) f g e = rw (tab_same n f g (λ i h. e i (omega arith)), e n (omega arith))

  -- The elements of a table of elements.
  pub getD_tab_of : (n i : ℕ) (l : List A) (d : A) → length l ≤ n → get_or (tab n (λ j. get_or l j d)) i d ≡ get_or l i d
  getD_tab_of n i l d h =
      elim (dec_lt i n) [
        | yes q ↦ getD_tab n i (λ j. get_or l j d) d q
        | no q ↦ getD_tab_past n i (λ j. get_or l j d) d (omega arith) ∙ sym (get_or-eq_default l d {n = i} (omega arith))
      ]
