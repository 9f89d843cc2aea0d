-- Arrays of eight whose first elements are in use, the others being one and the same: as a list and what is behind it.
use Rattle.std.specs.Prelude.{◌≡◌, refl, ℕ, zero, suc, ◌+◌, ◌-◌, ◌<◌, ◌≤◌, List, [], ◌∷◌, ◌++◌, get_or, set, length, replicate, ltb}
use Rattle.std.proofs.Common.{ap, sym, ◌∙◌, arith, length-append, get_or-append-add, lt-ltb, le-ltb}
use Rattle.std.proofs.Math.Decide.{dec_lt}
use Rattle.std.proofs.lemmas.List.{length-replicate, get_or-replicate, set-append_left}
use Rattle.std.proofs.Math.ListN.{get_or-append, get_or-eq_default}
use Rattle.std.proofs.Math.Seq.{set-append_seam}
use Rattle.def_base.specs.Tests.{pick}
use Rattle.def_layout.specs.Numbers.{tab}
use Rattle.law_bytes.specs.Tables.{tab_is, tab_same, getD_tab}

module _ {A : Type 0} (d : A) where
  abbrev pub eight : List A → List A
  eight us = tab 8 (λ i. get_or us i d)

  pub padded : (us : List A) → length us ≤ 8 → eight us ≡ us ++ replicate (8 - length us) d
  padded us h = tab_is 8 (λ i. get_or us i d) (us ++ replicate (8 - length us) d) d size (λ i q. at i q)
    where
      pad : length (replicate (8 - length us) d) ≡ 8 - length us
      pad = length-replicate {A = A} (8 - length us) d

      size : length (us ++ replicate (8 - length us) d) ≡ 8
      size = length-append us (replicate (8 - length us) d) ∙ omega (arith, pad, h)

      at : (i : ℕ) → i < 8 → get_or us i d ≡ get_or (us ++ replicate (8 - length us) d) i d
      at i q =
          elim (dec_lt i (length us)) [
            | yes r ↦ sym (get_or-append us (replicate (8 - length us) d) d i r)
            | no r ↦
                let n : length us + (i - length us) ≡ i = omega arith in
                get_or-eq_default us d {n = i} (omega arith)
                ∙ sym (ap (λ (k : ℕ). get_or (us ++ replicate (8 - length us) d) k d) (sym n)
                ∙ get_or-append-add us (replicate (8 - length us) d) (i - length us) d
                ∙ get_or-replicate {A = A} (8 - length us) (i - length us) d d (omega arith))
          ]

  -- One in use changed.
  pub eight_set : (before after : List A) (x y : A) → length (before ++ x ∷ after) ≤ 8 → eight (before ++ y ∷ after) ≡ set (eight (before ++ x ∷ after)) (length before) y
  eight_set before after x y h =
      let n : length (before ++ x ∷ after) ≡ length (before ++ y ∷ after) = length-append before (x ∷ after) ∙ sym (length-append before (y ∷ after)) in
      let l : length before < length (before ++ x ∷ after) = omega (arith, length-append before (x ∷ after)) in
      sym (ap (λ (r : List A). set r (length before) y) (padded (before ++ x ∷ after) h)
      ∙ set-append_left (before ++ x ∷ after) (replicate (8 - length (before ++ x ∷ after)) d) (length before) y l
      ∙ ap (λ (r : List A). r ++ replicate (8 - length (before ++ x ∷ after)) d) (set-append_seam before x after y)
      ∙ ap (λ (k : ℕ). (before ++ y ∷ after) ++ replicate (8 - k) d) n
      ∙ sym (padded (before ++ y ∷ after) (omega (arith, n, h))))

  -- The one at the end that is like those not in use.
  pub eight_same : (us : List A) → eight (us ++ d ∷ []) ≡ eight us
  eight_same us = tab_same 8 (λ i. get_or (us ++ d ∷ []) i d) (λ i. get_or us i d) (λ i q. at i)
    where
      at : (i : ℕ) → get_or (us ++ d ∷ []) i d ≡ get_or us i d
      at i =
          elim (dec_lt i (length us)) [
            | yes r ↦ get_or-append us (d ∷ []) d i r
            | no r ↦
                let n : length us + (i - length us) ≡ i = omega arith in
                ap (λ (k : ℕ). get_or (us ++ d ∷ []) k d) (sym n) ∙ get_or-append-add us (d ∷ []) (i - length us) d
                ∙ one (i - length us) ∙ sym (get_or-eq_default us d {n = i} (omega arith))
          ]
        where
          one : (k : ℕ) → get_or (d ∷ []) k d ≡ d
          one zero = refl
          one (suc k) = refl

  -- Element j of the eight once the one at i is gone.
  abbrev pub closing : List A → ℕ → ℕ → A
  closing xs i j = pick (ltb j i) (get_or xs j d) (pick (ltb j 7) (get_or xs (j + 1) d) d)

  pub eight_closed : (before after : List A) (x : A) → length (before ++ x ∷ after) ≤ 8 → eight (before ++ after) ≡ tab 8 (closing (eight (before ++ x ∷ after)) (length before))
  eight_closed before after x h = tab_same 8 (λ i. get_or (before ++ after) i d) (closing (eight (before ++ x ∷ after)) (length before)) (λ j q. at j q)
    where
      next : (k : ℕ) → get_or (before ++ after) (length before + k) d ≡ get_or (before ++ x ∷ after) (length before + suc k) d
      next k = get_or-append-add before after k d ∙ sym (get_or-append-add before (x ∷ after) (suc k) d)

      past : (j : ℕ) → j < 8 → get_or (before ++ x ∷ after) (j + 1) d ≡ pick (ltb j 7) (get_or (eight (before ++ x ∷ after)) (j + 1) d) d
      past j q =
          elim (dec_lt j 7) [
            | yes r ↦ rw (lt-ltb j 7 r) (sym (getD_tab 8 (j + 1) (λ i. get_or (before ++ x ∷ after) i d) d (omega arith)))
            | no r ↦ rw (le-ltb j 7 (omega arith)) (get_or-eq_default (before ++ x ∷ after) d {n = j + 1} (omega arith))
          ]

      at : (j : ℕ) → j < 8 → get_or (before ++ after) j d ≡ closing (eight (before ++ x ∷ after)) (length before) j
      at j q =
          elim (dec_lt j (length before)) [
            | yes r ↦
                rw (lt-ltb j (length before) r)
                (get_or-append before after d j r ∙ sym (getD_tab 8 j (λ i. get_or (before ++ x ∷ after) i d) d q ∙ get_or-append before (x ∷ after) d j r))
            | no r ↦
                let n : length before + (j - length before) ≡ j = omega arith in
                let m : length before + suc (j - length before) ≡ j + 1 = omega arith in
                rw (le-ltb j (length before) (omega arith))
                (ap (λ (k : ℕ). get_or (before ++ after) k d) (sym n) ∙ next (j - length before)
                ∙ ap (λ (k : ℕ). get_or (before ++ x ∷ after) k d) m ∙ past j q)
          ]
