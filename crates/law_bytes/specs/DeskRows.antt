-- The desk's eight rows: a batch's place among them, a row gone with the rest closing up, and the list of rows in use.
use Rattle.std.specs.Prelude.{◌≡◌, refl, ℕ, zero, suc, ◌+◌, ◌<◌, ◌≤◌, length, take, eqb}
use Rattle.std.proofs.Math.Path.{ap, ap₂}
use Rattle.std.proofs.Common.{sym, ◌∙◌, subst, le_refl, add-one, arith, length-append, take-append-drop, drop_of_length-le, drop-cons, length-take-le}
use Rattle.std.proofs.Math.Decide.{dec_lt}
use mathlib.Core.List.{List, [], ◌∷◌, ◌++◌}
use Rattle.std.proofs.Math.ListN.{set, drop, get_or-eq_default}
use Rattle.std.proofs.Math.Seq.{set-append_seam}
use Rattle.def_base.specs.Tests.{pick, eq_true, neq_false}
use Rattle.def_layout.specs.declared.Row.{Row}
use Rattle.def_layout.specs.Numbers.{tab}
use Rattle.def_layout.specs.Desks.{no_row, row_at, eight_rows}
use Rattle.law_bytes.specs.Tables.{tab_length, getD_tab}
use Rattle.law_bytes.specs.Eights.{eight, closing, eight_set, eight_same, eight_closed}

-- The place of the first row with batch b, or the length.
unfoldable pub place_of : ℕ → List Row → ℕ
place_of b [] = 0
place_of b (r ∷ rs) = pick (eqb r.batch b) 0 (suc (place_of b rs))

pub place_more : (rs : List Row) (b i n : ℕ) → i < length rs → ((row_at rs i).batch ≡ b → ⊥) → n ≡ i + place_of b (drop i rs) → n ≡ i + 1 + place_of b (drop (i + 1) rs)
unfolding place_of
place_more rs b i n h k e = e ∙ rw (drop-cons rs i no_row, neq_false k, add-one i) (omega arith)

pub place_here : (rs : List Row) (b i n : ℕ) → i < length rs → (row_at rs i).batch ≡ b → n ≡ i + place_of b (drop i rs) → n ≡ i
unfolding place_of
place_here rs b i n h k e = e ∙ rw (drop-cons rs i no_row, eq_true (row_at rs i).batch b k) (omega arith)

pub place_none : (rs : List Row) (b i n : ℕ) → length rs ≤ i → n ≡ i + place_of b (drop i rs) → n ≡ i
unfolding place_of
place_none rs b i n h e = e ∙ rw (drop_of_length-le rs {i = i} h) (omega arith)

abbrev pub new_row : ℕ → Row
new_row batch = record { batch = batch; last = batch; undo = 0; pending = 0 }

-- The rows once row i is gone and the rest close up.
unfoldable pub without : List Row → ℕ → List Row
without rs i = tab 8 (closing no_row rs i)

-- The rows' counts are small enough to add to.
abbrev pub LowRows : List Row → Type 0
LowRows rs = (i : ℕ) → (row_at rs i).pending ≤ 16384

-- ---- the rows in use, as a list: one of them changed, gone, or new at the end

module _ (us : List Row) (i : ℕ) (h : i < length us) (l : length us ≤ 8) where
  split : us ≡ take i us ++ row_at us i ∷ drop (suc i) us
  split = sym (take-append-drop i us) ∙ ap (λ (x : List Row). take i us ++ x) (drop-cons us i no_row h)

  size : length (take i us) ≡ i
  size = length-take-le i us (omega arith)

  few : length (take i us ++ row_at us i ∷ drop (suc i) us) ≤ 8
  few = subst (λ (x : List Row). length x ≤ 8) split l

  pub eight_rows_set : (r : Row) → eight_rows (set us i r) ≡ set (eight_rows us) i r
  unfolding eight_rows
  eight_rows_set r =
      ap (eight no_row) (ap₂ (λ (x : List Row) (k : ℕ). set x k r) split (sym size) ∙ set-append_seam (take i us) (row_at us i) (drop (suc i) us) r)
      ∙ eight_set no_row (take i us) (drop (suc i) us) (row_at us i) r few
      ∙ ap₂ (λ (x : List Row) (k : ℕ). set (eight no_row x) k r) (sym split) size

  pub eight_rows_without : eight_rows (take i us ++ drop (i + 1) us) ≡ without (eight_rows us) i
  unfolding eight_rows without
  eight_rows_without =
      ap (λ (k : ℕ). eight no_row (take i us ++ drop k us)) (add-one i)
      ∙ eight_closed no_row (take i us) (drop (suc i) us) (row_at us i) few
      ∙ ap₂ (λ (x : List Row) (k : ℕ). tab 8 (closing no_row (eight no_row x) k)) (sym split) size

pub eight_rows_add : (us : List Row) (r : Row) → length us < 8 → eight_rows (us ++ r ∷ []) ≡ set (eight_rows us) (length us) r
unfolding eight_rows
eight_rows_add us r h =
    eight_set no_row us [] no_row r (omega (arith, length-append us (no_row ∷ [])))
    ∙ ap (λ (x : List Row). set x (length us) r) (eight_same no_row us)

-- A place by what stands there and before it.
place_is : (b : ℕ) (rs : List Row) (i : ℕ) → i < length rs → (row_at rs i).batch ≡ b → ((j : ℕ) → j < i → (row_at rs j).batch ≡ b → ⊥) → place_of b rs ≡ i
unfolding place_of
place_is b [] i h e n = absurd (omega arith)
place_is b (r ∷ rs) zero h e n = rw (eq_true r.batch b e)
place_is b (r ∷ rs) (suc i) h e n =
    rw (neq_false (n 0 (omega arith))) (ap suc (place_is b rs i (omega arith) e (λ j q. n (suc j) (omega arith))))

place_all : (b : ℕ) (rs : List Row) → ((j : ℕ) → j < length rs → (row_at rs j).batch ≡ b → ⊥) → place_of b rs ≡ length rs
unfolding place_of
place_all b [] n = refl
place_all b (r ∷ rs) n = rw (neq_false (n 0 (omega arith))) (ap suc (place_all b rs (λ j q. n (suc j) (omega arith))))

-- The number of rows in use, each of which has a batch.
pub used_count : (us : List Row) → length us ≤ 8 → ((i : ℕ) → i < length us → (row_at us i).batch ≡ 0 → ⊥) → place_of 0 (eight_rows us) ≡ length us
unfolding eight_rows
used_count us l h =
    elim (dec_lt (length us) 8) [
      | yes q ↦
          place_is 0 (tab 8 (row_at us)) (length us) (omega (arith, tab_length 8 (row_at us)))
          (ap (λ (r : Row). r.batch) (getD_tab 8 (length us) (row_at us) no_row q ∙ get_or-eq_default us no_row {n = length us} (le_refl (length us))))
          (λ j m. used j m (omega arith))
      | no q ↦
          place_all 0 (tab 8 (row_at us)) (λ j m. used j (omega (arith, tab_length 8 (row_at us))) (omega (arith, tab_length 8 (row_at us))))
          ∙ omega (arith, tab_length 8 (row_at us))
    ]
  where
    used : (j : ℕ) → j < length us → j < 8 → (row_at (tab 8 (row_at us)) j).batch ≡ 0 → ⊥
    used j m k e = h j m (ap (λ (r : Row). r.batch) (sym (getD_tab 8 j (row_at us) no_row k)) ∙ e)
