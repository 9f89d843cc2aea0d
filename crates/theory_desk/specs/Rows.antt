-- The eight rows of a list of open batches: finding a batch through them, and what a batch more, changed or gone makes of them.
use Rattle.std.specs.Prelude.{ℕ, ◌≤◌, ◌<◌, ◌≡◌, ◌≢◌, List, [], ◌∷◌, ◌++◌, map, set}
use Rattle.std.proofs.Common.{sym, ap, ◌∙◌}
use Rattle.std.proofs.Math.Option.{none, some}
use Rattle.std.proofs.lemmas.List.{map-append}
use native.Mathlib.Omega.{arith}
use Rattle.std.proofs.Math.ListN.{length, length-map}
use Rattle.def_base.specs.Tests.{none_some, some_inj}
use Rattle.def_layout.specs.declared.Row.{Row}
use Rattle.def_layout.specs.Desks.{no_row, row_at, eight_rows}
use Rattle.def_model.specs.Batches.{Batch, find_batch, change_batch, drop_batch, row_of}
use Rattle.law_bytes.specs.Tables.{getD_tab_of}
use Rattle.law_bytes.specs.DeskRows.{place_of, without, used_count, eight_rows_set, eight_rows_add, eight_rows_without}
use Rattle.theory_desk.specs.Opened.{batch_at, FromOne, from_one_at, from_one_none}
use Rattle.theory_desk.specs.Places.{place_in_use, place_not_in_use, place_is_in_use, row_there, find_past, find_there, found_place, change_there, drop_there}

abbrev pub rows_of : List Batch → List Row
rows_of bs = eight_rows (map row_of bs)

module _ (bs : List Batch) (few : length bs ≤ 8) where
  few_rows : length (map row_of bs) ≤ 8
  few_rows = let e = length-map bs row_of in omega arith

  -- A row is that of the batch at its place; the empty one where there is none.
  pub rows_at : (i : ℕ) → row_at (rows_of bs) i ≡ row_of (batch_at bs i)
  unfolding eight_rows
  rows_at i = getD_tab_of 8 i (map row_of bs) no_row few_rows ∙ row_there bs i

  -- The first row not in use is the number of batches.
  pub rows_used : FromOne bs → place_of 0 (rows_of bs) ≡ length bs
  unfolding row_of
  rows_used h = used_count (map row_of bs) few_rows (λ i l z. positive i l (ap (λ (r : Row). r.batch) (sym (row_there bs i)) ∙ z)) ∙ length-map bs row_of
    where
      positive : (i : ℕ) → i < length (map row_of bs) → (batch_at bs i).number ≡ 0 → ⊥
      positive i l z = let e = length-map bs row_of in let p = from_one_at bs i h (omega arith) in omega arith

  -- ---- finding

  -- A batch without a row is not there.
  pub rows_none : (b : ℕ) → 8 ≤ place_of b (rows_of bs) → find_batch b bs ≡ none
  rows_none b h =
      let l = length-map bs row_of in
      let q = place_not_in_use b (map row_of bs) few_rows h in
      find_past b bs (omega arith)

  -- A batch with a row has it at its own place.
  rows_place : (b : ℕ) → b ≢ 0 → place_of b (rows_of bs) < 8 → (place_of b (map row_of bs) ≡ place_of b (rows_of bs)) × (place_of b (map row_of bs) < length bs)
  rows_place b n h =
      let l = length-map bs row_of in
      let (q, p) = place_in_use b (map row_of bs) few_rows n h in
      (sym p, omega arith)

  pub rows_found : (b : ℕ) → b ≢ 0 → place_of b (rows_of bs) < 8 → find_batch b bs ≡ some (batch_at bs (place_of b (rows_of bs)))
  rows_found b n h =
      let (e, q) = rows_place b n h in
      find_there b bs q ∙ ap (λ (i : ℕ). some (batch_at bs i)) e

  -- The other way: a batch that is there has a row, which is its own.
  pub rows_open : FromOne bs → (b : ℕ) (x : Batch) → find_batch b bs ≡ some x → (b ≢ 0) × (place_of b (rows_of bs) < 8) × (row_at (rows_of bs) (place_of b (rows_of bs)) ≡ row_of x)
  rows_open one b x f =
      let n : b ≢ 0 = λ z. none_some (sym (from_one_none bs one) ∙ ap (λ (m : ℕ). find_batch m bs) (sym z) ∙ f) in
      let l = length-map bs row_of in
      let q = found_place b bs x f in
      let p = place_is_in_use b (map row_of bs) few_rows (omega arith) in
      let h : place_of b (rows_of bs) < 8 = omega arith in
      (n, h, rows_at (place_of b (rows_of bs)) ∙ ap row_of (some_inj (sym (rows_found b n h) ∙ f)))

  -- ---- a batch changed, and one gone

  pub rows_changed : (b : ℕ) (f : Batch → Batch) → b ≢ 0 → place_of b (rows_of bs) < 8
      → rows_of (change_batch b f bs) ≡ set (rows_of bs) (place_of b (rows_of bs)) (row_of (f (batch_at bs (place_of b (rows_of bs)))))
  rows_changed b f n h =
      let us = map row_of bs in
      let (e, q) = rows_place b n h in
      let l = length-map bs row_of in
      ap eight_rows (change_there b f bs q) ∙ eight_rows_set us (place_of b us) (omega arith) few_rows (row_of (f (batch_at bs (place_of b us))))
      ∙ ap (λ (i : ℕ). set (rows_of bs) i (row_of (f (batch_at bs i)))) e

  pub rows_dropped : (b : ℕ) → b ≢ 0 → place_of b (rows_of bs) < 8 → rows_of (drop_batch b bs) ≡ without (rows_of bs) (place_of b (rows_of bs))
  rows_dropped b n h =
      let us = map row_of bs in
      let (e, q) = rows_place b n h in
      let l = length-map bs row_of in
      ap eight_rows (drop_there b bs q) ∙ eight_rows_without us (place_of b us) (omega arith) few_rows ∙ ap (without (rows_of bs)) e

-- A batch more, where fewer than eight are open.
pub rows_added : (bs : List Batch) (x : Batch) → length bs < 8 → rows_of (bs ++ x ∷ []) ≡ set (rows_of bs) (length bs) (row_of x)
rows_added bs x h =
    let l = length-map bs row_of in
    ap eight_rows (map-append row_of bs (x ∷ [])) ∙ eight_rows_add (map row_of bs) (row_of x) (omega arith) ∙ ap (λ (i : ℕ). set (rows_of bs) i (row_of x)) l
