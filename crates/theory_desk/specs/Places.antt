-- A batch among the open ones and its row among the desk's eight have one place.
use Rattle.std.specs.Prelude.{ℕ, zero, suc, ◌+◌, ◌-◌, ◌≤◌, ◌<◌, ◌≡◌, refl, ◌≢◌, Bool, true, false, List, [], ◌∷◌, ◌++◌, map, length, set, take, drop, replicate, eqb}
use Rattle.std.proofs.Common.{sym, ap, ◌∙◌, arith, length-append, get_or-append-add}
use Rattle.std.proofs.Math.Option.{none, some}
use Rattle.std.proofs.Math.Decide.{dec_lt}
use Rattle.std.proofs.lemmas.List.{length-replicate, get_or-replicate}
use Rattle.std.proofs.Math.ListN.{get_or-map, get_or-append, get_or-eq_default}
use Rattle.def_base.specs.Tests.{pick, Case, yes!, no!, case, none_some, true_eq, eq_true, neq_false}
use Rattle.def_layout.specs.declared.Row.{Row}
use Rattle.def_layout.specs.Desks.{no_row, row_at, eight_rows}
use Rattle.def_model.specs.Batches.{Batch, find_batch, change_batch, drop_batch, next_undo, row_of}
use Rattle.law_bytes.specs.Tables.{tab_is}
use Rattle.theory_ledger.specs.Held.{false_neq}
use Rattle.law_bytes.specs.DeskRows.{place_of}
use Rattle.theory_desk.specs.Opened.{no_batch, batch_at}

-- ---- the eight rows are those in use, and empty ones

pub eight_rows_are : (us : List Row) → length us ≤ 8 → eight_rows us ≡ us ++ replicate (8 - length us) no_row
unfolding eight_rows
eight_rows_are us l =
    tab_is 8 (row_at us) (us ++ replicate (8 - length us) no_row) no_row
    (length-append us (replicate (8 - length us) no_row) ∙ omega (arith, length-replicate (8 - length us) no_row))
    (λ i h. elim (dec_lt i (length us)) [
      | yes q ↦ sym (get_or-append us (replicate (8 - length us) no_row) no_row i q)
      | no q ↦
          let e : length us + (i - length us) ≡ i = omega arith in
          get_or-eq_default us no_row {n = i} (omega arith)
          ∙ sym (ap (λ (j : ℕ). row_at (us ++ replicate (8 - length us) no_row) j) (sym e) ∙ get_or-append-add us (replicate (8 - length us) no_row) (i - length us) no_row
          ∙ get_or-replicate (8 - length us) (i - length us) no_row no_row (omega arith))
    ])

-- ---- the place of a batch's row

pub place_within : (b : ℕ) (us : List Row) → place_of b us ≤ length us
unfolding place_of
place_within b [] = omega arith
place_within b (r ∷ us) = go (eqb r.batch b) (place_within b us)
  where
    go : (t : Bool) → place_of b us ≤ length us → pick t 0 (suc (place_of b us)) ≤ suc (length us)
    go true i = omega arith
    go false i = omega arith

place_first : (b : ℕ) (us ws : List Row) → place_of b us < length us → place_of b (us ++ ws) ≡ place_of b us
unfolding place_of
place_first b [] ws l = absurd (omega arith)
place_first b (r ∷ us) ws l = go (eqb r.batch b) l (place_first b us ws)
  where
    go : (t : Bool) → pick t 0 (suc (place_of b us)) < suc (length us) → (place_of b us < length us → place_of b (us ++ ws) ≡ place_of b us)
        → pick t 0 (suc (place_of b (us ++ ws))) ≡ pick t 0 (suc (place_of b us))
    go true l i = refl
    go false l i = ap suc (i (omega arith))

place_later : (b : ℕ) (us ws : List Row) → length us ≤ place_of b us → place_of b (us ++ ws) ≡ length us + place_of b ws
unfolding place_of
place_later b [] ws l = omega arith
place_later b (r ∷ us) ws l = go (eqb r.batch b) l (place_later b us ws)
  where
    go : (t : Bool) → suc (length us) ≤ pick t 0 (suc (place_of b us)) → (length us ≤ place_of b us → place_of b (us ++ ws) ≡ length us + place_of b ws)
        → pick t 0 (suc (place_of b (us ++ ws))) ≡ suc (length us) + place_of b ws
    go true l i = absurd (omega arith)
    go false l i = let e = i (omega arith) in omega arith

place_empty : (b k : ℕ) → b ≢ 0 → place_of b (replicate k no_row) ≡ k
unfolding place_of
place_empty b zero n = refl
place_empty b (suc k) n = let m : 0 ≢ b = λ e. n (sym e) in rw (neq_false m) (ap suc (place_empty b k n))

-- Among the eight a row in use is where it is among those in use.
pub place_is_in_use : (b : ℕ) (us : List Row) → length us ≤ 8 → place_of b us < length us → place_of b (eight_rows us) ≡ place_of b us
place_is_in_use b us l q = ap (place_of b) (eight_rows_are us l) ∙ place_first b us (replicate (8 - length us) no_row) q

pub place_in_use : (b : ℕ) (us : List Row) → length us ≤ 8 → b ≢ 0 → place_of b (eight_rows us) < 8 → (place_of b us < length us) × (place_of b (eight_rows us) ≡ place_of b us)
place_in_use b us l n h =
    elim (dec_lt (place_of b us) (length us)) [
      | yes q ↦ (q, place_is_in_use b us l q)
      | no q ↦
          let e : place_of b (eight_rows us) ≡ length us + place_of b (replicate (8 - length us) no_row) = ap (place_of b) (eight_rows_are us l) ∙ place_later b us (replicate (8 - length us) no_row) (omega arith) in
          let z = place_empty b (8 - length us) n in
          absurd (omega arith)
    ]

pub place_not_in_use : (b : ℕ) (us : List Row) → length us ≤ 8 → 8 ≤ place_of b (eight_rows us) → length us ≤ place_of b us
place_not_in_use b us l h =
    elim (dec_lt (place_of b us) (length us)) [
      | yes q ↦ let e = place_is_in_use b us l q in absurd (omega arith)
      | no q ↦ omega arith
    ]

-- ---- batches by place

abbrev place : ℕ → List Batch → ℕ
place b bs = place_of b (map row_of bs)

-- The row at a place is that of the batch at that place.
pub row_there : (bs : List Batch) (i : ℕ) → row_at (map row_of bs) i ≡ row_of (batch_at bs i)
unfolding row_of next_undo
row_there bs i = get_or-map row_of bs i no_batch

pub find_past : (b : ℕ) (bs : List Batch) → length bs ≤ place b bs → find_batch b bs ≡ none
unfolding place_of find_batch row_of
find_past b [] l = refl
find_past b (a ∷ bs) l = go (case (eqb a.number b)) (find_past b bs)
  where
    go : Case (eqb a.number b) → (length bs ≤ place b bs → find_batch b bs ≡ none) → pick (eqb b a.number) (some a) (find_batch b bs) ≡ none
    go (yes! t) i = let w : suc (length bs) ≤ 0 = rw t at l in absurd (omega arith)
    go (no! t) i =
        let w : suc (length bs) ≤ suc (place b bs) = rw t at l in
        let n : b ≢ a.number = λ e. false_neq a.number b t (sym e) in
        rw (neq_false n) (i (omega arith))

pub find_there : (b : ℕ) (bs : List Batch) → place b bs < length bs → find_batch b bs ≡ some (batch_at bs (place b bs))
unfolding place_of find_batch row_of
find_there b [] l = absurd (omega arith)
find_there b (a ∷ bs) l = go (case (eqb a.number b)) (find_there b bs)
  where
    go : Case (eqb a.number b) → (place b bs < length bs → find_batch b bs ≡ some (batch_at bs (place b bs)))
        → pick (eqb b a.number) (some a) (find_batch b bs) ≡ some (batch_at (a ∷ bs) (pick (eqb a.number b) 0 (suc (place b bs))))
    go (yes! t) i = rw (t, eq_true b a.number (sym (true_eq a.number b t)))
    go (no! t) i =
        let w : suc (place b bs) < suc (length bs) = rw t at l in
        let n : b ≢ a.number = λ e. false_neq a.number b t (sym e) in
        rw (t, neq_false n) (i (omega arith))

-- A batch that is found has a place.
pub found_place : (b : ℕ) (bs : List Batch) (x : Batch) → find_batch b bs ≡ some x → place b bs < length bs
found_place b bs x e =
    elim (dec_lt (place b bs) (length bs)) [
      | yes q ↦ q
      | no q ↦ none_some (sym (find_past b bs (omega arith)) ∙ e)
    ]

-- Changed and dropped by its number, it is changed and dropped at its place.
pub change_there : (b : ℕ) (f : Batch → Batch) (bs : List Batch) → place b bs < length bs
    → map row_of (change_batch b f bs) ≡ set (map row_of bs) (place b bs) (row_of (f (batch_at bs (place b bs))))
unfolding place_of change_batch row_of
change_there b f [] l = absurd (omega arith)
change_there b f (a ∷ bs) l = go (case (eqb a.number b)) (change_there b f bs)
  where
    go : Case (eqb a.number b) → (place b bs < length bs → map row_of (change_batch b f bs) ≡ set (map row_of bs) (place b bs) (row_of (f (batch_at bs (place b bs)))))
        → map row_of (pick (eqb b a.number) (f a ∷ bs) (a ∷ change_batch b f bs))
        ≡ set (row_of a ∷ map row_of bs) (pick (eqb a.number b) 0 (suc (place b bs))) (row_of (f (batch_at (a ∷ bs) (pick (eqb a.number b) 0 (suc (place b bs))))))
    go (yes! t) i = rw (t, eq_true b a.number (sym (true_eq a.number b t)))
    go (no! t) i =
        let w : suc (place b bs) < suc (length bs) = rw t at l in
        let n : b ≢ a.number = λ e. false_neq a.number b t (sym e) in
        rw (t, neq_false n) (ap (row_of a ∷◌) (i (omega arith)))

pub drop_there : (b : ℕ) (bs : List Batch) → place b bs < length bs → map row_of (drop_batch b bs) ≡ take (place b bs) (map row_of bs) ++ drop (place b bs + 1) (map row_of bs)
unfolding place_of drop_batch row_of
drop_there b [] l = absurd (omega arith)
drop_there b (a ∷ bs) l = go (case (eqb a.number b)) (drop_there b bs)
  where
    go : Case (eqb a.number b) → (place b bs < length bs → map row_of (drop_batch b bs) ≡ take (place b bs) (map row_of bs) ++ drop (place b bs + 1) (map row_of bs))
        → map row_of (pick (eqb b a.number) bs (a ∷ drop_batch b bs))
        ≡ take (pick (eqb a.number b) 0 (suc (place b bs))) (row_of a ∷ map row_of bs) ++ drop (pick (eqb a.number b) 0 (suc (place b bs)) + 1) (row_of a ∷ map row_of bs)
    go (yes! t) i = rw (t, eq_true b a.number (sym (true_eq a.number b t)))
    go (no! t) i =
        let w : suc (place b bs) < suc (length bs) = rw t at l in
        let n : b ≢ a.number = λ e. false_neq a.number b t (sym e) in
        let s : suc (place b bs) + 1 ≡ suc (place b bs + 1) = omega arith in
        rw (t, neq_false n, s) (ap (row_of a ∷◌) (i (omega arith)))
