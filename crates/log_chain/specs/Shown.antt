-- The program's eight rows and marks show the open batches of a log: where a batch is found, and what changing or dropping it does to them.
use Rattle.std.specs.Prelude.{ℕ, zero, suc, ◌+◌, ◌-◌, ◌≤◌, ◌<◌, ◌≡◌, refl, Bool, true, false, List, [], ◌∷◌, ◌++◌, map, length, get_or, set, replicate, eqb, Option, Some}
use Rattle.std.proofs.Common.{sym, ap, ap₂, ◌∙◌, arith}
use Rattle.std.proofs.Math.Option.{none, some}
use Rattle.std.proofs.lemmas.List.{length-map}
use Rattle.std.proofs.Math.Seq.{get_or-append_seam}
use Rattle.def_base.specs.Tests.{pick, Case, yes!, no!, case, true_eq, eq_true, neq_false}
use Rattle.std.proofs.lemmas.Bool.{eqb-false}
use Rattle.def_layout.specs.declared.Row.{Row}
use Rattle.def_layout.specs.Numbers.{tab}
use Rattle.def_layout.specs.Desks.{no_row, row_at, eight_rows}
use Rattle.def_model.specs.Batches.{Batch, find_batch, change_batch, drop_batch, row_of}
use Rattle.law_bytes.specs.Tables.{getD_tab}
use Rattle.law_bytes.specs.Eights.{eight, closing, padded, eight_set, eight_closed}
use Rattle.law_bytes.specs.DeskRows.{place_of}
use Rattle.log_chain.specs.declared.Batches.{Batches}

abbrev pub marks_of : List Batch → List Bool
marks_of bs = map (λ b. b.marked) bs

-- The program's batches of these rows and marks.
abbrev pub batches_of : List Row → List Bool → Batches
batches_of rs ms = record { rows = rs; marked = ms }

-- Nothing wrong, and these rows and marks.
abbrev pub right_with : List Row → List Bool → Option Batches
right_with rs ms = Some (batches_of rs ms)

pub record Shows (bs : List Batch) (o : Batches) : Type 0 where
  pub rows : o.rows ≡ eight_rows (map row_of bs)
  pub marks : o.marked ≡ eight false (marks_of bs)

-- ---- a batch's place among those open

pub record Found (n : ℕ) (bs : List Batch) (p : ℕ) : Type 0 where
  pub batch : Batch
  pub before : List Batch
  pub after : List Batch
  pub split : bs ≡ before ++ batch ∷ after
  pub place : length before ≡ p
  pub is : find_batch n bs ≡ some batch
  pub change : (f : Batch → Batch) → change_batch n f bs ≡ before ++ f batch ∷ after
  pub gone : drop_batch n bs ≡ before ++ after

pub data Placed (n : ℕ) (bs : List Batch) (p m : ℕ) : Type 0 where
  found : p < m → Found n bs p → Placed n bs p m
  absent : p ≡ m → find_batch n bs ≡ none → Placed n bs p m

-- Among the rows of the batches.
place_found : (n : ℕ) (bs : List Batch) → Placed n bs (place_of n (map row_of bs)) (length bs)
unfolding place_of row_of find_batch change_batch drop_batch
place_found n [] = absent refl refl
place_found n (b ∷ bs) = go (case (eqb n b.number)) (place_found n bs)
  where
    go : Case (eqb n b.number) → Placed n bs (place_of n (map row_of bs)) (length bs)
        → Placed n (b ∷ bs) (pick (eqb b.number n) 0 (suc (place_of n (map row_of bs)))) (suc (length bs))
    go (yes! t) w =
        rw (eq_true b.number n (sym (true_eq n b.number t)))
        (found (omega arith) (record { batch = b; before = []; after = bs; split = refl; place = refl; is = rw t; change = λ f. rw t; gone = rw t }))
    go (no! t) (found h f) =
        rw (neq_false (λ e. eqb-false n b.number t (sym e)))
        (found (omega arith) (record {
          batch = f.batch;
          before = b ∷ f.before;
          after = f.after;
          split = ap (λ (x : List Batch). b ∷ x) f.split;
          place = ap suc f.place;
          is = rw t f.is;
          change = λ g. rw t (ap (λ (x : List Batch). b ∷ x) (f.change g));
          gone = rw t (ap (λ (x : List Batch). b ∷ x) f.gone);
        }))
    go (no! t) (absent h e) =
        rw (neq_false (λ z. eqb-false n b.number t (sym z))) (absent (ap suc h) (rw t e))

-- Among eight rows, of which those not in use are of no batch.
place_pad : (n k : ℕ) → (n ≡ 0 → ⊥) → place_of n (replicate k no_row) ≡ k
unfolding place_of
place_pad n zero z = refl
place_pad n (suc k) z = rw (neq_false (λ e. z (sym e))) (ap suc (place_pad n k z))

place_append : (n : ℕ) (us vs : List Row) → (place_of n us < length us → place_of n (us ++ vs) ≡ place_of n us) × (place_of n us ≡ length us → place_of n (us ++ vs) ≡ length us + place_of n vs)
unfolding place_of
place_append n [] vs = ((λ h. absurd (omega arith)), (λ h. omega arith))
place_append n (u ∷ us) vs = go (eqb u.batch n) (place_append n us vs)
  where
    go : (t : Bool) → (place_of n us < length us → place_of n (us ++ vs) ≡ place_of n us) × (place_of n us ≡ length us → place_of n (us ++ vs) ≡ length us + place_of n vs)
        → (pick t 0 (suc (place_of n us)) < suc (length us) → pick t 0 (suc (place_of n (us ++ vs))) ≡ pick t 0 (suc (place_of n us)))
        × (pick t 0 (suc (place_of n us)) ≡ suc (length us) → pick t 0 (suc (place_of n (us ++ vs))) ≡ suc (length us) + place_of n vs)
    go true i = ((λ h. refl), (λ h. absurd (omega arith)))
    go false i =
        ((λ h. ap suc (i.0 (omega arith))), (λ h. let e = i.1 (omega arith) in omega arith))

pub placed : (n : ℕ) (bs : List Batch) → length bs ≤ 8 → (n ≡ 0 → ⊥) → Placed n bs (place_of n (eight_rows (map row_of bs))) 8
unfolding eight_rows
placed n bs h z = go (place_found n bs)
  where
    size : length (map row_of bs) ≡ length bs
    size = length-map bs row_of

    pad : tab 8 (row_at (map row_of bs)) ≡ map row_of bs ++ replicate (8 - length (map row_of bs)) no_row
    pad = padded no_row (map row_of bs) (omega (arith, size, h))

    go : Placed n bs (place_of n (map row_of bs)) (length bs) → Placed n bs (place_of n (tab 8 (row_at (map row_of bs)))) 8
    go (found l f) =
        let e : place_of n (tab 8 (row_at (map row_of bs))) ≡ place_of n (map row_of bs) =
        ap (place_of n) pad ∙ (place_append n (map row_of bs) (replicate (8 - length (map row_of bs)) no_row)).0 (omega (arith, size, l)) in
        rw e (found (omega arith) f)
    go (absent l e) =
        absent (ap (place_of n) pad ∙ (place_append n (map row_of bs) (replicate (8 - length (map row_of bs)) no_row)).1 (l ∙ sym size)
        ∙ omega (arith, place_pad n (8 - length (map row_of bs)) z, size, h)) e

-- ---- what the rows and marks are there, and after a change

pub map_append : {A B : Type 0} (f : A → B) (xs ys : List A) → map f (xs ++ ys) ≡ map f xs ++ map f ys
map_append f [] ys = refl
map_append f (x ∷ xs) ys = ap (λ r. f x ∷ r) (map_append f xs ys)

module _ {A : Type 0} (d : A) (g : Batch → A) (n : ℕ) (bs : List Batch) (p : ℕ) (f : Found n bs p) (h : length bs ≤ 8) where
  shape : map g bs ≡ map g f.before ++ g f.batch ∷ map g f.after
  shape = ap (λ (x : List Batch). map g x) f.split ∙ map_append g f.before (f.batch ∷ f.after)

  place : length (map g f.before) ≡ p
  place = length-map f.before g ∙ f.place

  few : length (map g f.before ++ g f.batch ∷ map g f.after) ≤ 8
  few = omega (arith, ap (λ (x : List A). length x) shape, length-map bs g, h)

  pub eight_at : p < 8 → get_or (eight d (map g bs)) p d ≡ g f.batch
  eight_at l =
      getD_tab 8 p (λ i. get_or (map g bs) i d) d l
      ∙ ap (λ (x : List A). get_or x p d) shape
      ∙ ap (λ (k : ℕ). get_or (map g f.before ++ g f.batch ∷ map g f.after) k d) (sym place)
      ∙ get_or-append_seam (map g f.before) (g f.batch) (map g f.after) d

  pub eight_change : (c : Batch → Batch) → eight d (map g (change_batch n c bs)) ≡ set (eight d (map g bs)) p (g (c f.batch))
  eight_change c =
      ap (λ (x : List Batch). eight d (map g x)) (f.change c)
      ∙ ap (eight d) (map_append g f.before (c f.batch ∷ f.after))
      ∙ eight_set d (map g f.before) (map g f.after) (g f.batch) (g (c f.batch)) few
      ∙ ap₂ (λ (x : List A) (k : ℕ). set (eight d x) k (g (c f.batch))) (sym shape) place

  pub eight_gone : eight d (map g (drop_batch n bs)) ≡ tab 8 (closing d (eight d (map g bs)) p)
  eight_gone =
      ap (λ (x : List Batch). eight d (map g x)) f.gone
      ∙ ap (eight d) (map_append g f.before f.after)
      ∙ eight_closed d (map g f.before) (map g f.after) (g f.batch) few
      ∙ ap₂ (λ (x : List A) (k : ℕ). tab 8 (closing d (eight d x) k)) (sym shape) place

-- No batch is open.
pub shows_none : (rs : List Row) → rs ≡ replicate 8 no_row → Shows [] (batches_of rs (replicate 8 false))
unfolding eight_rows tab
shows_none rs e = record { rows = e; marks = refl }
