-- Rows that lead to what batches have to undo: the row with the largest number due is that of the batch that is undone next.
use Rattle.std.specs.Prelude.{ℕ, zero, suc, ◌<◌, ◌≤◌, ◌≡◌, refl, List, [], ◌∷◌, ◌++◌, map, length, set, replicate, ltb}
use Rattle.std.proofs.Common.{sym, ap, ◌∙◌, subst, arith}
use Rattle.std.specs.List.{IsFirstMaxByKey}
use Rattle.std.proofs.Math.Option.{Option, none, some}
use Rattle.std.proofs.Math.Decide.{dec_lt}
use Rattle.std.proofs.Math.ListN.{get_or-eq_default}
use Rattle.def_base.specs.Tests.{Case, yes!, no!, case, none_some, some_inj, lt_true, lt_false}
use Rattle.def_layout.specs.declared.Row.{Row}
use Rattle.def_layout.specs.Desks.{no_row, row_at}
use Rattle.def_layout.specs.Records.{Rec}
use Rattle.def_model.specs.Batches.{Line, Batch, next_undo, row_of}
use Rattle.def_model.specs.Undo.{newer, newest_due}
use Rattle.law_bytes.specs.Pieces.{All}
use Rattle.log_pending.specs.Below.{Linked}
use Rattle.call_undo.specs.Rounds.{Leading}
use Rattle.call_undo.specs.Ending as ending
use Rattle.call_undo.specs.Ending.{Thinned, stays, goes}

-- In order; a row that is not in use, or whose batch has ended, has nothing due.
pub data Due (l : List Rec) : List Row → List Batch → Type 0 where
  nobody : Due l [] []
  spare : {r : Row} {rs : List Row} {bs : List Batch} → r.undo ≡ 0 → r.pending ≡ 0 → Due l rs bs → Due l (r ∷ rs) bs
  leads : {r : Row} {rs : List Row} {b : Batch} {bs : List Batch} → r ≡ row_of b → Linked l b.lines → Due l rs bs → Due l (r ∷ rs) (b ∷ bs)

no_rows : (l : List Rec) (k : ℕ) → Due l (replicate k no_row) []
no_rows l zero = nobody
no_rows l (suc k) = spare refl refl (no_rows l k)

-- The rows of batches lead to them, if those that have nothing pending have gone or not.
pub due_thinned : (l : List Rec) (k : ℕ) {cs bs : List Batch} → Leading l cs → Thinned cs bs → Due l (map row_of cs ++ replicate k no_row) bs
unfolding All row_of next_undo
due_thinned l k h ending.none = no_rows l k
due_thinned l k h (stays d) = leads refl h.0 (due_thinned l k h.1 d)
due_thinned l k h (goes {b} e d) = spare (ap next_undo e) (ap (λ (v : List Line). length v) e) (due_thinned l k h.1 d)

-- ---- the largest number due

-- Row p has it, and those before it have less.
pub record Top (rs : List Row) (p : ℕ) : Type 0 where
  pub most : (j : ℕ) → (row_at rs j).undo ≤ (row_at rs p).undo
  pub first : (j : ℕ) → j < p → (row_at rs j).undo < (row_at rs p).undo

-- The first of eight rows that has the largest number due: past the last row there is nothing due.
pub top_first : (rs : List Row) (p : ℕ) → length rs ≤ 8 → IsFirstMaxByKey (λ (r : Row). r.undo) rs 8 p → Top rs p
top_first rs p l h = record { most = λ j. go j (dec_lt j 8); first = λ j k. h.2 j no_row k }
  where
    go : (j : ℕ) → Dec (j < 8) → (row_at rs j).undo ≤ (row_at rs p).undo
    go j (yes k) = h.1 j no_row k
    go j (no k) = let e : row_at rs j ≡ no_row = get_or-eq_default rs no_row {n = j} (omega arith) in rw e (omega arith)

top_rest : (r : Row) (rs : List Row) (p : ℕ) → Top (r ∷ rs) (suc p) → Top rs p
top_rest r rs p h = record { most = λ j. h.most (suc j); first = λ j k. h.first (suc j) (omega arith) }

abbrev number : Batch → ℕ
number b = next_undo b.lines

newer_first : (b : Batch) (o : Option Batch) → ((c : Batch) → o ≡ some c → number c ≤ number b) → newer b o ≡ some b
unfolding newer
newer_first b none f = refl
newer_first b (some c) f = rw (lt_false (number b) (number c) (f c refl))

newer_low : (m : ℕ) (b : Batch) (o : Option Batch) → number b ≤ m → ((c : Batch) → o ≡ some c → number c ≤ m) → (c : Batch) → newer b o ≡ some c → number c ≤ m
unfolding newer
newer_low m b none h f c e = subst (λ (x : Batch). number x ≤ m) (some_inj e) h
newer_low m b (some d) h f c e = go (case (ltb (number b) (number d)))
  where
    go : Case (ltb (number b) (number d)) → number c ≤ m
    go (yes! t) = subst (λ (x : Batch). number x ≤ m) (some_inj (rw t at e)) (f d refl)
    go (no! t) = subst (λ (x : Batch). number x ≤ m) (some_inj (rw t at e)) h

-- No batch has more due than the rows have.
newest_low : (l : List Rec) (m : ℕ) {rs : List Row} {cs : List Batch} → Due l rs cs → ((j : ℕ) → (row_at rs j).undo ≤ m) → (c : Batch) → newest_due cs ≡ some c → number c ≤ m
unfolding newest_due row_of
newest_low l m nobody h c e = none_some e
newest_low l m (spare u q d) h c e = newest_low l m d (λ j. h (suc j)) c e
newest_low l m (leads {r} {rs} {b} {bs} w k d) h c e =
    newer_low m b (newest_due bs) (subst (λ (x : Row). x.undo ≤ m) w (h 0)) (newest_low l m d (λ j. h (suc j))) c e

-- The batch that row p leads to is the newest due; changed together, row and batch still match.
pub record DueAt (l : List Rec) (rs : List Row) (cs : List Batch) (p : ℕ) : Type 0 where
  pub batch : Batch
  pub before : List Batch
  pub later : List Batch
  pub whole : cs ≡ before ++ batch ∷ later
  pub is : newest_due cs ≡ some batch
  pub row : row_at rs p ≡ row_of batch
  pub linked : Linked l batch.lines
  pub change : (b : Batch) → Linked l b.lines → Due l (set rs p (row_of b)) (before ++ b ∷ later)

pub due_top : (l : List Rec) {rs : List Row} {cs : List Batch} → Due l rs cs → (p : ℕ) → Top rs p → ((row_at rs p).pending ≡ 0 → ⊥) → DueAt l rs cs p
unfolding newest_due newer row_of
due_top l nobody p h z = absurd (z refl)
due_top l (spare u q d) zero h z = absurd (z q)
due_top l (spare {r} {rs} u q d) (suc p) h z =
    let x = due_top l d p (top_rest r rs p h) z in
    record {
      batch = x.batch;
      before = x.before;
      later = x.later;
      whole = x.whole;
      is = x.is;
      row = x.row;
      linked = x.linked;
      change = λ b k. spare u q (x.change b k);
    }
due_top l (leads {r} {rs} {b} {bs} w k d) zero h z =
    record {
      batch = b;
      before = [];
      later = bs;
      whole = refl;
      is = newer_first b (newest_due bs) (newest_low l (number b) d (λ j. subst (λ (x : Row). (row_at rs j).undo ≤ x.undo) w (h.most (suc j))));
      row = w;
      linked = k;
      change = λ c q. leads refl q d;
    }
due_top l (leads {r} {rs} {b} {bs} w k d) (suc p) h z =
    let x = due_top l d p (top_rest r rs p h) z in
    let less : number b < number x.batch = omega (arith, h.first 0 (omega arith), ap (λ (y : Row). y.undo) w, ap (λ (y : Row). y.undo) x.row) in
    record {
      batch = x.batch;
      before = b ∷ x.before;
      later = x.later;
      whole = ap (λ (v : List Batch). b ∷ v) x.whole;
      is = ap (newer b) x.is ∙ rw (lt_true (number b) (number x.batch) less);
      row = x.row;
      linked = x.linked;
      change = λ c q. leads w k (x.change c q);
    }

-- ---- nothing due

no_lines : (l : List Rec) (ls : List Line) → Linked l ls → next_undo ls ≤ 0 → ls ≡ []
unfolding Linked next_undo
no_lines l [] h z = refl
no_lines l (x ∷ xs) h z = absurd (omega (arith, h.0.from_one, z))

nothing_due : (ls : List Line) → length ls ≡ 0 → next_undo ls ≡ 0
unfolding next_undo
nothing_due [] z = refl
nothing_due (x ∷ xs) z = absurd (omega arith)

row_idle : (l : List Rec) {rs : List Row} {cs : List Batch} → Due l rs cs → (p : ℕ) → (row_at rs p).pending ≡ 0 → (row_at rs p).undo ≡ 0
unfolding row_of
row_idle l nobody p z = refl
row_idle l (spare u q d) zero z = u
row_idle l (spare u q d) (suc p) z = row_idle l d p z
row_idle l (leads {b = b} w k d) zero z = ap (λ (y : Row). y.undo) w ∙ nothing_due b.lines (sym (ap (λ (y : Row). y.pending) w) ∙ z)
row_idle l (leads w k d) (suc p) z = row_idle l d p z

rows_idle : (l : List Rec) {rs : List Row} {cs : List Batch} → Due l rs cs → ((j : ℕ) → (row_at rs j).undo ≤ 0) → All (λ b. b.lines ≡ []) cs
unfolding All row_of
rows_idle l nobody h = tt
rows_idle l (spare u q d) h = rows_idle l d (λ j. h (suc j))
rows_idle l (leads {b = b} w k d) h = (no_lines l b.lines k (omega (arith, h 0, ap (λ (y : Row). y.undo) w)), rows_idle l d (λ j. h (suc j)))

-- If the top row has nothing pending, no batch has.
pub all_idle : (l : List Rec) (rs : List Row) (cs : List Batch) → Due l rs cs → (p : ℕ) → Top rs p → (row_at rs p).pending ≡ 0 → All (λ b. b.lines ≡ []) cs
all_idle l rs cs d p h z = rows_idle l d (λ j. omega (arith, h.most j, row_idle l d p z))
