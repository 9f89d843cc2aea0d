-- Slots that are a matter of the first row alone: where one batch is open at a time, all but undoing is.
use Rattle.std.specs.Prelude.{ℕ, ◌≡◌, refl, Bool, false, List, [], ◌∷◌, map, get_or, set, Option, Some, IfSome}
use Rattle.std.proofs.Common.{sym, ap, ap₂, ◌∙◌, subst, arith}
use Rattle.def_layout.specs.declared.Row.{Row}
use Rattle.def_layout.specs.Desks.{no_row, row_at, eight_rows}
use Rattle.def_layout.specs.Numbers.{tab}
use Rattle.def_model.specs.Batches.{Batch, row_of, tell, chain_step}
use Rattle.law_bytes.specs.Pieces.{All, all_map}
use Rattle.law_bytes.specs.Eights.{eight, closing}
use Rattle.law_bytes.specs.DeskRows.{without, new_row}
use Rattle.log_chain.specs.declared.Batches.{Batches}
use Rattle.log_chain.specs.declared.Told.{Told}
use Rattle.log_chain.specs.Shown.{right_with, marks_of}
use Rattle.log_chain.specs.Steps.{Steps, Stepped, GoesOn}
use Rattle.log_chain.specs.Families.{longer_row, begun_row}
use Rattle.log_chain.specs.Ends.{commits}
use Rattle.log_judge.specs.Updates.{TellsUpdate, TellsBatch}
use Rattle.log_judge.specs.Turns.{Turns, by_step, update_goes, first_place, first_goes}

-- Batches p and o are alike in the first row and its mark. The other rows and marks may differ, and there may be any number of them.
pub record SameFirst (p o : Batches) : Type 0 where
  pub row : row_at p.rows 0 ≡ row_at o.rows 0
  pub mark : get_or p.marked 0 false ≡ get_or o.marked 0 false

-- They are alike in the second row's batch too, which tells whether the first batch is the only one.
pub record SameFront (p o : Batches) : Type 0 where
  pub first : SameFirst p o
  pub next : (row_at p.rows 1).batch ≡ (row_at o.rows 1).batch

pub same_front : (o : Batches) → SameFront o o
same_front o = record { first = record { row = refl; mark = refl }; next = refl }

-- Slot i as a matter of the first row: what is done is done to that row.
abbrev pub Alone : ℕ → ℕ → List ℕ → ℕ → Batches → Option Row → Type 0
Alone n m b i o r = IfSome r (λ y. Turns n m b i o (right_with (set o.rows 0 y) o.marked))

-- The record goes on the batch of the first row: it names that batch, which has no abort mark, and its last record.
pub record GoesOnFirst (o : Batches) (t : Told) : Type 0 where
  pub named : t.batch ≡ 0 → ⊥
  pub batch : (row_at o.rows 0).batch ≡ t.batch
  pub unmarked : get_or o.marked 0 false ≡ false
  pub last : (row_at o.rows 0).last ≡ t.previous

goes_first : (p o : Batches) (t : Told) → SameFirst p o → GoesOnFirst p t → GoesOn o t (Some 0)
goes_first p o t s g =
    first_goes o t g.named (ap (λ (r : Row). r.batch) (sym s.row) ∙ g.batch) (sym s.mark ∙ g.unmarked) (ap (λ (r : Row). r.last) (sym s.row) ∙ g.last)

set_first : (rs : List Row) (y : Row) → y ≡ row_at rs 0 → set rs 0 y ≡ rs
set_first [] y e = refl
set_first (r ∷ rs) y e = ap (λ (c : Row). c ∷ rs) e

-- ---- the only open batch commits

-- The rows and marks close up to what they are with the first one emptied.
closed_first : (rs : List Row) (ms : List Bool) (bs : List Batch) → All (λ (b : Batch). b.number ≡ 0 → ⊥) bs → rs ≡ eight_rows (map row_of bs) → ms ≡ eight false (marks_of bs)
    → get_or ms 0 false ≡ false → (row_at rs 1).batch ≡ 0 → (without rs 0 ≡ set rs 0 no_row) × (tab 8 (closing false ms 0) ≡ ms)
unfolding All eight_rows tab without row_of
closed_first rs ms [] h e f k v = (
  ap (λ (r : List Row). without r 0) e ∙ sym (ap (λ (r : List Row). set r 0 no_row) e),
  ap (λ (y : List Bool). tab 8 (closing false y 0)) f ∙ sym f,
)
closed_first rs ms (b ∷ []) h e f k v =
    let off : b.marked ≡ false = ap (λ (y : List Bool). get_or y 0 false) (sym f) ∙ k in (
      ap (λ (r : List Row). without r 0) e ∙ sym (ap (λ (r : List Row). set r 0 no_row) e),
      ap (λ (y : List Bool). tab 8 (closing false y 0)) f ∙ sym (f ∙ ap (λ (c : Bool). eight false (c ∷ [])) off),
    )
closed_first rs ms (b ∷ c ∷ bs) h e f k v = absurd (h.1.0 (ap (λ (r : List Row). (row_at r 1).batch) (sym e) ∙ v))

lone_commits : (o : Batches) (t : Told) → GoesOn o t (Some 0) → t.kind ≡ 6 → get_or o.marked 0 false ≡ false → (row_at o.rows 1).batch ≡ 0
    → Steps o t (right_with (set o.rows 0 no_row) o.marked)
lone_commits o t g k off v log bs x h s w n =
    let c = closed_first o.rows o.marked bs (all_map (λ b q e. omega (arith, q.from_one, e)) bs h.sits) s.rows s.marks off v in
    subst (λ (y : List Row). Stepped (chain_step t.own x bs) (tell x.kind t.own x bs) (right_with y o.marked)) c.0
    (subst (λ (y : List Bool). Stepped (chain_step t.own x bs) (tell x.kind t.own x bs) (right_with (without o.rows 0) y)) c.1
    (commits o t 0 g k log bs x h s w n))

-- ---- the slot

-- The program reads p, and o is alike.
module _ (n m : ℕ) (b : List ℕ) (i : ℕ) (t : Told) (p o : Batches) (y : Row) where
  -- An update of the first row's batch.
  pub alone_update : SameFirst p o → GoesOnFirst p t → TellsUpdate n m b i t → y ≡ longer_row (row_at p.rows 0) t.own
      → Turns n m b i o (right_with (set o.rows 0 y) o.marked)
  alone_update s g u v = update_goes n m b i o t u 0 (goes_first p o t s g) y (v ∙ ap (λ (r : Row). longer_row r t.own) s.row)

  -- The commit of the only batch.
  pub alone_commit : SameFront p o → GoesOnFirst p t → TellsBatch n m b i t → t.kind ≡ 6 → (row_at p.rows 1).batch ≡ 0 → y ≡ no_row
      → Turns n m b i o (right_with (set o.rows 0 y) o.marked)
  alone_commit s g u k none v =
      by_step n m b i o t u.holds u.told (right_with (set o.rows 0 y) o.marked)
      (λ log bs x rd. subst (λ (c : Row). Steps o t (right_with (set o.rows 0 c) o.marked)) (sym v)
      (lone_commits o t (goes_first p o t s.first g) k (sym s.first.mark ∙ g.unmarked) (sym s.next ∙ none)) log bs x)

  -- A begin where no batch is open.
  pub alone_begin : SameFirst p o → TellsBatch n m b i t → t.kind ≡ 1 → (row_at p.rows 0).batch ≡ 0 → y ≡ new_row t.own
      → Turns n m b i o (right_with (set o.rows 0 y) o.marked)
  alone_begin s u k e v =
      by_step n m b i o t u.holds u.told (right_with (set o.rows 0 y) o.marked)
      (λ log bs x rd. begun_row o t k 0 (first_place o.rows 0 (ap (λ (r : Row). r.batch) (sym s.row) ∙ e)) y v (omega arith) (λ q. absurd (omega arith)) log bs x)

-- The row of no batch, field by field.
pub zero_row : (r : Row) → (r.batch ≡ 0) × ((r.last ≡ 0) × ((r.undo ≡ 0) × (r.pending ≡ 0))) → r ≡ no_row
zero_row r e =
    ap₂ (λ (x y : ℕ). record { batch = x; last = y; undo = r.undo; pending = r.pending }) e.0 e.1.0
    ∙ ap₂ (λ (x y : ℕ). record { batch = 0; last = 0; undo = x; pending = y }) e.1.1.0 e.1.1.1

-- A change of the tree.
pub alone_change : (n m : ℕ) (b : List ℕ) (i : ℕ) (p o : Batches) → SameFirst p o → Turns n m b i o (Some o)
    → Turns n m b i o (right_with (set o.rows 0 (row_at p.rows 0)) o.marked)
alone_change n m b i p o s = subst (λ (c : List Row). Turns n m b i o (right_with c o.marked)) (sym (set_first o.rows (row_at p.rows 0) s.row))
