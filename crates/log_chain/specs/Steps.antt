-- What the program does to its rows and marks at a record, and that it is what the record does to the batches.
use Rattle.std.specs.Prelude.{ℕ, suc, ◌≤◌, ◌<◌, ◌≡◌, Bool, true, ◌&&◌, length, get_or, eqb, Option, Some, None, MatchOption}
use Rattle.std.proofs.Math.Path.{refl, sym, ap, ap₂}
use Rattle.std.proofs.Common.{◌∙◌, subst, arith}
use Rattle.std.proofs.Math.Option.{none, some}
use Rattle.std.proofs.Math.Bool.{false, not}
use mathlib.Core.List.{List, [], ◌∷◌, map}
use Rattle.std.proofs.Math.ListN.{set}
use Rattle.std.proofs.lemmas.List.{set-get_or}
use Rattle.def_base.specs.Tests.{eq_true, neq_false}
use Rattle.def_layout.specs.declared.Row.{Row}
use Rattle.def_layout.specs.Numbers.{tab}
use Rattle.def_layout.specs.Desks.{no_row, row_at, eight_rows}
use Rattle.def_layout.specs.Records.{Rec, kind_of}
use Rattle.def_model.specs.Batches.{Batch, find_batch, change_batch, drop_batch, row_of, tell, unmarked, follows, chain_step}
use Rattle.law_bytes.specs.Pieces.{All}
use Rattle.law_bytes.specs.Eights.{closing}
use Rattle.law_bytes.specs.DeskRows.{place_of, without}
use Rattle.log_chain.specs.declared.Batches.{Batches}
use Rattle.log_chain.specs.declared.Told.{Told}
use Rattle.log_pending.specs.Holding.{Sits, Holds}
use Rattle.log_chain.specs.Shown.{batches_of, Shows, Found, Placed, found, absent, placed, eight_at, eight_change, eight_gone}

-- The numbers are a record's.
pub record Tells (t : Told) (x : Rec) : Type 0 where
  pub kind : kind_of t.kind ≡ x.kind
  pub batch : t.batch ≡ x.batch
  pub previous : t.previous ≡ x.previous
  pub key : t.key ≡ x.key
  pub second : t.second ≡ x.second

-- Refused just where c is false; else the batches are shown.
abbrev pub Stepped : Bool → List Batch → Option Batches → Type 0
Stepped c bs r = MatchOption r (c ≡ false) (λ o. (c ≡ true) × Shows bs o)

-- Whatever log and batches it is that the rows and marks show.
abbrev pub Steps : Batches → Told → Option Batches → Type 0
Steps o t r = (log : List Rec) (bs : List Batch) (x : Rec) → Holds log bs → Shows bs o → Tells t x → t.own ≡ suc (length log)
    → Stepped (chain_step t.own x bs) (tell x.kind t.own x bs) r

-- The place of batch n's row: none just where no such batch is open.
abbrev pub PlacedAt : ℕ → List Batch → Option ℕ → Type 0
PlacedAt n bs p = MatchOption p (find_batch n bs ≡ none) (λ i. (i < 8) × Found n bs i)

abbrev pub Places : List Row → ℕ → Option ℕ → Type 0
Places rs n p = (log : List Rec) (bs : List Batch) → Holds log bs → rs ≡ eight_rows (map row_of bs) → PlacedAt n bs p

-- The place of a batch that goes on at a record: it has no abort mark, and the record names its last.
abbrev pub goes : Rec → List Batch → Bool
goes x bs = unmarked (find_batch x.batch bs) && follows x (find_batch x.batch bs)

abbrev pub Onward : Rec → List Batch → Option ℕ → Type 0
Onward x bs p = MatchOption p (goes x bs ≡ false) (λ i. (i < 8) × Found x.batch bs i × (goes x bs ≡ true))

abbrev pub GoesOn : Batches → Told → Option ℕ → Type 0
GoesOn o t p = (log : List Rec) (bs : List Batch) (x : Rec) → Holds log bs → Shows bs o → Tells t x → Onward x bs p

-- ---- a batch's place

find_zero : (log : List Rec) (bs : List Batch) → All (Sits log) bs → find_batch 0 bs ≡ none
unfolding find_batch All
find_zero log [] h = refl
find_zero log (b ∷ bs) h = rw (neq_false {a = 0} {b = b.number} (λ e. omega (arith, e, h.0.from_one))) (find_zero log bs h.1)

pub place_zero : (rs : List Row) (n : ℕ) → n ≡ 0 → Places rs n None
place_zero rs n z log bs h s = ap (λ (k : ℕ). find_batch k bs) z ∙ find_zero log bs h.sits

pub place_row : (rs : List Row) (n : ℕ) (p : Option ℕ) → (n ≡ 0 → ⊥) → MatchOption p (place_of n rs ≡ 8) (λ i. (i ≡ place_of n rs) × (i < 8)) → Places rs n p
place_row rs n p z e log bs h s = go p e (subst (λ (k : ℕ). Placed n bs k 8) (sym (ap (place_of n) s)) (placed n bs h.few z))
  where
    go : (p : Option ℕ) → MatchOption p (place_of n rs ≡ 8) (λ i. (i ≡ place_of n rs) × (i < 8)) → Placed n bs (place_of n rs) 8 → PlacedAt n bs p
    go None e (found l f) = absurd (omega arith)
    go None e (absent _ y) = y
    go (Some i) e (found l f) = (e.1, subst (Found n bs) (sym e.0) f)
    go (Some i) e (absent y _) = absurd (omega (arith, e))

-- What the program has at the place.
module _ (o : Batches) (n p : ℕ) (bs : List Batch) (s : Shows bs o) (f : Found n bs p) (l : p < 8) (w : length bs ≤ 8) where
  pub row_there : row_at o.rows p ≡ row_of f.batch
  unfolding eight_rows
  row_there = ap (λ (x : List Row). row_at x p) s.rows ∙ eight_at no_row row_of n bs p f w l

  mark_there : get_or o.marked p false ≡ f.batch.marked
  mark_there = ap (λ (x : List Bool). get_or x p false) s.marks ∙ eight_at false (λ b. b.marked) n bs p f w l

  -- A batch changed, with its mark or with the mark as it was; a batch gone.
  pub shows_change : (c : Batch → Batch) (y : Row) → y ≡ row_of (c f.batch) → Shows (change_batch n c bs) (batches_of (set o.rows p y) (set o.marked p (c f.batch).marked))
  unfolding eight_rows
  shows_change c y e =
      record {
        rows = ap₂ (λ (x : List Row) (z : Row). set x p z) s.rows e ∙ sym (eight_change no_row row_of n bs p f w c);
        marks = ap (λ (x : List Bool). set x p (c f.batch).marked) s.marks ∙ sym (eight_change false (λ b. b.marked) n bs p f w c);
      }

  pub shows_row : (c : Batch → Batch) (y : Row) → y ≡ row_of (c f.batch) → (c f.batch).marked ≡ f.batch.marked → Shows (change_batch n c bs) (batches_of (set o.rows p y) o.marked)
  shows_row c y e m =
      subst (λ (ns : List Bool). Shows (change_batch n c bs) (batches_of (set o.rows p y) ns)) (ap (set o.marked p) (m ∙ sym mark_there) ∙ set-get_or o.marked p false) (shows_change c y e)

  pub shows_gone : Shows (drop_batch n bs) (batches_of (without o.rows p) (tab 8 (closing false o.marked p)))
  unfolding eight_rows without
  shows_gone =
      record {
        rows = ap (λ (x : List Row). without x p) s.rows ∙ sym (eight_gone no_row row_of n bs p f w);
        marks = ap (λ (x : List Bool). tab 8 (closing false x p)) s.marks ∙ sym (eight_gone false (λ b. b.marked) n bs p f w);
      }

-- ---- whether a batch goes on, test by test

pub and_no : (a : Bool) → a && false ≡ false
and_no true = refl
and_no false = refl

-- The batch that the record names, by what is told of it.
module _ {t : Told} {x : Rec} (u : Tells t x) (bs : List Batch) where
  pub found_as : {p : ℕ} → Found t.batch bs p → Found x.batch bs p
  found_as {p} f = subst (λ (n : ℕ). Found n bs p) u.batch f

  pub none_as : find_batch t.batch bs ≡ none → find_batch x.batch bs ≡ none
  none_as e = subst (λ (n : ℕ). find_batch n bs ≡ none) u.batch e

module _ (o : Batches) (t : Told) where
  goes_some : (x : Rec) (bs : List Batch) (b : Batch) → find_batch x.batch bs ≡ some b → goes x bs ≡ not b.marked && eqb x.previous b.last
  unfolding unmarked follows
  goes_some x bs b e = rw e

  goes_none : (x : Rec) (bs : List Batch) → find_batch x.batch bs ≡ none → goes x bs ≡ false
  unfolding unmarked follows
  goes_none x bs e = rw e

  pub going_nowhere : Places o.rows t.batch None → GoesOn o t None
  going_nowhere g log bs x h s u = goes_none x bs (none_as u bs (g log bs h s.rows))

  module _ (p : ℕ) (g : Places o.rows t.batch (Some p)) where
    pub going_marked : get_or o.marked p false ≡ true → GoesOn o t None
    going_marked e log bs x h s u =
        let f = g log bs h s.rows in
        let a = found_as u bs f.1 in
        let m : a.batch.marked ≡ true = sym (mark_there o x.batch p bs s a f.0 h.few) ∙ e in
        goes_some x bs a.batch a.is ∙ rw m

    pub going_elsewhere : ((row_at o.rows p).last ≡ t.previous → ⊥) → GoesOn o t None
    unfolding row_of
    going_elsewhere e log bs x h s u =
        let f = g log bs h s.rows in
        let a = found_as u bs f.1 in
        let m : (row_at o.rows p).last ≡ a.batch.last = ap (λ (r : Row). r.last) (row_there o x.batch p bs s a f.0 h.few) in
        goes_some x bs a.batch a.is
        ∙ ap (λ (b : Bool). not a.batch.marked && b) (neq_false (λ (z : x.previous ≡ a.batch.last). e (m ∙ sym z ∙ sym u.previous))) ∙ and_no (not a.batch.marked)

    pub going_on : get_or o.marked p false ≡ false → (row_at o.rows p).last ≡ t.previous → GoesOn o t (Some p)
    unfolding row_of
    going_on e i log bs x h s u =
        let f = g log bs h s.rows in
        let a = found_as u bs f.1 in
        let m : a.batch.marked ≡ false = sym (mark_there o x.batch p bs s a f.0 h.few) ∙ e in
        let k : x.previous ≡ a.batch.last = sym u.previous ∙ sym i ∙ ap (λ (r : Row). r.last) (row_there o x.batch p bs s a f.0 h.few) in
        (f.0, a, goes_some x bs a.batch a.is ∙ rw (m, eq_true x.previous a.batch.last k))
