-- The desk's rows lead to the open batches' lines: what is asked of every batch is asked row by row.
use Prim.Native.Nat.{ℕ, zero, suc, ◌+◌, ◌≤◌, ◌<◌}
use Rattle.std.specs.Prelude.{◌≡◌, refl, Bool, true, false, not, ◌&&◌, ◌||◌, get_or, drop, eqb}
use Rattle.std.proofs.Math.Path.{sym, ap}
use Rattle.std.proofs.Common.{◌∙◌, arith, add-one, drop_of_length-le, drop-cons}
use mathlib.Core.List.{List, [], ◌∷◌, map}
use Rattle.std.proofs.Math.Decide.{dec_lt}
use Rattle.std.proofs.Math.ListN.{length, take, get_or-eq_default}
use Rattle.std.proofs.Math.Seq.{take-length}
use Rattle.std.proofs.Math.Dec.{leb, ltb}
use Rattle.def_base.specs.Tests.{any, every, eq_true, neq_false, lt_false}
use Rattle.def_layout.specs.declared.Row.{Row}
use Rattle.def_layout.specs.Desks.{no_row, row_at, eight_rows}
use Rattle.def_layout.specs.Records.{Rec}
use Rattle.def_model.specs.Batches.{Line, Batch, next_undo, row_of}
use Rattle.law_bytes.specs.Pieces.{All}
use Rattle.law_bytes.specs.Tables.{getD_tab}
use Rattle.log_pending.specs.Below.{Linked}
use Rattle.log_pending.specs.Holding.{Sits, Holds}
use Rattle.log_pending.specs.Reading.{Reads}
use Rattle.def_model.specs.Pending.{holds, held, held_between, held_from}
use Rattle.sound_pending.specs.Keys.{KeysSay, from_to, exactly, above, below}

-- What a call knows of the log in its area, and of the rows on its desk.
pub record Known (m : ℕ) (b : List ℕ) (rs : List Row) (l : List Rec) (bs : List Batch) : Type 0 where
  pub reads : Reads m b l
  pub holds : Holds l bs
  pub rows : rs ≡ eight_rows (map row_of bs)

-- Row i's batch; a row that is not in use stands for one that has nothing.
abbrev pub no_batch : Batch
no_batch = record { number = 0; last = 0; marked = false; lines = [] }

abbrev pub batch_at : List Batch → ℕ → Batch
batch_at bs i = get_or bs i no_batch

row_of_at : (bs : List Batch) (i : ℕ) → row_at (map row_of bs) i ≡ row_of (batch_at bs i)
unfolding row_of next_undo
row_of_at [] i = refl
row_of_at (b ∷ bs) zero = refl
row_of_at (b ∷ bs) (suc i) = row_of_at bs i

linked_at : (l : List Rec) (bs : List Batch) (i : ℕ) → All (Sits l) bs → Linked l (batch_at bs i).lines
unfolding All Linked
linked_at l [] i h = tt
linked_at l (b ∷ bs) zero h = h.0.lines
linked_at l (b ∷ bs) (suc i) h = linked_at l bs i h.1

module _ (m : ℕ) (b : List ℕ) (rows : List Row) (l : List Rec) (bs : List Batch) (k : Known m b rows l bs) where
  pub row_known : (i : ℕ) → i < 8 → row_at rows i ≡ row_of (batch_at bs i)
  unfolding eight_rows
  row_known i h = ap (λ (x : List Row). row_at x i) k.rows ∙ getD_tab 8 i (row_at (map row_of bs)) no_row h ∙ row_of_at bs i

  pub batch_linked : (i : ℕ) → Linked l (batch_at bs i).lines
  batch_linked i = linked_at l bs i k.holds.sits

-- The batches from row i on, one by one.
any_at : (f : Batch → Bool) → f no_batch ≡ false → (bs : List Batch) (i : ℕ) → any f (drop i bs) ≡ f (batch_at bs i) || any f (drop (i + 1) bs)
unfolding any
any_at f z bs i =
    elim (dec_lt i (length bs)) [
      | yes h ↦ ap (any f) (drop-cons bs i no_batch h) ∙ ap (λ (k : ℕ). f (batch_at bs i) || any f (drop k bs)) (sym (add-one i))
      | no h ↦
          let e : drop (i + 1) bs ≡ [] = drop_of_length-le bs {i = i + 1} (omega arith) in
          let n : batch_at bs i ≡ no_batch = get_or-eq_default bs no_batch {n = i} (omega arith) in
          ap (any f) (drop_of_length-le bs {i = i} (omega arith)) ∙ sym (rw (e, n, z))
    ]

pub every_at : (f : Batch → Bool) → f no_batch ≡ true → (bs : List Batch) (i : ℕ) → every f (drop i bs) ≡ f (batch_at bs i) && every f (drop (i + 1) bs)
unfolding every
every_at f z bs i =
    elim (dec_lt i (length bs)) [
      | yes h ↦ ap (every f) (drop-cons bs i no_batch h) ∙ ap (λ (k : ℕ). f (batch_at bs i) && every f (drop k bs)) (sym (add-one i))
      | no h ↦
          let e : drop (i + 1) bs ≡ [] = drop_of_length-le bs {i = i + 1} (omega arith) in
          let n : batch_at bs i ≡ no_batch = get_or-eq_default bs no_batch {n = i} (omega arith) in
          ap (every f) (drop_of_length-le bs {i = i} (omega arith)) ∙ sym (rw (e, n, z))
    ]

-- ---- keys that other batches hold

abbrev pub others_key : (ℕ → Bool) → ℕ → Batch → Bool
others_key g n c = not (eqb n c.number) && any (λ x. g x.key) c.lines

others_none : (g : ℕ → Bool) (n : ℕ) → others_key g n no_batch ≡ false
unfolding any
others_none g n = and_no (not (eqb n 0))
  where
    and_no : (a : Bool) → a && false ≡ false
    and_no true = refl
    and_no false = refl

-- What one row says, and what all of them say.
abbrev pub RowKeys : (ℕ → Bool) → ℕ → List ℕ → Row → ℕ → Bool → Type 0
RowKeys g m b row n r = (l : List Rec) (c : Batch) → Reads m b l → Linked l c.lines → row ≡ row_of c → r ≡ others_key g n c

abbrev pub DeskKeys : (ℕ → Bool) → ℕ → List ℕ → List Row → ℕ → Bool → Type 0
DeskKeys g m b rows n r = (l : List Rec) (bs : List Batch) → Known m b rows l bs → r ≡ any (others_key g n) bs

abbrev pub DeskLeft : (ℕ → Bool) → ℕ → List ℕ → List Row → ℕ → ℕ → Type 0
DeskLeft g m b rows n i = (l : List Rec) (bs : List Batch) → Known m b rows l bs → any (others_key g n) bs ≡ any (others_key g n) (drop i bs)

module _ (g : ℕ → Bool) (m : ℕ) (b : List ℕ) (row : Row) (n : ℕ) where
  pub row_own : n ≡ row.batch → RowKeys g m b row n false
  unfolding row_of
  row_own e l c rd h s = sym (rw (eq_true n c.number (e ∙ ap (λ (x : Row). x.batch) s)))

  pub row_others : (n ≡ row.batch → ⊥) → (r : Bool) → KeysSay g m b row.undo row.pending r → RowKeys g m b row n r
  unfolding row_of
  row_others e r q l c rd h s =
      let p : row.pending ≡ length c.lines = ap (λ (x : Row). x.pending) s in
      q tt l c.lines tt rd h (ap (λ (x : Row). x.undo) s) (omega (arith, p))
      ∙ ap (λ (ls : List Line). any (λ x. g x.key) ls) (ap (λ (k : ℕ). take k c.lines) p ∙ take-length c.lines)
      ∙ sym (rw (neq_false (λ (z : n ≡ c.number). e (z ∙ sym (ap (λ (x : Row). x.batch) s)))))

module _ (g : ℕ → Bool) (m : ℕ) (b : List ℕ) (rows : List Row) (n : ℕ) where
  pub desk_start : DeskLeft g m b rows n 0
  desk_start l bs k = refl

  module _ (i : ℕ) (w : DeskLeft g m b rows n i) where
    pub desk_end : 8 ≤ i → DeskKeys g m b rows n false
    unfolding any
    desk_end h l bs k = sym (w l bs k ∙ ap (any (others_key g n)) (drop_of_length-le bs {i = i} (omega (arith, h, k.holds.few))))

    module _ (h : i < 8) where
      row_says : (r : Bool) (l : List Rec) (bs : List Batch) → Known m b rows l bs → RowKeys g m b (row_at rows i) n r → r ≡ others_key g n (batch_at bs i)
      row_says r l bs k q = q l (batch_at bs i) k.reads (batch_linked m b rows l bs k i) (row_known m b rows l bs k i h)

      pub desk_hit : (r : Bool) → r ≡ true → RowKeys g m b (row_at rows i) n r → DeskKeys g m b rows n true
      desk_hit r e q l bs k =
          sym (w l bs k ∙ any_at (others_key g n) (others_none g n) bs i ∙ ap (λ (x : Bool). x || any (others_key g n) (drop (i + 1) bs)) (sym (row_says r l bs k q) ∙ e))

      pub desk_on : (r : Bool) → r ≡ false → RowKeys g m b (row_at rows i) n r → DeskLeft g m b rows n (i + 1)
      desk_on r e q l bs k =
          w l bs k ∙ any_at (others_key g n) (others_none g n) bs i ∙ ap (λ (x : Bool). x || any (others_key g n) (drop (i + 1) bs)) (sym (row_says r l bs k q) ∙ e)

-- HELD, as the definition has it.
abbrev pub HeldIs : ℕ → List ℕ → List Row → ℕ → ℕ → Bool → Type 0
HeldIs m b rows n k r = (l : List Rec) (bs : List Batch) → Known m b rows l bs → r ≡ held n k bs

abbrev pub HeldBetweenIs : ℕ → List ℕ → List Row → ℕ → ℕ → ℕ → Bool → Type 0
HeldBetweenIs m b rows n low high r = (l : List Rec) (bs : List Batch) → Known m b rows l bs → r ≡ held_between n low high bs

abbrev pub HeldFromIs : ℕ → List ℕ → List Row → ℕ → ℕ → ℕ → Bool → Type 0
HeldFromIs m b rows n low high r = (l : List Rec) (bs : List Batch) → Known m b rows l bs → r ≡ held_from n low high bs

never : (b : Bool) → b && false ≡ false
never true = refl
never false = refl

-- None is below 0.
pub held_from_none : (m : ℕ) (b : List ℕ) (rows : List Row) (n low high : ℕ) → high ≡ 0 → HeldFromIs m b rows n low high false
unfolding held_from any
held_from_none m b rows n low high z l bs q = sym (ap (λ (h : ℕ). held_from n low h bs) z ∙ others bs)
  where
    lines : (ls : List Line) → any (λ x. leb low x.key && ltb x.key 0) ls ≡ false
    lines [] = refl
    lines (x ∷ ls) = rw (lt_false x.key 0 (omega arith), never (leb low x.key)) (lines ls)

    others : (bs : List Batch) → held_from n low 0 bs ≡ false
    others [] = refl
    others (x ∷ bs) = rw (lines x.lines, never (not (eqb n x.number))) (others bs)

module _ (m : ℕ) (b : List ℕ) (rows : List Row) (n : ℕ) (r : Bool) where
  pub held_is : (k : ℕ) → DeskKeys (from_to k k) m b rows n r → HeldIs m b rows n k r
  unfolding held holds
  held_is k w l bs q = w l bs q ∙ ap (λ (g : ℕ → Bool). any (others_key g n) bs) (exactly k)

  pub held_between_is : (low high : ℕ) → DeskKeys (from_to (low + 1) high) m b rows n r → HeldBetweenIs m b rows n low high r
  unfolding held_between
  held_between_is low high w l bs q = w l bs q ∙ ap (λ (g : ℕ → Bool). any (others_key g n) bs) (above low high)

  pub held_from_is : (low high last : ℕ) → high ≡ last + 1 → DeskKeys (from_to low last) m b rows n r → HeldFromIs m b rows n low high r
  unfolding held_from
  held_from_is low high last e w l bs q = w l bs q ∙ ap (λ (g : ℕ → Bool). any (others_key g n) bs) (below low last ∙ (λ i key. leb low key && ltb key (sym e i)))
