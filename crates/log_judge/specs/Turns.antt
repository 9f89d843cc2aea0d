-- One slot of the log, judged: its number, its row, its pages, and its record's step.
use Prim.Native.Nat.{ℕ, suc, ◌*◌}
use Rattle.std.specs.Prelude.{◌≡◌, Bool, true, false, ◌&&◌, List, [], ◌∷◌, length, get_or, set, eqb, Option, Some, None, IsNone}
use Rattle.std.proofs.Math.Path.{refl, ap, subst}
use Rattle.std.proofs.Common.{sym, ◌∙◌, arith}
use Rattle.def_base.specs.Tests.{Case, yes!, no!, case, and_true, true_eq, eq_true}
use Rattle.def_layout.specs.declared.Entry.{Entry}
use Rattle.def_layout.specs.declared.Row.{Row}
use Rattle.def_layout.specs.Desks.{row_at}
use Rattle.def_layout.specs.Numbers.{be32}
use Rattle.def_layout.specs.Records.{Rec, kind_of, kind_number}
use Rattle.def_layout.specs.RecordBytes.{Slot, empty, full, other, record_fields, read_slot}
use Rattle.def_layout.specs.Sizes.{slot_size}
use Rattle.def_layout.specs.Rows.{row, names_pages}
use Rattle.def_model.specs.Batches.{Batch, tell, chain_step}
use Rattle.law_bytes.specs.Words.{part}
use Rattle.law_bytes.specs.DeskRows.{place_of}
use Rattle.codec_slot.specs.declared.Header.{Header}
use Rattle.codec_slot.specs.declared.Header.TheVariants.{Full}
use Rattle.codec_slot.specs.Typed.{rec_of, typed_by}
use Rattle.law_bytes.specs.RecordBytes.{kind_back}
use Rattle.record_check.specs.Kept.{row_kept, pages_kept, row_kept_full, pages_kept_full}
use Rattle.log_chain.specs.declared.Batches.{Batches}
use Rattle.log_chain.specs.declared.Told.{Told}
use Rattle.log_pending.specs.Holding.{Holds}
use Rattle.log_pending.specs.Reading.{Reads}
use Rattle.log_chain.specs.Shown.{right_with, Shows}
use Rattle.log_chain.specs.Steps.{Tells, Stepped, Steps, GoesOn, place_row, going_on}
use Rattle.log_chain.specs.Families.{longer_row, updates_ask, halts, updates}
use Rattle.log_chain.specs.Undos.{StepsIn}
use Rattle.log_judge.specs.Updates.{told_by, Plain, TellsUpdate}

-- What a slot that should hold record k of a register of n pages makes of the batches.
unfoldable pub Turned : ℕ → ℕ → Slot → List Batch → Option Batches → Type 0
Turned n k empty bs r = IsNone r
Turned n k (full own x) bs r = Stepped (eqb own k && (row k x && (names_pages n x && chain_step k x bs))) (tell x.kind k x bs) r
Turned n k (other b) bs r = IsNone r

-- Slot i, whatever log it is that the slots before it hold and that the rows and marks show.
abbrev pub Turns : ℕ → ℕ → List ℕ → ℕ → Batches → Option Batches → Type 0
Turns n m b i o r = (log : List Rec) (bs : List Batch) → Reads m b log → length log ≡ i → Holds log bs → Shows bs o
    → Turned n (suc i) (read_slot (part b (slot_size * i) slot_size)) bs r

pub turned_none : (n k : ℕ) (s : Slot) (bs : List Batch) → ((own : ℕ) (x : Rec) → s ≡ full own x → ⊥) → Turned n k s bs None
unfolding Turned
turned_none n k empty bs h = refl
turned_none n k (full own x) bs h = absurd (h own x refl)
turned_none n k (other b) bs h = refl

-- A slot's number, row and pages, as the program tests them.
unfoldable pub in_order : ℕ → ℕ → ℕ → Header → List Entry → Bool
in_order n k own h es = eqb own k && (row_kept h es && pages_kept n h)

-- A slot that holds a record, by the program's header and entries.
module _ (n m : ℕ) (b : List ℕ) (i : ℕ) (o : Batches) (h : Header) (es : List Entry)
    (kind count level own batch previous pa pb pc key second right : ℕ)
    (e : typed_by (part b (slot_size * i) slot_size) h es ≡ read_slot (part b (slot_size * i) slot_size))
    (q : h ≡ Full kind count level own batch previous pa pb pc key second right) where
  abbrev x : Rec
  x = rec_of kind count level batch previous pa pb pc key second right es

  is_full : typed_by (part b (slot_size * i) slot_size) h es ≡ full own x
  unfolding typed_by
  is_full = ap (λ (y : Header). typed_by (part b (slot_size * i) slot_size) y es) q

  -- The definition's tests of the slot are the program's and the record's step.
  tests : (bs : List Batch) → eqb own (suc i) && (row (suc i) x && (names_pages n x && chain_step (suc i) x bs)) ≡ in_order n (suc i) own h es && chain_step (suc i) x bs
  unfolding in_order
  tests bs = go (case (eqb own (suc i)))
    where
      pages_is : pages_kept n h ≡ names_pages n x
      pages_is = pages_kept_full (part b (slot_size * i) slot_size) es own x n h is_full

      and_all : (a c d : Bool) → a && (c && d) ≡ (a && c) && d
      and_all true c d = refl
      and_all false c d = refl

      go : Case (eqb own (suc i)) → eqb own (suc i) && (row (suc i) x && (names_pages n x && chain_step (suc i) x bs)) ≡ (eqb own (suc i) && (row_kept h es && pages_kept n h)) && chain_step (suc i) x bs
      go (no! t) = rw t
      go (yes! t) =
          let row_is : row_kept h es ≡ row (suc i) x =
          row_kept_full (part b (slot_size * i) slot_size) es own x h is_full ∙ ap (λ (y : ℕ). row y x) (true_eq own (suc i) t) in
          rw (t, row_is, pages_is) (and_all (row (suc i) x) (names_pages n x) (chain_step (suc i) x bs))

  as_turned : (bs : List Batch) (r : Option Batches) → Stepped (in_order n (suc i) own h es && chain_step (suc i) x bs) (tell x.kind (suc i) x bs) r
      → Turned n (suc i) (read_slot (part b (slot_size * i) slot_size)) bs r
  unfolding Turned
  as_turned bs r s =
      subst (λ (y : Slot). Turned n (suc i) y bs r) (sym is_full ∙ e)
      (subst (λ (c : Bool). Stepped c (tell x.kind (suc i) x bs) r) (sym (tests bs)) s)

  pub out_of_order : in_order n (suc i) own h es ≡ false → Turns n m b i o None
  out_of_order z log bs rd l hd s = as_turned bs None (rw z)

  pub turned_step : in_order n (suc i) own h es ≡ true → (k : ℕ) → k ≡ kind_number (kind_of kind)
      → (r : Option Batches) → StepsIn m b o (record { kind = k; own = own; batch = batch; previous = previous; key = key; second = second }) r → Turns n m b i o r
  unfolding in_order
  turned_step z k ek r f log bs rd l hd s =
      let c : own ≡ suc i = true_eq own (suc i) (and_true (eqb own (suc i)) (row_kept h es && pages_kept n h) z).0 in
      let g = f log bs x rd hd s (record { kind = ap kind_of ek ∙ kind_back (kind_of kind); batch = refl; previous = refl; key = refl; second = refl }) (c ∙ ap suc (sym l)) in
      as_turned bs r (subst (λ (y : Bool). Stepped (y && chain_step (suc i) x bs) (tell x.kind (suc i) x bs) r) (sym z)
      (subst (λ (y : ℕ). Stepped (chain_step y x bs) (tell x.kind y x bs) r) c g))

-- A slot that is in order in all but its chain, by its numbers alone.
module _ (n m : ℕ) (b : List ℕ) (i : ℕ) (o : Batches) (t : Told) (holds : Plain n (suc i) (part b (slot_size * i) slot_size)) (told : t ≡ told_by (part b (slot_size * i) slot_size)) where
  abbrev bytes : List ℕ
  bytes = part b (slot_size * i) slot_size

  pub by_step : (r : Option Batches) → StepsIn m b o t r → Turns n m b i o r
  unfolding Turned record_fields
  by_step r f log bs rd l hd s =
      let own : t.own ≡ suc i = ap (λ (y : Told). y.own) told ∙ holds.number in
      let w : Tells t (record_fields bytes) = subst (λ (y : Told). Tells y (record_fields bytes)) (sym told) tells in
      let c = f log bs (record_fields bytes) rd hd s w (own ∙ ap suc (sym l)) in
      let d : Stepped (chain_step (suc i) (record_fields bytes) bs) (tell (record_fields bytes).kind (suc i) (record_fields bytes) bs) r =
      subst (λ (y : ℕ). Stepped (chain_step y (record_fields bytes) bs) (tell (record_fields bytes).kind y (record_fields bytes) bs) r) own c in
      subst (λ (y : Slot). Turned n (suc i) y bs r) (sym holds.reads)
      (subst (λ (v : Bool). Stepped v (tell (record_fields bytes).kind (suc i) (record_fields bytes) bs) r)
      (sym (rw (eq_true (be32 bytes 4) (suc i) holds.number, holds.row, holds.pages))) d)
    where
      tells : Tells (told_by bytes) (record_fields bytes)
      tells = record { kind = refl; batch = refl; previous = refl; key = refl; second = refl }

-- One that holds an update.
module _ (n m : ℕ) (b : List ℕ) (i : ℕ) (o : Batches) (t : Told) (u : TellsUpdate n m b i t) where
  steps : (r : Option Batches) → Steps o t r → Turns n m b i o r
  steps r f = by_step n m b i o t u.holds u.told r (λ log bs x rd. f log bs x)

  pub update_halts : GoesOn o t None → Turns n m b i o None
  update_halts g = steps None (halts o t (updates_ask t.kind u.least u.most) g)

  pub update_goes : (p : ℕ) → GoesOn o t (Some p) → (y : Row) → y ≡ longer_row (row_at o.rows p) t.own → Turns n m b i o (right_with (set o.rows p y) o.marked)
  update_goes p g y v = steps (right_with (set o.rows p y) o.marked) (updates o t p g u.least u.most y v)

-- The batch of the first row goes on there.
pub first_place : (rs : List Row) (n : ℕ) → (row_at rs 0).batch ≡ n → 0 ≡ place_of n rs
unfolding place_of
first_place [] n e = refl
first_place (r ∷ rs) n e = rw (eq_true r.batch n e)

pub first_goes : (o : Batches) (t : Told) → (t.batch ≡ 0 → ⊥) → (row_at o.rows 0).batch ≡ t.batch → get_or o.marked 0 false ≡ false → (row_at o.rows 0).last ≡ t.previous
    → GoesOn o t (Some 0)
first_goes o t z e k v = going_on o t 0 (place_row o.rows t.batch (Some 0) z (first_place o.rows t.batch e, omega arith)) k v
