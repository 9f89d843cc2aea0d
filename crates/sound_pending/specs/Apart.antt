-- "pending records on a key are of one batch": no line of a later batch has a key that this batch's lines have.
use Rattle.std.specs.Prelude.{ℕ, ◌+◌, ◌-◌, ◌≤◌, ◌<◌, ◌≡◌, Bool, not, ◌&&◌, ◌||◌, List, [], ◌∷◌, length, take, drop, eqb}
use Rattle.std.proofs.Math.Path.{refl, sym, ap}
use Rattle.std.proofs.Common.{◌∙◌, arith, drop_of_length-le}
use Rattle.std.proofs.Math.Bool.{true, false}
use Rattle.std.proofs.Math.Seq.{take-length}
use Rattle.std.specs.Prelude as code
use Rattle.def_base.specs.Tests.{any, every}
use Rattle.def_layout.specs.declared.Row.{Row}
use Rattle.def_layout.specs.Desks.{row_at}
use Rattle.def_layout.specs.Records.{Rec}
use Rattle.def_model.specs.Batches.{Line, Batch, next_undo, row_of}
use Rattle.def_model.specs.Pending.{apart}
use Rattle.log_pending.specs.declared.Line as program
use Rattle.log_pending.specs.Below.{Linked}
use Rattle.log_pending.specs.Reading.{Reads}
use Rattle.sound_pending.specs.Walks.{Question, Asked}
use Rattle.sound_pending.specs.Keys.{FirstSays, KeysSay, keys_say}
use Rattle.sound_pending.specs.Rows.{Known, batch_at, row_known, batch_linked, every_at}

-- No line has one of the keys of `own`.
abbrev pub free_of : List Line → List Line → Bool
free_of own ls = every (λ x. not (any (λ y. eqb x.key y.key) own)) ls

-- The lines `own` are those of a row.
pub record OfRow (row : Row) (own : List Line) (l : List Rec) : Type 0 where
  pub linked : Linked l own
  pub newest : row.undo ≡ next_undo own
  pub size : row.pending ≡ length own

pub of_row : (row : Row) (c : Batch) (l : List Rec) → row ≡ row_of c → Linked l c.lines → OfRow row c.lines l
unfolding row_of
of_row row c l e h = record { linked = h; newest = ap (λ (x : Row). x.undo) e; size = ap (λ (x : Row). x.pending) e }

abbrev free : List Line → Question Bool
free own all left ls = free_of own ls

abbrev pub FreeSays : ℕ → List ℕ → Row → ℕ → ℕ → Bool → Type 0
FreeSays m b row from count r = Asked (OfRow row) free m b from count (λ i v. r ≡ v)

-- Whether some line of the row has the key, as the program finds it.
pub own_says : (m : ℕ) (b : List ℕ) (row : Row) (own : List Line) (l : List Rec) → OfRow row own l → Reads m b l
    → (key : ℕ) (r : Bool) → KeysSay (λ k. eqb key k) m b row.undo row.pending r → r ≡ any (λ a. eqb key a.key) own
own_says m b row own l q e key r f =
    f tt l own tt e q.linked q.newest (omega (arith, q.size))
    ∙ ap (λ (k : List Line). any (λ a. eqb key a.key) k) (ap (λ (k : ℕ). take k own) q.size ∙ take-length own)

none_has : (own ls : List Line) → not (any (λ x. any (λ y. eqb x.key y.key) own) ls) ≡ free_of own ls
unfolding any every
none_has own [] = refl
none_has own (x ∷ ls) = go (any (λ y. eqb x.key y.key) own) (none_has own ls)
  where
    go : (t : Bool) → not (any (λ x. any (λ y. eqb x.key y.key) own) ls) ≡ free_of own ls → not (t || any (λ x. any (λ y. eqb x.key y.key) own) ls) ≡ not t && free_of own ls
    go true i = refl
    go false i = i

flip : (v t : Bool) → t ≡ not v → not t ≡ v
flip true t e = ap not e
flip false t e = ap not e

-- None has one of the row's keys, where the program finds none.
pub free_says : (m : ℕ) (b : List ℕ) (row : Row) (from count : ℕ) (r : code.Option program.Line)
    → ((own : List Line) (l : List Rec) → OfRow row own l → Reads m b l → FirstSays (λ key. any (λ y. eqb key y.key) own) m b from count r)
    → (v : Bool) → code.is_some r ≡ not v → FreeSays m b row from count v
free_says m b row from count r f v s own l ls q e h n k =
    sym (flip v (code.is_some r) s) ∙ ap not (keys_say (λ key. any (λ y. eqb key y.key) own) m b from count r (f own l q e) tt l ls tt e h n k) ∙ none_has own (take count ls)

-- ---- row i against the rows behind it

abbrev pub ApartIs : ℕ → List ℕ → List Row → ℕ → Bool → Type 0
ApartIs m b rows i r = (l : List Rec) (bs : List Batch) → Known m b rows l bs → r ≡ apart (batch_at bs i).lines (drop (i + 1) bs)

abbrev pub ApartLeft : ℕ → List ℕ → List Row → ℕ → ℕ → Type 0
ApartLeft m b rows i j = (l : List Rec) (bs : List Batch) → Known m b rows l bs
    → apart (batch_at bs i).lines (drop (i + 1) bs) ≡ apart (batch_at bs i).lines (drop j bs)

module _ (m : ℕ) (b : List ℕ) (rows : List Row) (i : ℕ) where
  pub apart_start : ApartLeft m b rows i (i + 1)
  apart_start l bs k = refl

  module _ (j : ℕ) (w : ApartLeft m b rows i j) where
    pub apart_end : 8 ≤ j → ApartIs m b rows i true
    unfolding apart every
    apart_end h l bs k = sym (w l bs k ∙ ap (apart (batch_at bs i).lines) (drop_of_length-le bs {i = j} (omega (arith, h, k.holds.few))))

    module _ (u : i < 8) (h : j < 8) (r : Bool) (f : FreeSays m b (row_at rows i) (row_at rows j).undo (row_at rows j).pending r) where
      row_free : (l : List Rec) (bs : List Batch) → Known m b rows l bs → r ≡ free_of (batch_at bs i).lines (batch_at bs j).lines
      row_free l bs k =
          let q : OfRow (row_at rows i) (batch_at bs i).lines l = of_row (row_at rows i) (batch_at bs i) l (row_known m b rows l bs k i u) (batch_linked m b rows l bs k i) in
          let p : OfRow (row_at rows j) (batch_at bs j).lines l = of_row (row_at rows j) (batch_at bs j) l (row_known m b rows l bs k j h) (batch_linked m b rows l bs k j) in
          f (batch_at bs i).lines l (batch_at bs j).lines q k.reads p.linked p.newest (omega (arith, p.size))
          ∙ ap (λ (y : List Line). free_of (batch_at bs i).lines y) (ap (λ (y : ℕ). take y (batch_at bs j).lines) p.size ∙ take-length (batch_at bs j).lines)

      one_more : (l : List Rec) (bs : List Batch) → Known m b rows l bs
          → apart (batch_at bs i).lines (drop (i + 1) bs) ≡ r && apart (batch_at bs i).lines (drop (j + 1) bs)
      unfolding apart every
      one_more l bs k =
          w l bs k ∙ every_at (λ c. free_of (batch_at bs i).lines c.lines) refl bs j
          ∙ ap (λ (y : Bool). y && every (λ c. free_of (batch_at bs i).lines c.lines) (drop (j + 1) bs)) (sym (row_free l bs k))

      pub apart_off : r ≡ false → ApartIs m b rows i false
      apart_off e l bs k = sym (one_more l bs k ∙ rw e)

      pub apart_on : r ≡ true → ApartLeft m b rows i (j + 1)
      apart_on e l bs k = one_more l bs k ∙ rw e
