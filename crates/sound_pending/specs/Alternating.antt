-- "pending records on a key alternate, a delete after an insert has its value": each line with the newest below it on its key.
use Rattle.std.specs.Prelude.{ℕ, ◌-◌, ◌≡◌, Bool, not, List, take, eqb}
use Rattle.std.proofs.Math.Path.{refl, sym, ap}
use Rattle.std.proofs.Common.{◌∙◌, subst}
use Rattle.std.proofs.Math.Option.{Option, none, some}
use Rattle.std.proofs.Math.Bool.{true, false}
use Rattle.std.specs.Prelude as code
use Rattle.def_layout.specs.Records.{Rec}
use Rattle.def_model.specs.Batches.{Line}
use Rattle.def_model.specs.Pending.{newest_on, alternates, lines_alternate}
use Rattle.log_pending.specs.declared.Line as program
use Rattle.log_pending.specs.Holding.{linked_rest}
use Rattle.log_pending.specs.Reading.{Reads}
use Rattle.log_pending.specs.Lines.{shown_line, TellsLine}
use Rattle.sound_pending.specs.Walks.{Question, Here, Asked, Walking, walk_start, walk_end, walk_on, walk_out}
use Rattle.sound_pending.specs.Keys.{Plain, NewestIs, NewestSays}

-- A line and the newest below it on its key, as the program has them.
abbrev pub Alternates : program.Line → code.Option program.Line → Bool → Type 0
Alternates x older r = (y : Line) (ys : List Line) (o : Option Line) → x ≡ shown_line y ys → NewestIs older o → r ≡ alternates y o

pub alternates_none : (x : program.Line) → Alternates x code.None true
unfolding NewestIs alternates
alternates_none x y ys none s n = refl
alternates_none x y ys (some o) s n = absurd n

module _ (x older : program.Line) where
  pub alternates_insert : x.adds ≡ true → Alternates x (code.Some older) (not older.adds)
  unfolding NewestIs alternates
  alternates_insert a y ys none s n = absurd n
  alternates_insert a y ys (some o) s n = rw (sym (ap (λ (p : program.Line). p.adds) s) ∙ a, n.0)

  module _ (a : x.adds ≡ false) where
    pub alternates_two : older.adds ≡ false → Alternates x (code.Some older) false
    unfolding NewestIs alternates
    alternates_two c y ys none s n = absurd n
    alternates_two c y ys (some o) s n = rw (sym (ap (λ (p : program.Line). p.adds) s) ∙ a, sym n.0 ∙ c)

    pub alternates_delete : older.adds ≡ true → Alternates x (code.Some older) (eqb x.value older.value)
    unfolding NewestIs alternates
    alternates_delete c y ys none s n = absurd n
    alternates_delete c y ys (some o) s n =
        rw (sym (ap (λ (p : program.Line). p.adds) s) ∙ a, sym n.0 ∙ c, ap (λ (p : program.Line). p.value) s, n.1)

-- The walk over a batch's lines.
abbrev alternating : Unit {0} → Question Bool
alternating i all left ls = lines_alternate ls

abbrev pub AlternateSays : ℕ → List ℕ → ℕ → ℕ → Bool → Type 0
AlternateSays m b from count r = Asked Plain alternating m b from count (λ i v. r ≡ v)

abbrev pub AlternateLeft : ℕ → List ℕ → ℕ → ℕ → ℕ → ℕ → Type 0
AlternateLeft m b from count at left = Walking Plain alternating m b from count at left

module _ (m : ℕ) (b : List ℕ) (from count : ℕ) where
  pub alternate_start : AlternateLeft m b from count from count
  alternate_start = walk_start Plain alternating m b from count

  module _ (at left : ℕ) (w : AlternateLeft m b from count at left) where
    pub alternate_end : left ≡ 0 → AlternateSays m b from count true
    unfolding lines_alternate
    alternate_end z = walk_end Plain alternating m b from count (λ i v. true ≡ v) at left w z (λ i ls. refl)

    module _ (z : left ≡ 0 → ⊥) (x : program.Line) (t : TellsLine m b at x) (older : code.Option program.Line) (f : NewestSays x.key m b x.below (left - 1) older)
        (r : Bool) (a : Alternates x older r) where
      says : (l : List Rec) (ls : List Line) (y : Line) (ys : List Line) → Reads m b l → Here Plain alternating m b from count at left w z x t l ls y ys
          → r ≡ alternates y (newest_on y.key (take (left - 1) ys))
      says l ls y ys e o =
          let n : NewestIs older (newest_on x.key (take (left - 1) ys)) =
          f tt l ys tt e (linked_rest l y ys o.linked) (ap (λ (p : program.Line). p.below) o.shown) o.few in
          a y ys (newest_on y.key (take (left - 1) ys)) o.shown
          (subst (λ (k : ℕ). NewestIs older (newest_on k (take (left - 1) ys))) (ap (λ (p : program.Line). p.key) o.shown) n)

      pub alternate_off : r ≡ false → AlternateSays m b from count false
      unfolding lines_alternate
      alternate_off c =
          walk_out Plain alternating m b from count at left w z x t (λ i v. false ≡ v)
          (λ i l ls y ys q e n h o. sym (rw (sym (says l ls y ys e o) ∙ c)))

      pub alternate_on : r ≡ true → AlternateLeft m b from count x.below (left - 1)
      unfolding lines_alternate
      alternate_on c =
          walk_on Plain alternating m b from count at left w z x t
          (λ i l ls y ys q e n h o. rw (sym (says l ls y ys e o) ∙ c))
