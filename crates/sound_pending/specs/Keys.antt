-- Keys among a batch's pending lines: whether one of them has it, and which is the newest that does.
use Rattle.std.specs.Prelude.{ℕ, ◌+◌, ◌-◌, ◌<◌, ◌≡◌, refl, Bool, ◌&&◌, ◌||◌, List, [], ◌∷◌, take, eqb, leb, ltb}
use Rattle.std.proofs.Math.Path.{sym, ap, fun_ext}
use Rattle.std.proofs.Common.{◌∙◌, subst, arith, ne_eqb}
use Rattle.std.proofs.Math.Option.{Option, none, some}
use Rattle.std.proofs.Math.Bool.{true, false}
use Rattle.std.proofs.Math.Decide.{dec_lt}
use Rattle.std.specs.Prelude as code
use Rattle.def_base.specs.Tests.{pick, any, eq_true, le_true, le_false, lt_true, lt_false}
use Rattle.def_layout.specs.Records.{Rec}
use Rattle.def_model.specs.Batches.{Line}
use Rattle.def_model.specs.Pending.{newest_on}
use Rattle.log_pending.specs.declared.Line as program
use Rattle.log_pending.specs.Lines.{TellsLine}
use Rattle.sound_pending.specs.Walks.{Question, Asked, Walking, walk_start, walk_end, walk_on, walk_out}

-- Nothing more is known.
abbrev pub Plain : Unit {0} → List Rec → Type 0
Plain i l = Unit {0}

-- ---- the newest line whose key is of a kind

-- A closure's answers are g's.
abbrev pub TestsBy : (ℕ → Bool → Type 0) → (ℕ → Bool) → Type 0
TestsBy post g = (key : ℕ) (r : Bool) → post key r → r ≡ g key

-- None just where there is none; else what the line adds or takes away, and its value.
unfoldable pub NewestIs : code.Option program.Line → Option Line → Type 0
NewestIs code.None none = Unit {0}
NewestIs code.None (some y) = ⊥
NewestIs (code.Some r) none = ⊥
NewestIs (code.Some r) (some y) = (r.adds ≡ y.adds) × (r.value ≡ y.value)

unfoldable pub first_of : (ℕ → Bool) → List Line → Option Line
first_of g [] = none
first_of g (x ∷ ls) = pick (g x.key) (some x) (first_of g ls)

abbrev pub first_with : (ℕ → Bool) → Unit {0} → Question (Option Line)
first_with g i all left ls = first_of g ls

abbrev pub FirstSays : (ℕ → Bool) → ℕ → List ℕ → ℕ → ℕ → code.Option program.Line → Type 0
FirstSays g m b from count r = Asked Plain (first_with g) m b from count (λ i v. NewestIs r v)

abbrev pub FirstLeft : (ℕ → Bool) → ℕ → List ℕ → ℕ → ℕ → ℕ → ℕ → Type 0
FirstLeft g m b from count at left = Walking Plain (first_with g) m b from count at left

module _ (g : ℕ → Bool) (m : ℕ) (b : List ℕ) (from count : ℕ) where
  pub first_start : FirstLeft g m b from count from count
  first_start = walk_start Plain (first_with g) m b from count

  module _ (at left : ℕ) (w : FirstLeft g m b from count at left) where
    pub first_none : left ≡ 0 → FirstSays g m b from count code.None
    unfolding first_of NewestIs
    first_none z = walk_end Plain (first_with g) m b from count (λ i v. NewestIs code.None v) at left w z (λ i ls. tt)

    module _ (z : left ≡ 0 → ⊥) (x : program.Line) (t : TellsLine m b at x) where
      pub first_hit : g x.key ≡ true → FirstSays g m b from count (code.Some x)
      unfolding first_of NewestIs
      first_hit e =
          walk_out Plain (first_with g) m b from count at left w z x t (λ i v. NewestIs (code.Some x) v)
          (λ i l ls y ys q rd n h o.
          rw (sym (ap (λ (p : program.Line). g p.key) o.shown) ∙ e) (ap (λ (a : program.Line). a.adds) o.shown, ap (λ (a : program.Line). a.value) o.shown))

      pub first_further : g x.key ≡ false → FirstLeft g m b from count x.below (left - 1)
      unfolding first_of
      first_further e =
          walk_on Plain (first_with g) m b from count at left w z x t
          (λ i l ls y ys q rd n h o. rw (sym (ap (λ (p : program.Line). g p.key) o.shown) ∙ e))

-- ---- whether some line's key is of a kind

abbrev pub some_key : (ℕ → Bool) → Unit {0} → Question Bool
some_key g i all left ls = any (λ x. g x.key) ls

abbrev pub KeysSay : (ℕ → Bool) → ℕ → List ℕ → ℕ → ℕ → Bool → Type 0
KeysSay g m b from count r = Asked Plain (some_key g) m b from count (λ i v. r ≡ v)

some_first : (g : ℕ → Bool) (ls : List Line) (r : code.Option program.Line) → NewestIs r (first_of g ls) → code.is_some r ≡ any (λ x. g x.key) ls
unfolding NewestIs first_of any
some_first g [] code.None n = refl
some_first g [] (code.Some r) n = absurd n
some_first g (x ∷ ls) r n = go (g x.key) (some_first g ls) r n
  where
    go : (t : Bool) → ((r : code.Option program.Line) → NewestIs r (first_of g ls) → code.is_some r ≡ any (λ x. g x.key) ls)
        → (r : code.Option program.Line) → NewestIs r (pick t (some x) (first_of g ls)) → code.is_some r ≡ t || any (λ x. g x.key) ls
    go true i code.None n = absurd n
    go true i (code.Some r) n = refl
    go false i r n = i r n

pub keys_say : (g : ℕ → Bool) (m : ℕ) (b : List ℕ) (from count : ℕ) (r : code.Option program.Line) → FirstSays g m b from count r → KeysSay g m b from count (code.is_some r)
keys_say g m b from count r f i l ls q e h n c = some_first g (take count ls) r (f i l ls q e h n c)

-- ---- keys of a range

abbrev pub from_to : ℕ → ℕ → ℕ → Bool
from_to first last key = leb first key && leb key last

-- One key alone, and those above one.
pub exactly : (k : ℕ) → from_to k k ≡ (λ key. eqb k key)
exactly k = fun_ext same
  where
    same : (key : ℕ) → from_to k k key ≡ eqb k key
    same key =
        elim (dec_lt k key) [
          | yes h ↦ rw (le_false key k h, le_true k key (omega arith), ne_eqb k key (λ e. omega arith))
          | no h ↦
              elim (dec_lt key k) [
                | yes q ↦ rw (le_false k key q, ne_eqb k key (λ e. omega arith))
                | no q ↦ rw (le_true k key (omega arith), le_true key k (omega arith), eq_true k key (omega arith))
              ]
        ]

pub above : (low high : ℕ) → from_to (low + 1) high ≡ (λ key. ltb low key && leb key high)
above low high = fun_ext same
  where
    same : (key : ℕ) → from_to (low + 1) high key ≡ ltb low key && leb key high
    same key =
        elim (dec_lt low key) [
          | yes h ↦ rw (le_true (low + 1) key (omega arith), lt_true low key h)
          | no h ↦ rw (le_false (low + 1) key (omega arith), lt_false low key (omega arith))
        ]

pub key_says : (k m : ℕ) (b : List ℕ) (from count : ℕ) (r : Bool) → KeysSay (from_to k k) m b from count r → KeysSay (λ key. eqb k key) m b from count r
key_says k m b from count r = subst (λ (g : ℕ → Bool). KeysSay g m b from count r) (exactly k)

-- ---- the newest line on a key

abbrev pub newest : ℕ → Unit {0} → Question (Option Line)
newest k i all left ls = newest_on k ls

abbrev pub NewestSays : ℕ → ℕ → List ℕ → ℕ → ℕ → code.Option program.Line → Type 0
NewestSays k m b from count r = Asked Plain (newest k) m b from count (λ i v. NewestIs r v)

first_newest : (k : ℕ) (ls : List Line) → first_of (λ key. eqb k key) ls ≡ newest_on k ls
unfolding first_of newest_on
first_newest k [] = refl
first_newest k (x ∷ ls) = ap (λ (o : Option Line). pick (eqb k x.key) (some x) o) (first_newest k ls)

pub newest_says : (k m : ℕ) (b : List ℕ) (from count : ℕ) (r : code.Option program.Line) → FirstSays (λ key. eqb k key) m b from count r → NewestSays k m b from count r
newest_says k m b from count r f i l ls q e h n c = subst (NewestIs r) (first_newest k (take count ls)) (f i l ls q e h n c)

pub below : (low last : ℕ) → from_to low last ≡ (λ key. leb low key && ltb key (last + 1))
below low last = fun_ext same
  where
    same : (key : ℕ) → from_to low last key ≡ leb low key && ltb key (last + 1)
    same key =
        elim (dec_lt last key) [
          | yes h ↦ rw (le_false key last h, lt_false key (last + 1) (omega arith))
          | no h ↦ rw (le_true key last (omega arith), lt_true key (last + 1) (omega arith))
        ]
