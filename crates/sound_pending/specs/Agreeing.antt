-- "the newest agrees with the tree": each line that no newer one on its key stands before.
use Rattle.std.specs.Prelude.{ℕ, suc, ◌+◌, ◌-◌, ◌≤◌, ◌<◌, ◌≡◌, refl, Bool, not, ◌&&◌, ◌||◌, length, take, get_or, eqb}
use Rattle.std.proofs.Math.Path.{sym, ap}
use Rattle.std.proofs.Common.{◌∙◌, arith, take-suc, get_or-drop}
use Rattle.std.proofs.Math.Option.{Option, none, some}
use Rattle.std.proofs.Math.Bool.{true, false}
use mathlib.Core.List.{List, [], ◌∷◌, ◌++◌}
use Rattle.def_base.specs.Tests.{pick, any}
use Rattle.def_layout.specs.Pages.{Page}
use Rattle.def_layout.specs.Records.{Rec}
use Rattle.def_model.specs.Batches.{Line, next_undo}
use Rattle.def_model.specs.Fit.{found, found_value}
use Rattle.def_model.specs.Lookup.{fetched}
use Rattle.def_model.specs.Pending.{newest_on, agrees, newest_agree}
use Rattle.log_pending.specs.declared.Line as program
use Rattle.log_pending.specs.Below.{Linked}
use Rattle.log_pending.specs.Reading.{Reads}
use Rattle.log_pending.specs.Lines.{shown_line, TellsLine}
use Rattle.sound_pending.specs.Walks.{Question, Here, Asked, Walking, walk_start, walk_end, walk_on, walk_out}
use Rattle.sound_pending.specs.Keys.{Plain, KeysSay}

-- ---- one line

unfoldable pub agrees_with : program.Line → Option ℕ → Bool
agrees_with x o = pick x.adds (found_value x.value o) (not (found o))

abbrev pub Agrees : List Page → program.Line → Bool → Type 0
Agrees pages x r = (y : Line) (ys : List Line) → x ≡ shown_line y ys → r ≡ agrees pages y

pub agrees_is : (pages : List Page) (x : program.Line) (r : Bool) → r ≡ agrees_with x (fetched x.key pages) → Agrees pages x r
unfolding agrees_with agrees
agrees_is pages x r e y ys s = e ∙ ap (λ (p : program.Line). pick p.adds (found_value p.value (fetched p.key pages)) (not (found (fetched p.key pages)))) s

pub absent_agrees : (x : program.Line) → not x.adds ≡ agrees_with x none
unfolding agrees_with found found_value
absent_agrees x = go x.adds
  where
    go : (a : Bool) → not a ≡ pick a false true
    go true = refl
    go false = refl

pub there_not : (x : program.Line) (u : ℕ) → x.adds ≡ false → agrees_with x (some u) ≡ false
unfolding agrees_with found
there_not x u e = rw e

pub there_agrees : (x : program.Line) (u : ℕ) → x.adds ≡ true → agrees_with x (some u) ≡ eqb u x.value
unfolding agrees_with found_value
there_agrees x u e = rw e

-- ---- the walk

found_any : (k : ℕ) (ls : List Line) → found (newest_on k ls) ≡ any (λ x. eqb k x.key) ls
unfolding found newest_on any
found_any k [] = refl
found_any k (x ∷ ls) = go (eqb k x.key) (found_any k ls)
  where
    go : (t : Bool) → found (newest_on k ls) ≡ any (λ x. eqb k x.key) ls → found (pick t (some x) (newest_on k ls)) ≡ t || any (λ x. eqb k x.key) ls
    go true i = refl
    go false i = i

-- A line's say, `newer` being the number of lines before it.
abbrev pub LineAgrees : List Page → ℕ → List ℕ → ℕ → ℕ → program.Line → Bool → Type 0
LineAgrees pages m b from newer x v = (l : List Rec) (ls : List Line) (y : Line) (ys : List Line) → Reads m b l → from ≡ next_undo ls → Linked l ls → newer ≤ length ls
    → x ≡ shown_line y ys → v ≡ pick (found (newest_on y.key (take newer ls))) true (agrees pages y)

module _ (pages : List Page) (m : ℕ) (b : List ℕ) (from newer : ℕ) (x : program.Line) (r : Bool) (f : KeysSay (λ key. eqb x.key key) m b from newer r) where
  has_newer : (l : List Rec) (ls : List Line) (y : Line) (ys : List Line) → Reads m b l → from ≡ next_undo ls → Linked l ls → newer ≤ length ls → x ≡ shown_line y ys
      → r ≡ found (newest_on y.key (take newer ls))
  has_newer l ls y ys e n h c s =
      f tt l ls tt e h n c ∙ ap (λ (k : ℕ). any (λ a. eqb k a.key) (take newer ls)) (ap (λ (p : program.Line). p.key) s)
      ∙ sym (found_any y.key (take newer ls))

  pub line_newer : r ≡ true → LineAgrees pages m b from newer x true
  line_newer t l ls y ys e n h c s = sym (rw (sym (has_newer l ls y ys e n h c s) ∙ t))

  pub line_newest : r ≡ false → (v : Bool) → Agrees pages x v → LineAgrees pages m b from newer x v
  line_newest t v a l ls y ys e n h c s = a y ys s ∙ sym (rw (sym (has_newer l ls y ys e n h c s) ∙ t))

-- The lines that were passed are newer.
abbrev agreeing : List Page → ℕ → Unit {0} → Question Bool
agreeing pages count i all left ls = newest_agree pages (take (count - left) all) ls

abbrev pub AgreeSays : List Page → ℕ → List ℕ → ℕ → ℕ → Bool → Type 0
AgreeSays pages m b from count r = Asked Plain (agreeing pages count) m b from count (λ i v. r ≡ v)

abbrev pub AgreeLeft : List Page → ℕ → List ℕ → ℕ → ℕ → ℕ → ℕ → Type 0
AgreeLeft pages m b from count at left = Walking Plain (agreeing pages count) m b from count at left

module _ (pages : List Page) (m : ℕ) (b : List ℕ) (from count : ℕ) where
  pub agree_start : AgreeLeft pages m b from count from count
  agree_start = walk_start Plain (agreeing pages count) m b from count

  module _ (at left : ℕ) (w : AgreeLeft pages m b from count at left) where
    pub agree_end : left ≡ 0 → AgreeSays pages m b from count true
    unfolding newest_agree
    agree_end z = walk_end Plain (agreeing pages count) m b from count (λ i v. true ≡ v) at left w z (λ i ls. refl)

    module _ (z : left ≡ 0 → ⊥) (x : program.Line) (t : TellsLine m b at x) (v : Bool) (a : LineAgrees pages m b from (count - left) x v) where
      says : (l : List Rec) (ls : List Line) (y : Line) (ys : List Line) → Reads m b l → from ≡ next_undo ls → Linked l ls
          → Here Plain (agreeing pages count) m b from count at left w z x t l ls y ys
          → v ≡ pick (found (newest_on y.key (take (count - left) ls))) true (agrees pages y)
      says l ls y ys e n h o = a l ls y ys e n h (omega (arith, o.long)) o.shown

      -- The line passed is one more of the newer ones.
      passed : (l : List Rec) (ls : List Line) (y : Line) (ys : List Line) → Here Plain (agreeing pages count) m b from count at left w z x t l ls y ys
          → take (count - left) ls ++ y ∷ [] ≡ take (count - (left - 1)) ls
      passed l ls y ys o =
          let d : count - (left - 1) ≡ suc (count - left) = next count left z o.within in
          let g : get_or ls (count - left) y ≡ y =
          ap (λ (k : ℕ). get_or ls k y) (plus (count - left)) ∙ sym (get_or-drop (count - left) ls 0 y) ∙ ap (λ (k : List Line). get_or k 0 y) o.behind in
          let s : count - left < length ls = omega (arith, o.long, o.within, z) in
          sym (ap (λ (k : ℕ). take k ls) d ∙ take-suc ls (count - left) y s ∙ ap (λ (k : Line). take (count - left) ls ++ k ∷ []) g)
        where
          next : (count left : ℕ) → (left ≡ 0 → ⊥) → left ≤ count → count - (left - 1) ≡ suc (count - left)
          next count left z v = omega (arith, z, v)

          plus : (k : ℕ) → k ≡ k + 0
          plus k = omega arith

      pub agree_off : v ≡ false → AgreeSays pages m b from count false
      unfolding newest_agree
      agree_off d =
          walk_out Plain (agreeing pages count) m b from count at left w z x t (λ i u. false ≡ u)
          (λ i l ls y ys q e n h o.
          sym (ap (λ (k : Bool). k && newest_agree pages (take (count - left) ls ++ y ∷ []) (take (left - 1) ys)) (sym (says l ls y ys e n h o) ∙ d)))

      pub agree_on : v ≡ true → AgreeLeft pages m b from count x.below (left - 1)
      unfolding newest_agree
      agree_on d =
          walk_on Plain (agreeing pages count) m b from count at left w z x t
          (λ i l ls y ys q e n h o.
          ap (λ (k : Bool). k && newest_agree pages (take (count - left) ls ++ y ∷ []) (take (left - 1) ys)) (sym (says l ls y ys e n h o) ∙ d)
          ∙ ap (λ (k : List Line). newest_agree pages k (take (left - 1) ys)) (passed l ls y ys o))
