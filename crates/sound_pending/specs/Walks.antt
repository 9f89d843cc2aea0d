-- A walk over a batch's pending lines through the log: whatever is asked of the lines, what is left to ask is asked of the rest.
use Prim.Native.Nat.{ℕ, suc, ◌+◌, ◌-◌, ◌≤◌, ◌<◌}
use Rattle.std.specs.Prelude.{◌≡◌, refl, length, drop}
use Rattle.std.proofs.Math.Path.{sym, ap}
use Rattle.std.proofs.Common.{◌∙◌, subst, arith, drop-drop}
use mathlib.Core.List.{List, [], ◌∷◌}
use Rattle.std.proofs.Math.ListN.{take}
use Rattle.def_layout.specs.Records.{Rec}
use Rattle.def_model.specs.Batches.{Line, next_undo}
use Rattle.log_pending.specs.declared.Line as program
use Rattle.log_pending.specs.Below.{Linked}
use Rattle.log_pending.specs.Holding.{linked_rest}
use Rattle.log_pending.specs.Reading.{Reads}
use Rattle.log_pending.specs.Lines.{shown_line, TellsLine}

-- What is asked of lines: of the first `left` of those that are left of ls.
abbrev pub Question : Type 0 → Type 0
Question A = List Line → ℕ → List Line → A

-- `left` lines from number `at` on are those of which what was asked of the first `count` of ls is left to ask.
pub record Walk {A : Type 0} (F : Question A) (l : List Rec) (ls : List Line) (count at left : ℕ) : Type 0 where
  pub rest : List Line
  pub linked : Linked l rest
  pub newest : at ≡ next_undo rest
  pub few : left ≤ length rest
  pub within : left ≤ count
  pub behind : rest ≡ drop (count - left) ls
  pub same : F ls count (take count ls) ≡ F ls left (take left rest)

-- What is asked may lean on something more that is known of the log, i with Q.
module _ {I A : Type 0} (Q : I → List Rec → Type 0) (F : I → Question A) (m : ℕ) (b : List ℕ) (from count : ℕ) where
  abbrev pub Asked : (I → A → Type 0) → Type 0
  Asked P = (i : I) (l : List Rec) (ls : List Line) → Q i l → Reads m b l → Linked l ls → from ≡ next_undo ls → count ≤ length ls
      → P i (F i ls count (take count ls))

  abbrev pub Walking : ℕ → ℕ → Type 0
  Walking at left = (i : I) (l : List Rec) (ls : List Line) → Q i l → Reads m b l → Linked l ls → from ≡ next_undo ls → count ≤ length ls
      → Walk (F i) l ls count at left

  pub walk_start : Walking from count
  walk_start i l ls q e h n c =
      record { rest = ls; linked = h; newest = n; few = c; within = omega arith; behind = ap (λ (k : ℕ). drop k ls) (none count); same = refl }
    where
      none : (k : ℕ) → 0 ≡ k - k
      none k = omega arith

  pub walk_end : (P : I → A → Type 0) (at left : ℕ) → Walking at left → left ≡ 0 → ((i : I) (ls : List Line) → P i (F i ls 0 [])) → Asked P
  walk_end P at left w z p i l ls q e h n c =
      let k = w i l ls q e h n c in
      subst (P i) (sym (k.same ∙ ap (λ (x : ℕ). F i ls x (take x k.rest)) z)) (p i ls)

  module _ (at left : ℕ) (w : Walking at left) (z : left ≡ 0 → ⊥) (x : program.Line) (t : TellsLine m b at x) where
    -- What is known of the line that is read, y, and of the lines below it.
    pub record Here (l : List Rec) (ls : List Line) (y : Line) (ys : List Line) : Type 0 where
      pub linked : Linked l (y ∷ ys)
      pub shown : x ≡ shown_line y ys
      pub few : left - 1 ≤ length ys
      pub within : left ≤ count
      pub long : count ≤ length ls
      pub behind : drop (count - left) ls ≡ y ∷ ys

    record There (l : List Rec) (ls rest : List Line) : Type 0 where
      line : Line
      under : List Line
      taken : take left rest ≡ line ∷ take (left - 1) under
      known : Here l ls line under

    there : (l : List Rec) (ls rest : List Line) → Reads m b l → Linked l rest → at ≡ next_undo rest → left ≤ length rest → left ≤ count → count ≤ length ls
        → rest ≡ drop (count - left) ls → There l ls rest
    unfolding next_undo
    there l ls [] e h n c v u d = absurd (z (omega arith))
    there l ls (y ∷ ys) e h n c v u d =
        record {
          line = y;
          under = ys;
          taken = ap (λ (k : ℕ). take k (y ∷ ys)) (up left z);
          known = record { linked = h; shown = t l y ys e h n; few = omega (arith, c, z); within = v; long = u; behind = sym d };
        }
      where
        up : (left : ℕ) → (left ≡ 0 → ⊥) → left ≡ suc (left - 1)
        up left z = omega (arith, z)

    found_there : (i : I) (l : List Rec) (ls : List Line) → Reads m b l → count ≤ length ls → (k : Walk (F i) l ls count at left) → There l ls k.rest
    found_there i l ls e c k = there l ls k.rest e k.linked k.newest k.few k.within c k.behind

    -- On, where the line has no say; or out with what it says.
    pub walk_on : ((i : I) (l : List Rec) (ls : List Line) (y : Line) (ys : List Line) → Q i l → Reads m b l → from ≡ next_undo ls → Linked l ls → Here l ls y ys
        → F i ls left (y ∷ take (left - 1) ys) ≡ F i ls (left - 1) (take (left - 1) ys)) → Walking x.below (left - 1)
    walk_on v i l ls q e h n c =
        let k = w i l ls q e h n c in
        let d = found_there i l ls e c k in
        let o = d.known in
        record {
          rest = d.under;
          linked = linked_rest l d.line d.under o.linked;
          newest = ap (λ (y : program.Line). y.below) o.shown;
          few = o.few;
          within = omega (arith, k.within);
          behind =
              ap (λ (y : List Line). drop 1 y) (sym o.behind) ∙ drop-drop 1 (count - left) ls
              ∙ ap (λ (y : ℕ). drop y ls) (further count left z k.within);
          same = k.same ∙ ap (F i ls left) d.taken ∙ v i l ls d.line d.under q e n h o;
        }
      where
        further : (count left : ℕ) → (left ≡ 0 → ⊥) → left ≤ count → count - left + 1 ≡ count - (left - 1)
        further count left z v = omega (arith, z, v)

    pub walk_out : (P : I → A → Type 0) → ((i : I) (l : List Rec) (ls : List Line) (y : Line) (ys : List Line) → Q i l → Reads m b l → from ≡ next_undo ls → Linked l ls
        → Here l ls y ys → P i (F i ls left (y ∷ take (left - 1) ys))) → Asked P
    walk_out P v i l ls q e h n c =
        let k = w i l ls q e h n c in
        let d = found_there i l ls e c k in
        subst (P i) (sym (k.same ∙ ap (F i ls left) d.taken)) (v i l ls d.line d.under q e n h d.known)

-- ---- a walk by the number of lines passed

module _ (P : ℕ → Type 0) (count : ℕ) where
  pub none_passed : P count → P (count - 0)
  none_passed = subst P (e count)
    where
      e : (k : ℕ) → k ≡ k - 0
      e k = omega arith

  pub one_passed : (passed : ℕ) → P (count - passed - 1) → P (count - (passed + 1))
  one_passed passed = subst P (e count passed)
    where
      e : (k n : ℕ) → k - n - 1 ≡ k - (n + 1)
      e k n = omega arith

  pub passed_of : (passed : ℕ) → passed < count → P passed → P (count - (count - passed))
  passed_of passed h = subst P (e count passed h)
    where
      e : (k n : ℕ) → n < k → n ≡ k - (k - n)
      e k n h = omega arith
