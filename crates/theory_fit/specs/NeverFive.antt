-- REDO NEVER ANSWERS 5 for a lawful log, each page being behind by its own amount.
use Rattle.std.specs.Prelude.{ℕ, zero, suc, ◌≤◌, ◌<◌, ◌≡◌, refl, true, List, [], ◌∷◌, length}
use Rattle.std.proofs.Common.{sym, ◌∙◌, subst, arith}
use Rattle.std.proofs.Math.Decide.{dec_le}
use Rattle.def_layout.specs.Pages.{Page, at, map_bits}
use Rattle.def_layout.specs.Records.{Rec}
use Rattle.def_model.specs.Change.{act, hits, act_stamp}
use Rattle.def_model.specs.Redo.{redo_record, redo_fits}
use Rattle.def_model.specs.TreeRules.{Node}
use Rattle.theory_redo.specs.OnePage.{run1, below1, run_ok}
use Rattle.theory_redo.specs.Area.{lsn_of, length_redo_record, get_record}
use Rattle.theory_redo.specs.Current.{Behind, behind_more, current_behind, base_current}
use Rattle.theory_redo.specs.Count.{AllInside, names_inside}
use Rattle.theory_redo.specs.Fits.{page_fitted, redo_fits_behind}
use Rattle.theory_tree.specs.Shape.Rules.{Rules, pages_pos}
use Rattle.theory_tree.specs.Step.Parts.{Lows}
use Rattle.theory_tree.specs.Step.Rules.{step_rules}
use Rattle.theory_tree.specs.Step.Names.{step_names}
use Rattle.theory_update.specs.Run.Way.{lows_more}
use Rattle.theory_update.specs.Run.Lawful.{Lawful, here, next}
use Rattle.theory_fit.specs.Clean.{Clean, step_clean}
use Rattle.theory_fit.specs.StepFits.{step_fits}

pub lawful_fits : {n : ℕ} {pages : List Page} {ls ls' : List (List Node)} {rs : List Rec} → Lawful n pages ls rs ls' → Rules pages ls → Lows n pages
    → Clean pages → length pages ≤ map_bits
    → (p : ℕ) → p < length pages → page_fitted p n rs (at pages p)
unfolding run_ok
lawful_fits here k l c s p h = tt
lawful_fits {n} {pages} {ls} (next {ls₁ = ls₁} {r = r} {rs = rs} j y) k l c s p h =
    let e = length_redo_record n r pages in
    let g : at (redo_record n r pages) p ≡ run1 lsn_of (hits p) (act p) n r (at pages p) = get_record n r pages p h ∙ below1 lsn_of (hits p) (act p) (act_stamp p) n r (at pages p) (l p h) in (
      (λ z. step_fits pages s c ls ls₁ r j k p),
      subst (page_fitted p (suc n) rs) g
          (lawful_fits y (step_rules n pages s l ls ls₁ r j k) (lows_more n r pages l) (step_clean n pages l c ls ls₁ r j k) (omega arith) p (omega arith)),
    )

pub lawful_inside : {n : ℕ} {pages : List Page} {ls ls' : List (List Node)} {rs : List Rec} → Lawful n pages ls rs ls' → Rules pages ls → Lows n pages
    → length pages ≤ map_bits → AllInside (length pages) rs
unfolding AllInside
lawful_inside here k l s = tt
lawful_inside {n} {pages} {ls} (next {ls₁ = ls₁} {r = r} {rs = rs} j y) k l s =
    let e = length_redo_record n r pages in
    let z = pages_pos pages ls k in (
      names_inside (length pages) r (omega arith) (step_names pages ls ls₁ r j k),
      subst (λ m. AllInside m rs) e (lawful_inside y (step_rules n pages s l ls ls₁ r j k) (lows_more n r pages l) (omega arith)),
    )

-- Beyond the area every page reads as zeros.
pub lows_everywhere : (n : ℕ) (pages : List Page) → Lows (suc n) pages → (p : ℕ) → (at pages p).lsn < suc n
lows_everywhere n pages l p = go (dec_le (suc p) (length pages))
  where
    beyond : (xs : List Page) (q : ℕ) → length xs ≤ q → (at xs q).lsn ≡ 0
    beyond [] q h = refl
    beyond (x ∷ xs) zero h = absurd (omega arith)
    beyond (x ∷ xs) (suc q) h = beyond xs q (omega arith)

    go : Dec (p < length pages) → (at pages p).lsn < suc n
    go (yes h) = l p h
    go (no h) = let z = beyond pages p (omega arith) in omega arith

-- REDO NEVER ANSWERS 5: each page may hold the changes of another first part of the log.
pub never_five : (base : List Page) (ls ls' : List (List Node)) (log : List Rec) (pages : List Page) → Lawful 1 base ls log ls' → Rules base ls
    → Lows 1 base → Clean base → length base ≤ map_bits
    → length pages ≡ length base → Behind 1 (at base) log pages → redo_fits 1 log pages ≡ true
never_five base ls ls' log pages w k l c s e b =
    redo_fits_behind 1 (at base) log pages (lows_everywhere 0 base l) (subst (λ m. AllInside m log) (sym e) (lawful_inside w k l s)) (λ p h. lawful_fits w k l c s p (omega arith)) b

-- From pages that no record of the log was done to, whatever its first number.
pub never_five_from : (n : ℕ) (base : List Page) (ls ls' : List (List Node)) (log : List Rec) → Lawful (suc n) base ls log ls' → Rules base ls
    → Lows (suc n) base → Clean base → length base ≤ map_bits → redo_fits (suc n) log base ≡ true
never_five_from n base ls ls' log w k l c s =
    redo_fits_behind (suc n) (at base) log base (lows_everywhere n base l) (lawful_inside w k l s) (λ p h. lawful_fits w k l c s p h)
    (behind_more (suc n) (at base) [] log base (current_behind (suc n) (at base) [] base (base_current (suc n) (at base) base (λ p h. refl))))
