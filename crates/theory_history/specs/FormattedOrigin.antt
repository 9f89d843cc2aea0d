-- A FORMATTED REGISTER as an origin: a map, an empty root, and no slides.
use Rattle.std.specs.Prelude.{ℕ, zero, suc, ◌-◌, ◌≤◌, ◌≡◌, refl, true, [], ◌∷◌, get_or, replicate}
use Rattle.std.proofs.Common.{sym, ap, subst, arith, lit<, lit≤}
use Rattle.std.proofs.Math.ListN.{get_or-eq_default}
use Rattle.def_layout.specs.Numbers.{tab}
use Rattle.def_layout.specs.Pages.{at, zero_page}
use Rattle.def_model.specs.TreeRules.{tree_ok, bottom, flat, leaves, leaf_records}
use Rattle.def_model.specs.Calls.{formatted_pages}
use Rattle.law_bytes.specs.Tables.{tab_is}
use Rattle.law_bytes.specs.PageBytes.{BodyFits, Fits as PageFits}
use Rattle.law_areas.specs.Typed.{formatted_length}
use Rattle.law_areas.specs.Pages.{zero_fits}
use Rattle.theory_tree.specs.Order.Keys.{Rising}
use Rattle.theory_tree.specs.Test.Test.{rules_levels}
use Rattle.theory_tree.specs.Shape.Formatted.{empty_root, formatted_rules, formatted_tree_ok, formatted_numbers}
use Rattle.theory_fit.specs.Clean.{Clean}
use Rattle.theory_pages.specs.Layout.{Laid}
use Rattle.theory_pages.specs.FormattedPages.{formatted_laid, formatted_clean}
use Rattle.theory_history.specs.Origin.{Origin, origin_pages}

-- More pages than two are zero pages.
formatted_at : (n p : ℕ) → at (formatted_pages 2) p ≡ at (formatted_pages n) p
unfolding formatted_pages
formatted_at n zero = refl
formatted_at n (suc zero) = refl
formatted_at n (suc (suc p)) = unused (n - 2) p
  where
    unused : (m q : ℕ) → zero_page ≡ get_or (replicate m zero_page) q zero_page
    unused zero q = refl
    unused (suc m) zero = refl
    unused (suc m) (suc q) = unused m q

pub same_pages : (n : ℕ) → 2 ≤ n → tab n (at (formatted_pages 2)) ≡ formatted_pages n
same_pages n h = tab_is n (at (formatted_pages 2)) (formatted_pages n) zero_page (formatted_length n h) (λ p l. formatted_at n p)

pub no_leaves : leaf_records (formatted_pages 2) ≡ []
unfolding leaf_records leaves bottom flat
no_leaves = ap leaves (rules_levels (formatted_pages 2) ((empty_root ∷ []) ∷ []) (formatted_rules 2 (omega arith)))

pub two_fit : (p : ℕ) → PageFits (at (formatted_pages 2) p)
unfolding formatted_pages BodyFits
two_fit zero =
    record { level = lit< tt; right = lit< tt; high = lit< tt; lsn = lit< tt; own = lit< tt; body = record { entries = refl; marks = refl } }
two_fit (suc zero) =
    record { level = lit< tt; right = lit< tt; high = lit< tt; lsn = lit< tt; own = lit< tt; body = record { count = lit≤ tt; entry = λ i. (lit< tt, lit< tt); marks = refl } }
two_fit (suc (suc p)) = zero_fits

unfoldable pub formatted_origin : Origin
unfolding Rising
formatted_origin =
    let e : formatted_pages 2 ≡ tab 2 (at (formatted_pages 2)) = sym (same_pages 2 (omega arith)) in
    record {
      base = at (formatted_pages 2);
      least = 2;
      slides = [];
      tree = subst (λ xs. tree_ok xs ≡ true) e (formatted_tree_ok 2 (omega arith));
      laid = subst Laid e (formatted_laid 2);
      clean = subst Clean e (formatted_clean 2);
      held = subst (λ xs. leaf_records xs ≡ []) e no_leaves;
      rising = tt;
      numbers = formatted_numbers 2;
      fits = two_fit;
      beyond = λ p h. get_or-eq_default (formatted_pages 2) zero_page (omega (arith, formatted_length 2 (omega arith)));
    }

pub formatted_is : (n : ℕ) → 2 ≤ n → origin_pages formatted_origin n ≡ formatted_pages n
unfolding formatted_origin
formatted_is n h = same_pages n h
