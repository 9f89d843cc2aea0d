-- WHAT A LOADING BUILDS KEEPS THE TREE RULES, and its leaves are the records (02, U3: "The tree obeys the tree rules and holds exactly the columns' records").
use Prim.Native.Nat.{ℕ, zero, suc, ◌+◌, ◌-◌, ◌≤◌, ◌<◌}
use Rattle.std.specs.Prelude.{◌≡◌, refl, length, get_or, take}
use Rattle.std.proofs.Math.Path.{sym, ap, subst}
use Rattle.std.proofs.Common.{◌∙◌, arith}
use Rattle.std.proofs.Math.Bool.{true, false}
use mathlib.Core.List.{List, [], ◌∷◌, ◌++◌, append-nil}
use Rattle.std.proofs.Math.ListN.{replicate, length-append, length-replicate}
use Rattle.def_layout.specs.declared.Entry.{Entry}
use Rattle.def_layout.specs.Entries.{top}
use Rattle.def_layout.specs.Pages.{Page, at, zero_page, map_page, map_bits}
use Rattle.def_model.specs.Fit.{after}
use Rattle.def_model.specs.TreeRules.{Node, counted, ones, leaf_records, leaves, tree_ok}
use Rattle.def_model.specs.Loading.{level_pages, levels_pages, loaded_levels, loaded_count, loaded_pages}
use Rattle.theory_tree.specs.Order.Keys.{Rising}
use Rattle.theory_tree.specs.Shape.Chains.{All}
use Rattle.theory_tree.specs.Shape.Trees.{Every}
use Rattle.theory_tree.specs.Shape.Rules.{Rules, every_map}
use Rattle.theory_tree.specs.Test.Test.{test_complete, rules_levels}
use Rattle.theory_load.specs.Shape.{Covers, Joins, Shape, load_shape, load_leaves, load_rooted}
use Rattle.theory_load.specs.Numbering.{Numbered, AllNumbered, total, load_numbers, level_length, levels_in}

-- ---- marks

marks_true : (u k p : ℕ) → p < u → get_or (replicate u true ++ replicate k false) p false ≡ true
marks_true zero k p h = absurd (omega arith)
marks_true (suc u) k zero h = refl
marks_true (suc u) k (suc p) h = marks_true u k p (omega arith)

no_ones : (k n : ℕ) → ones (take n (replicate k false)) ≡ 0
unfolding ones
no_ones k zero = refl
no_ones zero (suc n) = refl
no_ones (suc k) (suc n) = no_ones k n

marks_ones : (u k n : ℕ) → u ≤ n → ones (take n (replicate u true ++ replicate k false)) ≡ u
unfolding ones
marks_ones zero k n h = no_ones k n
marks_ones (suc u) k zero h = absurd (omega arith)
marks_ones (suc u) k (suc n) h = ap suc (marks_ones u k n (omega arith))

-- ---- the pages reached

numbered_below : (p : ℕ) (ns : List Node) (m : ℕ) → Numbered p ns → p + length ns ≤ m → All (λ n. n.page < m) ns
unfolding Numbered All
numbered_below p [] m k h = tt
numbered_below p (n ∷ ns) m k h = let e = k.0 in (omega arith, numbered_below (suc p) ns m k.1 (omega arith))

all_below : (p : ℕ) (ls : List (List Node)) (m : ℕ) → AllNumbered p ls → p + total ls ≤ m → Every (λ n. n.page < m) ls
unfolding AllNumbered total Every
all_below p [] m k h = tt
all_below p (ns ∷ ls) m k h = (numbered_below p ns m k.0 (omega arith), all_below (p + length ns) ls m k.1 (omega arith))

counted_total : (ls : List (List Node)) → counted ls ≡ suc (total ls)
unfolding counted total
counted_total [] = refl
counted_total (l ∷ ls) = let i = counted_total ls in omega arith

pages_total : (ls : List (List Node)) → length (levels_pages ls) ≡ total ls
unfolding levels_pages total
pages_total [] = refl
pages_total (ns ∷ ls) = let a = length-append (level_pages (length ls) ns) (levels_pages ls) in let b = level_length (length ls) ns in let c = pages_total ls in omega arith

-- ---- beyond them

-- More pages are zero pages.
pub rest_zero : (xs : List Page) (k p : ℕ) → get_or (xs ++ replicate k zero_page) p zero_page ≡ get_or xs p zero_page
rest_zero [] zero p = refl
rest_zero [] (suc k) zero = refl
rest_zero [] (suc k) (suc p) = rest_zero [] k p
rest_zero (x ∷ xs) k zero = refl
rest_zero (x ∷ xs) k (suc p) = rest_zero xs k p

pub same_at : (es : List Entry) (n m p : ℕ) → at (loaded_pages n es) p ≡ at (loaded_pages m es) p
unfolding loaded_pages
same_at es n m zero = refl
same_at es n m (suc p) = rest_zero (levels_pages (loaded_levels es)) (n - suc (loaded_count (length es))) p ∙ sym (rest_zero (levels_pages (loaded_levels es)) (m - suc (loaded_count (length es))) p)

-- ---- the rules

count : (es : List Entry) → total (loaded_levels es) ≡ loaded_count (length es)
count es = (load_numbers (length es) es (omega arith)).count

pub loaded_length : (n : ℕ) (es : List Entry) → suc (loaded_count (length es)) ≤ n → length (loaded_pages n es) ≡ n
unfolding loaded_pages
loaded_length n es enough =
    let a = length-append (levels_pages (loaded_levels es)) (replicate (n - suc (loaded_count (length es))) zero_page) in
    let b = pages_total (loaded_levels es) in
    let c = length-replicate (n - suc (loaded_count (length es))) zero_page in
    let d = count es in
    omega arith

module _ (n : ℕ) (es : List Entry) (enough : suc (loaded_count (length es)) ≤ n) (most : n ≤ map_bits) (rises : Rising 0 es) (upto : after 0 es ≤ suc top) where
  pub loaded_rules : Rules (loaded_pages n es) (loaded_levels es)
  unfolding loaded_pages Covers Joins Every
  loaded_rules =
      let s = load_shape (length es) es [] (omega arith) rises upto (λ h. absurd (omega arith)) (λ h. absurd (omega arith)) tt tt tt in
      let k = load_numbers (length es) es (omega arith) in
      let marks = replicate (suc (loaded_count (length es))) true ++ replicate (map_bits - suc (loaded_count (length es))) false in
      let len = loaded_length n es enough in
      let a = length-append (replicate (suc (loaded_count (length es))) true) (replicate (map_bits - suc (loaded_count (length es))) false) in
      let b = length-replicate (suc (loaded_count (length es))) true in
      let c = length-replicate (map_bits - suc (loaded_count (length es))) false in
      let sh = subst Shape (append-nil (loaded_levels es)) s in
      let t = count es in
      let ct = counted_total (loaded_levels es) in
      record {
        levels = levels_in (map_page marks ∷ []) (replicate (n - suc (loaded_count (length es))) zero_page) (loaded_levels es) (omega arith) k.numbered sh.covers;
        joined = sh.matched;
        sizes = sh.sizes;
        rooted = load_rooted (length es) es;
        mapped = record {
          wide = omega arith;
          itself = marks_true (suc (loaded_count (length es))) (map_bits - suc (loaded_count (length es))) 0 (omega arith);
          marked = every_map _ _ (λ x h. marks_true (suc (loaded_count (length es))) (map_bits - suc (loaded_count (length es))) x.page h) (loaded_levels es) (all_below 1 (loaded_levels es) (suc (loaded_count (length es))) k.numbered (omega arith));
          count = ct ∙ ap suc t ∙ sym (marks_ones (suc (loaded_count (length es))) (map_bits - suc (loaded_count (length es))) (length (loaded_pages n es)) (omega arith));
        };
      }

  pub loaded_tree : tree_ok (loaded_pages n es) ≡ true
  loaded_tree = test_complete (loaded_pages n es) (loaded_levels es) loaded_rules

  pub loaded_leaves : leaf_records (loaded_pages n es) ≡ es
  unfolding leaf_records
  loaded_leaves = ap leaves (rules_levels (loaded_pages n es) (loaded_levels es) loaded_rules) ∙ load_leaves (length es) es
