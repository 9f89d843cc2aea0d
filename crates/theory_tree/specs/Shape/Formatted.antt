-- The pages of a formatted register keep the rules, whatever their count.
use Rattle.std.specs.Prelude.{ℕ, zero, suc, ◌-◌, ◌≤◌, ◌≡◌, refl, Bool, true, false, List, [], ◌∷◌, length, get_or, take, replicate}
use Rattle.std.proofs.Common.{arith}
use Rattle.std.proofs.lemmas.List.{length-replicate}
use Rattle.def_layout.specs.Entries.{top}
use Rattle.def_layout.specs.Pages.{Page, node_at, zero_page, at, map_bits, map_page}
use Rattle.def_model.specs.Fit.{after}
use Rattle.def_model.specs.TreeRules.{Node, first_page, counted, ones, root_least, tree_ok}
use Rattle.def_model.specs.Calls.{formatted_pages}
use Rattle.theory_tree.specs.Order.Keys.{Rising}
use Rattle.theory_tree.specs.Shape.Levels.{ChainOk}
use Rattle.theory_tree.specs.Shape.Chains.{Chained, All}
use Rattle.theory_tree.specs.Shape.Trees.{Levels, Joined, Every}
use Rattle.theory_tree.specs.Shape.Sizes.{SizedLevel, Sizes}
use Rattle.theory_tree.specs.Shape.Rules.{Rooted, Rules}
use Rattle.theory_tree.specs.Test.Test.{test_complete}

abbrev pub empty_root : Node
empty_root = record { page = 1; high = top; items = [] }

no_ones : (k n : ℕ) → ones (take k (replicate n false)) ≡ 0
unfolding ones
no_ones zero n = refl
no_ones (suc k) zero = refl
no_ones (suc k) (suc n) = no_ones k n

-- The map, the root, and n pages beside them.
abbrev first_pages : List Bool → ℕ → List Page
first_pages m n = map_page m ∷ node_at 1 0 0 top [] ∷ replicate n zero_page

first_rules : (bits n : ℕ) → n ≤ bits → Rules (first_pages (true ∷ true ∷ replicate bits false) n) ((empty_root ∷ []) ∷ [])
unfolding Levels Joined Sizes SizedLevel Rooted Every All Chained ChainOk Rising after first_page root_least counted ones
first_rules bits n h =
    let l = length-replicate n zero_page in
    let b = length-replicate bits false in
    record {
      levels = (
        record {
          chain = (record { covers = omega arith; rises = tt; ends = omega arith }, refl);
          chained = (omega arith, omega arith, record { kind = refl; level = refl; right = refl; high = refl; items = refl }, tt);
          small = (omega arith, tt);
        },
        tt,
      );
      joined = tt;
      sizes = (((omega arith, omega arith), tt), tt);
      rooted = refl;
      mapped = record { wide = omega arith; itself = refl; marked = ((refl, tt), tt); count = let z = no_ones (length (replicate n zero_page)) bits in omega arith };
    }

pub formatted_rules : (n : ℕ) → n ≤ map_bits → Rules (formatted_pages n) ((empty_root ∷ []) ∷ [])
unfolding formatted_pages
formatted_rules n h = first_rules 894 (n - 2) (omega arith)

pub formatted_tree_ok : (n : ℕ) → n ≤ map_bits → tree_ok (formatted_pages n) ≡ true
formatted_tree_ok n h = test_complete (formatted_pages n) ((empty_root ∷ []) ∷ []) (formatted_rules n h)

pub formatted_numbers : (n p : ℕ) → (at (formatted_pages n) p).lsn ≡ 0
unfolding formatted_pages
formatted_numbers n zero = refl
formatted_numbers n (suc zero) = refl
formatted_numbers n (suc (suc p)) = numbers (n - 2) p
  where
    numbers : (n p : ℕ) → (get_or (replicate n zero_page) p zero_page).lsn ≡ 0
    numbers zero p = refl
    numbers (suc n) zero = refl
    numbers (suc n) (suc p) = numbers n p
