-- The children of a tree fit in ten bits.
use Rattle.std.specs.Prelude.{ℕ, ◌≤◌, ◌≡◌, refl, Bool, true, false, ◌||◌, List, [], ◌∷◌, ◌++◌, length, ltb}
use Rattle.std.proofs.Common.{subst, arith}
use Rattle.def_base.specs.Tests.{lt_true, and_true}
use Rattle.def_layout.specs.declared.Entry.{Entry}
use Rattle.def_layout.specs.Entries.{ten_bits}
use Rattle.def_layout.specs.Pages.{Page, map_bits}
use Rattle.def_model.specs.Fit.{is_leaf, children_in}
use Rattle.def_model.specs.TreeRules.{Node, flat}
use Rattle.theory_tree.specs.Shape.Levels.{flat_append, Match, done, one, two}
use Rattle.theory_tree.specs.Shape.Chains.{IsNode, Chained}
use Rattle.theory_tree.specs.Shape.Trees.{Levels, Joined}
use Rattle.theory_fit.specs.Judging.{leaf_test, index_not_leaf}

pub match_bits : (pages : List Page) (l next : ℕ) {es : List Entry} {ns : List Node} → length pages ≤ map_bits → Match es ns → Chained pages l ns next
    → ten_bits es ≡ true
unfolding ten_bits Chained
match_bits pages l next h done c = refl
match_bits pages l next h (one {e = e} {n = n} a b m) c =
    let k = c.1 in rw (lt_true e.val 1024 (omega arith)) (match_bits pages l next h m c.3)
match_bits pages l next h (two {e = e} {n = n} a b d m) c =
    let k = c.1 in rw (lt_true e.val 1024 (omega arith)) (match_bits pages l next h m c.3.3)

pub bits_part : (a b c : List Entry) → ten_bits (a ++ (b ++ c)) ≡ true → ten_bits b ≡ true
unfolding ten_bits
bits_part [] [] c t = refl
bits_part [] (e ∷ b) c t = let (x, y) = and_true (ltb e.val 1024) (ten_bits (b ++ c)) t in rw x (bits_part [] b c y)
bits_part (e ∷ a) b c t = bits_part a b c (and_true (ltb e.val 1024) (ten_bits (a ++ (b ++ c))) t).1

pub children_part : (x : Page) (a b c : List Entry) → children_in x (a ++ (b ++ c)) ≡ true → children_in x b ≡ true
children_part x a b c t = go (is_leaf x) t
  where
    go : (l : Bool) → l || ten_bits (a ++ (b ++ c)) ≡ true → l || ten_bits b ≡ true
    go true t = refl
    go false t = bits_part a b c t

pub node_bits : (pages : List Page) (xs : List Node) (n : Node) (ys : List Node) (downs : List (List Node)) (x : Page) (next : ℕ) (q : Node)
    → length pages ≤ map_bits → Levels pages ((xs ++ n ∷ ys) ∷ downs) → Joined ((xs ++ n ∷ ys) ∷ downs)
    → IsNode x (length downs) next q → children_in x n.items ≡ true
unfolding Levels Joined flat
node_bits pages xs n ys [] x next q h lv j i = rw (leaf_test x next q i)
node_bits pages xs n ys (d ∷ ds) x next q h lv j i =
    let m : Match (flat xs ++ (n.items ++ flat ys)) d = subst (λ z. Match z d) (flat_append xs (n ∷ ys)) j.0 in
    rw (index_not_leaf x (length ds) next q i) (bits_part (flat xs) n.items (flat ys) (match_bits pages (length ds) 0 h m lv.1.0.chained))

pub below_of : (pages : List Page) (ups : List (List Node)) (ns : List Node) (downs : List (List Node)) → Levels pages (ups ++ ns ∷ downs)
    → Levels pages (ns ∷ downs)
unfolding Levels
below_of pages [] ns downs lv = lv
below_of pages (u ∷ ups) ns downs lv = below_of pages ups ns downs lv.1
