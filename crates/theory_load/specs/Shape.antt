-- THE TREE THAT A LOADING BUILDS has the shape of the rules, whatever pages hold it: covers, matches, sizes, root, and its leaves are the records.
use Prim.Native.Nat.{ℕ, zero, suc, ◌≤◌, ◌<◌}
use Rattle.std.specs.Prelude.{◌≡◌, refl, Bool, true, false, leb, eqb}
use Rattle.std.proofs.Common.{sym, ap, ◌∙◌, subst}
use mathlib.Core.List.{List, [], ◌∷◌, ◌++◌, append-nil, append_assoc}
use native.Mathlib.Omega.{arith}
use Rattle.std.proofs.Math.ListN.{length}
use Rattle.std.proofs.Math.Dec.{eqb-suc-zero}
use Rattle.def_base.specs.Tests.{pick, Case, yes!, no!, case, true_le, false_le, clash}
use Rattle.def_layout.specs.declared.Entry.{Entry}
use Rattle.def_layout.specs.Entries.{top}
use Rattle.def_layout.specs.Sizes.{room}
use Rattle.def_model.specs.Fit.{after}
use Rattle.def_model.specs.TreeRules.{Node, flat, bottom, leaves, least, root_least, first_page}
use Rattle.def_model.specs.Loading.{groups, group_count, group_nodes, links, tree_count, load_levels}
use Rattle.theory_tree.specs.Order.Keys.{Rising}
use Rattle.theory_tree.specs.Shape.Levels.{Match, ChainOk}
use Rattle.theory_tree.specs.Shape.Chains.{All}
use Rattle.theory_tree.specs.Shape.Trees.{is_bottom, Joined, Every}
use Rattle.theory_tree.specs.Shape.Sizes.{Sized, SizedLevel, Sizes}
use Rattle.theory_tree.specs.Shape.Rules.{Rooted}
use Rattle.theory_load.specs.Groups as groups
use Rattle.theory_load.specs.Groups.{joined, groups_join, groups_sized, groups_count}
use Rattle.theory_load.specs.Nodes.{nodes_flat, nodes_length, nodes_chain, ends_top, links_match, links_length, links_rise}

-- Each level's covers follow one another, and its pages are not too full.
unfoldable pub Covers : List (List Node) → Type 0
Covers [] = Unit {0}
Covers (ns ∷ ls) = ChainOk (is_bottom (length ls)) 0 ns (suc top) × All (λ n. length n.items ≤ room) ns × Covers ls

-- The entries of the level above stand for the first of these levels.
unfoldable pub Joins : List Entry → List (List Node) → Type 0
Joins es [] = Unit {0}
Joins es (ms ∷ ls) = Match es ms × Joined (ms ∷ ls)

pub record Shape (ls : List (List Node)) : Type 0 where
  pub covers : Covers ls
  pub matched : Joined ls
  pub sizes : Sizes ls

-- ---- the sizes of a level's pages

nodes_small : (p : ℕ) (gs : List (List Entry)) → groups.Sized gs → All (λ n. length n.items ≤ room) (group_nodes p gs)
unfolding All groups.Sized group_nodes
nodes_small p [] z = tt
nodes_small p (g ∷ []) z = let a = z.1 in (omega arith, tt)
nodes_small p (g ∷ h ∷ gs) z = let a = z.1 in (omega arith, nodes_small (suc p) (h ∷ gs) z.2)

nodes_least : (p : ℕ) (gs : List (List Entry)) → groups.Sized gs → All (Sized least) (group_nodes p gs)
unfolding All groups.Sized group_nodes
nodes_least p [] z = tt
nodes_least p (g ∷ []) z = let a = z.1 in let b = z.0 in ((omega arith, omega arith), tt)
nodes_least p (g ∷ h ∷ gs) z = let a = z.1 in let b = z.0 in ((omega arith, omega arith), nodes_least (suc p) (h ∷ gs) z.2)

-- ---- the root over levels that are there

abbrev root_of : List Entry → Node
root_of es = record { page = 1; high = top; items = es }

bottom_not : (n : ℕ) → is_bottom n ≡ false → 0 < n
bottom_not zero e = clash e
bottom_not (suc n) e = omega arith

module _ (es : List Entry) (downs : List (List Node)) (rises : Rising 0 es) (upto : after 0 es ≤ suc top) (full : 0 < length downs → after 0 es ≡ suc top) (some : 0 < length downs → 0 < length es)
    (covers : Covers downs) (joins : Joins es downs) (sized : Every (Sized least) downs) where
  root_joined : (ds : List (List Node)) → Joins es ds → Joined ((root_of es ∷ []) ∷ ds)
  unfolding Joins Joined flat
  root_joined [] j = tt
  root_joined (ms ∷ ls) j = (subst (λ x. Match x ms) (sym (append-nil es)) j.0, j.1)

  root_shape : length es ≤ room → Shape ((root_of es ∷ []) ∷ downs)
  unfolding Covers ChainOk All Sizes SizedLevel root_least
  root_shape few =
      record {
        covers = ((record { covers = omega arith; rises = rises; ends = ends_top (is_bottom (length downs)) (after 0 es) upto (λ e. full (bottom_not (length downs) e)) }, refl), (few, tt), covers);
        matched = root_joined downs joins;
        sizes = (((few, enough (length downs) some), tt), sized);
      }
    where
      enough : (n : ℕ) → (0 < n → 0 < length es) → pick (eqb n 0) 0 1 ≤ length es
      enough zero s = omega arith
      enough (suc n) s = rw (eqb-suc-zero n) (s (omega arith))

-- ---- the whole, over levels that are there

joins_on : (es : List Entry) (ns : List Node) (downs : List (List Node)) → flat ns ≡ es → Joins es downs → Joins (links ns) (ns ∷ downs)
unfolding Joins Joined
joins_on es ns [] e j = (links_match ns, tt)
joins_on es ns (ms ∷ ls) e j = (links_match ns, (subst (λ x. Match x ms) (sym e) j.0, j.1))

pub load_shape : (f : ℕ) (es : List Entry) (downs : List (List Node)) → length es ≤ f → Rising 0 es → after 0 es ≤ suc top → (0 < length downs → after 0 es ≡ suc top) → (0 < length downs → 0 < length es)
    → Covers downs → Joins es downs → Every (Sized least) downs → Shape (load_levels f es ++ downs)
unfolding load_levels Covers Every
load_shape zero es downs few r u full some c j z = root_shape es downs r u full some c j z (omega arith)
load_shape (suc f) es downs few r u full some c j z =
    go (case (leb (length es) room))
    (λ h a b d e g i. load_shape f (links (group_nodes (suc (tree_count f (group_count (length es)))) (groups (length es) es))) (group_nodes (suc (tree_count f (group_count (length es)))) (groups (length es) es) ∷ downs) h a b (λ q. d) (λ q. e) g i)
  where
    gs : List (List Entry)
    gs = groups (length es) es

    ns : List Node
    ns = group_nodes (suc (tree_count f (group_count (length es)))) gs

    More : Type 0
    More = length (links ns) ≤ f → Rising 0 (links ns) → after 0 (links ns) ≤ suc top → after 0 (links ns) ≡ suc top → 0 < length (links ns) → Covers (ns ∷ downs) → Joins (links ns) (ns ∷ downs) → Every (Sized least) (ns ∷ downs)
        → Shape (load_levels f (links ns) ++ ns ∷ downs)

    go : Case (leb (length es) room) → More → Shape (pick (leb (length es) room) ((root_of es ∷ []) ∷ []) (load_levels f (links ns) ++ ns ∷ []) ++ downs)
    go (yes! t) more = rw t (root_shape es downs r u full some c j z (true_le (length es) room t))
    go (no! t) more =
        let big = false_le (length es) room t in
        let whole : joined gs ≡ es = groups_join (length es) es in
        let sized = groups_sized (length es) es (omega arith) (omega arith) in
        let count : length gs ≡ group_count (length es) = groups_count (length es) es (omega arith) (omega arith) in
        let chain = nodes_chain (is_bottom (length downs)) (suc (tree_count f (group_count (length es)))) 0 gs (omega arith) sized (subst (Rising 0) (sym whole) r) (subst (λ x. after 0 x ≤ suc top) (sym whole) u)
        (λ e. ap (after 0) whole ∙ full (bottom_not (length downs) e)) in
        let (lr, la) = links_rise (is_bottom (length downs)) 0 (suc top) ns chain in
        let len : length (links ns) ≡ group_count (length es) = links_length ns ∙ nodes_length _ gs ∙ count in
        let fl : flat ns ≡ es = nodes_flat _ gs ∙ whole in
        let x = more (omega arith) lr (omega arith) la (omega arith) (chain, nodes_small _ gs sized, c) (joins_on es ns downs fl j) (nodes_least _ gs sized, z) in
        rw t (subst Shape (sym (append_assoc (load_levels f (links ns)) (ns ∷ []) downs)) x)

-- ---- the leaves are the records

bottom_last : (ups : List (List Node)) (ns : List Node) → bottom (ups ++ ns ∷ []) ≡ ns
unfolding bottom
bottom_last [] ns = refl
bottom_last (u ∷ []) ns = refl
bottom_last (u ∷ v ∷ ups) ns = bottom_last (v ∷ ups) ns

pub load_leaves : (f : ℕ) (es : List Entry) → leaves (load_levels f es) ≡ es
unfolding load_levels leaves bottom flat
load_leaves zero es = append-nil es
load_leaves (suc f) es = go (leb (length es) room)
  where
    ns : List Node
    ns = group_nodes (suc (tree_count f (group_count (length es)))) (groups (length es) es)

    go : (b : Bool) → flat (bottom (pick b ((root_of es ∷ []) ∷ []) (load_levels f (links ns) ++ ns ∷ []))) ≡ es
    go true = append-nil es
    go false = ap flat (bottom_last (load_levels f (links ns)) ns) ∙ nodes_flat _ (groups (length es) es) ∙ groups_join (length es) es

-- ---- the root is page 1

pub load_rooted : (f : ℕ) (es : List Entry) → Rooted (load_levels f es)
unfolding load_levels Rooted first_page
load_rooted zero es = refl
load_rooted (suc f) es = go (leb (length es) room) (load_rooted f (links (group_nodes (suc (tree_count f (group_count (length es)))) (groups (length es) es))))
  where
    ns : List Node
    ns = group_nodes (suc (tree_count f (group_count (length es)))) (groups (length es) es)

    more : (ls : List (List Node)) → Rooted ls → Rooted (ls ++ ns ∷ [])
    more [] r = absurd r
    more (l ∷ ls) r = r

    go : (b : Bool) → Rooted (load_levels f (links ns)) → Rooted (pick b ((root_of es ∷ []) ∷ []) (load_levels f (links ns) ++ ns ∷ []))
    go true r = refl
    go false r = more (load_levels f (links ns)) r
