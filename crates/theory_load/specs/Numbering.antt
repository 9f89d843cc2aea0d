-- THE PAGES OF A LOADED TREE ARE NUMBERED from 1 on, level after level: so each level is chained on the pages that are laid out in that order.
use Rattle.std.specs.Prelude.{ℕ, zero, suc, ◌+◌, ◌≤◌, ◌<◌, ◌≡◌, refl, List, [], ◌∷◌, ◌++◌, length, leb}
use Rattle.std.proofs.Common.{sym, ap, ◌∙◌, subst, append_assoc, arith, length-append}
use Rattle.std.proofs.Math.Seq.{get_or-append_seam}
use Rattle.def_base.specs.Tests.{Case, yes!, no!, case, false_le}
use Rattle.def_layout.specs.declared.Entry.{Entry}
use Rattle.def_layout.specs.Sizes.{room}
use Rattle.def_layout.specs.Pages.{Page, at, zero_page, node_at}
use Rattle.def_model.specs.TreeRules.{Node, first_page}
use Rattle.def_model.specs.Loading.{groups, group_count, group_nodes, links, tree_count, load_levels, level_pages, levels_pages}
use Rattle.theory_tree.specs.Shape.Chains.{Chained}
use Rattle.theory_tree.specs.Shape.Trees.{Levels}
use Rattle.theory_load.specs.Groups.{groups_count}
use Rattle.theory_load.specs.Nodes.{nodes_length, links_length}
use Rattle.theory_load.specs.Shape.{Covers}

unfoldable pub Numbered : ℕ → List Node → Type 0
Numbered p [] = Unit {0}
Numbered p (n ∷ ns) = (n.page ≡ p) × Numbered (suc p) ns

unfoldable pub AllNumbered : ℕ → List (List Node) → Type 0
AllNumbered p [] = Unit {0}
AllNumbered p (ns ∷ ls) = Numbered p ns × AllNumbered (p + length ns) ls

unfoldable pub total : List (List Node) → ℕ
total [] = 0
total (ns ∷ ls) = length ns + total ls

-- ---- a loading's levels

pub nodes_numbered : (p : ℕ) (gs : List (List Entry)) → Numbered p (group_nodes p gs)
unfolding Numbered group_nodes
nodes_numbered p [] = tt
nodes_numbered p (g ∷ []) = (refl, tt)
nodes_numbered p (g ∷ h ∷ gs) = (refl, nodes_numbered (suc p) (h ∷ gs))

numbered_end : (p : ℕ) (ls : List (List Node)) (ns : List Node) → AllNumbered p ls → Numbered (p + total ls) ns → AllNumbered p (ls ++ ns ∷ [])
unfolding AllNumbered total
numbered_end p [] ns a b = (subst (λ q. Numbered q ns) (omega arith) b, tt)
numbered_end p (l ∷ ls) ns a b = (a.0, numbered_end (p + length l) ls ns a.1 (subst (λ q. Numbered q ns) (omega arith) b))

total_end : (ls : List (List Node)) (ns : List Node) → total (ls ++ ns ∷ []) ≡ total ls + length ns
unfolding total
total_end [] ns = omega arith
total_end (l ∷ ls) ns = let i = total_end ls ns in omega arith

pub record Numbers (f : ℕ) (es : List Entry) : Type 0 where
  pub numbered : AllNumbered 1 (load_levels f es)
  pub count : total (load_levels f es) ≡ tree_count f (length es)

pub load_numbers : (f : ℕ) (es : List Entry) → length es ≤ f → Numbers f es
unfolding AllNumbered load_levels Numbered tree_count total
load_numbers zero es few = record { numbered = ((refl, tt), tt); count = refl }
load_numbers (suc f) es few = go (case (leb (length es) room)) (λ h. load_numbers f (links (group_nodes (suc (tree_count f (group_count (length es)))) (groups (length es) es))) h)
  where
    gs : List (List Entry)
    gs = groups (length es) es

    ns : List Node
    ns = group_nodes (suc (tree_count f (group_count (length es)))) gs

    go : Case (leb (length es) room) → (length (links ns) ≤ f → Numbers f (links ns)) → Numbers (suc f) es
    go (yes! t) more = record { numbered = rw t ((refl, tt), tt); count = rw t refl }
    go (no! t) more =
        let big = false_le (length es) room t in
        let count : length gs ≡ group_count (length es) = groups_count (length es) es (omega arith) (omega arith) in
        let len : length (links ns) ≡ group_count (length es) = links_length ns ∙ nodes_length _ gs ∙ count in
        let x = more (omega arith) in
        let c : total (load_levels f (links ns)) ≡ tree_count f (group_count (length es)) = x.count ∙ ap (tree_count f) len in
        let k : length ns ≡ group_count (length es) = nodes_length _ gs ∙ count in
        record {
          numbered = rw t (numbered_end 1 (load_levels f (links ns)) ns x.numbered (subst (λ q. Numbered q ns) (omega arith) (nodes_numbered (suc (tree_count f (group_count (length es)))) gs)));
          count = rw t (total_end (load_levels f (links ns)) ns ∙ omega arith);
        }

-- ---- on the pages

chained_in : (pre post : List Page) (l : ℕ) (ns : List Node) → 0 < length pre → Numbered (length pre) ns → Chained (pre ++ (level_pages l ns ++ post)) l ns 0
unfolding Numbered Chained level_pages
chained_in pre post l [] h k = tt
chained_in pre post l (n ∷ ns) h k =
    let x = node_at n.page l (first_page ns 0) n.high n.items in
    let here : at (pre ++ x ∷ (level_pages l ns ++ post)) n.page ≡ x = ap (at (pre ++ x ∷ (level_pages l ns ++ post))) k.0 ∙ get_or-append_seam pre x (level_pages l ns ++ post) zero_page in
    let e : (pre ++ x ∷ []) ++ (level_pages l ns ++ post) ≡ pre ++ x ∷ (level_pages l ns ++ post) = append_assoc pre (x ∷ []) (level_pages l ns ++ post) in
    let len : length (pre ++ x ∷ []) ≡ suc (length pre) = length-append pre (x ∷ []) ∙ omega arith in
    let all = length-append pre (x ∷ level_pages l ns ++ post) in
    let num = k.0 in
    let rest = chained_in (pre ++ x ∷ []) post l ns (omega arith) (subst (λ q. Numbered q ns) (sym len) k.1) in (
      omega arith,
      omega arith,
      record { kind = ap (λ y. y.kind) here; level = ap (λ y. y.level) here; right = ap (λ y. y.right) here; high = ap (λ y. y.high) here; items = ap (λ y. y.entries) here },
      subst (λ pages. Chained pages l ns 0) e rest,
    )

pub level_length : (l : ℕ) (ns : List Node) → length (level_pages l ns) ≡ length ns
unfolding level_pages
level_length l [] = refl
level_length l (n ∷ ns) = ap suc (level_length l ns)

pub levels_in : (pre post : List Page) (ls : List (List Node)) → 0 < length pre → AllNumbered (length pre) ls → Covers ls → Levels (pre ++ (levels_pages ls ++ post)) ls
unfolding AllNumbered Covers Levels levels_pages
levels_in pre post [] h k c = tt
levels_in pre post (ns ∷ ls) h k c =
    let l = length ls in
    let one : (level_pages l ns ++ levels_pages ls) ++ post ≡ level_pages l ns ++ (levels_pages ls ++ post) = append_assoc (level_pages l ns) (levels_pages ls) post in
    let two : (pre ++ level_pages l ns) ++ (levels_pages ls ++ post) ≡ pre ++ ((level_pages l ns ++ levels_pages ls) ++ post) = append_assoc pre (level_pages l ns) (levels_pages ls ++ post) ∙ ap (pre ++◌) (sym one) in
    let len : length (pre ++ level_pages l ns) ≡ length pre + length ns = length-append pre (level_pages l ns) ∙ ap (length pre +◌) (level_length l ns) in
    let chained : Chained (pre ++ ((level_pages l ns ++ levels_pages ls) ++ post)) l ns 0 = subst (λ xs. Chained (pre ++ xs) l ns 0) (sym one) (chained_in pre (levels_pages ls ++ post) l ns h k.0) in (
      record { chain = c.0; chained = chained; small = c.1 },
      subst (λ pages. Levels pages ls) two (levels_in (pre ++ level_pages l ns) post ls (omega arith) (subst (λ q. AllNumbered q ls) (sym len) k.1) c.2),
    )
