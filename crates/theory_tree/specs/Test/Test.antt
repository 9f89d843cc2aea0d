-- THE TEST OF THE TREE RULES IS THE RULES, both ways.
use Rattle.std.specs.Prelude.{ℕ, zero, suc, ◌≤◌, ◌≡◌, refl, ◌⊎◌, true, false, List, [], ◌∷◌, length, get_or, leb, eqb}
use Rattle.std.proofs.Common.{sym, ap, ◌∙◌, inl, inr, arith}
use Rattle.def_base.specs.Tests.{le_true, true_le, and_true}
use Rattle.def_layout.specs.Entries.{top}
use Rattle.def_layout.specs.Pages.{Page, at}
use Rattle.def_model.specs.TreeRules.{Node, node_of, chain, collect, levels_of, first_page, walk_ok, tree_ok}
use Rattle.theory_tree.specs.Shape.Levels.{ChainOk}
use Rattle.theory_tree.specs.Shape.Trees.{LevelOk, Levels}
use Rattle.theory_tree.specs.Shape.Marks.{ones_le}
use Rattle.theory_tree.specs.Shape.Sizes.{SizedLevel, Sizes}
use Rattle.theory_tree.specs.Shape.Rules.{Rooted, Rules}
use Rattle.theory_tree.specs.Test.Sound.{Checked, tree_sound}
use Rattle.theory_tree.specs.Test.Complete.{collect_levels, short_of, root_level, tree_complete}

root_of : (f : ℕ) (pages : List Page) → (chain f pages 1 ≡ []) ⊎ (first_page (chain f pages 1) 0 ≡ 1)
unfolding chain first_page node_of
root_of zero pages = inl refl
root_of (suc f) pages = inr refl

collect_root : (l : ℕ) (pages : List Page) (r : List Node) (rest : List (List Node)) → collect l pages 1 ≡ r ∷ rest → r ≡ chain (length pages) pages 1
unfolding collect
collect_root zero pages r rest e = ap (λ z. elim z [ [] ↦ r | x ∷ xs ↦ x ]) (sym e)
collect_root (suc l) pages r rest e = ap (λ z. elim z [ [] ↦ r | x ∷ xs ↦ x ]) (sym e)

pub test_sound : (pages : List Page) → tree_ok pages ≡ true → Rules pages (levels_of pages)
unfolding tree_ok Sizes SizedLevel Levels Rooted ChainOk
test_sound pages t =
    let (w, u) = and_true (leb (length pages) (length (at pages 0).marks)) _ t in
    let (a, b) = and_true (get_or (at pages 0).marks 0 false) (walk_ok pages) u in
    let k = tree_sound pages b in
    go (collect (at pages 1).level pages 1) refl (true_le _ _ w) a k
  where
    rooted : (r : List Node) (rest : List (List Node)) → LevelOk pages (length rest) r → (r ≡ []) ⊎ (first_page r 0 ≡ 1) → first_page r 0 ≡ 1
    rooted r rest k (inr e) = e
    rooted r rest k (inl e) = let c : ChainOk (eqb (length rest) 0) 0 [] (suc top) = rw e at k.chain in let z : 0 ≡ suc top = c in absurd (omega (arith, z))

    go : (ls : List (List Node)) → collect (at pages 1).level pages 1 ≡ ls → length pages ≤ length (at pages 0).marks
        → get_or (at pages 0).marks 0 false ≡ true → Checked pages ls → Rules pages ls
    go ls w l a k =
        rw k.whole
        (record {
          levels = k.levels;
          joined = k.joined;
          sizes = (k.root_size, k.sizes);
          rooted = rooted k.root k.rest k.levels.0 (rw (collect_root (at pages 1).level pages k.root k.rest (w ∙ k.whole)) (root_of (length pages) pages));
          mapped = record { wide = l; itself = a; marked = k.marked; count = k.count };
        })

pub test_complete : (pages : List Page) (ls : List (List Node)) → Rules pages ls → tree_ok pages ≡ true
unfolding tree_ok Sizes SizedLevel Levels Rooted
test_complete pages [] k = absurd k.sizes
test_complete pages (r ∷ rest) k =
    rw (le_true (length pages) (length (at pages 0).marks) k.mapped.wide, k.mapped.itself)
    (tree_complete pages (r ∷ rest)
    (record { root = r; rest = rest; whole = refl; levels = k.levels; joined = k.joined; root_size = k.sizes.0; sizes = k.sizes.1; marked = k.mapped.marked; count = k.mapped.count })
    k.rooted)

pub rules_levels : (pages : List Page) (ls : List (List Node)) → Rules pages ls → levels_of pages ≡ ls
unfolding Sizes Rooted Levels
rules_levels pages [] k = absurd k.sizes
rules_levels pages (r ∷ rest) k =
    let n = ones_le (length pages) (at pages 0).marks in
    let c = k.mapped.count in
    let s = short_of (length pages) (r ∷ rest) (omega arith) in
    let v = root_level pages (length rest) r k.levels.0 k.rooted in
    (λ i. collect (v i) pages (sym k.rooted i)) ∙ collect_levels pages r rest k.levels k.joined s
