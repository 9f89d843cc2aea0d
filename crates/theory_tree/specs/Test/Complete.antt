-- What keeps the tree rules passes the test; the walk finds the levels.
use Rattle.std.specs.Prelude.{ℕ, suc, ◌≤◌, ◌<◌, ◌≡◌, refl, Bool, true, false, List, [], ◌∷◌, ◌++◌, length, eqb}
use Rattle.std.proofs.Common.{sym, ap, ◌∙◌, arith}
use Rattle.std.proofs.Math.Dec.{eqb-suc-zero}
use Rattle.def_base.specs.Tests.{lt_true, eq_true, le_true}
use Rattle.def_layout.specs.declared.Entry.{Entry}
use Rattle.def_layout.specs.Entries.{top}
use Rattle.def_layout.specs.Sizes.{room}
use Rattle.def_layout.specs.Pages.{page_kind_number, kind_is, Page, kind_at, at}
use Rattle.def_layout.specs.declared.page.PageKind.{PageKind}
use Rattle.def_layout.specs.declared.page.PageKind.TheVariants.{Free, Leaf, Index, Map}
use Rattle.def_model.specs.Fit.{after}
use Rattle.def_model.specs.TreeRules.{Node, flat, first_child, collect, rising, ends_ok, node_ok, level_ok, first_page, pages_ok, least, below_ok, counted, root_least, levels_ok, walk_ok}
use Rattle.theory_tree.specs.Order.Keys.{Rising}
use Rattle.theory_tree.specs.Shape.Levels.{Match, one, two, matches_true, Ends, NodeOk, ChainOk}
use Rattle.theory_tree.specs.Shape.Chains.{Chained, walk_chain, All}
use Rattle.theory_tree.specs.Shape.Trees.{LevelOk, Levels, Joined, Every}
use Rattle.theory_tree.specs.Shape.Marks.{ones_le}
use Rattle.theory_tree.specs.Shape.Sizes.{Sized}
use Rattle.theory_tree.specs.Shape.Rules.{Marked}
use Rattle.theory_tree.specs.Test.Sound.{Checked}

rising_complete : (from : ℕ) (es : List Entry) → Rising from es → rising from es ≡ true
unfolding rising Rising
rising_complete from [] r = refl
rising_complete from (e ∷ es) r = rw (le_true from e.key r.0) (rising_complete (suc e.key) es r.1)

ends_complete : (b : Bool) (a h : ℕ) → Ends b a h → ends_ok b a h ≡ true
unfolding ends_ok
ends_complete true a h e = le_true a (suc h) e
ends_complete false a h e = eq_true a (suc h) e

pub level_complete : (b : Bool) (least from : ℕ) (ns : List Node) → ChainOk b from ns (suc top) → All (Sized least) ns
    → level_ok b least from ns ≡ true
unfolding level_ok node_ok ChainOk All
level_complete b least from [] c z = eq_true from (suc top) c
level_complete b least from (n ∷ ns) c z =
    rw (
      le_true from n.high c.0.covers,
      rising_complete from n.items c.0.rises,
      ends_complete b (after from n.items) n.high c.0.ends,
      le_true (length n.items) room z.0.0,
      le_true least (length n.items) z.0.1,
    )
    (level_complete b least (suc n.high) ns c.1 z.1)

pub kind_complete : (k : PageKind) → kind_is k k ≡ true
unfolding kind_is page_kind_number
kind_complete Free = refl
kind_complete Leaf = refl
kind_complete Index = refl
kind_complete Map = refl

pub pages_complete : (pages : List Page) (l : ℕ) (ns : List Node) → Chained pages l ns 0 → All (Marked pages) ns → pages_ok pages l ns ≡ true
unfolding pages_ok Chained All
pages_complete pages l [] c m = refl
pages_complete pages l (n ∷ ns) c m =
    rw (
      lt_true 0 n.page c.0,
      lt_true n.page (length pages) c.1,
      c.2.kind,
      kind_complete (kind_at l),
      eq_true (at pages n.page).level l c.2.level,
      eq_true (at pages n.page).right (first_page ns 0) c.2.right,
      m.0,
    )
    (pages_complete pages l ns c.3 m.1)

below_complete : (pages : List Page) (upper : List Node) (rest : List (List Node)) → Joined (upper ∷ rest) → Levels pages rest
    → Every (Sized least) rest → Every (Marked pages) rest
    → below_ok pages upper rest ≡ true
unfolding below_ok Joined Levels Every
below_complete pages upper [] j l s m = refl
below_complete pages upper (lower ∷ rest) j l s m =
    rw (matches_true j.0, level_complete (eqb (length rest) 0) 4 0 lower l.0.chain s.0, pages_complete pages (length rest) lower l.0.chained m.0)
    (below_complete pages lower rest j.1 l.1 s.1 m.1)

levels_complete : (pages : List Page) (ls : List (List Node)) → Checked pages ls → levels_ok pages ls ≡ true
unfolding levels_ok Levels Every
levels_complete pages ls k =
    rw (
      k.whole,
      level_complete (eqb (length k.rest) 0) (root_least (length k.rest) k.root) 0 k.root k.levels.0.chain k.root_size,
      pages_complete pages (length k.rest) k.root k.levels.0.chained k.marked.0,
      below_complete pages k.root k.rest k.joined k.levels.1 k.sizes k.marked.1,
    )
    (eq_true _ _ k.count)

-- ---- the walk finds the levels

first_child_is : (n : Node) (ns : List Node) (lower : List Node) → ¬ (n.items ≡ []) → Match (flat (n ∷ ns)) lower
    → first_child n.items ≡ first_page lower 0
unfolding flat first_child first_page
first_child_is n ns lower ne m = go n.items refl m
  where
    first_match : {e : Entry} {es : List Entry} {ms : List Node} → Match (e ∷ es) ms → e.val ≡ first_page ms 0
    first_match (one a b h) = a
    first_match (two a b c h) = a

    go : (es : List Entry) → n.items ≡ es → Match (n.items ++ flat ns) lower → first_child n.items ≡ first_page lower 0
    go [] e k = absurd (ne e)
    go (x ∷ es) e k = rw e (first_match (rw e at k))

index_full : (l : ℕ) (from : ℕ) (n : Node) → NodeOk (eqb (suc l) 0) from n → from ≡ 0 → ¬ (n.items ≡ [])
unfolding after
index_full l from n o z e =
    let b : NodeOk false from n = rw (eqb-suc-zero l) at o in
    let w : after from n.items ≡ suc n.high = b.ends in
    let v : from ≡ suc n.high = rw e at w in
    let y : 0 ≡ suc n.high = sym z ∙ v in
    omega (arith, y)

unfoldable pub Short : ℕ → List (List Node) → Type 0
Short k [] = Unit {0}
Short k (l ∷ ls) = (length l < k) × Short k ls

pub collect_levels : (pages : List Page) (r : List Node) (rest : List (List Node)) → Levels pages (r ∷ rest) → Joined (r ∷ rest)
    → Short (length pages) (r ∷ rest)
    → collect (length rest) pages (first_page r 0) ≡ r ∷ rest
unfolding collect Levels Joined Short Chained ChainOk first_page
collect_levels pages r [] l j s = ap (◌∷ []) (walk_chain (length pages) pages 0 r l.0.chained s.0)
collect_levels pages [] (lower ∷ rest) l j s = let z : 0 ≡ suc top = l.0.chain in absurd (omega (arith, z))
collect_levels pages (n ∷ ns) (lower ∷ rest) l j s =
    let w = walk_chain (length pages) pages (suc (length rest)) (n ∷ ns) l.0.chained s.0 in
    let e : (at pages n.page).entries ≡ n.items = l.0.chained.2.items in
    let f : first_child (at pages n.page).entries ≡ first_page lower 0 = rw e (first_child_is n ns lower (index_full (length rest) 0 n l.0.chain.0 refl) j.0) in
    rw f (λ i. w i ∷ collect_levels pages lower rest l.1 j.1 s.1 i)

counted_pos : (ls : List (List Node)) → 1 ≤ counted ls
unfolding counted
counted_pos [] = omega arith
counted_pos (l ∷ ls) = let i = counted_pos ls in omega arith

pub short_of : (k : ℕ) (ls : List (List Node)) → counted ls ≤ k → Short k ls
unfolding counted Short
short_of k [] h = tt
short_of k (l ∷ ls) h = (let i = counted_pos ls in omega arith, short_of k ls (omega arith))

pub root_level : (pages : List Page) (l : ℕ) (r : List Node) → LevelOk pages l r → first_page r 0 ≡ 1 → (at pages 1).level ≡ l
unfolding Chained first_page
root_level pages l [] k f = absurd (omega (arith, f))
root_level pages l (n ∷ ns) k f = ap (λ p. (at pages p).level) (sym f) ∙ k.chained.2.level

-- Pages that hold a tree pass the test.
pub tree_complete : (pages : List Page) (ls : List (List Node)) → (k : Checked pages ls) → first_page k.root 0 ≡ 1 → walk_ok pages ≡ true
unfolding walk_ok Levels
tree_complete pages ls k f =
    let n = ones_le (length pages) (at pages 0).marks in
    let s = short_of (length pages) (k.root ∷ k.rest) (omega (arith, k.count)) in
    let c = collect_levels pages k.root k.rest k.levels k.joined s in
    let v = root_level pages (length k.rest) k.root k.levels.0 f in
    rw (v, ← f, c, ← k.whole) (levels_complete pages ls k)
