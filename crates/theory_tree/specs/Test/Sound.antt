-- What passes the test of the tree rules keeps them.
use Rattle.std.specs.Prelude.{ℕ, zero, suc, ◌≡◌, refl, Bool, true, false, List, [], ◌∷◌, length, get_or, take, leb, ltb, eqb}
use Rattle.std.proofs.Common.{sym, ap}
use Rattle.def_base.specs.Tests.{pick, clash, true_lt, true_eq, true_le, and_true}
use Rattle.def_layout.specs.declared.Entry.{Entry}
use Rattle.def_layout.specs.Entries.{top}
use Rattle.def_layout.specs.Sizes.{room}
use Rattle.def_layout.specs.Pages.{page_kind_number, kind_is, Page, kind_at, at}
use Rattle.def_layout.specs.declared.page.PageKind.{PageKind}
use Rattle.def_layout.specs.declared.page.PageKind.TheVariants.{Free, Leaf, Index, Map}
use Rattle.def_model.specs.Fit.{after}
use Rattle.def_model.specs.TreeRules.{Node, flat, node_of, chain, first_child, collect, rising, ends_ok, node_ok, level_ok, matches, first_page, pages_ok, least, below_ok, counted, ones, root_least, levels_ok, walk_ok}
use Rattle.theory_tree.specs.Order.Keys.{Rising}
use Rattle.theory_tree.specs.Shape.Levels.{true_matches, Ends, ChainOk}
use Rattle.theory_tree.specs.Shape.Chains.{Chained, All}
use Rattle.theory_tree.specs.Shape.Trees.{Levels, Joined, Every}
use Rattle.theory_tree.specs.Shape.Sizes.{Sized}
use Rattle.theory_tree.specs.Shape.Rules.{Marked}

-- ---- one level

rising_sound : (from : ℕ) (es : List Entry) → rising from es ≡ true → Rising from es
unfolding rising Rising
rising_sound from [] t = tt
rising_sound from (e ∷ es) t = let (a, b) = and_true (leb from e.key) (rising (suc e.key) es) t in (true_le _ _ a, rising_sound (suc e.key) es b)

ends_sound : (b : Bool) (a h : ℕ) → ends_ok b a h ≡ true → Ends b a h
unfolding ends_ok
ends_sound true a h t = true_le a (suc h) t
ends_sound false a h t = true_eq a (suc h) t

pub level_sound : (b : Bool) (least from : ℕ) (ns : List Node) → level_ok b least from ns ≡ true → ChainOk b from ns (suc top) × All (Sized least) ns
unfolding level_ok node_ok ChainOk All
level_sound b least from [] t = (true_eq from (suc top) t, tt)
level_sound b least from (n ∷ ns) t =
    let (o, k) = and_true (node_ok b least from n) (level_ok b least (suc n.high) ns) t in
    let (t₁, u₁) = and_true (leb from n.high) _ o in
    let (t₂, u₂) = and_true (rising from n.items) _ u₁ in
    let (t₃, u₃) = and_true (ends_ok b (after from n.items) n.high) _ u₂ in
    let (t₄, t₅) = and_true (leb (length n.items) room) (leb least (length n.items)) u₃ in
    let (c, z) = level_sound b least (suc n.high) ns k in (
      (record { covers = true_le _ _ t₁; rises = rising_sound _ _ t₂; ends = ends_sound b _ _ t₃ }, c),
      ((true_le _ _ t₄, true_le _ _ t₅), z),
    )

pub kind_sound : (k j : PageKind) → kind_is k j ≡ true → k ≡ j
unfolding kind_is page_kind_number
kind_sound Free Free t = refl
kind_sound Free Leaf t = clash (sym t)
kind_sound Free Index t = clash (sym t)
kind_sound Free Map t = clash (sym t)
kind_sound Leaf Free t = clash (sym t)
kind_sound Leaf Leaf t = refl
kind_sound Leaf Index t = clash (sym t)
kind_sound Leaf Map t = clash (sym t)
kind_sound Index Free t = clash (sym t)
kind_sound Index Leaf t = clash (sym t)
kind_sound Index Index t = refl
kind_sound Index Map t = clash (sym t)
kind_sound Map Free t = clash (sym t)
kind_sound Map Leaf t = clash (sym t)
kind_sound Map Index t = clash (sym t)
kind_sound Map Map t = refl

-- ---- its pages

-- Nodes that are what the pages hold: what the walk finds.
unfoldable pub Walked : List Page → List Node → Type 0
Walked pages [] = Unit {0}
Walked pages (n ∷ ns) = (n ≡ node_of pages n.page) × Walked pages ns

pub walked : (f : ℕ) (pages : List Page) (p : ℕ) → Walked pages (chain f pages p)
unfolding chain Walked node_of
walked zero pages p = tt
walked (suc f) pages p = go (eqb p 0) (walked f pages (at pages p).right)
  where
    go : (b : Bool) → Walked pages (chain f pages (at pages p).right)
        → Walked pages (pick b [] (node_of pages p ∷ chain f pages (at pages p).right))
    go true w = tt
    go false w = (refl, w)

pub pages_sound : (pages : List Page) (l : ℕ) (ns : List Node) → Walked pages ns → pages_ok pages l ns ≡ true
    → Chained pages l ns 0 × All (Marked pages) ns
unfolding pages_ok Chained All Walked node_of
pages_sound pages l [] w t = (tt, tt)
pages_sound pages l (n ∷ ns) w t =
    let (t₁, u₁) = and_true (ltb 0 n.page) _ t in
    let (t₂, u₂) = and_true (ltb n.page (length pages)) _ u₁ in
    let (t₃, u₃) = and_true (kind_is (at pages n.page).kind (kind_at l)) _ u₂ in
    let (t₄, u₄) = and_true (eqb (at pages n.page).level l) _ u₃ in
    let (t₅, u₅) = and_true (eqb (at pages n.page).right (first_page ns 0)) _ u₄ in
    let (t₆, u₆) = and_true (get_or (at pages 0).marks n.page false) _ u₅ in
    let (c, m) = pages_sound pages l ns w.1 u₆ in (
      (
        true_lt _ _ t₁,
        true_lt _ _ t₂,
        record { kind = kind_sound _ _ t₃; level = true_eq _ _ t₄; right = true_eq _ _ t₅; high = ap (λ x. x.high) (sym w.0); items = ap (λ x. x.items) (sym w.0) },
        c,
      ),
      (t₆, m),
    )

-- ---- the levels, as the test finds them

pub record Checked (pages : List Page) (ls : List (List Node)) : Type 0 where
  pub root : List Node
  pub rest : List (List Node)
  pub whole : ls ≡ root ∷ rest
  pub levels : Levels pages (root ∷ rest)
  pub joined : Joined (root ∷ rest)
  pub root_size : All (Sized (root_least (length rest) root)) root
  pub sizes : Every (Sized least) rest
  pub marked : Every (Marked pages) (root ∷ rest)
  pub count : counted (root ∷ rest) ≡ ones (take (length pages) (at pages 0).marks)

all_map : (P Q : Node → Type 0) → ((n : Node) → P n → Q n) → (ns : List Node) → All P ns → All Q ns
unfolding All
all_map P Q f [] a = tt
all_map P Q f (n ∷ ns) a = (f n a.0, all_map P Q f ns a.1)

unfoldable pub EachWalked : List Page → List (List Node) → Type 0
EachWalked pages [] = Unit {0}
EachWalked pages (l ∷ ls) = Walked pages l × EachWalked pages ls

collect_walked : (l : ℕ) (pages : List Page) (p : ℕ) → EachWalked pages (collect l pages p)
unfolding collect EachWalked
collect_walked zero pages p = (walked (length pages) pages p, tt)
collect_walked (suc l) pages p = (walked (length pages) pages p, collect_walked l pages (first_child (at pages p).entries))

below_sound : (pages : List Page) (upper : List Node) (rest : List (List Node)) → EachWalked pages rest → below_ok pages upper rest ≡ true
    → Joined (upper ∷ rest) × Levels pages rest × Every (Sized least) rest × Every (Marked pages) rest
unfolding below_ok Joined Levels Every EachWalked
below_sound pages upper [] w t = (tt, tt, tt, tt)
below_sound pages upper (lower ∷ rest) w t =
    let (t₁, u₁) = and_true (matches (flat upper) lower) _ t in
    let (t₂, u₂) = and_true (level_ok (eqb (length rest) 0) 4 0 lower) _ u₁ in
    let (t₃, u₃) = and_true (pages_ok pages (length rest) lower) _ u₂ in
    let (c, z) = level_sound (eqb (length rest) 0) 4 0 lower t₂ in
    let (h, m) = pages_sound pages (length rest) lower w.0 t₃ in
    let (j, l, s, k) = below_sound pages lower rest w.1 u₃ in (
      (true_matches (flat upper) lower t₁, j),
      (record { chain = c; chained = h; small = all_map _ _ (λ n p. p.0) lower z }, l),
      (z, s),
      (m, k),
    )

levels_sound : (pages : List Page) (ls : List (List Node)) → EachWalked pages ls → levels_ok pages ls ≡ true → Checked pages ls
unfolding levels_ok EachWalked Levels Every
levels_sound pages [] w t = clash (sym t)
levels_sound pages (r ∷ rest) w t =
    let (t₁, u₁) = and_true (level_ok (eqb (length rest) 0) (root_least (length rest) r) 0 r) _ t in
    let (t₂, u₂) = and_true (pages_ok pages (length rest) r) _ u₁ in
    let (t₃, t₄) = and_true (below_ok pages r rest) _ u₂ in
    let (c, z) = level_sound (eqb (length rest) 0) (root_least (length rest) r) 0 r t₁ in
    let (h, m) = pages_sound pages (length rest) r w.0 t₂ in
    let (j, l, s, k) = below_sound pages r rest w.1 t₃ in
    record {
      root = r;
      rest = rest;
      whole = refl;
      levels = (record { chain = c; chained = h; small = all_map _ _ (λ n p. p.0) r z }, l);
      joined = j;
      root_size = z;
      sizes = s;
      marked = (m, k);
      count = true_eq _ _ t₄;
    }

-- The test is passed only by pages that hold a tree.
pub tree_sound : (pages : List Page) → walk_ok pages ≡ true → Checked pages (collect (at pages 1).level pages 1)
unfolding walk_ok
tree_sound pages t = levels_sound pages (collect (at pages 1).level pages 1) (collect_walked (at pages 1).level pages 1) t
