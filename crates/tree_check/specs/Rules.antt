-- The whole walk is the tree rules: the root is walked as the child of an entry that goes up to the top key.
use Rattle.std.specs.Prelude.{◌≡◌, Bool, true, false, ◌&&◌, length, get_or, leb, ltb, eqb}
use Rattle.std.proofs.Math.Path.{refl, subst}
use Rattle.std.proofs.Common.{sym, ◌∙◌, arith}
use Prim.Native.Nat.{ℕ, zero, suc, ◌+◌, ◌≤◌}
use mathlib.Core.List.{List, [], ◌∷◌}
use Rattle.def_base.specs.Tests.{pick, Case, yes!, no!, case, eq_true, true_eq, true_le, le_true, le_false, lt_true, and_true}
use Rattle.def_layout.specs.declared.Entry.{Entry}
use Rattle.def_layout.specs.Entries.{top, entry}
use Rattle.def_layout.specs.Sizes.{room}
use Rattle.def_layout.specs.Pages.{Page, at, kind_is, kind_at}
use Rattle.def_model.specs.Fit.{after}
use Rattle.def_model.specs.TreeRules.{Node, chain, first_child, first_page, collect, rising, ends_ok, node_ok, level_ok, pages_ok, matches, below_ok, counted, used_pages, root_least, levels_ok, walk_ok, tree_ok}
use Rattle.tree_check.specs.Under.{and_false, and_pass}
use Rattle.tree_check.specs.Level.{level_walk, node, chain_none, chain_cons}
use Rattle.tree_check.specs.Levels.{levels_walk, whole_level, below_law, collect_length}

-- How few entries the pages of the root's level hold: "the root holds 0 to 14 as a leaf, 1 to 14 as an index", and four beside a sibling.
unfoldable pub root_few : Page → ℕ
root_few x = pick (eqb x.right 0) (pick (eqb x.level 0) 0 1) 4

abbrev pub above_root : List Entry
above_root = entry top 1 ∷ []

-- What follows from a test adds nothing to it.
implied : (a p m : Bool) → (a ≡ true → m ≡ true) → a && (p && m) ≡ a && p
implied false p m h = refl
implied true false m h = refl
implied true true m h = h refl

unmet : (a p m : Bool) → m ≡ false → a && (p && m) ≡ false
unmet false p m e = refl
unmet true false m e = refl
unmet true true m e = e

top_key : (h : ℕ) → eqb (suc h) (suc top) ≡ true → eqb h top ≡ true
top_key h t = let q : suc h ≡ suc top = true_eq (suc h) (suc top) t in eq_true h top (omega arith)

-- The root alone.
root_one : (b p : Bool) (few : ℕ) (n : Node) → n.page ≡ 1
    → level_ok b few 0 (n ∷ []) && (p && matches above_root (n ∷ [])) ≡ level_ok b few 0 (n ∷ []) && p
unfolding level_ok matches
root_one b p few n e = implied (level_ok b few 0 (n ∷ [])) p (matches above_root (n ∷ [])) under
  where
    under : level_ok b few 0 (n ∷ []) ≡ true → matches above_root (n ∷ []) ≡ true
    under t =
        let h = top_key n.high (and_true (node_ok b few 0 n) (eqb (suc n.high) (suc top)) t).1 in
        rw (e, h)

above_from : (b : Bool) (few from : ℕ) (n : Node) → node_ok b few from n ≡ true → from ≤ n.high
unfolding node_ok
above_from b few from n t = true_le from n.high (and_true (leb from n.high) _ t).0

-- The root and one sibling.
root_two : (b p : Bool) (n m : Node) → n.page ≡ 1 → level_ok b 4 0 (n ∷ m ∷ []) && (p && matches above_root (n ∷ m ∷ [])) ≡ level_ok b 4 0 (n ∷ m ∷ []) && p
unfolding level_ok matches
root_two b p n m e = implied (level_ok b 4 0 (n ∷ m ∷ [])) p (matches above_root (n ∷ m ∷ [])) under
  where
    under : level_ok b 4 0 (n ∷ m ∷ []) ≡ true → matches above_root (n ∷ m ∷ []) ≡ true
    under t =
        let u = (and_true (node_ok b 4 0 n) (node_ok b 4 (suc n.high) m && eqb (suc m.high) (suc top)) t).1 in
        let (v, w) = and_true (node_ok b 4 (suc n.high) m) (eqb (suc m.high) (suc top)) u in
        let h = top_key m.high w in
        let z : m.high ≡ top = true_eq m.high top h in
        let l : suc n.high ≤ m.high = above_from b 4 (suc n.high) m v in
        rw (e, lt_true n.high top (omega arith), h)

-- More pages than two: no entry asks for them, and no page holds as many entries as they should.
root_three : (n m o : Node) (os : List Node) → matches above_root (n ∷ m ∷ o ∷ os) ≡ false
unfolding matches
root_three n m o os = go (ltb n.high top)
  where
    go : (t : Bool) → eqb 1 n.page && pick t (eqb m.high top && false) (eqb n.high top && false) ≡ false
    go true = rw (and_false (eqb m.high top)) (and_false (eqb 1 n.page))
    go false = rw (and_false (eqb n.high top)) (and_false (eqb 1 n.page))

crowded : (b : Bool) (from : ℕ) (n : Node) → node_ok b 15 from n ≡ false
unfolding node_ok
crowded b from n =
    rw (over (length n.items), and_false (ends_ok b (after from n.items) n.high), and_false (rising from n.items)) (and_false (leb from n.high))
  where
    over : (k : ℕ) → leb k room && leb 15 k ≡ false
    over k = go (case (leb k room))
      where
        go : Case (leb k room) → leb k room && leb 15 k ≡ false
        go (yes! t) = let h : k ≤ 14 = true_le k room t in rw t (le_false 15 k (omega arith))
        go (no! t) = rw t

root_many : (b p : Bool) (l : ℕ) (n m : Node) (os : List Node) → n.page ≡ 1
    → level_ok b 4 0 (n ∷ m ∷ os) && (p && matches above_root (n ∷ m ∷ os)) ≡ level_ok b (root_least l (n ∷ m ∷ os)) 0 (n ∷ m ∷ os) && p
unfolding root_least level_ok
root_many b p l n m [] e = root_two b p n m e
root_many b p l n m (o ∷ os) e =
    unmet (level_ok b 4 0 (n ∷ m ∷ o ∷ os)) p (matches above_root (n ∷ m ∷ o ∷ os)) (root_three n m o os)
    ∙ sym (short b 0 n (m ∷ o ∷ os))
  where
    short : (b : Bool) (from : ℕ) (n : Node) (ns : List Node) → level_ok b 15 from (n ∷ ns) && p ≡ false
    short b from n ns = rw (crowded b from n)

-- A page whose right link leads to nothing that was reached.
unlinked : (pages : List Page) (l p : ℕ) → eqb (at pages p).right 0 ≡ false → pages_ok pages l (node p (at pages p) ∷ []) ≡ false
unfolding pages_ok first_page
unlinked pages l p t =
    rw (t, and_false (eqb (at pages p).level l), and_false (kind_is (at pages p).kind (kind_at l)), and_false (ltb p (length pages))) (and_false (ltb 0 p))

module _ (pages : List Page) (l : ℕ) (same : (at pages 1).level ≡ l) where
  -- The walk of the root's level asks what the definition asks.
  abbrev Same : List Node → Type 0
  Same c =
      level_ok (eqb l 0) (root_few (at pages 1)) 0 c && (pages_ok pages l c && matches above_root c) ≡ level_ok (eqb l 0) (root_least l c) 0 c && pages_ok pages l c

  none : Same []
  unfolding level_ok
  none = refl

  alone : eqb (at pages 1).right 0 ≡ true → Same (node 1 (at pages 1) ∷ [])
  unfolding root_few root_least
  alone t = rw (t, same) (root_one (eqb l 0) (pages_ok pages l (node 1 (at pages 1) ∷ [])) (pick (eqb l 0) 0 1) (node 1 (at pages 1)) refl)

  cut_off : eqb (at pages 1).right 0 ≡ false → Same (node 1 (at pages 1) ∷ [])
  cut_off t =
      let n : Node = node 1 (at pages 1) in
      rw (unlinked pages l 1 t) (and_false (level_ok (eqb l 0) (root_few (at pages 1)) 0 (n ∷ [])) ∙ sym (and_false (level_ok (eqb l 0) (root_least l (n ∷ [])) 0 (n ∷ []))))

  more : (m : Node) (os : List Node) → eqb (at pages 1).right 0 ≡ false → Same (node 1 (at pages 1) ∷ m ∷ os)
  unfolding root_few
  more m os t = rw t (root_many (eqb l 0) (pages_ok pages l (node 1 (at pages 1) ∷ m ∷ os)) l (node 1 (at pages 1)) m os refl)

  root_chain : (f : ℕ) → Same (chain f pages 1)
  unfolding chain
  root_chain zero = none
  root_chain (suc f) = subst (λ (c : List Node). Same c) (sym (chain_cons pages 1 f refl)) (next (case (eqb (at pages 1).right 0)) f)
    where
      next : Case (eqb (at pages 1).right 0) → (f : ℕ) → Same (node 1 (at pages 1) ∷ chain f pages (at pages 1).right)
      next (yes! t) f = subst (λ (c : List Node). Same (node 1 (at pages 1) ∷ c)) (sym (chain_none pages (at pages 1).right f t)) (alone t)
      next (no! t) zero = cut_off t
      next (no! t) (suc f) =
          let q : ℕ = (at pages 1).right in
          subst (λ (c : List Node). Same (node 1 (at pages 1) ∷ c)) (sym (chain_cons pages q f t)) (more (node q (at pages q)) (chain f pages (at pages q).right) t)

  pub root_level : level_walk (length pages) pages l (root_few (at pages 1)) 1 0 false above_root
      ≡ level_ok (eqb l 0) (root_least l (chain (length pages) pages 1)) 0 (chain (length pages) pages 1) && pages_ok pages l (chain (length pages) pages 1)
  root_level = whole_level pages 1 (root_few (at pages 1)) l above_root ∙ root_chain (length pages)

-- THE WALK from the root, the map counted first, is the walk of the definition.
pub walk_law : (pages : List Page) → levels_walk (at pages 1).level pages (root_few (at pages 1)) above_root 1 1 ≡ walk_ok pages
unfolding walk_ok levels_ok collect levels_walk counted below_ok
walk_law pages = go (at pages 1).level refl
  where
    go : (l : ℕ) → (at pages 1).level ≡ l → levels_walk l pages (root_few (at pages 1)) above_root 1 1 ≡ levels_ok pages (collect l pages 1)
    go zero e =
        let c : List Node = chain (length pages) pages 1 in
        let n : 1 + length c ≡ length c + 1 = omega arith in
        rw (root_level pages 0 e, n) (and_pass (level_ok true (root_least 0 c) 0 c) (pages_ok pages 0 c) (eqb (length c + 1) (used_pages pages)))
    go (suc l) e =
        let c : List Node = chain (length pages) pages 1 in
        let q : ℕ = first_child (at pages 1).entries in
        let rest : List (List Node) = collect l pages q in
        let n : 1 + length c ≡ length c + 1 = omega arith in
        rw (root_level pages (suc l) e, n, below_law pages l c q (length c), collect_length l pages q)
        (and_pass (level_ok (eqb (suc l) 0) (root_least (suc l) c) 0 c) (pages_ok pages (suc l) c) (below_ok pages c rest && eqb (length c + counted rest) (used_pages pages)))

-- The map: without marks, or unmarked itself, it breaks the rules; else the walk decides.
module _ (pages : List Page) where
  pub no_map : (at pages 0).marks ≡ [] → tree_ok pages ≡ false
  unfolding tree_ok
  no_map e = rw e (and_false (leb (length pages) 0))

  pub map_unmarked : get_or (at pages 0).marks 0 false ≡ false → tree_ok pages ≡ false
  unfolding tree_ok
  map_unmarked e = rw e (and_false (leb (length pages) (length (at pages 0).marks)))

  pub map_marked : length pages ≤ length (at pages 0).marks → get_or (at pages 0).marks 0 false ≡ true → tree_ok pages ≡ walk_ok pages
  unfolding tree_ok
  map_marked h e = rw (le_true (length pages) (length (at pages 0).marks) h, e)
