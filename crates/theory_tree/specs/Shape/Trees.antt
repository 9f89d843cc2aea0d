-- The tree over the pages: levels one under another, each matched with the next.
use Rattle.std.specs.Prelude.{ℕ, suc, ◌≤◌, ◌<◌, ◌≡◌, refl, ◌≢◌, Bool, List, [], ◌∷◌, ◌++◌, length, eqb}
use Rattle.std.proofs.Common.{sym, ap, ◌∙◌, arith, length-append}
use Rattle.def_layout.specs.declared.Entry.{Entry}
use Rattle.def_layout.specs.Entries.{top}
use Rattle.def_layout.specs.Sizes.{room}
use Rattle.def_layout.specs.Pages.{Page, at}
use Rattle.def_model.specs.TreeRules.{Node, flat, first_page}
use Rattle.theory_tree.specs.Shape.Levels.{Match, done, one, two, ChainOk}
use Rattle.theory_tree.specs.Shape.Chains.{IsNode, Chained, chained_cut, All}

-- Level 0 is the leaves'.
abbrev pub is_bottom : ℕ → Bool
is_bottom l = eqb l 0

-- A level, on its pages.
pub record LevelOk (pages : List Page) (l : ℕ) (ns : List Node) : Type 0 where
  pub chain : ChainOk (is_bottom l) 0 ns (suc top)
  pub chained : Chained pages l ns 0
  pub small : All (λ n. length n.items ≤ room) ns

-- Each level; its number is the number of levels below it.
unfoldable pub Levels : List Page → List (List Node) → Type 0
Levels pages [] = Unit {0}
Levels pages (ns ∷ ls) = LevelOk pages (length ls) ns × Levels pages ls

-- Each level matched against the next.
unfoldable pub Joined : List (List Node) → Type 0
Joined [] = Unit {0}
Joined (ns ∷ []) = Unit {0}
Joined (ns ∷ ms ∷ ls) = Match (flat ns) ms × Joined (ms ∷ ls)

pub joined_cut : (ups : List (List Node)) (ns : List Node) (downs : List (List Node)) → Joined (ups ++ ns ∷ downs)
    → Joined (ups ++ ns ∷ []) × Joined (ns ∷ downs)
unfolding Joined
joined_cut [] ns downs j = (tt, j)
joined_cut (u ∷ []) ns downs j = ((j.0, tt), j.1)
joined_cut (u ∷ v ∷ ups) ns downs j = let (a, b) = joined_cut (v ∷ ups) ns downs j.1 in ((j.0, a), b)

pub joined_append : (ups : List (List Node)) (ns : List Node) (downs : List (List Node)) → Joined (ups ++ ns ∷ []) → Joined (ns ∷ downs)
    → Joined (ups ++ ns ∷ downs)
unfolding Joined
joined_append [] ns downs a b = b
joined_append (u ∷ []) ns downs a b = (a.0, b)
joined_append (u ∷ v ∷ ups) ns downs a b = (a.0, joined_append (v ∷ ups) ns downs a.1 b)

-- Every node of every level.
unfoldable pub Every : (Node → Type 0) → List (List Node) → Type 0
Every P [] = Unit {0}
Every P (ns ∷ ls) = All P ns × Every P ls

-- ---- one level, and one node, of a tree

pub levels_at : (pages : List Page) (ups : List (List Node)) (ns : List Node) (downs : List (List Node)) → Levels pages (ups ++ ns ∷ downs)
    → LevelOk pages (length downs) ns
unfolding Levels
levels_at pages [] ns downs c = c.0
levels_at pages (u ∷ ups) ns downs c = levels_at pages ups ns downs c.1

pub every_cut : (P : Node → Type 0) (ups : List (List Node)) (ns : List Node) (downs : List (List Node)) → Every P (ups ++ ns ∷ downs)
    → Every P ups × All P ns × Every P downs
unfolding Every
every_cut P [] ns downs e = (tt, e.0, e.1)
every_cut P (u ∷ ups) ns downs e = let (a, b, c) = every_cut P ups ns downs e.1 in ((e.0, a), b, c)

pub all_cut : (P : Node → Type 0) (xs : List Node) (n : Node) (ys : List Node) → All P (xs ++ n ∷ ys) → All P xs × P n × All P ys
unfolding All
all_cut P [] n ys a = (tt, a.0, a.1)
all_cut P (x ∷ xs) n ys a = let (p, q, r) = all_cut P xs n ys a.1 in ((a.0, p), q, r)

pub every_mid : (P : Node → Type 0) (ups : List (List Node)) (xs : List Node) (n : Node) (ys : List Node) (downs : List (List Node))
    → Every P (ups ++ (xs ++ n ∷ ys) ∷ downs) → P n
every_mid P ups xs n ys downs e = (all_cut P xs n ys (every_cut P ups (xs ++ n ∷ ys) downs e).1).1

pub all_join : (P : Node → Type 0) (xs ys : List Node) → All P xs → All P ys → All P (xs ++ ys)
unfolding All
all_join P [] ys a b = b
all_join P (x ∷ xs) ys a b = (a.0, all_join P xs ys a.1 b)

pub all_mid : (P : Node → Type 0) (xs : List Node) (n m : Node) (ys : List Node) → (P n → P m) → All P (xs ++ n ∷ ys) → All P (xs ++ m ∷ ys)
unfolding All
all_mid P xs n m ys f a = let (p, q, r) = all_cut P xs n ys a in all_join P xs (m ∷ ys) p (f q, r)

-- ---- a level whose pages and high keys stay

-- Match reads only the page and the high key of the nodes below.
pub data Same : List Node → List Node → Type 0 where
  nil : Same [] []
  cons : {n m : Node} {ns ms : List Node} → n.page ≡ m.page → n.high ≡ m.high → Same ns ms → Same (n ∷ ns) (m ∷ ms)

pub match_same : {us : List Entry} {ns ms : List Node} → Match us ns → Same ns ms → Match us ms
match_same done nil = done
match_same (one a b h) (cons p q s) = one (a ∙ p) (sym q ∙ b) (match_same h s)
match_same (two {e = e} {n = n} a b c h) (cons {m = m} p q (cons p' q' s)) = two {e = e} {n = m} (a ∙ p) (omega arith) (sym q' ∙ c) (match_same h s)

pub same_refl : (ns : List Node) → Same ns ns
same_refl [] = nil
same_refl (n ∷ ns) = cons refl refl (same_refl ns)

pub same_mid : (xs : List Node) (p p' : Node) (ys : List Node) → p.page ≡ p'.page → p.high ≡ p'.high → Same (xs ++ p ∷ ys) (xs ++ p' ∷ ys)
same_mid [] p p' ys a b = cons a b (same_refl ys)
same_mid (x ∷ xs) p p' ys a b = cons refl refl (same_mid xs p p' ys a b)

pub joined_same : (ups : List (List Node)) (ns ms : List Node) → Same ns ms → Joined (ups ++ ns ∷ []) → Joined (ups ++ ms ∷ [])
unfolding Joined
joined_same [] ns ms s j = tt
joined_same (u ∷ []) ns ms s j = (match_same j.0 s, tt)
joined_same (u ∷ v ∷ ups) ns ms s j = (j.0, joined_same (v ∷ ups) ns ms s j.1)

-- ---- a node that stands for its entry alone

-- Where n stands directly under the level above: the last level of ups.
unfoldable pub Direct : List (List Node) → List Node → Node → List Node → Type 0
Direct [] xs n ys = (xs ≡ []) × (ys ≡ [])
Direct (u ∷ []) xs n ys = (es : List Entry) × (e : Entry) × (fs : List Entry) × (flat u ≡ es ++ e ∷ fs) × (e.val ≡ n.page) × (n.high ≡ e.key) × Match es xs × Match fs ys
Direct (u ∷ v ∷ ups) xs n ys = Direct (v ∷ ups) xs n ys

pub direct_last : (ups : List (List Node)) (u xs : List Node) (n : Node) (ys : List Node) (es : List Entry) (e : Entry) (fs : List Entry)
    → flat u ≡ es ++ e ∷ fs → e.val ≡ n.page → n.high ≡ e.key
    → Match es xs → Match fs ys → Direct (ups ++ u ∷ []) xs n ys
unfolding Direct
direct_last [] u xs n ys es e fs a b c d f = (es, e, fs, a, b, c, d, f)
direct_last (v ∷ []) u xs n ys es e fs a b c d f = (es, e, fs, a, b, c, d, f)
direct_last (v ∷ w ∷ ups) u xs n ys es e fs a b c d f = direct_last (w ∷ ups) u xs n ys es e fs a b c d f

-- ---- a page is on one level

-- A page of level l is on no other level.
pub away_level : (pages : List Page) (l b m : ℕ) (ns : List Node) (next : ℕ) → (at pages b).level ≡ l → m ≢ l → Chained pages m ns next
    → All (λ n. n.page ≢ b) ns
unfolding Chained All
away_level pages l b m [] next e d c = tt
away_level pages l b m (n ∷ ns) next e d c = ((λ w. d (sym c.2.level ∙ ap (λ p. (at pages p).level) w ∙ e)), away_level pages l b m ns next e d c.3)

pub below_away : (pages : List Page) (l b : ℕ) (ls : List (List Node)) → (at pages b).level ≡ l → length ls ≤ l → Levels pages ls
    → Every (λ n. n.page ≢ b) ls
unfolding Levels Every
below_away pages l b [] e h c = tt
below_away pages l b (ns ∷ ls) e h c = (away_level pages l b (length ls) ns 0 e (omega arith) c.0.chained, below_away pages l b ls e (omega arith) c.1)

pub above_away : (pages : List Page) (b : ℕ) (ups : List (List Node)) (ns : List Node) (downs : List (List Node)) → (at pages b).level ≡ length downs
    → Levels pages (ups ++ ns ∷ downs)
    → Every (λ n. n.page ≢ b) ups × Every (λ n. n.page ≢ b) downs
unfolding Levels Every
above_away pages b [] ns downs e c = (tt, below_away pages (length downs) b downs e (omega arith) c.1)
above_away pages b (u ∷ ups) ns downs e c =
    let (p, q) = above_away pages b ups ns downs e c.1 in
    let k = length-append ups (ns ∷ downs) in
    ((away_level pages (length downs) b (length (ups ++ ns ∷ downs)) u 0 e (omega arith) c.0.chained, p), q)

-- No page of a tree is page 0.
pub nonzero : (pages : List Page) (ls : List (List Node)) → Levels pages ls → Every (λ z. z.page ≢ 0) ls
unfolding Levels Every All Chained
nonzero pages [] l = tt
nonzero pages (ns ∷ ls) l = (go (length ls) ns 0 l.0.chained, nonzero pages ls l.1)
  where
    go : (m : ℕ) (ns : List Node) (next : ℕ) → Chained pages m ns next → All (λ z. z.page ≢ 0) ns
    go m [] next c = tt
    go m (n ∷ ns) next c = let h = c.0 in ((λ e. omega arith), go m ns next c.3)

-- A page of the tree that stands at a cut.
pub page_at : (pages : List Page) (ups : List (List Node)) (xs : List Node) (n : Node) (ys : List Node) (downs : List (List Node))
    → Levels pages (ups ++ (xs ++ n ∷ ys) ∷ downs)
    → (0 < n.page) × (n.page < length pages) × IsNode (at pages n.page) (length downs) (first_page ys 0) n
unfolding Chained
page_at pages ups xs n ys downs lv =
    let h = (chained_cut pages (length downs) xs (n ∷ ys) 0 (levels_at pages ups (xs ++ n ∷ ys) downs lv).chained).1 in
    (h.0, h.1, h.2)
