-- THE RULES of a whole tree over the pages: levels, order, matching, sizes, marks and count.
use Rattle.std.specs.Prelude.{ℕ, suc, ◌≤◌, ◌<◌, ◌≡◌, refl, ◌≢◌, true, false, List, [], ◌∷◌, ◌++◌, length, get_or, take, set}
use Rattle.std.proofs.Common.{sym, ap, ◌∙◌, arith, length-set, get_or-set_same, get_or-set_other}
use Rattle.def_layout.specs.Pages.{Page, at}
use Rattle.def_model.specs.TreeRules.{Node, first_page, counted, ones}
use Rattle.theory_tree.specs.Shape.Chains.{Chained, All, all_both}
use Rattle.theory_tree.specs.Shape.Trees.{Levels, Joined, Every}
use Rattle.theory_tree.specs.Shape.Marks.{ones_mark, ones_unmark, Gives, mark_inside, free_inside, keeps_true}
use Rattle.theory_tree.specs.Shape.Sizes.{Sizes}

-- A node's page is marked as used.
abbrev pub Marked : List Page → Node → Type 0
Marked pages n = get_or (at pages 0).marks n.page false ≡ true

-- The map has a bit for each page, marks itself and every page reached, and no more than those.
pub record Mapped (pages : List Page) (ls : List (List Node)) : Type 0 where
  pub wide : length pages ≤ length (at pages 0).marks
  pub itself : get_or (at pages 0).marks 0 false ≡ true
  pub marked : Every (Marked pages) ls
  pub count : counted ls ≡ ones (take (length pages) (at pages 0).marks)

-- ---- the map where pages are kept, taken or freed

pub every_map : (P Q : Node → Type 0) → ((n : Node) → P n → Q n) → (ls : List (List Node)) → Every P ls → Every Q ls
unfolding Every All
every_map P Q f [] e = tt
every_map P Q f (l ∷ ls) e = (go l e.0, every_map P Q f ls e.1)
  where
    go : (ns : List Node) → All P ns → All Q ns
    go [] a = tt
    go (n ∷ ns) a = (f n a.0, go ns a.1)

every_both : (P Q R : Node → Type 0) → ((n : Node) → P n → Q n → R n) → (ls : List (List Node)) → Every P ls → Every Q ls → Every R ls
unfolding Every
every_both P Q R f [] d e = tt
every_both P Q R f (l ∷ ls) d e = (all_both P Q R f l d.0 e.0, every_both P Q R f ls d.1 e.1)

-- No page taken or freed.
pub mapped_same : (pages pages' : List Page) (ls ls' : List (List Node)) → (at pages' 0).marks ≡ (at pages 0).marks → length pages' ≡ length pages
    → counted ls' ≡ counted ls
    → (Every (Marked pages) ls → Every (Marked pages) ls') → Mapped pages ls → Mapped pages' ls'
mapped_same pages pages' ls ls' e l c f m =
    record { wide = rw (e, l) m.wide; itself = rw e m.itself; marked = every_map (Marked pages) (Marked pages') (λ n u. rw e u) ls' (f m.marked); count = rw (e, l) (c ∙ m.count) }

-- Page b taken.
pub mapped_take : (pages pages' : List Page) (ls ls' : List (List Node)) (b : ℕ) → (at pages' 0).marks ≡ set (at pages 0).marks b true
    → length pages' ≡ length pages
    → Gives (length pages) (at pages 0).marks b → counted ls' ≡ suc (counted ls)
    → ((P : ℕ → Type 0) → Every (λ n. P n.page) ls → P b → Every (λ n. P n.page) ls') → Mapped pages ls → Mapped pages' ls'
mapped_take pages pages' ls ls' b e l g c f m =
    let i = free_inside (at pages 0).marks b g.is_free in
    record {
      wide = rw (e, l, length-set) m.wide;
      itself = rw e (keeps_true (at pages 0).marks b 0 m.itself);
      marked = f (λ p. get_or (at pages' 0).marks p false ≡ true) (every_map (Marked pages) (Marked pages') (λ n u. rw e (keeps_true (at pages 0).marks b n.page u)) ls m.marked)
          (rw e (get_or-set_same (at pages 0).marks b true false i));
      count = rw (e, l) (c ∙ ap suc m.count ∙ sym (ones_mark (length pages) b (at pages 0).marks g.inside i g.is_free));
    }

-- Page b freed.
pub mapped_free : (pages pages' : List Page) (ls ls' : List (List Node)) (b : ℕ) → (at pages' 0).marks ≡ set (at pages 0).marks b false
    → length pages' ≡ length pages
    → b < length pages → 0 < b → get_or (at pages 0).marks b false ≡ true → suc (counted ls') ≡ counted ls → Every (λ n. n.page ≢ b) ls'
    → (Every (Marked pages) ls → Every (Marked pages) ls')
    → Mapped pages ls → Mapped pages' ls'
mapped_free pages pages' ls ls' b e l inb pos u c away f m =
    let i = mark_inside (at pages 0).marks b u in
    let o = ones_unmark (length pages) b (at pages 0).marks inb i u in
    let k : counted ls ≡ ones (take (length pages) (at pages 0).marks) = m.count in
    record {
      wide = rw (e, l, length-set) m.wide;
      itself = rw e (get_or-set_other (at pages 0).marks b 0 false false (omega arith) ∙ m.itself);
      marked = every_both (λ n. n.page ≢ b) (Marked pages) (Marked pages') (λ n a u. rw e (get_or-set_other (at pages 0).marks b n.page false false a ∙ u)) ls' away (f m.marked);
      count = rw (e, l) (omega arith);
    }

-- The first level begins with page 1.
unfoldable pub Rooted : List (List Node) → Type 0
Rooted [] = ⊥
Rooted (r ∷ rest) = first_page r 0 ≡ 1

pub record Rules (pages : List Page) (ls : List (List Node)) : Type 0 where
  pub levels : Levels pages ls
  pub joined : Joined ls
  pub sizes : Sizes ls
  pub rooted : Rooted ls
  pub mapped : Mapped pages ls

-- ---- the root stays

pub rooted_swap : (ups : List (List Node)) (old new : List Node) (downs : List (List Node)) → first_page new 0 ≡ first_page old 0
    → Rooted (ups ++ old ∷ downs) → Rooted (ups ++ new ∷ downs)
unfolding Rooted
rooted_swap [] old new downs e r = e ∙ r
rooted_swap (u ∷ ups) old new downs e r = r

pub first_mid : (xs : List Node) (n m : Node) (ys zs : List Node) (d : ℕ) → m.page ≡ n.page
    → first_page (xs ++ m ∷ zs) d ≡ first_page (xs ++ n ∷ ys) d
unfolding first_page
first_mid [] n m ys zs d e = e
first_mid (x ∷ xs) n m ys zs d e = refl

pub pages_pos : (pages : List Page) (ls : List (List Node)) → Rules pages ls → 1 < length pages
unfolding Rooted Levels Chained first_page
pages_pos pages [] k = absurd k.rooted
pages_pos pages ([] ∷ rest) k = let e : ◌≡◌ {A = ℕ} 0 1 = k.rooted in absurd (omega (arith, e))
pages_pos pages ((n ∷ ns) ∷ rest) k = let a = k.levels.0.chained.1 in let e : n.page ≡ 1 = k.rooted in omega arith
