-- 01: "A page is marked used exactly when it is the map or is reached, once, from the root".
use Rattle.std.specs.Prelude.{ℕ, zero, suc, ◌+◌, ◌≤◌, ◌<◌, ◌≡◌, refl, ◌≢◌, ◌⊎◌, Bool, true, false, List, [], ◌∷◌, length, get_or, take, set}
use Rattle.std.proofs.Common.{sym, ◌∙◌, inl, inr, arith, get_or-set_other}
use Rattle.std.proofs.Math.Decide.{ℕ_discrete}
use Rattle.def_base.specs.Tests.{clash}
use Rattle.def_layout.specs.Entries.{top}
use Rattle.def_layout.specs.Pages.{Page, at}
use Rattle.def_model.specs.TreeRules.{Node, counted, ones}
use Rattle.theory_tree.specs.Shape.Levels.{ChainOk}
use Rattle.theory_tree.specs.Shape.Chains.{Chained, All, once_in_level}
use Rattle.theory_tree.specs.Shape.Trees.{is_bottom, Levels, Every, below_away}
use Rattle.theory_tree.specs.Shape.Marks.{ones_unmark, mark_inside}
use Rattle.theory_tree.specs.Shape.Rules.{Rules}

-- The page numbers of a tree.
unfoldable pub numbers : List Node → List ℕ → List ℕ
numbers [] l = l
numbers (n ∷ ns) l = n.page ∷ numbers ns l

unfoldable pub reached : List (List Node) → List ℕ
reached [] = []
reached (ns ∷ ls) = numbers ns (reached ls)

unfoldable pub Each : (ℕ → Type 0) → List ℕ → Type 0
Each P [] = Unit {0}
Each P (x ∷ xs) = P x × Each P xs

unfoldable pub Distinct : List ℕ → Type 0
Distinct [] = Unit {0}
Distinct (x ∷ xs) = Each (λ y. y ≢ x) xs × Distinct xs

each_numbers : (P : ℕ → Type 0) (ns : List Node) (l : List ℕ) → All (λ n. P n.page) ns → Each P l → Each P (numbers ns l)
unfolding Each numbers All
each_numbers P [] l a e = e
each_numbers P (n ∷ ns) l a e = (a.0, each_numbers P ns l a.1 e)

each_reached : (P : ℕ → Type 0) (ls : List (List Node)) → Every (λ n. P n.page) ls → Each P (reached ls)
unfolding Each reached Every
each_reached P [] e = tt
each_reached P (ns ∷ ls) e = each_numbers P ns (reached ls) e.0 (each_reached P ls e.1)

-- REACHED ONCE: no page number stands twice.
level_distinct : (pages : List Page) (l : ℕ) (from : ℕ) (ns : List Node) (ls : List (List Node)) → length ls ≤ l → Chained pages l ns 0
    → ChainOk (is_bottom l) from ns (suc top) → Levels pages ls → Distinct (reached ls)
    → Distinct (numbers ns (reached ls))
unfolding Distinct numbers Chained ChainOk
level_distinct pages l from [] ls h c k lv d = d
level_distinct pages l from (n ∷ ns) ls h c k lv d =
    let o = (once_in_level pages l (is_bottom l) from [] n ns 0 (suc top) c k).1 in (
      each_numbers (λ y. y ≢ n.page) ns (reached ls) o (each_reached (λ y. y ≢ n.page) ls (below_away pages l n.page ls c.2.level h lv)),
      level_distinct pages l (suc n.high) ns ls h c.3 k.1 lv d,
    )

pub once : (pages : List Page) (ls : List (List Node)) → Levels pages ls → Distinct (reached ls)
unfolding Levels reached Distinct
once pages [] lv = tt
once pages (ns ∷ ls) lv = level_distinct pages (length ls) 0 ns ls (omega arith) lv.0.chained lv.0.chain lv.1 (once pages ls lv.1)

unfoldable unmark : List ℕ → List Bool → List Bool
unmark [] m = m
unmark (x ∷ xs) m = unmark xs (set m x false)

ones_unmarked : (n : ℕ) (xs : List ℕ) (m : List Bool) → Distinct xs → Each (λ x. (x < n) × (get_or m x false ≡ true)) xs
    → ones (take n m) ≡ length xs + ones (take n (unmark xs m))
unfolding Distinct Each unmark
ones_unmarked n [] m d e = omega arith
ones_unmarked n (x ∷ xs) m d e =
    let a = ones_unmark n x m e.0.0 (mark_inside m x e.0.1) e.0.1 in
    let i = ones_unmarked n xs (set m x false) d.1 (keep xs d.0 e.1) in
    omega arith
  where
    keep : (ys : List ℕ) → Each (λ y. y ≢ x) ys → Each (λ y. (y < n) × (get_or m y false ≡ true)) ys
        → Each (λ y. (y < n) × (get_or (set m x false) y false ≡ true)) ys
    keep [] a b = tt
    keep (y ∷ ys) a b = ((b.0.0, get_or-set_other m x y false false a.0 ∙ b.0.1), keep ys a.1 b.1)

unmark_other : (xs : List ℕ) (m : List Bool) (p : ℕ) → Each (λ y. y ≢ p) xs → get_or (unmark xs m) p false ≡ get_or m p false
unfolding Each unmark
unmark_other [] m p e = refl
unmark_other (x ∷ xs) m p e = unmark_other xs (set m x false) p e.1 ∙ get_or-set_other m x p false false (λ w. e.0 (sym w))

one_marked : (n : ℕ) (m : List Bool) (p : ℕ) → p < n → get_or m p false ≡ true → 0 < ones (take n m)
unfolding ones
one_marked n [] p h e = clash (sym e)
one_marked zero (x ∷ m) p h e = absurd (omega arith)
one_marked (suc n) (true ∷ m) p h e = omega arith
one_marked (suc n) (false ∷ m) zero h e = clash (sym e)
one_marked (suc n) (false ∷ m) (suc p) h e = one_marked n m p (omega arith) e

unfoldable pub In : ℕ → List ℕ → Type 0
In p [] = ⊥
In p (x ∷ xs) = (p ≡ x) ⊎ In p xs

in_or : (p : ℕ) (xs : List ℕ) → In p xs ⊎ Each (λ y. y ≢ p) xs
unfolding In Each
in_or p [] = inr tt
in_or p (x ∷ xs) = go (ℕ_discrete p x) (in_or p xs)
  where
    go : Dec (p ≡ x) → In p xs ⊎ Each (λ y. y ≢ p) xs → ((p ≡ x) ⊎ In p xs) ⊎ ((x ≢ p) × Each (λ y. y ≢ p) xs)
    go (yes e) r = inl (inl e)
    go (no n) (inl i) = inl (inr i)
    go (no n) (inr e) = inr ((λ w. n (sym w)), e)

length_numbers : (ns : List Node) (l : List ℕ) → length (numbers ns l) ≡ length ns + length l
unfolding numbers
length_numbers [] l = omega arith
length_numbers (n ∷ ns) l = let i = length_numbers ns l in omega arith

length_reached : (ls : List (List Node)) → suc (length (reached ls)) ≡ counted ls
unfolding reached counted
length_reached [] = refl
length_reached (ns ∷ ls) = let i = length_reached ls in let j = length_numbers ns (reached ls) in omega arith

inside : (pages : List Page) (ls : List (List Node)) → Levels pages ls → Every (λ n. (0 < n.page) × (n.page < length pages)) ls
unfolding Levels Every All Chained
inside pages [] lv = tt
inside pages (ns ∷ ls) lv = (go (length ls) ns lv.0.chained, inside pages ls lv.1)
  where
    go : (l : ℕ) (ns : List Node) → Chained pages l ns 0 → All (λ n. (0 < n.page) × (n.page < length pages)) ns
    go l [] c = tt
    go l (n ∷ ns) c = ((c.0, c.1), go l ns c.3)

each_both : (P Q R : ℕ → Type 0) → ((x : ℕ) → P x → Q x → R x) → (xs : List ℕ) → Each P xs → Each Q xs → Each R xs
unfolding Each
each_both P Q R f [] a b = tt
each_both P Q R f (x ∷ xs) a b = (f x a.0 b.0, each_both P Q R f xs a.1 b.1)

-- EXACTLY: a marked page is the map or is reached. (The other way is `marked` and `itself` of the rules.)
pub marked_reached : (pages : List Page) (ls : List (List Node)) → Rules pages ls → (p : ℕ) → p < length pages
    → get_or (at pages 0).marks p false ≡ true → (p ≡ 0) ⊎ In p (reached ls)
unfolding Distinct Each In
marked_reached pages ls k p h e = go (in_or p (0 ∷ reached ls))
  where
    m : List Bool
    m = (at pages 0).marks

    ins : Each (λ x. (0 < x) × (x < length pages)) (reached ls)
    ins = each_reached (λ x. (0 < x) × (x < length pages)) ls (inside pages ls k.levels)

    mks : Each (λ x. get_or m x false ≡ true) (reached ls)
    mks = each_reached (λ x. get_or m x false ≡ true) ls k.mapped.marked

    dist : Distinct (0 ∷ reached ls)
    dist = (each_both (λ x. (0 < x) × (x < length pages)) (λ x. get_or m x false ≡ true) (λ x. x ≢ 0) (λ x a b w. omega (arith, a.0)) (reached ls) ins mks, once pages ls k.levels)

    all : Each (λ x. (x < length pages) × (get_or m x false ≡ true)) (0 ∷ reached ls)
    all = ((omega arith, k.mapped.itself), each_both (λ x. (0 < x) × (x < length pages)) (λ x. get_or m x false ≡ true) (λ x. (x < length pages) × (get_or m x false ≡ true)) (λ x a b. (a.1, b)) (reached ls) ins mks)

    go : In p (0 ∷ reached ls) ⊎ Each (λ y. y ≢ p) (0 ∷ reached ls) → (p ≡ 0) ⊎ In p (reached ls)
    go (inl i) = i
    go (inr n) =
        let o = ones_unmarked (length pages) (0 ∷ reached ls) m dist all in
        let u = one_marked (length pages) (unmark (0 ∷ reached ls) m) p h (unmark_other (0 ∷ reached ls) m p n ∙ e) in
        let c = k.mapped.count in
        let l = length_reached ls in
        absurd (omega arith)
