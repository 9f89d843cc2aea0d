-- LEFT LINKS WORKED OUT along the leaves (02, U5): they agree with the right ones, and they follow from the pages wherever every leaf is reached.
use Rattle.std.specs.Prelude.{ℕ, zero, suc, ◌<◌, ◌≡◌, refl, ◌≢◌, ◌↔◌, Bool, true, false, get_or, set, replicate, eqb}
use Rattle.std.proofs.Math.Path.{sym, ap}
use Rattle.std.proofs.Common.{◌∙◌, subst, length-set, get_or-set_same, get_or-set_other, ext_get_or}
use mathlib.Core.List.{List, [], ◌∷◌, ◌++◌}
use native.Mathlib.Omega.{arith}
use Rattle.std.proofs.Math.Decide.{ℕ_discrete, dec_lt}
use Rattle.std.proofs.Math.ListN.{length}
use Rattle.std.proofs.lemmas.List.{set-get_or, set-append_left}
use Rattle.std.proofs.Math.Seq.{set_out}
use Rattle.def_base.specs.Tests.{pick, Case, yes!, no!, case, and_true, and_both, true_eq, eq_true}
use Rattle.def_layout.specs.Entries.{top}
use Rattle.def_layout.specs.Pages.{Page, at, kind_is}
use Rattle.def_layout.specs.declared.page.PageKind.TheVariants.{Leaf}
use Rattle.def_model.specs.TreeRules.{Node, levels_of, bottom}
use Rattle.def_model.specs.Links.{left_at, linked, lefts_ok, relink, of_leaves, relinked}
use Rattle.theory_tree.specs.Shape.Levels.{ChainOk}
use Rattle.theory_tree.specs.Shape.Chains.{Chained, All, once_in_level}
use Rattle.theory_tree.specs.Shape.Trees.{is_bottom, Levels}
use Rattle.theory_tree.specs.Shape.Rules.{Rooted, Rules}

-- ---- what agreeing means

-- The page before a node: the last of those before it.
unfoldable pub last_page : (before : ℕ) → List Node → ℕ
last_page b [] = b
last_page b (n ∷ ns) = last_page n.page ns

pub linked_at : (b : ℕ) (xs : List Node) (n : Node) (ys : List Node) (lefts : List ℕ) → linked b (xs ++ n ∷ ys) lefts ≡ true → left_at lefts n.page ≡ last_page b xs
unfolding linked last_page
linked_at b [] n ys lefts e = true_eq (left_at lefts n.page) b (and_true (eqb (left_at lefts n.page) b) (linked n.page ys lefts) e).0
linked_at b (x ∷ xs) n ys lefts e = linked_at x.page xs n ys lefts (and_true (eqb (left_at lefts x.page) b) (linked x.page (xs ++ n ∷ ys) lefts) e).1

-- Each node's link is the page before it.
abbrev pub EachBefore : (before : ℕ) → List Node → List ℕ → Type 0
EachBefore b ns lefts = (xs : List Node) (n : Node) (ys : List Node) → ns ≡ xs ++ n ∷ ys → left_at lefts n.page ≡ last_page b xs

linked_each : (b : ℕ) (ns : List Node) (lefts : List ℕ) → EachBefore b ns lefts → linked b ns lefts ≡ true
unfolding linked last_page
linked_each b [] lefts h = refl
linked_each b (n ∷ ns) lefts h =
    and_both (eq_true (left_at lefts n.page) b (h [] n ns refl)) (linked_each n.page ns lefts (λ xs m ys e. h (n ∷ xs) m ys (ap (n ∷◌) e)))

-- 02, U5: "left and right links agree" exactly where each leaf of the chain has the leaf before it, and the first has none.
pub lefts_ok_means : (pages : List Page) (lefts : List ℕ) → (lefts_ok pages lefts ≡ true) ↔ EachBefore 0 (bottom (levels_of pages)) lefts
unfolding lefts_ok
lefts_ok_means pages lefts =
    ((λ o xs n ys e. linked_at 0 xs n ys lefts (subst (λ ns. linked 0 ns lefts ≡ true) e o)), linked_each 0 (bottom (levels_of pages)) lefts)

-- ---- lengths

pub relink_length : (b : ℕ) (ns : List Node) (ls : List ℕ) → length (relink b ns ls) ≡ length ls
unfolding relink
relink_length b [] ls = refl
relink_length b (n ∷ ns) ls = relink_length n.page ns (set ls n.page b) ∙ length-set ls n.page b

pub of_leaves_length : (xs : List Page) (ls : List ℕ) → length (of_leaves xs ls) ≡ length xs
unfolding of_leaves
of_leaves_length [] ls = refl
of_leaves_length (x ∷ xs) [] = ap suc (of_leaves_length xs [])
of_leaves_length (x ∷ xs) (l ∷ ls) = ap suc (of_leaves_length xs ls)

pub relinked_length : (xs : List Page) (ls : List ℕ) → length (relinked xs ls) ≡ length xs
unfolding relinked
relinked_length xs ls = relink_length 0 (bottom (levels_of xs)) (of_leaves xs ls) ∙ of_leaves_length xs ls

-- ---- a chain in which no page stands twice

unfoldable pub Once : List Node → Type 0
Once [] = Unit {0}
Once (n ∷ ns) = All (λ m. m.page ≢ n.page) ns × Once ns

pub chain_once : (pages : List Page) (l : ℕ) (b : Bool) (from : ℕ) (ns : List Node) (next to : ℕ) → Chained pages l ns next → ChainOk b from ns to → Once ns
unfolding Once Chained ChainOk
chain_once pages l b from [] next to c k = tt
chain_once pages l b from (n ∷ ns) next to c k = ((once_in_level pages l b from [] n ns next to c k).1, chain_once pages l b (suc n.high) ns next to c.3 k.1)

pub chain_inside : (pages : List Page) (l : ℕ) (ns : List Node) (next : ℕ) → Chained pages l ns next → All (λ n. n.page < length pages) ns
unfolding Chained All
chain_inside pages l [] next c = tt
chain_inside pages l (n ∷ ns) next c = (c.1, chain_inside pages l ns next c.3)

all_longer : (a b : ℕ) → a ≡ b → (ns : List Node) → All (λ n. n.page < a) ns → All (λ n. n.page < b) ns
all_longer a b e ns h = subst (λ k. All (λ n. n.page < k) ns) e h

-- A page that the chain does not have keeps its link.
pub relink_other : (b : ℕ) (ns : List Node) (ls : List ℕ) (p : ℕ) → All (λ n. n.page ≢ p) ns → get_or (relink b ns ls) p 0 ≡ get_or ls p 0
unfolding relink All
relink_other b [] ls p a = refl
relink_other b (n ∷ ns) ls p a = relink_other n.page ns (set ls n.page b) p a.1 ∙ get_or-set_other ls n.page p b 0 (λ e. a.0 (sym e))

-- LEFT AND RIGHT AGREE.
pub relink_linked : (b : ℕ) (ns : List Node) (ls : List ℕ) → Once ns → All (λ n. n.page < length ls) ns → linked b ns (relink b ns ls) ≡ true
unfolding relink linked Once All
relink_linked b [] ls o i = refl
relink_linked b (n ∷ ns) ls o i =
    let e : get_or (relink n.page ns (set ls n.page b)) n.page 0 ≡ b = relink_other n.page ns (set ls n.page b) n.page o.0 ∙ get_or-set_same ls n.page b 0 i.0 in
    and_both (eq_true (get_or (relink n.page ns (set ls n.page b)) n.page 0) b e)
    (relink_linked n.page ns (set ls n.page b) o.1 (all_longer (length ls) (length (set ls n.page b)) (sym (length-set ls n.page b)) ns i.1))

-- Links that agree stay as they are.
pub relink_same : (b : ℕ) (ns : List Node) (ls : List ℕ) → linked b ns ls ≡ true → relink b ns ls ≡ ls
unfolding relink linked
relink_same b [] ls e = refl
relink_same b (n ∷ ns) ls e =
    let (x, y) = and_true (eqb (get_or ls n.page 0) b) (linked n.page ns ls) e in
    let s : set ls n.page b ≡ ls = ap (set ls n.page) (sym (true_eq (get_or ls n.page 0) b x)) ∙ set-get_or ls n.page 0 in
    ap (relink n.page ns) s ∙ relink_same n.page ns ls y

-- What the chain has not is all that is kept.
pub relink_any : (b : ℕ) (ns : List Node) (ls ms : List ℕ) → length ls ≡ length ms → All (λ n. n.page < length ls) ns
    → ((p : ℕ) → p < length ls → All (λ n. n.page ≢ p) ns → get_or ls p 0 ≡ get_or ms p 0) → relink b ns ls ≡ relink b ns ms
unfolding relink All
relink_any b [] ls ms e i h = ext_get_or 0 ls ms e (λ p k. h p k tt)
relink_any b (n ∷ ns) ls ms e i h =
    let la = length-set ls n.page b in
    let lb = length-set ms n.page b in
    relink_any n.page ns (set ls n.page b) (set ms n.page b) (omega arith) (all_longer (length ls) (length (set ls n.page b)) (sym la) ns i.1)
    (λ p k a. same p (subst (λ q. p < q) la k) a (ℕ_discrete n.page p))
  where
    same : (p : ℕ) → p < length ls → All (λ m. m.page ≢ p) ns → Dec (n.page ≡ p) → get_or (set ls n.page b) p 0 ≡ get_or (set ms n.page b) p 0
    same p k a (yes w) = subst (λ q. get_or (set ls n.page b) q 0 ≡ get_or (set ms n.page b) q 0) w (let j = i.0 in get_or-set_same ls n.page b 0 j ∙ sym (get_or-set_same ms n.page b 0 (omega arith)))
    same p k a (no w) =
        get_or-set_other ls n.page p b 0 (λ q. w (sym q)) ∙ h p k (w, a) ∙ sym (get_or-set_other ms n.page p b 0 (λ q. w (sym q)))

-- What is at the end stays, where the chain is before it.
pub relink_longer : (b : ℕ) (ns : List Node) (ls ms : List ℕ) → All (λ n. n.page < length ls) ns → relink b ns (ls ++ ms) ≡ relink b ns ls ++ ms
unfolding relink All
relink_longer b [] ls ms i = refl
relink_longer b (n ∷ ns) ls ms i =
    ap (relink n.page ns) (set-append_left ls ms n.page b i.0)
    ∙ relink_longer n.page ns (set ls n.page b) ms (all_longer (length ls) (length (set ls n.page b)) (sym (length-set ls n.page b)) ns i.1)

-- What holds of every link that was there, and of each page of the chain with the one before it, holds of every link.
pub relink_each : (P : ℕ → ℕ → Type 0) (Q R : ℕ → Type 0) → ((p l : ℕ) → Q p → R l → P p l) → (b : ℕ) (ns : List Node) (ls : List ℕ) → R b → All (λ n. Q n.page × R n.page) ns → ((p : ℕ) → P p (get_or ls p 0)) → (p : ℕ) → P p (get_or (relink b ns ls) p 0)
unfolding relink All
relink_each P Q R f b [] ls q a h p = h p
relink_each P Q R f b (n ∷ ns) ls q a h p = relink_each P Q R f n.page ns (set ls n.page b) a.0.1 a.1 (λ p. go p (ℕ_discrete p n.page) (dec_lt n.page (length ls))) p
  where
    go : (p : ℕ) → Dec (p ≡ n.page) → Dec (n.page < length ls) → P p (get_or (set ls n.page b) p 0)
    go p (no w) d = subst (P p) (sym (get_or-set_other ls n.page p b 0 w)) (h p)
    go p (yes w) (yes i) = subst (λ x. P x (get_or (set ls n.page b) x 0)) (sym w) (subst (P n.page) (sym (get_or-set_same ls n.page b 0 i)) (f n.page b a.0.0 q))
    go p (yes w) (no i) = subst (λ x. P p (get_or x p 0)) (sym (set_out ls n.page b (omega arith))) (h p)

-- No links at all.
pub no_leaves : (xs : List Page) → of_leaves xs [] ≡ replicate (length xs) 0
unfolding of_leaves
no_leaves [] = refl
no_leaves (x ∷ xs) = ap (0 ∷◌) (no_leaves xs)

-- A page's link, where it is a leaf.
pub of_leaves_at : (xs : List Page) (ls : List ℕ) (p : ℕ) → p < length xs → get_or (of_leaves xs ls) p 0 ≡ pick (kind_is (at xs p).kind Leaf) (get_or ls p 0) 0
unfolding of_leaves
of_leaves_at [] ls p h = absurd (omega arith)
of_leaves_at (x ∷ xs) [] zero h = go (kind_is x.kind Leaf)
  where
    go : (t : Bool) → ◌≡◌ {A = ℕ} 0 (pick t 0 0)
    go true = refl
    go false = refl
of_leaves_at (x ∷ xs) [] (suc p) h = of_leaves_at xs [] p (omega arith)
of_leaves_at (x ∷ xs) (l ∷ ls) zero h = refl
of_leaves_at (x ∷ xs) (l ∷ ls) (suc p) h = of_leaves_at xs ls p (omega arith)

-- ---- of a tree that keeps the rules

-- The lowest level.
bottom_level : (pages : List Page) (ls : List (List Node)) → Levels pages ls → (0 < length ls) → Chained pages 0 (bottom ls) 0 × ChainOk (is_bottom 0) 0 (bottom ls) (suc top)
unfolding Levels bottom
bottom_level pages [] lv h = absurd (omega arith)
bottom_level pages (ns ∷ []) lv h = (lv.0.chained, lv.0.chain)
bottom_level pages (ns ∷ ms ∷ ls) lv h = bottom_level pages (ms ∷ ls) lv.1 (omega arith)

some_level : (ls : List (List Node)) → Rooted ls → 0 < length ls
unfolding Rooted
some_level [] r = absurd r
some_level (ns ∷ ls) r = omega arith

module _ (pages : List Page) (k : Rules pages (levels_of pages)) where
  lowest : Chained pages 0 (bottom (levels_of pages)) 0 × ChainOk (is_bottom 0) 0 (bottom (levels_of pages)) (suc top)
  lowest = bottom_level pages (levels_of pages) k.levels (some_level (levels_of pages) k.rooted)

  pub leaves_once : Once (bottom (levels_of pages))
  leaves_once = chain_once pages 0 (is_bottom 0) 0 (bottom (levels_of pages)) 0 (suc top) lowest.0 lowest.1

  pub leaves_inside : (ls : List ℕ) → All (λ n. n.page < length (of_leaves pages ls)) (bottom (levels_of pages))
  leaves_inside ls = all_longer (length pages) (length (of_leaves pages ls)) (sym (of_leaves_length pages ls)) (bottom (levels_of pages)) (chain_inside pages 0 (bottom (levels_of pages)) 0 lowest.0)

  -- A page of the chain is a leaf, and there is such a page.
  pub leaves_are : All (λ n. ((at pages n.page).kind ≡ Leaf) × (n.page < length pages)) (bottom (levels_of pages))
  unfolding Chained All
  leaves_are = go (bottom (levels_of pages)) lowest.0
    where
      go : (ns : List Node) → Chained pages 0 ns 0 → All (λ n. ((at pages n.page).kind ≡ Leaf) × (n.page < length pages)) ns
      go [] c = tt
      go (n ∷ ns) c = ((c.2.kind, c.1), go ns c.3)

  -- WORKED OUT, THEY AGREE.
  pub relinked_ok : (ls : List ℕ) → lefts_ok pages (relinked pages ls) ≡ true
  unfolding lefts_ok relinked
  relinked_ok ls = relink_linked 0 (bottom (levels_of pages)) (of_leaves pages ls) leaves_once (leaves_inside ls)

  -- What agrees stays, if only leaves have links.
  pub relinked_same : (ls : List ℕ) → of_leaves pages ls ≡ ls → lefts_ok pages ls ≡ true → relinked pages ls ≡ ls
  unfolding lefts_ok relinked
  relinked_same ls e o = ap (relink 0 (bottom (levels_of pages))) e ∙ relink_same 0 (bottom (levels_of pages)) ls o

  -- Where every leaf is reached they follow from the pages alone.
  pub relinked_any : ((p : ℕ) → p < length pages → kind_is (at pages p).kind Leaf ≡ true → All (λ n. n.page ≢ p) (bottom (levels_of pages)) → ⊥) → (ls ms : List ℕ) → relinked pages ls ≡ relinked pages ms
  unfolding relinked
  relinked_any reached ls ms =
      let a = of_leaves_length pages ls in
      let b = of_leaves_length pages ms in
      relink_any 0 (bottom (levels_of pages)) (of_leaves pages ls) (of_leaves pages ms) (omega arith) (leaves_inside ls)
      (λ p h away. let i : p < length pages = omega arith in of_leaves_at pages ls p i ∙ go p i away (case (kind_is (at pages p).kind Leaf)) ∙ sym (of_leaves_at pages ms p i))
    where
      go : (p : ℕ) → p < length pages → All (λ n. n.page ≢ p) (bottom (levels_of pages)) → Case (kind_is (at pages p).kind Leaf)
          → pick (kind_is (at pages p).kind Leaf) (get_or ls p 0) 0 ≡ pick (kind_is (at pages p).kind Leaf) (get_or ms p 0) 0
      go p i away (yes! t) = absurd (reached p i t away)
      go p i away (no! t) = rw t
