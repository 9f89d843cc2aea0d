-- Pages that hold a level: the chain by right links, the walk along it, and that no page stands in it twice.
use Rattle.std.specs.Prelude.{ℕ, zero, suc, ◌≤◌, ◌<◌, ◌≡◌, refl, ◌≢◌, Bool, false, List, [], ◌∷◌, ◌++◌, length, eqb}
use Rattle.std.proofs.Common.{ap, arith}
use Rattle.def_base.specs.Tests.{Case, yes!, no!, case, true_eq}
use Rattle.def_layout.specs.declared.Entry.{Entry}
use Rattle.def_layout.specs.Pages.{Page, kind_at, at}
use Rattle.def_model.specs.TreeRules.{Node, node_of, chain, first_page}
use Rattle.theory_tree.specs.Shape.Levels.{ChainOk, chain_cut, chain_from}

-- Page p is the node n, with `next` at its right.
pub record IsNode (x : Page) (lev next : ℕ) (n : Node) : Type 0 where
  pub kind : x.kind ≡ kind_at lev
  pub level : x.level ≡ lev
  pub right : x.right ≡ next
  pub high : x.high ≡ n.high
  pub items : x.entries ≡ n.items

-- The pages hold a part of a level's chain, after which comes page `next`.
unfoldable pub Chained : List Page → ℕ → List Node → ℕ → Type 0
Chained pages level [] next = Unit {0}
Chained pages level (n ∷ ns) next =
    (0 < n.page) × (n.page < length pages) × IsNode (at pages n.page) level (first_page ns next) n × Chained pages level ns next

node_path : (n : Node) (h : ℕ) (es : List Entry) → h ≡ n.high → es ≡ n.items → ◌≡◌ {A = Node} (record { page = n.page; high = h; items = es }) n
node_path n h es a b = λ i. record { page = n.page; high = a i; items = b i }

not_zero : {p : ℕ} → 0 < p → eqb p 0 ≡ false
not_zero {p} q = go (case (eqb p 0))
  where
    go : Case (eqb p 0) → eqb p 0 ≡ false
    go (no! e) = e
    go (yes! e) = let z = true_eq p 0 e in absurd (omega arith)

-- ---- the walk

-- The walk finds the chain.
pub walk_chain : (f : ℕ) (pages : List Page) (level : ℕ) (ns : List Node) → Chained pages level ns 0 → length ns < f
    → chain f pages (first_page ns 0) ≡ ns
unfolding Chained chain first_page node_of
walk_chain zero pages level ns h l = absurd (omega arith)
walk_chain (suc f) pages level [] h l = refl
walk_chain (suc f) pages level (n ∷ ns) h l =
    rw (not_zero h.0, h.2.right)
    (λ i. node_path n (at pages n.page).high (at pages n.page).entries h.2.high h.2.items i ∷ walk_chain f pages level ns h.3 (omega arith) i)

-- ---- parts of a chain

pub chained_append : (pages : List Page) (level : ℕ) (xs ys : List Node) (next : ℕ)
    → Chained pages level xs (first_page ys next) → Chained pages level ys next → Chained pages level (xs ++ ys) next
unfolding Chained first_page
chained_append pages level [] ys next h k = k
chained_append pages level (n ∷ []) ys next h k = (h.0, h.1, h.2, k)
chained_append pages level (n ∷ m ∷ xs) ys next h k = (h.0, h.1, h.2, chained_append pages level (m ∷ xs) ys next h.3 k)

pub chained_cut : (pages : List Page) (level : ℕ) (xs ys : List Node) (next : ℕ)
    → Chained pages level (xs ++ ys) next → Chained pages level xs (first_page ys next) × Chained pages level ys next
unfolding Chained first_page
chained_cut pages level [] ys next h = (tt, h)
chained_cut pages level (n ∷ []) ys next h = ((h.0, h.1, h.2, tt), h.3)
chained_cut pages level (n ∷ m ∷ xs) ys next h =
    let (a, b) = chained_cut pages level (m ∷ xs) ys next h.3 in
    ((h.0, h.1, h.2, a), b)

-- Of every node of a list.
unfoldable pub All : (Node → Type 0) → List Node → Type 0
All P [] = Unit {0}
All P (n ∷ ns) = P n × All P ns

-- Pages that stay keep their chain.
pub chained_frame : (pages pages' : List Page) (level : ℕ) (ns : List Node) (next : ℕ) → length pages' ≡ length pages
    → All (λ n. at pages' n.page ≡ at pages n.page) ns → Chained pages level ns next → Chained pages' level ns next
unfolding Chained All
chained_frame pages pages' level [] next l a h = tt
chained_frame pages pages' level (n ∷ ns) next l a h =
    let k = h.1 in
    (h.0, omega arith, rw a.0 h.2, chained_frame pages pages' level ns next l a.1 h.3)

-- ---- no page stands twice: high keys rise along a level

pub all_both : (P Q R : Node → Type 0) → ((n : Node) → P n → Q n → R n) → (ns : List Node) → All P ns → All Q ns → All R ns
unfolding All
all_both P Q R f [] a b = tt
all_both P Q R f (n ∷ ns) a b = (f n a.0 b.0, all_both P Q R f ns a.1 b.1)

pub chained_high : (pages : List Page) (level : ℕ) (ns : List Node) (next : ℕ) → Chained pages level ns next
    → All (λ m. ((at pages m.page).high ≡ m.high) × ((at pages m.page).level ≡ level)) ns
unfolding All Chained
chained_high pages level [] next h = tt
chained_high pages level (n ∷ ns) next h = ((h.2.high, h.2.level), chained_high pages level ns next h.3)

highs_between : (b : Bool) (from low : ℕ) (ns : List Node) (to : ℕ) → low ≤ from → ChainOk b from ns to
    → All (λ m. (low ≤ m.high) × (m.high < to)) ns
unfolding All ChainOk
highs_between b from low [] to l h = tt
highs_between b from low (n ∷ ns) to l h =
    let a = h.0.covers in
    let c = chain_from b (suc n.high) ns to h.1 in
    ((omega arith, omega arith), highs_between b (suc n.high) low ns to (omega arith) h.1)

pub once_in_level : (pages : List Page) (level : ℕ) (b : Bool) (from : ℕ) (xs : List Node) (n : Node) (ys : List Node) (next to : ℕ)
    → Chained pages level (xs ++ n ∷ ys) next → ChainOk b from (xs ++ n ∷ ys) to → All (λ m. m.page ≢ n.page) xs × All (λ m. m.page ≢ n.page) ys
unfolding Chained ChainOk
once_in_level pages level b from xs n ys next to h k =
    let (hx, hn) = chained_cut pages level xs (n ∷ ys) next h in
    let c = chain_cut b from xs (n ∷ ys) to k in
    let g = c.right.0.covers in
    let e = hn.2.high in (
      all_both _ _ _ (λ m p q s. let u = p.0 in let v = ap (λ z. (at pages z).high) s in let w = q.1 in omega arith)
          xs (chained_high pages level xs _ hx) (highs_between b from from xs c.mid (omega arith) c.left),
      all_both _ _ _ (λ m p q s. let u = p.0 in let v = ap (λ z. (at pages z).high) s in let w = q.0 in omega arith)
          ys (chained_high pages level ys _ hn.3) (highs_between b (suc n.high) (suc n.high) ys to (omega arith) c.right.1),
    )
