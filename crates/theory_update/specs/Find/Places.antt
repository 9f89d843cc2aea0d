-- Places in the levels: a node that covers k, and under it the entry and the nodes that lead to k. No pages here.
use Rattle.std.specs.Prelude.{ℕ, suc, ◌≤◌, ◌<◌, ◌≡◌, refl, false, List, [], ◌∷◌, ◌++◌, length}
use Rattle.std.proofs.Common.{sym, ap, ◌∙◌, subst, append_assoc, arith}
use Rattle.std.proofs.Math.Dec.{eqb-suc-zero}
use Rattle.def_layout.specs.declared.Entry.{Entry}
use Rattle.def_layout.specs.Entries.{top}
use Rattle.def_layout.specs.Pages.{Page}
use Rattle.def_model.specs.Fit.{after}
use Rattle.def_model.specs.TreeRules.{Node, flat}
use Rattle.theory_tree.specs.Order.Keys.{Rising, after_append}
use Rattle.theory_tree.specs.Shape.Levels.{Match, done, one, two, Cut, match_cut, NodeOk, ChainOk, chain_cut, index_end, parts, from_of, chain_from_of, match_from}
use Rattle.theory_tree.specs.Shape.Trees.{Levels, Joined, joined_cut, levels_at, Direct, direct_last}
use Rattle.theory_update.specs.Find.Search.{Sought, sought, finds}

-- Node n of level l covers k.
pub record Place (k : ℕ) (ls ups : List (List Node)) (xs : List Node) (n : Node) (ys : List Node) (l : ℕ) : Type 0 where
  pub downs : List (List Node)
  pub whole : ls ≡ ups ++ (xs ++ n ∷ ys) ∷ downs
  pub depth : length downs ≡ l
  pub low : from_of 0 xs ≤ k
  pub high : k ≤ n.high

-- Entry e of node n leads to k: to the nodes mid of level l.
pub record Spot (k : ℕ) (ls ups : List (List Node)) (xs : List Node) (n : Node) (ys : List Node) (e : Entry) (mid : List Node) (l : ℕ) : Type 0 where
  pub bs : List Node
  pub cs : List Node
  pub downs : List (List Node)
  pub pre : List Entry
  pub post : List Entry
  pub whole : ls ≡ ups ++ (xs ++ n ∷ ys) ∷ (bs ++ (mid ++ cs)) ∷ downs
  pub depth : length downs ≡ l
  pub items : n.items ≡ pre ++ e ∷ post
  pub before : Match (flat xs ++ pre) bs
  pub here : Match (e ∷ []) mid
  pub beyond : Match (post ++ flat ys) cs
  pub low : from_of 0 bs ≤ k
  pub high : k ≤ e.key

-- An index node begins where the entries before it end.
pub index_node : (pages : List Page) (ups : List (List Node)) (xs : List Node) (n : Node) (ys : List Node) (low : List Node)
    (downs : List (List Node))
    → Levels pages (ups ++ (xs ++ n ∷ ys) ∷ low ∷ downs) → NodeOk false (after 0 (flat xs)) n
unfolding ChainOk
index_node pages ups xs n ys low downs lv =
    let h : ChainOk false 0 (xs ++ n ∷ ys) (suc top) = rw (eqb-suc-zero (length downs)) at (levels_at pages ups (xs ++ n ∷ ys) (low ∷ downs) lv).chain in
    let c = chain_cut false 0 xs (n ∷ ys) (suc top) h in
    subst (λ z. NodeOk false z n) (index_end 0 xs c.mid c.left) c.right.0

-- What a spot says of the search, in the node's entries.
pub record Searched (k : ℕ) (n : Node) (pre : List Entry) (e : Entry) (post : List Entry) : Type 0 where
  pub from : ℕ
  pub rises : Rising from (pre ++ e ∷ post)
  pub starts : after from pre ≤ k

pub searched : (pages : List Page) (k : ℕ) (ls ups : List (List Node)) (xs : List Node) (n : Node) (ys : List Node) (e : Entry) (mid : List Node)
    (l : ℕ) (p : Spot k ls ups xs n ys e mid l)
    → Levels pages ls → Searched k n p.pre e p.post
searched pages k ls ups xs n ys e mid l p lv =
    let o = index_node pages ups xs n ys (p.bs ++ (mid ++ p.cs)) p.downs (subst (Levels pages) p.whole lv) in
    let a = match_from 0 p.before in
    let b = after_append 0 (flat xs) p.pre in
    let c = p.low in
    record { from = after 0 (flat xs); rises = subst (Rising (after 0 (flat xs))) p.items o.rises; starts = omega arith }

-- From a place to the spot under it.
pub record Opened (k : ℕ) (ls ups : List (List Node)) (xs : List Node) (n : Node) (ys : List Node) (l : ℕ) : Type 0 where
  pub entry : Entry
  pub mid : List Node
  pub spot : Spot k ls ups xs n ys entry mid l

-- (The parts found are handed over as variables.)
open_cut : (k : ℕ) (ls ups : List (List Node)) (xs : List Node) (n : Node) (ys lower : List Node) (downs : List (List Node)) (l : ℕ) (x : Entry)
    (pre post : List Entry) → ls ≡ ups ++ (xs ++ n ∷ ys) ∷ lower ∷ downs
    → length downs ≡ l → n.items ≡ pre ++ x ∷ post → Match (flat (xs ++ n ∷ ys)) lower → after (after 0 (flat xs)) pre ≤ k → k ≤ x.key
    → Opened k ls ups xs n ys l
open_cut k ls ups xs n ys lower downs l x pre post w d it m i h =
    let m' : Match ((flat xs ++ pre) ++ ((x ∷ []) ++ (post ++ flat ys))) lower
    = subst (λ z. Match z lower) (parts xs n ys pre x post it ∙ append_assoc (flat xs ++ pre) (x ∷ []) (post ++ flat ys)) m in
    let c₁ = match_cut (flat xs ++ pre) m' in
    go c₁.left c₁.right c₁.whole c₁.left_match (match_cut (x ∷ []) c₁.right_match)
  where
    go : (bs rest : List Node) → lower ≡ bs ++ rest → Match (flat xs ++ pre) bs → Cut (x ∷ []) (post ++ flat ys) rest → Opened k ls ups xs n ys l
    go bs rest e b c =
        let g = match_from 0 b in
        let a = after_append 0 (flat xs) pre in
        record {
          entry = x;
          mid = c.left;
          spot = record {
            bs = bs;
            cs = c.right;
            downs = downs;
            pre = pre;
            post = post;
            whole = w ∙ ap (λ z. ups ++ (xs ++ n ∷ ys) ∷ z ∷ downs) (e ∙ ap (bs ++◌) c.whole);
            depth = d;
            items = it;
            before = b;
            here = c.left_match;
            beyond = c.right_match;
            low = omega arith;
            high = h;
          };
        }

open_found : (k : ℕ) (ls ups : List (List Node)) (xs : List Node) (n : Node) (ys lower : List Node) (downs : List (List Node)) (l : ℕ) (x : Entry)
    → Sought k n.items x → ls ≡ ups ++ (xs ++ n ∷ ys) ∷ lower ∷ downs
    → length downs ≡ l → Match (flat (xs ++ n ∷ ys)) lower → after 0 (flat xs) ≤ k → Opened k ls ups xs n ys l
open_found k ls ups xs n ys lower downs l x q w d m st =
    open_cut k ls ups xs n ys lower downs l x q.pre q.post w d q.whole m (q.before (after 0 (flat xs)) st) q.reaches

pub open_place : (pages : List Page) (k : ℕ) (ls ups : List (List Node)) (xs : List Node) (n : Node) (ys : List Node) (l : ℕ)
    → Place k ls ups xs n ys (suc l) → Levels pages ls → Joined ls
    → Opened k ls ups xs n ys l
unfolding Joined
open_place pages k ls ups xs n ys l p lv jn = go p.downs refl
  where
    go : (ds : List (List Node)) → p.downs ≡ ds → Opened k ls ups xs n ys l
    go [] e = let z : 0 ≡ suc l = ap length (sym e) ∙ p.depth in absurd (omega (arith, z))
    go (lower ∷ downs) e =
        let w : ls ≡ ups ++ (xs ++ n ∷ ys) ∷ lower ∷ downs = p.whole ∙ ap (λ z. ups ++ (xs ++ n ∷ ys) ∷ z) e in
        let lv' : Levels pages (ups ++ (xs ++ n ∷ ys) ∷ lower ∷ downs) = subst (Levels pages) w lv in
        let o = index_node pages ups xs n ys lower downs lv' in
        let m : Match (flat (xs ++ n ∷ ys)) lower = (joined_cut ups (xs ++ n ∷ ys) (lower ∷ downs) (subst Joined w jn)).1.0 in
        let c = chain_cut false 0 xs (n ∷ ys) (suc top) (rw (eqb-suc-zero (length downs)) at (levels_at pages ups (xs ++ n ∷ ys) (lower ∷ downs) lv').chain) in
        let f₁ = chain_from_of false 0 xs c.mid c.left in
        let f₂ = index_end 0 xs c.mid c.left in
        let a = p.low in
        let st : after 0 (flat xs) ≤ k = omega arith in
        let b = p.high in
        let d = o.ends in
        let f = finds k (after 0 (flat xs)) n.items st (omega arith) in
        open_found k ls ups xs n ys lower downs l f.0 (sought k n.items f.0 f.1) w (let z : suc (length downs) ≡ suc l = ap length (sym e) ∙ p.depth in omega arith) m st

-- What one entry stands for.
pub data Stands (e : Entry) : List Node → Type 0 where
  alone : (q : Node) → e.val ≡ q.page → q.high ≡ e.key → Stands e (q ∷ [])
  pair : (q m : Node) → e.val ≡ q.page → q.high < e.key → m.high ≡ e.key → Stands e (q ∷ m ∷ [])

stands_go : {es : List Entry} {ns : List Node} (e : Entry) → es ≡ e ∷ [] → Match es ns → Stands e ns
stands_go e w done = let z : ◌≡◌ {A = ℕ} 0 1 = ap length w in absurd (omega (arith, z))
stands_go e w (one {e = x} {n = q} {es = []} a b done) =
    let z : x ≡ e = ap (λ l. elim l [ [] ↦ e | y ∷ ys ↦ y ]) w in
    alone q (sym (ap (λ y. y.val) z) ∙ a) (b ∙ ap (λ y. y.key) z)
stands_go e w (one {es = y ∷ es} a b h) = let z : suc (suc (length es)) ≡ 1 = ap length w in absurd (omega (arith, z))
stands_go e w (two {e = x} {n = q} {m = m} {es = []} a b c done) =
    let z : x ≡ e = ap (λ l. elim l [ [] ↦ e | y ∷ ys ↦ y ]) w in
    pair q m (sym (ap (λ y. y.val) z) ∙ a) (omega (arith, ap (λ y. y.key) z)) (c ∙ ap (λ y. y.key) z)
stands_go e w (two {es = y ∷ es} a b c h) = let z : suc (suc (length es)) ≡ 1 = ap length w in absurd (omega (arith, z))

pub stands : (e : Entry) (ns : List Node) → Match (e ∷ []) ns → Stands e ns
stands e ns m = stands_go e refl m

-- The child that stands for its entry alone: a place one level below, directly under its parent.
pub child_place : (k : ℕ) (ls ups : List (List Node)) (xs : List Node) (n : Node) (ys : List Node) (e : Entry) (q : Node) (l : ℕ)
    (p : Spot k ls ups xs n ys e (q ∷ []) l) → q.high ≡ e.key
    → Place k ls (ups ++ (xs ++ n ∷ ys) ∷ []) p.bs q p.cs l
child_place k ls ups xs n ys e q l p h =
    record {
      downs = p.downs;
      whole = p.whole ∙ sym (append_assoc ups ((xs ++ n ∷ ys) ∷ []) ((p.bs ++ q ∷ p.cs) ∷ p.downs));
      depth = p.depth;
      low = p.low;
      high = let a = p.high in omega arith;
    }

pub child_direct : (k : ℕ) (ls ups : List (List Node)) (xs : List Node) (n : Node) (ys : List Node) (e : Entry) (q : Node) (l : ℕ)
    (p : Spot k ls ups xs n ys e (q ∷ []) l) → e.val ≡ q.page → q.high ≡ e.key
    → Direct (ups ++ (xs ++ n ∷ ys) ∷ []) p.bs q p.cs
child_direct k ls ups xs n ys e q l p v h =
    direct_last ups (xs ++ n ∷ ys) p.bs q p.cs (flat xs ++ p.pre) e (p.post ++ flat ys)
    (parts xs n ys p.pre e p.post p.items ∙ append_assoc (flat xs ++ p.pre) (e ∷ []) (p.post ++ flat ys)) v h p.before p.beyond

pub direct_same : (ups : List (List Node)) (xs : List Node) (n m : Node) (ys : List Node) → m.page ≡ n.page → m.high ≡ n.high → Direct ups xs n ys
    → Direct ups xs m ys
unfolding Direct
direct_same [] xs n m ys a b d = d
direct_same (u ∷ []) xs n m ys a b d = let (es, e, fs, w, p, q, x, y) = d in (es, e, fs, w, p ∙ sym a, b ∙ q, x, y)
direct_same (u ∷ v ∷ ups) xs n m ys a b d = direct_same (v ∷ ups) xs n m ys a b d
