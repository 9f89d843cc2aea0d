-- A level as a list of nodes: how the entries above stand for it, and how its covers follow one another.
use Rattle.std.specs.Prelude.{ℕ, suc, ◌≤◌, ◌<◌, ◌≡◌, refl, Bool, true, false, ◌&&◌, List, [], ◌∷◌, ◌++◌, ltb, eqb}
use Rattle.std.proofs.Common.{sym, ap, ◌∙◌, append_assoc, arith}
use Rattle.def_base.specs.Tests.{pick, Case, yes!, no!, case, clash, lt_true, true_lt, lt_false, true_eq, eq_true, and_true}
use Rattle.def_layout.specs.declared.Entry.{Entry}
use Rattle.def_model.specs.Fit.{after}
use Rattle.def_model.specs.TreeRules.{Node, flat, matches}
use Rattle.theory_tree.specs.Order.Keys.{Rising, after_append, rising_append, rising_weaken, after_mono}

pub flat_append : (xs ys : List Node) → flat (xs ++ ys) ≡ flat xs ++ flat ys
unfolding flat
flat_append [] ys = refl
flat_append (n ∷ xs) ys = rw (flat_append xs ys, append_assoc)

-- ---- the entries of a level against the nodes of the level below

-- Entry (w, c) stands for node c, and for one node more where the high key of c is below w.
pub data Match : List Entry → List Node → Type 0 where
  done : Match [] []
  one : {e : Entry} {n : Node} {es : List Entry} {ns : List Node} → e.val ≡ n.page → n.high ≡ e.key → Match es ns → Match (e ∷ es) (n ∷ ns)
  two : {e : Entry} {n m : Node} {es : List Entry} {ns : List Node} → e.val ≡ n.page → n.high < e.key → m.high ≡ e.key → Match es ns
      → Match (e ∷ es) (n ∷ m ∷ ns)

pub match_append : {es fs : List Entry} {xs ys : List Node} → Match es xs → Match fs ys → Match (es ++ fs) (xs ++ ys)
match_append done k = k
match_append (one a b h) k = one a b (match_append h k)
match_append (two a b c h) k = two a b c (match_append h k)

pub record Cut (es fs : List Entry) (ns : List Node) : Type 0 where
  pub left : List Node
  pub right : List Node
  pub whole : ns ≡ left ++ right
  pub left_match : Match es left
  pub right_match : Match fs right

pub match_cut : (es : List Entry) {fs : List Entry} {ns : List Node} → Match (es ++ fs) ns → Cut es fs ns
match_cut [] {ns = ns} h = record { left = []; right = ns; whole = refl; left_match = done; right_match = h }
match_cut (e ∷ es) (one {n = n} a b h) =
    let c = match_cut es h in
    record { left = n ∷ c.left; right = c.right; whole = ap (n ∷◌) c.whole; left_match = one a b c.left_match; right_match = c.right_match }
match_cut (e ∷ es) (two {n = n} {m = m} a b d h) =
    let c = match_cut es h in
    record { left = n ∷ m ∷ c.left; right = c.right; whole = ap (λ z. n ∷ m ∷ z) c.whole; left_match = two a b d c.left_match; right_match = c.right_match }

-- The test and the fact, both ways.
pub matches_true : {es : List Entry} {ns : List Node} → Match es ns → matches es ns ≡ true
unfolding matches
matches_true done = refl
matches_true (one {e = e} {n = n} {es = es} {ns = []} a b h) = rw (eq_true e.val n.page a, eq_true n.high e.key b) (matches_true h)
matches_true (one {e = e} {n = n} {es = es} {ns = m ∷ ns} a b h) =
    rw (eq_true e.val n.page a, eq_true n.high e.key b, lt_false n.high e.key (omega arith)) (matches_true h)
matches_true (two {e = e} {n = n} {m = m} a b c h) =
    rw (eq_true e.val n.page a, lt_true n.high e.key b, eq_true m.high e.key c) (matches_true h)

pub true_matches : (es : List Entry) (ns : List Node) → matches es ns ≡ true → Match es ns
unfolding matches
true_matches [] [] t = done
true_matches [] (n ∷ ns) t = clash (sym t)
true_matches (e ∷ es) [] t = clash (sym t)
true_matches (e ∷ es) (n ∷ []) t =
    let (a, t₁) = and_true (eqb e.val n.page) _ t in
    let (b, t₂) = and_true (eqb n.high e.key) _ t₁ in
    one (true_eq _ _ a) (true_eq _ _ b) (true_matches es [] t₂)
true_matches (e ∷ es) (n ∷ m ∷ ns) t =
    let (a, t₁) = and_true (eqb e.val n.page) _ t in
    go (case (ltb n.high e.key)) (true_eq _ _ a) t₁ (true_matches es ns) (true_matches es (m ∷ ns))
  where
    go : Case (ltb n.high e.key) → e.val ≡ n.page
        → pick (ltb n.high e.key) (eqb m.high e.key && matches es ns) (eqb n.high e.key && matches es (m ∷ ns)) ≡ true
        → (matches es ns ≡ true → Match es ns) → (matches es (m ∷ ns) ≡ true → Match es (m ∷ ns)) → Match (e ∷ es) (n ∷ m ∷ ns)
    go (yes! c) a u f g =
        let (b, v) = and_true (eqb m.high e.key) _ (rw c at u) in
        two a (true_lt _ _ c) (true_eq _ _ b) (f v)
    go (no! c) a u f g =
        let (b, v) = and_true (eqb n.high e.key) _ (rw c at u) in
        one a (true_eq _ _ b) (g v)

-- ---- cover after cover

-- What the entries of a node must end in: an index page's last key is its high key, a leaf's is at most that.
abbrev pub Ends : Bool → ℕ → ℕ → Type 0
Ends true a h = a ≤ suc h
Ends false a h = a ≡ suc h

-- A node whose cover begins at `from`.
pub record NodeOk (isleaf : Bool) (from : ℕ) (n : Node) : Type 0 where
  pub covers : from ≤ n.high
  pub rises : Rising from n.items
  pub ends : Ends isleaf (after from n.items) n.high

-- Nodes that cover all keys from `from` up to below `to`, one after another.
unfoldable pub ChainOk : Bool → ℕ → List Node → ℕ → Type 0
ChainOk b from [] to = from ≡ to
ChainOk b from (n ∷ ns) to = NodeOk b from n × ChainOk b (suc n.high) ns to

pub ends_le : (b : Bool) (a h : ℕ) → Ends b a h → a ≤ suc h
ends_le true a h e = e
ends_le false a h e = omega arith

-- The entries of a level rise strictly.
pub chain_rising : (b : Bool) (from : ℕ) (ns : List Node) (to : ℕ) → ChainOk b from ns to → Rising from (flat ns)
unfolding ChainOk flat Rising
chain_rising b from [] to h = tt
chain_rising b from (n ∷ ns) to h =
    let i = chain_rising b (suc n.high) ns to h.1 in
    let l = ends_le b (after from n.items) n.high h.0.ends in
    rising_append from n.items (flat ns) h.0.rises (rising_weaken _ (suc n.high) (flat ns) l i)

pub chain_append : (b : Bool) (from : ℕ) (xs : List Node) (mid : ℕ) (ys : List Node) (to : ℕ)
    → ChainOk b from xs mid → ChainOk b mid ys to → ChainOk b from (xs ++ ys) to
unfolding ChainOk
chain_append b from [] mid ys to h k = rw h k
chain_append b from (n ∷ xs) mid ys to h k = (h.0, chain_append b (suc n.high) xs mid ys to h.1 k)

pub record ChainCut (b : Bool) (from : ℕ) (xs ys : List Node) (to : ℕ) : Type 0 where
  pub mid : ℕ
  pub left : ChainOk b from xs mid
  pub right : ChainOk b mid ys to

pub chain_cut : (b : Bool) (from : ℕ) (xs ys : List Node) (to : ℕ) → ChainOk b from (xs ++ ys) to → ChainCut b from xs ys to
unfolding ChainOk
chain_cut b from [] ys to h = record { mid = from; left = refl; right = h }
chain_cut b from (n ∷ xs) ys to h =
    let c = chain_cut b (suc n.high) xs ys to h.1 in
    record { mid = c.mid; left = (h.0, c.left); right = c.right }

-- One place of a level is rewritten: the rest stays.
pub chain_swap : (b : Bool) (from : ℕ) (xs old new ys : List Node) (to : ℕ)
    → ((c d : ℕ) → ChainOk b c old d → ChainOk b c new d) → ChainOk b from (xs ++ (old ++ ys)) to → ChainOk b from (xs ++ (new ++ ys)) to
chain_swap b from xs old new ys to f h =
    let c = chain_cut b from xs (old ++ ys) to h in
    let d = chain_cut b c.mid old ys to c.right in
    chain_append b from xs c.mid (new ++ ys) to c.left (chain_append b c.mid new d.mid ys to (f c.mid d.mid d.left) d.right)

-- Where a chain is matched, it ends after the last key of the entries that stand for it.
pub match_end : (b : Bool) (from : ℕ) {es : List Entry} {ns : List Node} (to : ℕ) → Match es ns → ChainOk b from ns to → to ≡ after from es
unfolding ChainOk after
match_end b from to done h = sym h
match_end b from to (one {n = n} {es = es} a e m) h = match_end b (suc n.high) to m h.1 ∙ ap (λ z. after (suc z) es) e
match_end b from to (two {m = n} {es = es} a e f m) h = match_end b (suc n.high) to m h.1.1 ∙ ap (λ z. after (suc z) es) f

-- An index level ends after its last entry's key.
pub index_end : (from : ℕ) (ns : List Node) (to : ℕ) → ChainOk false from ns to → to ≡ after from (flat ns)
unfolding ChainOk after flat
index_end from [] to h = sym h
index_end from (n ∷ ns) to h =
    index_end (suc n.high) ns to h.1 ∙ ap (λ z. after z (flat ns)) (sym h.0.ends) ∙ sym (after_append from n.items (flat ns))

-- ---- where a cover begins, and where it ends

pub chain_from : (b : Bool) (from : ℕ) (ns : List Node) (to : ℕ) → ChainOk b from ns to → from ≤ to
unfolding ChainOk
chain_from b from [] to h = omega arith
chain_from b from (n ∷ ns) to h = let a = h.0.covers in let c = chain_from b (suc n.high) ns to h.1 in omega arith

-- The entries of a chain have keys below its end.
pub after_flat : (b : Bool) (from : ℕ) (ns : List Node) (to : ℕ) → ChainOk b from ns to → after from (flat ns) ≤ to
unfolding ChainOk flat after
after_flat b from [] to h = omega arith
after_flat b from (n ∷ ns) to h =
    let i = after_flat b (suc n.high) ns to h.1 in
    let l = ends_le b (after from n.items) n.high h.0.ends in
    let m = after_mono (after from n.items) (suc n.high) (flat ns) l in
    rw after_append (omega arith)

pub node_rises : (b : Bool) (from : ℕ) (xs : List Node) (p : Node) (ys : List Node) (to : ℕ) → ChainOk b from (xs ++ p ∷ ys) to
    → (f : ℕ) × Rising f p.items
unfolding ChainOk
node_rises b from [] p ys to h = (from, h.0.rises)
node_rises b from (x ∷ xs) p ys to h = node_rises b (suc x.high) xs p ys to h.1

-- The entries of a level, cut at one of them.
pub parts : (xs : List Node) (n : Node) (ys : List Node) (pre : List Entry) (e : Entry) (post : List Entry) → n.items ≡ pre ++ e ∷ post
    → flat (xs ++ n ∷ ys) ≡ (flat xs ++ pre) ++ (e ∷ []) ++ (post ++ flat ys)
unfolding flat
parts xs n ys pre e post w = rw (flat_append, w) (simp append_assoc)

-- Where the cover after the nodes xs begins.
unfoldable pub from_of : ℕ → List Node → ℕ
from_of a [] = a
from_of a (x ∷ xs) = from_of (suc x.high) xs

pub chain_from_of : (b : Bool) (a : ℕ) (xs : List Node) (c : ℕ) → ChainOk b a xs c → c ≡ from_of a xs
unfolding ChainOk from_of
chain_from_of b a [] c h = sym h
chain_from_of b a (x ∷ xs) c h = chain_from_of b (suc x.high) xs c h.1

pub match_from : (a : ℕ) {es : List Entry} {xs : List Node} → Match es xs → from_of a xs ≡ after a es
unfolding from_of after
match_from a done = refl
match_from a (one {n = n} {es = es} v h m) = match_from (suc n.high) m ∙ ap (λ z. after (suc z) es) h
match_from a (two {m = n} {es = es} v l h m) = match_from (suc n.high) m ∙ ap (λ z. after (suc z) es) h

pub from_append : (a : ℕ) (xs ys : List Node) → from_of a (xs ++ ys) ≡ from_of (from_of a xs) ys
unfolding from_of
from_append a [] ys = refl
from_append a (x ∷ xs) ys = from_append (suc x.high) xs ys
