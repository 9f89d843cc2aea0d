-- PREVIOUS answers what the records in the leaves say (02, U5).
use Rattle.std.specs.Prelude.{ℕ, zero, suc, ◌-◌, ◌≤◌, ◌<◌, ◌≡◌, refl, ◌⊎◌, true, get_or}
use Rattle.std.proofs.Math.Path.{sym, ap, subst}
use Rattle.std.proofs.Common.{◌∙◌, inl, inr, arith}
use Rattle.std.proofs.Math.Option.{Option, none, some}
use mathlib.Core.List.{List, [], ◌∷◌, ◌++◌, append_assoc, append-nil}
use Rattle.std.proofs.Math.ListN.{length, length-append}
use Rattle.std.proofs.Math.Dec.{eqb-suc-zero}
use Rattle.def_base.specs.Tests.{lt_true, lt_false}
use Rattle.def_layout.specs.declared.Entry.{Entry}
use Rattle.def_layout.specs.Entries.{top}
use Rattle.def_layout.specs.Pages.{Page, at}
use Rattle.def_model.specs.Fit.{after}
use Rattle.def_model.specs.TreeRules.{Node, flat, bottom, leaf_records, least, root_least, tree_ok}
use Rattle.def_model.specs.Links.{linked, lefts_ok}
use Rattle.def_model.specs.Lookup.{leaf_of, or_this, last_below, last_entry, or_before, previous_by, previous_below}
use Rattle.theory_tree.specs.Order.Keys.{Rising}
use Rattle.theory_tree.specs.Shape.Levels.{flat_append, chain_rising, after_flat}
use Rattle.theory_tree.specs.Shape.Chains.{All}
use Rattle.theory_tree.specs.Shape.Trees.{all_cut, page_at}
use Rattle.theory_tree.specs.Shape.Sizes.{Sized, SizedLevel, sizes_at}
use Rattle.theory_tree.specs.Shape.Rules.{Rules}
use Rattle.theory_tree.specs.Shape.LeftLinks.{last_page, linked_at}
use Rattle.theory_tree.specs.Test.Test.{rules_levels}
use Rattle.theory_update.specs.Find.Leaf.{LeafFor, leaf_for_key}

-- ---- the last entry below a key

or_last : Option Entry → List Entry → Option Entry
or_last (some e) es = some e
or_last none es = last_entry es

after_low : (from : ℕ) (es : List Entry) → Rising from es → from ≤ after from es
unfolding after Rising
after_low from [] r = omega arith
after_low from (e ∷ es) r = let i = after_low (suc e.key) es r.1 in let a = r.0 in omega arith

-- Entries that are all below it count only where none after them does.
below_skip : (k from : ℕ) (es fs : List Entry) → Rising from es → after from es ≤ k → last_below k (es ++ fs) ≡ or_last (last_below k fs) es
unfolding last_below last_entry or_this or_last after Rising
below_skip k from [] fs r l = go (last_below k fs)
  where
    go : (o : Option Entry) → o ≡ or_last o []
    go none = refl
    go (some e) = refl
below_skip k from (e ∷ es) fs r l =
    let a = after_low (suc e.key) es r.1 in
    rw (lt_true e.key k (omega arith)) (ap (λ o. some (or_this o e)) (below_skip k (suc e.key) es fs r.1 l) ∙ go (last_below k fs))
  where
    go : (o : Option Entry) → some (or_this (or_last o es) e) ≡ or_last o (e ∷ es)
    go none = refl
    go (some f) = refl

-- Entries from it on do not count.
below_stay : (k from : ℕ) (es fs : List Entry) → Rising from fs → k ≤ from → last_below k (es ++ fs) ≡ last_below k es
unfolding last_below Rising
below_stay k from [] [] r l = refl
below_stay k from [] (f ∷ fs) r l = let a = r.0 in rw (lt_false f.key k (omega arith))
below_stay k from (e ∷ es) fs r l = rw (below_stay k from es fs r l)

last_append : (es fs : List Entry) → 0 < length fs → last_entry (es ++ fs) ≡ last_entry fs
unfolding last_entry or_this
last_append [] fs h = refl
last_append (e ∷ es) [] h = absurd (omega arith)
last_append (e ∷ es) (f ∷ fs) h = ap (λ o. some (or_this o e)) (last_append es (f ∷ fs) h)

-- ---- the leaf to the left

last_page_is : (b : ℕ) (ws : List Node) (m : Node) → last_page b (ws ++ m ∷ []) ≡ m.page
unfolding last_page
last_page_is b [] m = refl
last_page_is b (w ∷ ws) m = last_page_is w.page ws m

-- Nodes have a last one, or there are none.
ends : (xs : List Node) → (xs ≡ []) ⊎ ((ws : List Node) × (m : Node) × (xs ≡ ws ++ m ∷ []))
ends [] = inl refl
ends (x ∷ xs) = go (ends xs)
  where
    go : (xs ≡ []) ⊎ ((ws : List Node) × (m : Node) × (xs ≡ ws ++ m ∷ [])) → (x ∷ xs ≡ []) ⊎ ((ws : List Node) × (m : Node) × (x ∷ xs ≡ ws ++ m ∷ []))
    go (inl e) = inr ([], x, ap (x ∷◌) e)
    go (inr (ws, m, e)) = inr (x ∷ ws, m, ap (x ∷◌) e)

bottom_last : (ups : List (List Node)) (ns : List Node) → bottom (ups ++ ns ∷ []) ≡ ns
unfolding bottom
bottom_last [] ns = refl
bottom_last (u ∷ []) ns = refl
bottom_last (u ∷ v ∷ ups) ns = bottom_last (v ∷ ups) ns

-- A page that another follows has at least 4 entries.
before_sized : (ups : List (List Node)) (ws : List Node) (m n : Node) (ys : List Node) → SizedLevel ups 0 (ws ++ m ∷ n ∷ ys) → least ≤ length m.items
unfolding SizedLevel root_least All
before_sized (u ∷ us) ws m n ys f = (all_cut (Sized least) ws m (n ∷ ys) f).1.1
before_sized [] [] m n [] f = f.0.1
before_sized [] [] m n (y ∷ ys) f = let a = f.0.0 in let b = f.0.1 in absurd (omega arith)
before_sized [] (w ∷ ws) m n ys f = let a = f.0.0 in let b = f.0.1 in absurd (omega (arith, three ws))
  where
    three : (ws : List Node) → root_least 0 (w ∷ (ws ++ m ∷ n ∷ ys)) ≡ 15
    three [] = refl
    three (x ∷ ws) = go ws
      where
        go : (ws : List Node) → root_least 0 (w ∷ x ∷ (ws ++ m ∷ n ∷ ys)) ≡ 15
        go [] = refl
        go (y ∷ ws) = refl

module _ (pages : List Page) (lefts : List ℕ) (z : (at pages 0).entries ≡ []) where
  or_before_is : (ups : List (List Node)) (xs : List Node) (n : Node) (ys : List Node) → Rules pages (ups ++ (xs ++ n ∷ ys) ∷ []) → linked 0 (xs ++ n ∷ ys) lefts ≡ true
      → last_entry (at pages (get_or lefts n.page 0)).entries ≡ last_entry (flat xs)
  unfolding flat last_entry last_page
  or_before_is ups xs n ys r e = go (ends xs)
    where
      go : (xs ≡ []) ⊎ ((ws : List Node) × (m : Node) × (xs ≡ ws ++ m ∷ [])) → last_entry (at pages (get_or lefts n.page 0)).entries ≡ last_entry (flat xs)
      go (inl w) = ap (λ p. last_entry (at pages p).entries) (linked_at 0 xs n ys lefts e ∙ ap (last_page 0) w) ∙ ap last_entry z ∙ sym (ap (λ q. last_entry (flat q)) w)
      go (inr (ws, m, w)) =
          let whole : xs ++ n ∷ ys ≡ ws ++ m ∷ n ∷ ys = ap (◌++ n ∷ ys) w ∙ append_assoc ws (m ∷ []) (n ∷ ys) in
          let r2 : Rules pages (ups ++ (ws ++ m ∷ n ∷ ys) ∷ []) = subst (λ q. Rules pages (ups ++ q ∷ [])) whole r in
          let i = (page_at pages ups ws m (n ∷ ys) [] r2.levels).2 in
          let s = before_sized ups ws m n ys (sizes_at ups (ws ++ m ∷ n ∷ ys) [] r2.sizes) in
          let l : 0 < length (m.items ++ []) = omega (arith, length-append m.items []) in
          ap (λ p. last_entry (at pages p).entries) (linked_at 0 xs n ys lefts e ∙ ap (last_page 0) w ∙ last_page_is 0 ws m)
          ∙ ap last_entry i.items
          ∙ sym (ap (λ q. last_entry (flat q)) w ∙ ap last_entry (flat_append ws (m ∷ [])) ∙ last_append (flat ws) (m.items ++ []) l ∙ rw append-nil)

-- PREVIOUS: the last record below k. (The map has no entries: its layout says so.)
pub previous_below_is : (k : ℕ) (pages : List Page) (lefts : List ℕ) → tree_ok pages ≡ true → lefts_ok pages lefts ≡ true → (at pages 0).entries ≡ [] → k ≤ top
    → previous_below k pages lefts ≡ last_below k (leaf_records pages)
unfolding previous_below previous_by last_below lefts_ok flat or_before or_last
previous_below_is zero pages lefts t g z h = sym (nothing (leaf_records pages))
  where
    nothing : (es : List Entry) → last_below 0 es ≡ none
    nothing [] = refl
    nothing (e ∷ es) = rw (lt_false e.key 0 (omega arith))
previous_below_is (suc k) pages lefts t g z h =
    let e : suc k - 1 ≡ k = omega arith in
    rw (eqb-suc-zero k) (ap (λ q. or_before (last_below (suc k) (at pages (leaf_of q pages)).entries) (leaf_of q pages) pages lefts) e ∙ ap (λ w. or_before (last_below (suc k) w) (leaf_of k pages) pages lefts) es ∙ by (last_below (suc k) f.node.items) ∙ sym records)
  where
    f : LeafFor k (leaf_of k pages) pages (leaf_records pages)
    f = leaf_for_key pages k t (omega arith)

    es : (at pages (leaf_of k pages)).entries ≡ f.node.items
    es = ap (λ q. (at pages q).entries) f.is_page ∙ (page_at pages f.ups f.xs f.node f.ys [] f.rules.levels).2.items

    chain : linked 0 (f.xs ++ f.node ∷ f.ys) lefts ≡ true
    chain = subst (λ ns. linked 0 ns lefts ≡ true) (ap bottom (rules_levels pages (f.ups ++ (f.xs ++ f.node ∷ f.ys) ∷ []) f.rules) ∙ bottom_last f.ups (f.xs ++ f.node ∷ f.ys)) g

    records : last_below (suc k) (leaf_records pages) ≡ or_last (last_below (suc k) f.node.items) (flat f.xs)
    records =
        let v = f.covers in
        let a = after_flat true 0 f.xs v.start v.before in
        let b = v.above in
        let w = v.within in
        ap (last_below (suc k)) (f.records ∙ flat_append f.xs (f.node ∷ f.ys))
        ∙ below_skip (suc k) 0 (flat f.xs) (f.node.items ++ flat f.ys) (chain_rising true 0 f.xs v.start v.before) (omega arith)
        ∙ ap (λ o. or_last o (flat f.xs)) (below_stay (suc k) (suc f.node.high) f.node.items (flat f.ys) (chain_rising true (suc f.node.high) f.ys (suc top) v.beyond) (omega arith))

    by : (o : Option Entry) → or_before o (leaf_of k pages) pages lefts ≡ or_last o (flat f.xs)
    by (some e) = refl
    by none = ap (λ q. last_entry (at pages (get_or lefts q 0)).entries) f.is_page ∙ or_before_is pages lefts z f.ups f.xs f.node f.ys f.rules chain
