-- FETCH AND NEXT answer what the records in the leaves say.
use Rattle.std.specs.Prelude.{ℕ, suc, ◌≤◌, ◌<◌, ◌≡◌, refl, true, List, [], ◌∷◌, ◌++◌, length, leb, ltb}
use Rattle.std.proofs.Common.{sym, ap, ◌∙◌, subst, append_assoc, append-nil, arith}
use Rattle.std.proofs.Math.Option.{Option, none, some}
use Rattle.def_base.specs.Tests.{pick, Case, yes!, no!, case, none_some, lt_false, true_le, false_le}
use Rattle.def_layout.specs.declared.Entry.{Entry}
use Rattle.def_layout.specs.Entries.{top, seek, look}
use Rattle.def_layout.specs.Pages.{Page, at}
use Rattle.def_model.specs.Fit.{after}
use Rattle.def_model.specs.TreeRules.{Node, flat, leaf_records, first_page, least, root_least, tree_ok}
use Rattle.def_model.specs.Lookup.{leaf_of, fetched, first_of, or_after, next_by, next_above}
use Rattle.theory_tree.specs.Order.Keys.{Rising}
use Rattle.theory_tree.specs.Order.Sorted.{seek_skip}
use Rattle.theory_tree.specs.Shape.Levels.{flat_append, ChainOk, chain_rising, after_flat}
use Rattle.theory_tree.specs.Shape.Chains.{All}
use Rattle.theory_tree.specs.Shape.Trees.{Levels, levels_at, all_cut, page_at}
use Rattle.theory_tree.specs.Shape.Sizes.{Sized, SizedLevel, sizes_at}
use Rattle.theory_tree.specs.Shape.Rules.{Rules}
use Rattle.theory_tree.specs.Order.Covers.{Covers, look_leaf}
use Rattle.theory_update.specs.Find.Leaf.{LeafFor, leaf_for_key}

-- FETCH.
pub fetched_is : (k : ℕ) (pages : List Page) → tree_ok pages ≡ true → k ≤ top → fetched k pages ≡ look k (leaf_records pages)
unfolding fetched
fetched_is k pages t h =
    let f = leaf_for_key pages k t h in
    let i = (page_at pages f.ups f.xs f.node f.ys [] f.rules.levels).2 in
    let es : (at pages (leaf_of k pages)).entries ≡ f.node.items = ap (λ z. (at pages z).entries) f.is_page ∙ i.items in
    ap (look k) es ∙ sym (look_leaf k 0 f.xs f.node f.ys (suc top) f.covers) ∙ ap (look k) (sym f.records)

-- ---- next

seek_append_some : (k : ℕ) (es fs : List Entry) (e : Entry) → seek k es ≡ some e → seek k (es ++ fs) ≡ some e
unfolding seek
seek_append_some k [] fs e h = none_some h
seek_append_some k (x ∷ es) fs e h = go (case (ltb x.key k)) (seek_append_some k es fs e)
  where
    go : Case (ltb x.key k) → (seek k es ≡ some e → seek k (es ++ fs) ≡ some e) → pick (ltb x.key k) (seek k (es ++ fs)) (some x) ≡ some e
    go (yes! c) i = rw c (i (rw c at h))
    go (no! c) i = rw c (rw c at h)

seek_append_none : (k : ℕ) (es fs : List Entry) → seek k es ≡ none → seek k (es ++ fs) ≡ seek k fs
unfolding seek
seek_append_none k [] fs h = refl
seek_append_none k (x ∷ es) fs h = go (case (ltb x.key k)) (seek_append_none k es fs)
  where
    go : Case (ltb x.key k) → (seek k es ≡ none → seek k (es ++ fs) ≡ seek k fs) → pick (ltb x.key k) (seek k (es ++ fs)) (some x) ≡ seek k fs
    go (yes! c) i = rw c (i (rw c at h))
    go (no! c) i = let y : some x ≡ none = rw c at h in none_some (sym y)

-- A page of a level of two or more has at least 4 entries.
next_sized : (ups : List (List Node)) (xs : List Node) (n m : Node) (zs : List Node) → SizedLevel ups 0 (xs ++ n ∷ m ∷ zs) → least ≤ length m.items
unfolding SizedLevel root_least All
next_sized (u ∷ us) xs n m zs f = (all_cut (Sized least) xs n (m ∷ zs) f).2.0.1
next_sized [] [] n m [] f = f.1.0.1
next_sized [] [] n m (y ∷ zs) f = let a = f.0.0 in let b = f.0.1 in absurd (omega arith)
next_sized [] (x ∷ []) n m zs f = let a = f.0.0 in let b = f.0.1 in absurd (omega arith)
next_sized [] (x ∷ w ∷ xs) n m zs f = let a = f.0.0 in let b = f.0.1 in absurd (omega (arith, least_three xs n m zs))
  where
    least_three : (xs : List Node) (n m : Node) (zs : List Node) → root_least 0 (x ∷ w ∷ (xs ++ n ∷ m ∷ zs)) ≡ 15
    least_three [] n m zs = refl
    least_three (y ∷ xs) n m zs = refl

seek_first : (k from : ℕ) (es fs : List Entry) → k ≤ from → Rising from es → 0 < length es → seek k (es ++ fs) ≡ first_of es
unfolding seek first_of Rising
seek_first k from [] fs h r l = absurd (omega arith)
seek_first k from (e ∷ es) fs h r l = let a = r.0 in rw (lt_false e.key k (omega arith))

seek_nothing : (k from : ℕ) (es : List Entry) → Rising from es → after from es ≤ k → seek k es ≡ none
unfolding seek
seek_nothing k from es r l = ap (seek k) (sym (append-nil es)) ∙ seek_skip k from es [] r l

-- In the leaf after the one that covers the key.
or_after_is : (k p : ℕ) (pages : List Page) (ups : List (List Node)) (xs : List Node) (n : Node) (ys : List Node)
    → Rules pages (ups ++ (xs ++ n ∷ ys) ∷ []) → Covers k true 0 xs n ys (suc top) → p ≡ n.page
    → (at pages 0).entries ≡ [] → first_of (at pages (at pages p).right).entries ≡ seek k (flat ys)
unfolding first_page flat first_of seek ChainOk
or_after_is k p pages ups xs n [] r c e z =
    let i = (page_at pages ups xs n [] [] r.levels).2 in
    let rt : (at pages p).right ≡ 0 = ap (λ q. (at pages q).right) e ∙ i.right in
    rw (rt, z)
or_after_is k p pages ups xs n (m ∷ zs) r c e z =
    let i = (page_at pages ups xs n (m ∷ zs) [] r.levels).2 in
    let j = (page_at pages ups (xs ++ n ∷ []) m zs [] (subst (λ w. Levels pages (ups ++ w ∷ [])) (sym (append_assoc xs (n ∷ []) (m ∷ zs))) r.levels)).2 in
    let rt : (at pages p).right ≡ m.page = ap (λ q. (at pages q).right) e ∙ i.right in
    let s = next_sized ups xs n m zs (sizes_at ups (xs ++ n ∷ m ∷ zs) [] r.sizes) in
    let w = c.within in
    ap (λ q. first_of (at pages q).entries) rt ∙ ap first_of j.items ∙ sym (seek_first k (suc n.high) m.items (flat zs) (omega arith) c.beyond.0.rises (omega arith))

-- NEXT: the first record above k. (The map has no entries: its layout says so.)
pub next_above_is : (k : ℕ) (pages : List Page) → tree_ok pages ≡ true → (at pages 0).entries ≡ []
    → next_above k pages ≡ seek (suc k) (leaf_records pages)
unfolding next_above next_by or_after flat
next_above_is k pages t z = go (case (leb top k))
  where
    go : Case (leb top k) → next_by (leb top k) k pages ≡ seek (suc k) (leaf_records pages)
    go (yes! c) =
        let h = true_le top k c in
        let f = leaf_for_key pages top t (omega arith) in
        let ch = (levels_at pages f.ups (f.xs ++ f.node ∷ f.ys) [] f.rules.levels).chain in
        let a = after_flat true 0 (f.xs ++ f.node ∷ f.ys) (suc top) ch in
        rw c (sym (ap (seek (suc k)) f.records ∙ seek_nothing (suc k) 0 (flat (f.xs ++ f.node ∷ f.ys)) (chain_rising true 0 (f.xs ++ f.node ∷ f.ys) (suc top) ch) (omega arith)))
    go (no! c) =
        let h = false_le top k c in
        let f = leaf_for_key pages (suc k) t h in
        let i = (page_at pages f.ups f.xs f.node f.ys [] f.rules.levels).2 in
        let es : (at pages (leaf_of (suc k) pages)).entries ≡ f.node.items = ap (λ q. (at pages q).entries) f.is_page ∙ i.items in
        rw c (ap (λ w. or_after (seek (suc k) w) (leaf_of (suc k) pages) pages) es ∙ in_leaf f (seek (suc k) f.node.items) refl ∙ ap (seek (suc k)) (sym f.records))
      where
        in_leaf : (f : LeafFor (suc k) (leaf_of (suc k) pages) pages (leaf_records pages)) (o : Option Entry) → seek (suc k) f.node.items ≡ o
            → or_after o (leaf_of (suc k) pages) pages ≡ seek (suc k) (flat (f.xs ++ f.node ∷ f.ys))
        in_leaf f o e =
            let v = f.covers in
            let a = after_flat true 0 f.xs v.start v.before in
            let b = v.above in
            let s : seek (suc k) (flat (f.xs ++ f.node ∷ f.ys)) ≡ seek (suc k) (f.node.items ++ flat f.ys)
            = ap (seek (suc k)) (flat_append f.xs (f.node ∷ f.ys)) ∙ seek_skip (suc k) 0 (flat f.xs) (f.node.items ++ flat f.ys) (chain_rising true 0 f.xs v.start v.before) (omega arith) in
            by o e ∙ sym s
          where
            by : (o : Option Entry) → seek (suc k) f.node.items ≡ o
                → or_after o (leaf_of (suc k) pages) pages ≡ seek (suc k) (f.node.items ++ flat f.ys)
            by (some e) h = sym (seek_append_some (suc k) f.node.items (flat f.ys) e h)
            by none h =
                or_after_is (suc k) (leaf_of (suc k) pages) pages f.ups f.xs f.node f.ys f.rules f.covers f.is_page z
                ∙ sym (seek_append_none (suc k) f.node.items (flat f.ys) h)
