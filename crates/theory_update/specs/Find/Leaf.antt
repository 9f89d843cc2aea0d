-- From the root to the leaf that covers a key, as fetch and next go down.
use Prim.Native.Nat.{ℕ, zero, suc, ◌≤◌}
use Rattle.std.specs.Prelude.{◌≡◌, refl, ◌⊎◌, true, List, [], ◌∷◌, ◌++◌, length}
use Rattle.std.proofs.Common.{sym, ap, ◌∙◌, subst, inl, inr, append_assoc, arith}
use Rattle.std.proofs.Math.Option.{some}
use Rattle.std.proofs.Math.Decide.{dec_le}
use Rattle.def_base.specs.Tests.{le_true, le_false}
use Rattle.def_layout.specs.declared.Entry.{Entry}
use Rattle.def_layout.specs.Entries.{top, seek}
use Rattle.def_layout.specs.Pages.{Page, at}
use Rattle.def_model.specs.TreeRules.{Node, flat, levels_of, leaves, leaf_records, first_page, root_least, tree_ok}
use Rattle.def_model.specs.Lookup.{entry_or, entry_for, covering, leaf_for, leaf_of}
use Rattle.theory_tree.specs.Shape.Levels.{ChainOk, from_of, from_append}
use Rattle.theory_tree.specs.Shape.Chains.{IsNode, Chained, All}
use Rattle.theory_tree.specs.Shape.Trees.{Levels, levels_at, page_at}
use Rattle.theory_tree.specs.Shape.Sizes.{SizedLevel, Sizes}
use Rattle.theory_tree.specs.Shape.Rules.{Rooted, Rules}
use Rattle.theory_tree.specs.Test.Test.{test_sound}
use Rattle.theory_tree.specs.Order.Covers.{Covers, covers_at}
use Rattle.theory_tree.specs.Step.Leaves.{leaves_last}
use Rattle.theory_update.specs.Find.Search.{seek_at}
use Rattle.theory_update.specs.Find.Places.{Place, Spot, searched, Opened, open_place, Stands, alone, pair, stands}
use Rattle.theory_update.specs.Add.MakingRoom.{spot_page}
use Rattle.theory_update.specs.Ending.{leaf_whole}

-- Page p of level l covers k, or the page after it does.
pub record Near (k l p : ℕ) (ls : List (List Node)) : Type 0 where
  pub ups : List (List Node)
  pub xs : List Node
  pub node : Node
  pub ys : List Node
  pub downs : List (List Node)
  pub whole : ls ≡ ups ++ (xs ++ node ∷ ys) ∷ downs
  pub depth : length downs ≡ l
  pub low : from_of 0 xs ≤ k
  pub reach : (k ≤ node.high) ⊎ ((m : Node) × (zs : List Node) × (ys ≡ m ∷ zs) × (k ≤ m.high))
  pub is_page : p ≡ node.page

-- The page that covers k.
pub record Found (k l p : ℕ) (ls : List (List Node)) : Type 0 where
  pub ups : List (List Node)
  pub xs : List Node
  pub node : Node
  pub ys : List Node
  pub place : Place k ls ups xs node ys l
  pub is_page : p ≡ node.page

module _ (pages : List Page) (ls : List (List Node)) (rules : Rules pages ls) where
  found_covering : (k l p : ℕ) → Near k l p ls → Found k l (covering k p pages) ls
  unfolding from_of first_page
  found_covering k l p x = go (dec_le k n.high) x.reach
    where
      n : Node
      n = x.node

      is : IsNode (at pages n.page) (length x.downs) (first_page x.ys 0) n
      is = (page_at pages x.ups x.xs n x.ys x.downs (subst (Levels pages) x.whole rules.levels)).2

      high : (at pages p).high ≡ n.high
      high = ap (λ z. (at pages z).high) x.is_page ∙ is.high

      right : (at pages p).right ≡ first_page x.ys 0
      right = ap (λ z. (at pages z).right) x.is_page ∙ is.right

      here : k ≤ n.high → Found k l (covering k p pages) ls
      here h =
          record {
            ups = x.ups;
            xs = x.xs;
            node = n;
            ys = x.ys;
            place = record { downs = x.downs; whole = x.whole; depth = x.depth; low = x.low; high = h };
            is_page = rw (high, le_true k n.high h) x.is_page;
          }

      go : Dec (k ≤ n.high) → (k ≤ n.high) ⊎ ((m : Node) × (zs : List Node) × (x.ys ≡ m ∷ zs) × (k ≤ m.high)) → Found k l (covering k p pages) ls
      go (yes h) r = here h
      go (no h) (inl r) = here r
      go (no h) (inr r) =
          let (m, zs, e, hm) = r in
          let f = from_append 0 x.xs (n ∷ []) in
          let rt : (at pages p).right ≡ m.page = right ∙ ap (λ z. first_page z 0) e in
          record {
            ups = x.ups;
            xs = x.xs ++ n ∷ [];
            node = m;
            ys = zs;
            place = record {
              downs = x.downs;
              whole = x.whole ∙ ap (λ z. x.ups ++ (x.xs ++ n ∷ z) ∷ x.downs) e ∙ ap (λ z. x.ups ++ z ∷ x.downs) (sym (append_assoc x.xs (n ∷ []) (m ∷ zs)));
              depth = x.depth;
              low = omega arith;
              high = hm;
            };
            is_page = rw (high, le_false k n.high (omega arith)) rt;
          }

  -- One level down.
  near_child : (k l p : ℕ) → Found k (suc l) p ls → Near k l (entry_for k (at pages p).entries).val ls
  unfolding entry_or
  near_child k l p x = go (open_place pages k ls x.ups x.xs n x.ys l x.place rules.levels rules.joined)
    where
      n : Node
      n = x.node

      by : (e : Entry) (mid : List Node) (s : Spot k ls x.ups x.xs n x.ys e mid l) → Stands e mid → Near k l e.val ls
      by e mid s (alone q i h) =
          let a = s.high in
          record {
            ups = x.ups ++ (x.xs ++ n ∷ x.ys) ∷ [];
            xs = s.bs;
            node = q;
            ys = s.cs;
            downs = s.downs;
            whole = s.whole ∙ sym (append_assoc x.ups ((x.xs ++ n ∷ x.ys) ∷ []) ((s.bs ++ q ∷ s.cs) ∷ s.downs));
            depth = s.depth;
            low = s.low;
            reach = inl (omega arith);
            is_page = i;
          }
      by e mid s (pair q m i lo hi) =
          let a = s.high in
          record {
            ups = x.ups ++ (x.xs ++ n ∷ x.ys) ∷ [];
            xs = s.bs;
            node = q;
            ys = m ∷ s.cs;
            downs = s.downs;
            whole = s.whole ∙ sym (append_assoc x.ups ((x.xs ++ n ∷ x.ys) ∷ []) ((s.bs ++ q ∷ m ∷ s.cs) ∷ s.downs));
            depth = s.depth;
            low = s.low;
            reach = inr (m, s.cs, refl, omega arith);
            is_page = i;
          }

      go : Opened k ls x.ups x.xs n x.ys l → Near k l (entry_for k (at pages p).entries).val ls
      go o =
          let s = o.spot in
          let se = searched pages k ls x.ups x.xs n x.ys o.entry o.mid l s rules.levels in
          let f : seek k n.items ≡ some o.entry = ap (seek k) s.items ∙ seek_at k se.from s.pre o.entry s.post se.rises se.starts s.high in
          let es : (at pages p).entries ≡ n.items
          = ap (λ z. (at pages z).entries) x.is_page ∙ (spot_page pages k ls x.ups x.xs n x.ys o.entry o.mid l s rules.levels).items in
          rw (es, f) (by o.entry o.mid s (stands o.entry o.mid s.here))

  found_leaf : (l k p : ℕ) → Near k l p ls → Found k 0 (leaf_for l k p pages) ls
  unfolding leaf_for
  found_leaf zero k p x = found_covering k 0 p x
  found_leaf (suc l) k p x = found_leaf l k (entry_for k (at pages (covering k p pages)).entries).val (near_child k l (covering k p pages) (found_covering k (suc l) p x))

-- The root, or its right sibling, covers every key.
near_root : (pages : List Page) (ls : List (List Node)) (k : ℕ) → Rules pages ls → k ≤ top → Near k (at pages 1).level 1 ls
unfolding Sizes SizedLevel Rooted first_page All root_least Levels ChainOk from_of Chained
near_root pages [] k r h = absurd r.sizes
near_root pages ([] ∷ rest) k r h = let z : ◌≡◌ {A = ℕ} 0 1 = r.rooted in absurd (omega (arith, z))
near_root pages ((n ∷ []) ∷ rest) k r h =
    let e : n.page ≡ 1 = r.rooted in
    let c : suc n.high ≡ suc top = r.levels.0.chain.1 in
    record {
      ups = [];
      xs = [];
      node = n;
      ys = [];
      downs = rest;
      whole = refl;
      depth = sym (ap (λ p. (at pages p).level) (sym e) ∙ r.levels.0.chained.2.level);
      low = omega arith;
      reach = inl (omega arith);
      is_page = sym e;
    }
near_root pages ((n ∷ m ∷ []) ∷ rest) k r h =
    let e : n.page ≡ 1 = r.rooted in
    let c : suc m.high ≡ suc top = r.levels.0.chain.1.1 in
    record {
      ups = [];
      xs = [];
      node = n;
      ys = m ∷ [];
      downs = rest;
      whole = refl;
      depth = sym (ap (λ p. (at pages p).level) (sym e) ∙ r.levels.0.chained.2.level);
      low = omega arith;
      reach = inr (m, [], refl, omega arith);
      is_page = sym e;
    }
near_root pages ((n ∷ m ∷ o ∷ ns) ∷ rest) k r h = let a = r.sizes.0.0.0 in let b = r.sizes.0.0.1 in absurd (omega arith)

pub leaf_found : (pages : List Page) (ls : List (List Node)) (k : ℕ) → Rules pages ls → k ≤ top → Found k 0 (leaf_of k pages) ls
leaf_found pages ls k r h = found_leaf pages ls r (at pages 1).level k 1 (near_root pages ls k r h)

-- What the leaf that covers k holds of the whole.
pub record LeafFor (k p : ℕ) (pages : List Page) (L : List Entry) : Type 0 where
  pub ups : List (List Node)
  pub xs : List Node
  pub node : Node
  pub ys : List Node
  pub rules : Rules pages (ups ++ (xs ++ node ∷ ys) ∷ [])
  pub covers : Covers k true 0 xs node ys (suc top)
  pub records : L ≡ flat (xs ++ node ∷ ys)
  pub is_page : p ≡ node.page

pub leaf_for_key : (pages : List Page) (k : ℕ) → tree_ok pages ≡ true → k ≤ top → LeafFor k (leaf_of k pages) pages (leaf_records pages)
unfolding leaf_records
leaf_for_key pages k t h =
    let r = test_sound pages t in
    let f = leaf_found pages (levels_of pages) k r h in
    let w = leaf_whole k (levels_of pages) f.ups f.xs f.node f.ys f.place in
    let r' = subst (Rules pages) w r in
    record {
      ups = f.ups;
      xs = f.xs;
      node = f.node;
      ys = f.ys;
      rules = r';
      covers = covers_at true k f.xs f.node f.ys (levels_at pages f.ups (f.xs ++ f.node ∷ f.ys) [] r'.levels).chain f.place.low f.place.high;
      records = ap leaves w ∙ leaves_last f.ups (f.xs ++ f.node ∷ f.ys);
      is_page = f.is_page;
    }
