-- UNLINK AND JOIN: two neighbours under one node, one of which has 4 entries, are merged or share their entries anew.
use Rattle.std.specs.Prelude.{ℕ, suc, ◌+◌, ◌-◌, ◌≤◌, ◌<◌, ◌≡◌, ◌⊎◌, true, false, leb, ltb}
use Rattle.std.proofs.Math.Path.{refl, sym, ap, subst}
use Rattle.std.proofs.Common.{◌∙◌}
use mathlib.Core.List.{List, [], ◌∷◌, ◌++◌, append_assoc}
use native.Mathlib.Omega.{arith}
use Rattle.std.proofs.Math.ListN.{length, length-append}
use Rattle.def_base.specs.Tests.{Case, yes!, no!, case, true_le, false_le}
use Rattle.def_layout.specs.declared.Entry.{Entry}
use Rattle.def_layout.specs.Entries.{top, entry, key_at}
use Rattle.def_layout.specs.Sizes.{room}
use Rattle.def_layout.specs.Pages.{at, size}
use Rattle.def_layout.specs.Records.{unlink_row, merge_row, redistribute_row}
use Rattle.def_model.specs.Fit.{after}
use Rattle.def_model.specs.TreeRules.{Node, flat, first_page, least}
use Rattle.def_model.specs.Update.{Run, emit, link_child, share, moved_by, join_by, join, unlink_join}
use Rattle.theory_tree.specs.Order.Keys.{Rising, after_append, rising_append, rising_weaken, after_mono}
use Rattle.theory_tree.specs.Shape.Levels.{Match, done, one, two, ChainOk, ends_le, chain_cut, parts, from_of}
use Rattle.theory_tree.specs.Change.LevelChanges.{Merges, merge_flat, share_flat}
use Rattle.theory_tree.specs.Shape.Chains.{IsNode, All}
use Rattle.theory_tree.specs.Shape.Trees.{is_bottom, Levels, levels_at, all_cut, page_at}
use Rattle.theory_tree.specs.Change.Merge.{merged}
use Rattle.theory_tree.specs.Change.Share.{shared_left, shared_right}
use Rattle.theory_tree.specs.Shape.Sizes.{Sized, sizes_at, sizes_below}
use Rattle.theory_tree.specs.Step.Steps.{unlinked, unlinks, merges, shares}
use Rattle.theory_tree.specs.Step.Parts.{counted_same, length_mid, length_two, length_pair, under, counted_under, counted_under_more}
use Rattle.theory_tree.specs.Step.Leaves.{leaves_above, leaves_under}
use Rattle.theory_update.specs.Run.Keeps.{Halt, halt_by, halt_stop, keep_link, keep_join_by}
use Rattle.theory_update.specs.Run.Way.{Live, Result, loosen, bind, recast, emitted}
use Rattle.theory_update.specs.Find.Places.{Spot}
use Rattle.theory_update.specs.Add.Linking.{link_down}
use Rattle.theory_update.specs.Remove.Share.{Shared, shared}
use Rattle.theory_update.specs.Remove.Twins.{Loses, sized_loses, Twins, Five, StockedAt}

module _ (k l : ℕ) (s : Run) (ups : List (List Node)) (xs : List Node) (n : Node) (ys bs : List Node) (q r : Node) (cs : List Node) (downs : List (List Node)) (pre post : List Entry) where
  abbrev g : Entry
  g = entry r.high q.page

  abbrev T : List (List Node)
  T = ups ++ (xs ++ n ∷ ys) ∷ (bs ++ q ∷ r ∷ cs) ∷ downs

  -- The pair stands under one entry g of n.
  pub record Apart : Type 0 where
    pub live : Live s T
    pub depth : length downs ≡ l
    pub items : n.items ≡ pre ++ g ∷ post
    pub before : Match (flat xs ++ pre) bs
    pub beyond : Match (post ++ flat ys) cs
    pub low : from_of 0 bs ≤ k
    pub high : k ≤ r.high
    pub four : (length q.items ≡ least) ⊎ (length r.items ≡ least)
    pub space : length n.items < room

  module _ (a : Apart) where
    low_levels : Levels s.pages ((ups ++ (xs ++ n ∷ ys) ∷ []) ++ (bs ++ q ∷ r ∷ cs) ∷ downs)
    low_levels = subst (Levels s.pages) (sym (under ups (xs ++ n ∷ ys) (bs ++ q ∷ r ∷ cs) downs)) a.live.rules.levels

    q_page : IsNode (at s.pages q.page) (length downs) r.page q
    unfolding first_page
    q_page = (page_at s.pages (ups ++ (xs ++ n ∷ ys) ∷ []) bs q (r ∷ cs) downs low_levels).2

    r_page : IsNode (at s.pages r.page) (length downs) (first_page cs 0) r
    r_page = (page_at s.pages (ups ++ (xs ++ n ∷ ys) ∷ []) (bs ++ q ∷ []) r cs downs
        (subst (λ z. Levels s.pages ((ups ++ (xs ++ n ∷ ys) ∷ []) ++ z ∷ downs)) (sym (append_assoc bs (q ∷ []) (r ∷ cs))) low_levels)).2

    sizes : Sized least q × Sized least r
    unfolding All
    sizes = let (x, y, z) = all_cut (Sized least) bs q (r ∷ cs) (sizes_below ups (xs ++ n ∷ ys) (bs ++ q ∷ r ∷ cs) downs a.live.rules.sizes) in (y, z.0)

    flat_g : flat (xs ++ n ∷ ys) ≡ (flat xs ++ pre) ++ g ∷ (post ++ flat ys)
    flat_g = parts xs n ys pre g post a.items ∙ append_assoc (flat xs ++ pre) (g ∷ []) (post ++ flat ys)

    -- Merged.
    merged_went : length q.items + length r.items ≤ room
        → Result s T 2 0 (join_by true n.page q.page r.page r.high s) (StockedAt k l n.page)
    unfolding join_by
    merged_went few =
        let T' = ups ++ (xs ++ n ∷ ys) ∷ (bs ++ merged q r ∷ cs) ∷ downs in
        let row = merge_row q.page r.page r.high (first_page cs 0) r.items in
        let (sq, sr) = sizes in
        let ln = length-append q.items r.items in
        let s₁ = sq.1 in let s₂ = sr.1 in
        let mg : Merges q r (merged q r) = record { same_page = refl; same_items = refl; same_high = refl } in
        let c = counted_under_more ups (xs ++ n ∷ ys) (bs ++ merged q r ∷ cs) (bs ++ q ∷ r ∷ cs) downs (length_two bs q r (merged q r) cs) in
        rw (r_page.high, r_page.right, r_page.items)
        (loosen s T 1 0 2 0 (emit row s) (StockedAt k l n.page) (omega arith) (omega arith)
        (emitted row s T T' 0 (StockedAt k l n.page) a.live
        (merges ups (xs ++ n ∷ ys) bs q r cs downs (flat xs ++ pre) g (post ++ flat ys) flat_g refl refl a.before a.beyond (omega arith))
        (leaves_under ups (xs ++ n ∷ ys) (bs ++ q ∷ r ∷ cs) (bs ++ merged q r ∷ cs) downs (merge_flat q r (merged q r) mg bs cs)) (omega arith)
        (λ w. record {
          ups = ups;
          xs = xs;
          node = n;
          ys = ys;
          entry = g;
          q = merged q r;
          spot = record {
            bs = bs;
            cs = cs;
            downs = downs;
            pre = pre;
            post = post;
            whole = refl;
            depth = a.depth;
            items = a.items;
            before = a.before;
            here = one refl refl done;
            beyond = a.beyond;
            low = a.low;
            high = a.high;
          };
          is = refl;
          ends = refl;
          is_parent = refl;
          rich = omega arith;
        })))

    low_chain : (c : ℕ) × Rising c (q.items ++ r.items) × (after c (q.items ++ r.items) ≤ suc r.high)
    unfolding ChainOk
    low_chain =
        let b = is_bottom (length downs) in
        let c = chain_cut b 0 bs (q ∷ r ∷ cs) (suc top) (levels_at s.pages (ups ++ (xs ++ n ∷ ys) ∷ []) (bs ++ q ∷ r ∷ cs) downs low_levels).chain in
        let o₁ = c.right.0 in
        let o₂ = c.right.1.0 in
        let e₁ = ends_le b (after c.mid q.items) q.high o₁.ends in
        let e₂ = ends_le b (after (suc q.high) r.items) r.high o₂.ends in
        let m = after_mono (after c.mid q.items) (suc q.high) r.items e₁ in
        let z = after_append c.mid q.items r.items in
        (c.mid, rising_append c.mid q.items r.items o₁.rises (rising_weaken _ (suc q.high) r.items e₁ o₂.rises), omega arith)

    -- Redistributed, and linked again.
    shared_went : room < length q.items + length r.items
        → Result s T 2 0 (join_by false n.page q.page r.page r.high s) (StockedAt k l n.page)
    unfolding join_by
    shared_went many =
        let (sq, sr) = sizes in
        let (c, rs, es) = low_chain in
        let sh = shared q r c a.four sq.0 sr.0 many rs es in
        rw (q_page.items, r_page.items) (go (key_at (q.items ++ r.items) (share q.items r.items - 1)) (moved_by (ltb (length q.items) (share q.items r.items)) q.items r.items) sh sq.0 sr.0)
      where
        go : (key : ℕ) (moved : List Entry) → Shared q r key moved → length q.items ≤ room → length r.items ≤ room
            → Result s T 2 0 (link_child n.page q.page r.high (emit (redistribute_row q.page r.page key moved) s))
            (StockedAt k l n.page)
        go key moved sh u₁ u₂ =
            let q' = shared_left q key moved in
            let r' = shared_right r key moved in
            let T' = ups ++ (xs ++ n ∷ ys) ∷ (bs ++ q' ∷ r' ∷ cs) ∷ downs in
            let row = redistribute_row q.page r.page key moved in
            let t = emit row s in
            let l₁ = sh.left_size in
            let l₂ = sh.right_size in
            let lo = sh.parts.lower_high in
            let mg : Merges q r (merged q r) = record { same_page = refl; same_items = refl; same_high = refl } in
            let cn = counted_under ups (xs ++ n ∷ ys) (bs ++ q ∷ r ∷ cs) (bs ++ q' ∷ r' ∷ cs) downs (length_pair bs q' r' q r cs) in
            let sp : Spot k T' ups xs n ys g (q' ∷ r' ∷ []) l
            = record {
              bs = bs;
              cs = cs;
              downs = downs;
              pre = pre;
              post = post;
              whole = refl;
              depth = a.depth;
              items = a.items;
              before = a.before;
              here = two {e = g} {n = q'} refl lo refl done;
              beyond = a.beyond;
              low = a.low;
              high = a.high;
            } in
            bind s T 1 0 t (λ z. z ≡ T') 1 0 (link_child n.page q.page r.high t) (StockedAt k l n.page)
            (emitted row s T T' 0 (λ z. z ≡ T') a.live
            (shares ups (xs ++ n ∷ ys) bs q r cs downs (flat xs ++ pre) g (post ++ flat ys) key moved flat_g refl refl a.before a.beyond sh.parts (omega arith, omega arith) (omega arith, omega arith))
            (leaves_under ups (xs ++ n ∷ ys) (bs ++ q ∷ r ∷ cs) (bs ++ q' ∷ r' ∷ cs) downs (share_flat q r (merged q r) q' r' mg sh.parts bs cs)) (omega arith) (λ w. refl))
            (keep_link Halt halt_by halt_stop n.page q.page r.high t)
            (λ ls₁ v e. recast t ls₁ 1 0 (link_child n.page q.page r.high t) _ (StockedAt k l n.page)
            (λ ls' w x. record { ups = ups; xs = xs; node = x.node; ys = ys; entry = x.entry; q = x.q; spot = x.spot; is = x.is; ends = x.ends; is_parent = sym x.same_page; rich = x.has })
            (link_down k t ls₁ ups xs n ys g q' r' l Five (subst (λ z. Spot k z ups xs n ys g (q' ∷ r' ∷ []) l) (sym e) sp) refl lo refl a.space (omega arith) (omega arith) v))

    pub joined_went : Result s T 2 0 (join n.page q.page r.page r.high s) (StockedAt k l n.page)
    unfolding join
    joined_went = go (case (leb (size (at s.pages q.page) + size (at s.pages r.page)) room))
      where
        go : Case (leb (size (at s.pages q.page) + size (at s.pages r.page)) room)
            → Result s T 2 0 (join_by (leb (size (at s.pages q.page) + size (at s.pages r.page)) room) n.page q.page r.page r.high s)
            (StockedAt k l n.page)
        go (yes! c) =
            let e₁ : size (at s.pages q.page) ≡ length q.items = ap length q_page.items in
            let e₂ : size (at s.pages r.page) ≡ length r.items = ap length r_page.items in
            let h : size (at s.pages q.page) + size (at s.pages r.page) ≤ room = true_le _ _ c in
            subst (λ z. Result s T 2 0 (join_by z n.page q.page r.page r.high s) (StockedAt k l n.page)) (sym c) (merged_went (omega arith))
        go (no! c) =
            let e₁ : size (at s.pages q.page) ≡ length q.items = ap length q_page.items in
            let e₂ : size (at s.pages r.page) ≡ length r.items = ap length r_page.items in
            let h : room < size (at s.pages q.page) + size (at s.pages r.page) = false_le _ _ c in
            subst (λ z. Result s T 2 0 (join_by z n.page q.page r.page r.high s) (StockedAt k l n.page)) (sym c) (shared_went (omega arith))

halt_joined : (p l r w : ℕ) (u : Run) → Halt u → Halt (join p l r w u)
unfolding join
halt_joined p l r w u h = keep_join_by Halt halt_by halt_stop _ p l r w u h

-- Twins: unlinked, and joined.
pub twins_went : (k l : ℕ) (s : Run) (ls ups : List (List Node)) (xs : List Node) (n : Node) (ys : List Node) (q r : Node) → Live s ls
    → Twins k ls ups xs n ys q r l → Loses ups xs n ys
    → Result s ls 3 0 (unlink_join n.page q.page r.page s) (StockedAt k l n.page)
unfolding unlink_join ChainOk All
twins_went k l s ls ups xs n ys q r v₀ t loses =
    subst (λ z. Result s z 3 0 (unlink_join n.page q.page r.page s) (StockedAt k l n.page)) (sym t.whole) (go (subst (Live s) t.whole v₀))
  where
    bs : List Node
    bs = t.bs

    cs : List Node
    cs = t.cs

    old : List (List Node)
    old = ups ++ (xs ++ n ∷ ys) ∷ (t.bs ++ q ∷ r ∷ t.cs) ∷ t.downs

    n₁ : Node
    n₁ = unlinked n q r t.pre t.post

    new : List (List Node)
    new = ups ++ (xs ++ n₁ ∷ ys) ∷ (t.bs ++ q ∷ r ∷ t.cs) ∷ t.downs

    go : Live s old → Result s old 3 0 (unlink_join n.page q.page r.page s) (StockedAt k l n.page)
    go v =
        let lv = subst (Levels s.pages) (sym (under ups (xs ++ n ∷ ys) (t.bs ++ q ∷ r ∷ t.cs) t.downs)) v.rules.levels in
        let qp = (page_at s.pages (ups ++ (xs ++ n ∷ ys) ∷ []) t.bs q (r ∷ t.cs) t.downs lv).2 in
        let rp = (page_at s.pages (ups ++ (xs ++ n ∷ ys) ∷ []) (t.bs ++ q ∷ []) r t.cs t.downs
        (subst (λ z. Levels s.pages ((ups ++ (xs ++ n ∷ ys) ∷ []) ++ z ∷ t.downs)) (sym (append_assoc t.bs (q ∷ []) (r ∷ t.cs))) lv)).2 in
        let ch = chain_cut (is_bottom (length t.downs)) 0 t.bs (q ∷ r ∷ t.cs) (suc top) (levels_at s.pages (ups ++ (xs ++ n ∷ ys) ∷ []) (t.bs ++ q ∷ r ∷ t.cs) t.downs lv).chain in
        let qr : q.high < r.high = ch.right.1.0.covers in
        let (z₁, sm, z₂) = all_cut (λ z. length z.items ≤ room) xs n ys (levels_at s.pages ups (xs ++ n ∷ ys) ((t.bs ++ q ∷ r ∷ t.cs) ∷ t.downs) v.rules.levels).small in
        let ln : length n.items ≡ length t.pre + suc (suc (length t.post)) = ap length t.items ∙ length-append t.pre (t.e ∷ t.f ∷ t.post) in
        let ln₁ : length n₁.items ≡ length t.pre + suc (length t.post) = length-append t.pre (entry r.high q.page ∷ t.post) in
        let row = unlink_row n.page q.page r.page q.high r.high in
        let u = emit row s in
        let cn = counted_same ups (xs ++ n ∷ ys) (xs ++ n₁ ∷ ys) ((t.bs ++ q ∷ r ∷ t.cs) ∷ t.downs) (length_mid xs n₁ n ys) in
        let hi = t.high in
        let fe = t.f_ends in
        rw (rp.high, qp.high)
        (bind s old 1 0 u (λ z. z ≡ new) 2 0 (join n.page q.page r.page r.high u) (StockedAt k l n.page)
        (emitted row s old new 0 (λ z. z ≡ new) v
        (unlinks ups xs n ys t.bs q r t.cs t.downs t.pre t.e t.f t.post t.items t.e_is (sym t.e_ends) t.f_is (sym t.f_ends) qr t.before t.beyond
        (sized_loses ups (length t.downs) xs n n₁ ys loses (omega arith) sm (sizes_at ups (xs ++ n ∷ ys) ((t.bs ++ q ∷ r ∷ t.cs) ∷ t.downs) v.rules.sizes)))
        (leaves_above ups (xs ++ n ∷ ys) (xs ++ n₁ ∷ ys) (t.bs ++ q ∷ r ∷ t.cs) t.downs) (omega arith) (λ w. refl))
        (halt_join u)
        (λ ls₁ w e. subst (λ z. Result u z 2 0 (join n.page q.page r.page r.high u) (StockedAt k l n.page)) (sym e)
        (joined_went k l u ups xs n₁ ys t.bs q r t.cs t.downs t.pre t.post
        (record { live = subst (Live u) e w; depth = t.depth; items = refl; before = t.before; beyond = t.beyond; low = t.low; high = omega arith; four = t.four; space = omega arith }))))
      where
        halt_join : (u : Run) → Halt u → Halt (join n.page q.page r.page r.high u)
        halt_join u h = halt_joined n.page q.page r.page r.high u h
