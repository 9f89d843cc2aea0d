-- A child that has 4 entries is joined with a neighbour; what covers k then has more.
use Rattle.std.specs.Prelude.{ℕ, suc, ◌≤◌, ◌<◌, ◌≡◌, ◌≢◌, ◌⊎◌, true, false, List, [], ◌∷◌, ◌++◌, eqb}
use Rattle.std.proofs.Math.Path.{refl, subst}
use Rattle.std.proofs.Common.{sym, ap, ◌∙◌, inl, arith}
use Rattle.std.proofs.Math.Option.{none, some}
use Rattle.std.proofs.Math.ListN.{length}
use Rattle.def_base.specs.Tests.{pick, Case, yes!, no!, case, clash, true_eq, eq_true, le_true}
use Rattle.def_layout.specs.declared.Entry.{Entry}
use Rattle.def_layout.specs.Entries.{entry, seek}
use Rattle.def_layout.specs.Sizes.{room}
use Rattle.def_layout.specs.Pages.{at, size}
use Rattle.def_model.specs.Fit.{after}
use Rattle.def_model.specs.TreeRules.{Node, first_page, least}
use Rattle.def_model.specs.Lookup.{entry_or, first_of}
use Rattle.def_model.specs.Update.{Run, At, make_room, Pair, next_entry, entry_before, link_after, unlink_join, join_left, join_by_entry, restock, refind, stocked_by, stocked}
use Rattle.theory_tree.specs.Order.Keys.{Rising}
use Rattle.theory_tree.specs.Shape.Chains.{IsNode}
use Rattle.theory_tree.specs.Shape.Trees.{Levels, all_cut, Direct, page_at}
use Rattle.theory_tree.specs.Shape.Sizes.{Sized, Sizes, sizes_below}
use Rattle.theory_tree.specs.Step.Parts.{under}
use Rattle.theory_update.specs.Run.Keeps.{Halt, halt_by, halt_stop, keep_unlink_join, keep_entry}
use Rattle.theory_update.specs.Run.Way.{Live, Result, idle, loosen, bind, recast}
use Rattle.theory_update.specs.Find.Search.{seek_at, next_at, before_at}
use Rattle.theory_update.specs.Find.Places.{Spot, Searched, searched, child_place, child_direct}
use Rattle.theory_update.specs.Add.MakingRoom.{room_enough, RoomAt, spot_page, room_test, room_went}
use Rattle.theory_update.specs.Add.Descent.{Stand}
use Rattle.theory_update.specs.Remove.Twins.{Loses, plenty, top_alone, loses_more, Five, StockedAt}
use Rattle.theory_update.specs.Remove.Joining.{twins_went}
use Rattle.theory_update.specs.Remove.Neighbours.{TwinAt, right_went, left_went}

-- ---- `restock`, by its cases

snoc : (d : Entry) (l : List Entry) → (m : List Entry) × (x : Entry) × (d ∷ l ≡ m ++ x ∷ [])
snoc d [] = ([], d, refl)
snoc d (e ∷ l) = let (m, x, w) = snoc e l in (d ∷ m, x, ap (d ∷◌) w)

head_none : first_of [] ≡ none
unfolding first_of
head_none = refl

head_some : (f : Entry) (fs : List Entry) → first_of (f ∷ fs) ≡ some f
unfolding first_of
head_some f fs = refl

restock_next : (k q : ℕ) (s : Run) (page : ℕ) (es : List Entry) (f : Entry) → (at s.pages page).entries ≡ es → next_entry k es ≡ some f
    → restock k q (record { run = s; page = page }) ≡ unlink_join page q f.val (link_after page f.val f.key s)
unfolding restock join_by_entry
restock_next k q s page es f a b = rw (a, b)

restock_last : (k q : ℕ) (s : Run) (page : ℕ) (es : List Entry) (d : Entry) → (at s.pages page).entries ≡ es → next_entry k es ≡ none
    → entry_before k (entry 0 0) es ≡ d
    → restock k q (record { run = s; page = page })
    ≡ unlink_join page (pick (eqb (at (link_after page d.val d.key s).pages d.val).right q) d.val (at (link_after page d.val d.key s).pages d.val).right) q (link_after page d.val d.key s)
unfolding restock join_by_entry join_left
restock_last k q s page es d a b c = rw (a, b, c)

module _ (k l : ℕ) (s : Run) (ls ups : List (List Node)) (xs : List Node) (n : Node) (ys : List Node) (e : Entry) (q : Node) (p : Spot k ls ups xs n ys e (q ∷ []) l) (is : e.val ≡ q.page) (ends : q.high ≡ e.key)
    (four : length q.items ≡ least) (room₀ : length n.items < room) (loses : Loses ups xs n ys) (v : Live s ls) where
  twin_join : (t : Run) (lp rp : ℕ) → Result s ls 1 0 t (TwinAt k l ups xs n ys lp rp)
      → Result s ls 4 0 (unlink_join n.page lp rp t) (StockedAt k l n.page)
  twin_join t lp rp r =
      bind s ls 1 0 t (TwinAt k l ups xs n ys lp rp) 3 0 (unlink_join n.page lp rp t) (StockedAt k l n.page) r
      (keep_unlink_join Halt halt_by halt_stop n.page lp rp t)
      (λ ls₁ w x.
      subst (λ z. Result t ls₁ 3 0 (unlink_join n.page z rp t) (StockedAt k l n.page)) (sym x.is_left)
      (subst (λ z. Result t ls₁ 3 0 (unlink_join n.page x.q.page z t) (StockedAt k l n.page)) (sym x.is_right)
      (subst (λ z. Result t ls₁ 3 0 (unlink_join z x.q.page x.r.page t) (StockedAt k l z)) x.same_page
      (twins_went k l t ls₁ ups xs x.node ys x.q x.r w x.twins (loses_more ups xs n x.node ys x.grows loses)))))

  pub restock_went : Result s ls 4 0 (restock k q.page (record { run = s; page = n.page })) (StockedAt k l n.page)
  restock_went = go p.post refl
    where
      np : IsNode (at s.pages n.page) (suc (length p.downs)) (first_page ys 0) n
      np = spot_page s.pages k ls ups xs n ys e (q ∷ []) l p v.rules.levels

      se : Searched k n p.pre e p.post
      se = searched s.pages k ls ups xs n ys e (q ∷ []) l p v.rules.levels

      nx : next_entry k n.items ≡ first_of p.post
      nx = ap (next_entry k) p.items ∙ next_at k se.from p.pre e p.post se.rises se.starts p.high

      two_at_least : Loses ups xs n ys → 2 ≤ length n.items
      two_at_least (plenty h) = omega arith
      two_at_least (top_alone a b c h) = h

      last : p.post ≡ [] → (pre : List Entry) → p.pre ≡ pre
          → Result s ls 4 0 (restock k q.page (record { run = s; page = n.page })) (StockedAt k l n.page)
      last w [] u =
          let a : length n.items ≡ 1 = ap length p.items ∙ (λ i. length (u i ++ e ∷ w i)) in
          let b = two_at_least loses in
          absurd (omega arith)
      last w (x ∷ pre) u =
          let (m, d, y) = snoc x pre in
          by m d (u ∙ y)
        where
          by : (m : List Entry) (d : Entry) → p.pre ≡ m ++ d ∷ []
              → Result s ls 4 0 (restock k q.page (record { run = s; page = n.page })) (StockedAt k l n.page)
          by m d z =
              let nn : next_entry k n.items ≡ none = nx ∙ none_after w in
              let eb : entry_before k (entry 0 0) n.items ≡ d
              = ap (entry_before k (entry 0 0)) (p.items ∙ ap (◌++ e ∷ p.post) z)
              ∙ before_at k se.from (entry 0 0) d m e p.post (subst (λ y. Rising se.from (y ++ e ∷ p.post)) z se.rises) (subst (λ y. after se.from y ≤ k) z se.starts) p.high in
              subst (λ y. Result s ls 4 0 y (StockedAt k l n.page)) (sym (restock_last k q.page s n.page n.items d np.items nn eb))
              (twin_join _ _ q.page (left_went k l s ls ups xs n ys e q p is ends four room₀ v d m z w))
            where
              none_after : p.post ≡ [] → first_of p.post ≡ none
              none_after w = ap first_of w ∙ head_none

      go : (post : List Entry) → p.post ≡ post → Result s ls 4 0 (restock k q.page (record { run = s; page = n.page })) (StockedAt k l n.page)
      go [] w = last w p.pre refl
      go (f ∷ post) w =
          let nn : next_entry k n.items ≡ some f = nx ∙ ap first_of w ∙ head_some f post in
          subst (λ y. Result s ls 4 0 y (StockedAt k l n.page)) (sym (restock_next k q.page s n.page n.items f np.items nn))
          (twin_join _ q.page f.val (right_went k l s ls ups xs n ys e q p is ends four room₀ v f post w))

-- ---- the child, found again

refind_is : (k l : ℕ) (t : Run) (ls ups : List (List Node)) (xs : List Node) (n : Node) (ys : List Node) (e : Entry) (c : Node)
    (p : Spot k ls ups xs n ys e (c ∷ []) l) → e.val ≡ c.page → c.high ≡ e.key → Live t ls
    → refind k n.page t ≡ record { run = t; page = c.page }
unfolding refind entry_or
refind_is k l t ls ups xs n ys e c p is ends v =
    let np = spot_page t.pages k ls ups xs n ys e (c ∷ []) l p v.rules.levels in
    let se = searched t.pages k ls ups xs n ys e (c ∷ []) l p v.rules.levels in
    let f : seek k n.items ≡ some e = ap (seek k) p.items ∙ seek_at k se.from p.pre e p.post se.rises se.starts p.high in
    let cp = (page_at t.pages (ups ++ (xs ++ n ∷ ys) ∷ []) p.bs c p.cs p.downs (subst (Levels t.pages) (p.whole ∙ sym (under ups (xs ++ n ∷ ys) (p.bs ++ c ∷ p.cs) p.downs)) v.rules.levels)).2 in
    let h = p.high in
    rw (np.items, f, is, cp.high, le_true k c.high (omega arith))

halt_restock : (k q : ℕ) (a : At) → Halt a.run → Halt (restock k q a)
unfolding restock
halt_restock k q a h = keep_entry Halt halt_by halt_stop _ _ _ _ _ h

-- A place for a removal: the node may lose an entry, or is the root alone.
pub record Rich (k l page : ℕ) (ls : List (List Node)) : Type 0 where
  pub stand : Stand k l page ls
  pub rich : (5 ≤ length stand.node.items) ⊎ (stand.ups ≡ [])

rich_child : (k l page : ℕ) (ls ups : List (List Node)) (xs : List Node) (n : Node) (ys : List Node) (e : Entry) (q : Node)
    → Spot k ls ups xs n ys e (q ∷ []) l → e.val ≡ q.page → q.high ≡ e.key → page ≡ q.page → Five q → Rich k l page ls
rich_child k l page ls ups xs n ys e q p is ends i f =
    record {
      stand = record { ups = ups ++ (xs ++ n ∷ ys) ∷ []; xs = p.bs; node = q; ys = p.cs; place = child_place k ls ups xs n ys e q l p ends; direct = child_direct k ls ups xs n ys e q l p is ends; is_page = i };
      rich = inl f;
    }

-- The room made first, where the parent is full.
refound : (k l parent : ℕ) (t : Run) (ls : List (List Node)) → Live t ls → StockedAt k l parent ls → Rich k l (refind k parent t).page ls
refound k l parent t ls v x =
    let w : refind k parent t ≡ record { run = t; page = x.q.page } = ap (λ z. refind k z t) x.is_parent ∙ refind_is k l t ls x.ups x.xs x.node x.ys x.entry x.q x.spot x.is x.ends v in
    rich_child k l (refind k parent t).page ls x.ups x.xs x.node x.ys x.entry x.q x.spot x.is x.ends (ap (λ a. a.page) w) x.rich

module _ (k l : ℕ) (t : Run) (ls ups : List (List Node)) (xs : List Node) (n : Node) (ys : List Node) (e : Entry) (q : Node) (p : Spot k ls ups xs n ys e (q ∷ []) l) (is : e.val ≡ q.page) (ends : q.high ≡ e.key) (v : Live t ls) where
  abbrev D : Pair
  D = record { run = t; parent = n.page; child = q.page }

  n_page : IsNode (at t.pages n.page) (suc (length p.downs)) (first_page ys 0) n
  n_page = spot_page t.pages k ls ups xs n ys e (q ∷ []) l p v.rules.levels

  q_page : IsNode (at t.pages q.page) (length p.downs) (first_page p.cs 0) q
  q_page = (page_at t.pages (ups ++ (xs ++ n ∷ ys) ∷ []) p.bs q p.cs p.downs (subst (Levels t.pages) (p.whole ∙ sym (under ups (xs ++ n ∷ ys) (p.bs ++ q ∷ p.cs) p.downs)) v.rules.levels)).2

  q_sized : Sized least q
  q_sized = (all_cut (Sized least) p.bs q p.cs (sizes_below ups (xs ++ n ∷ ys) (p.bs ++ q ∷ p.cs) p.downs (subst Sizes p.whole v.rules.sizes))).1

  -- The child has more than 4.
  enough : eqb (size (at t.pages q.page)) 4 ≡ false → Result t ls 0 0 (stocked_by false k D).run (Rich k l (stocked_by false k D).page)
  unfolding stocked_by
  enough c =
      let z : length q.items ≢ 4 = λ w. clash (sym (eq_true (size (at t.pages q.page)) 4 (ap length q_page.items ∙ w)) ∙ c) in
      let s = q_sized.1 in
      idle t ls (Rich k l q.page) v (rich_child k l q.page ls ups xs n ys e q p is ends refl (omega arith))

  -- The child has 4, the parent has room.
  restocked : length q.items ≡ least → length n.items < room → Loses ups xs n ys
      → Result t ls 4 0 (stocked_by true k D).run (Rich k l (stocked_by true k D).page)
  unfolding stocked_by refind
  restocked four rm ls₀ =
      let w = room_enough k n.page t (room_test t.pages n _ _ n_page rm) in
      subst (λ a. Result t ls 4 0 (refind k a.page (restock k q.page a)).run (Rich k l (refind k a.page (restock k q.page a)).page)) (sym w)
      (recast t ls 4 0 (restock k q.page (record { run = t; page = n.page })) (StockedAt k l n.page) _
      (λ ls' u x. refound k l n.page _ ls' u x)
      (restock_went k l t ls ups xs n ys e q p is ends four rm ls₀ v))

  -- The child has 4, the parent is full.
  split_restocked : length q.items ≡ least → Direct ups xs n ys → length n.items ≡ room
      → Result t ls 5 1 (stocked_by true k D).run (Rich k l (stocked_by true k D).page)
  unfolding stocked_by refind
  split_restocked four d full =
      let a = make_room k n.page t in
      let u = restock k q.page a in
      bind t ls 1 1 a.run (RoomAt k l e (q ∷ []) a.page) 4 0 u (Rich k l (refind k a.page u).page) (room_went k t ls ups xs n ys e (q ∷ []) l p d full v)
      (halt_restock k q.page a)
      (λ ls₁ w r.
      let sv = r.seven in
      recast a.run ls₁ 4 0 u (StockedAt k l a.page) (Rich k l (refind k a.page u).page) (λ ls' x y. refound k l a.page u ls' x y)
      (subst (λ z. Result a.run ls₁ 4 0 (restock k q.page (record { run = a.run; page = z })) (StockedAt k l z)) (sym r.is_page)
      (restock_went k l a.run ls₁ r.ups r.xs r.node r.ys e q r.spot is ends four (omega arith) (plenty (omega arith)) w)))

  pub stocked_room : length n.items < room → Loses ups xs n ys → Result t ls 4 0 (stocked k D).run (Rich k l (stocked k D).page)
  unfolding stocked
  stocked_room rm ls₀ = go (case (eqb (size (at t.pages q.page)) 4))
    where
      go : Case (eqb (size (at t.pages q.page)) 4)
          → Result t ls 4 0 (stocked_by (eqb (size (at t.pages q.page)) 4) k D).run
          (Rich k l (stocked_by (eqb (size (at t.pages q.page)) 4) k D).page)
      go (yes! c) = subst (λ z. Result t ls 4 0 (stocked_by z k D).run (Rich k l (stocked_by z k D).page)) (sym c) (restocked (sym (ap length q_page.items) ∙ true_eq _ 4 c) rm ls₀)
      go (no! c) = subst (λ z. Result t ls 4 0 (stocked_by z k D).run (Rich k l (stocked_by z k D).page)) (sym c) (loosen t ls 0 0 4 0 _ _ (omega arith) (omega arith) (enough c))

  pub stocked_full : Direct ups xs n ys → length n.items ≡ room → Result t ls 5 1 (stocked k D).run (Rich k l (stocked k D).page)
  unfolding stocked
  stocked_full d full = go (case (eqb (size (at t.pages q.page)) 4))
    where
      go : Case (eqb (size (at t.pages q.page)) 4)
          → Result t ls 5 1 (stocked_by (eqb (size (at t.pages q.page)) 4) k D).run
          (Rich k l (stocked_by (eqb (size (at t.pages q.page)) 4) k D).page)
      go (yes! c) = subst (λ z. Result t ls 5 1 (stocked_by z k D).run (Rich k l (stocked_by z k D).page)) (sym c) (split_restocked (sym (ap length q_page.items) ∙ true_eq _ 4 c) d full)
      go (no! c) = subst (λ z. Result t ls 5 1 (stocked_by z k D).run (Rich k l (stocked_by z k D).page)) (sym c) (loosen t ls 0 0 5 1 _ _ (omega arith) (omega arith) (enough c))
