-- THE DESCENT OF A REMOVAL: at most six records and one page a level.
use Rattle.std.specs.Prelude.{ℕ, zero, suc, ◌+◌, ◌*◌, ◌≤◌, ◌≡◌, refl, ◌⊎◌, eqb}
use Rattle.std.proofs.Math.Path.{sym, subst}
use Rattle.std.proofs.Common.{ap, ◌∙◌, inl, inr, length-append}
use Rattle.std.proofs.Math.Bool.{true, false}
use mathlib.Core.List.{List, [], ◌∷◌, ◌++◌}
use native.Mathlib.Omega.{arith}
use Rattle.std.proofs.Math.Decide.{dec_le, ℕ_discrete}
use Rattle.std.proofs.Math.ListN.{length}
use Rattle.std.proofs.Math.Dec.{eqb-suc-zero}
use Rattle.def_base.specs.Tests.{pick, Case, yes!, no!, case, clash, true_eq, eq_true, and_true}
use Rattle.def_layout.specs.declared.Entry.{Entry}
use Rattle.def_layout.specs.Sizes.{room}
use Rattle.def_layout.specs.Pages.{at, size}
use Rattle.def_layout.specs.Records.{lower_row}
use Rattle.def_model.specs.Fit.{after}
use Rattle.def_model.specs.TreeRules.{Node, flat, bottom, leaves, first_page, least, counted, root_least}
use Rattle.def_model.specs.Update.{Run, emit, At, Pair, direct, stocked, lower_root, lone, step_by, descend_remove}
use Rattle.theory_tree.specs.Shape.Levels.{Match, done, one, two, from_of}
use Rattle.theory_tree.specs.Shape.Chains.{IsNode, All}
use Rattle.theory_tree.specs.Shape.Trees.{Levels, levels_at, all_cut, Direct, page_at}
use Rattle.theory_tree.specs.Shape.Sizes.{Sized, SizedLevel, Sizes, sizes_at}
use Rattle.theory_tree.specs.Shape.Rules.{Rooted}
use Rattle.theory_tree.specs.Step.Steps.{lowered, lowers}
use Rattle.theory_update.specs.Run.Keeps.{Halt, halt_by, halt_stop, keep_step, keep_descend_remove}
use Rattle.theory_update.specs.Run.Way.{Live, Result, idle, loosen, bind, emitted}
use Rattle.theory_update.specs.Find.Places.{Spot, index_node, open_place, Stands, alone, pair, stands, direct_same}
use Rattle.theory_update.specs.Add.Linking.{Any, PairAt}
use Rattle.theory_update.specs.Add.MakingRoom.{spot_page}
use Rattle.theory_update.specs.Add.Directing.{direct_alone, direct_easy, HalfAt, direct_halved}
use Rattle.theory_update.specs.Add.Descent.{Stand, place_small}
use Rattle.theory_update.specs.Remove.Twins.{Loses, plenty, top_alone}
use Rattle.theory_update.specs.Remove.Restocking.{Rich, stocked_room, stocked_full}

-- ---- the root with one link is lowered

match_nil : {ns : List Node} {es : List Entry} → es ≡ [] → Match es ns → ns ≡ []
match_nil w done = refl
match_nil w (one {es = es} a b m) = let z : suc (length es) ≡ 0 = ap length w in absurd (omega (arith, z))
match_nil w (two {es = es} a b c m) = let z : suc (length es) ≡ 0 = ap length w in absurd (omega (arith, z))

single : (pre : List Entry) (e : Entry) (post : List Entry) → length (pre ++ e ∷ post) ≡ 1 → (pre ≡ []) × (post ≡ [])
single [] e [] h = (refl, refl)
single [] e (f ∷ post) h = absurd (omega arith)
single (x ∷ pre) e post h = let a = length-append pre (e ∷ post) in absurd (omega arith)

root_at : (ups : List (List Node)) (d : ℕ) (xs : List Node) (n : Node) (ys : List Node) → Direct ups xs n ys → SizedLevel ups d (xs ++ n ∷ ys)
    → length n.items ≡ 1 → (ups ≡ []) × (xs ≡ []) × (ys ≡ [])
unfolding Direct SizedLevel
root_at [] d xs n ys t f h = (refl, t.0, t.1)
root_at (u ∷ us) d xs n ys t f h = let z = (all_cut (Sized least) xs n ys f).1.1 in absurd (omega arith)

lower_is : (t : Run) (q : Node) (lev next : ℕ) → IsNode (at t.pages q.page) lev next q
    → lower_root q.page t ≡ emit (lower_row lev q.page q.items) t
unfolding lower_root
lower_is t q lev next i = rw (i.level, i.items)

lower_went : (k l : ℕ) (t : Run) (ls ups : List (List Node)) (xs : List Node) (n : Node) (ys : List Node) (e : Entry) (q : Node)
    (p : Spot k ls ups xs n ys e (q ∷ []) l) → e.val ≡ q.page → q.high ≡ e.key → Live t ls
    → n.page ≡ 1 → length n.items ≡ 1 → Direct ups xs n ys → Result t ls 1 0 (lower_root q.page t) (Rich k l 1)
unfolding from_of Direct counted leaves bottom after first_page flat
lower_went k l t ls ups xs n ys e q p is ends v root size_one d =
    let f = sizes_at ups (xs ++ n ∷ ys) ((p.bs ++ q ∷ p.cs) ∷ p.downs) (subst Sizes p.whole v.rules.sizes) in
    let (a, b, c) = root_at ups _ xs n ys d f size_one in
    let (u, w) = single p.pre e p.post (ap length (sym p.items) ∙ size_one) in
    let bs0 = match_nil ((λ i. flat (b i) ++ u i)) p.before in
    let cs0 = match_nil ((λ i. w i ++ flat (c i))) p.beyond in
    let T : List (List Node) = (n ∷ []) ∷ (q ∷ []) ∷ p.downs in
    let T' : List (List Node) = (lowered n q ∷ []) ∷ p.downs in
    let wh : ls ≡ T = p.whole ∙ (λ i. a i ++ (b i ++ n ∷ c i) ∷ (bs0 i ++ q ∷ cs0 i) ∷ p.downs) in
    let it : n.items ≡ e ∷ [] = p.items ∙ (λ i. u i ++ e ∷ w i) in
    let v' = subst (Live t) wh v in
    let qp = (page_at t.pages ((n ∷ []) ∷ []) [] q [] p.downs v'.rules.levels).2 in
    let nd = index_node t.pages [] [] n [] (q ∷ []) p.downs v'.rules.levels in
    let ne : after 0 n.items ≡ suc n.high = nd.ends in
    let ne' : suc e.key ≡ suc n.high = ap (after 0) (sym it) ∙ ne in
    let h = p.high in
    subst (λ z. Result t ls 1 0 z (Rich k l 1)) (sym (lower_is t q _ _ qp))
    (subst (λ z. Result t z 1 0 (emit (lower_row (length p.downs) q.page q.items) t) (Rich k l 1)) (sym wh)
    (emitted (lower_row (length p.downs) q.page q.items) t T T' 0 (Rich k l 1) v' (lowers n q p.downs e root it is ends) (same p.downs) (omega arith)
    (λ z. record {
      stand = record { ups = []; xs = []; node = lowered n q; ys = []; place = record { downs = p.downs; whole = refl; depth = p.depth; low = omega arith; high = omega arith }; direct = (refl, refl); is_page = refl };
      rich = inr refl;
    })))
  where
    same : (ds : List (List Node)) → leaves ((lowered n q ∷ []) ∷ ds) ≡ leaves ((n ∷ []) ∷ (q ∷ []) ∷ ds)
    same [] = refl
    same (x ∷ ds) = refl

module _ (k l : ℕ) (t : Run) (ls ups : List (List Node)) (xs : List Node) (n : Node) (ys : List Node) (e : Entry) (q : Node) (p : Spot k ls ups xs n ys e (q ∷ []) l) (is : e.val ≡ q.page) (ends : q.high ≡ e.key) (v : Live t ls) where
  abbrev E : Pair
  E = record { run = t; parent = n.page; child = q.page }

  e_page : IsNode (at t.pages n.page) (suc (length p.downs)) (first_page ys 0) n
  e_page = spot_page t.pages k ls ups xs n ys e (q ∷ []) l p v.rules.levels

  -- not lone: the root, where it stands alone, has 2 entries
  root_two : lone E ≡ false → Direct ups xs n ys → ups ≡ [] → Loses ups xs n ys
  unfolding Direct Rooted SizedLevel root_least All first_page
  root_two c d u =
      let d' : (xs ≡ []) × (ys ≡ []) = subst (λ z. Direct z xs n ys) u d in
      let wh : ls ≡ (n ∷ []) ∷ (p.bs ++ q ∷ p.cs) ∷ p.downs = p.whole ∙ (λ i. u i ++ (d'.0 i ++ n ∷ d'.1 i) ∷ (p.bs ++ q ∷ p.cs) ∷ p.downs) in
      let r : n.page ≡ 1 = subst Rooted wh v.rules.rooted in
      let f = sizes_at [] (n ∷ []) ((p.bs ++ q ∷ p.cs) ∷ p.downs) (subst Sizes wh v.rules.sizes) in
      let g : pick (eqb (suc (length p.downs)) 0) 0 1 ≤ length n.items = f.0.1 in
      let g' : 1 ≤ length n.items = rw (eqb-suc-zero (length p.downs)) at g in
      top_alone u d'.0 d'.1 (two_or (ℕ_discrete (length n.items) 1) r g')
    where
      two_or : Dec (length n.items ≡ 1) → n.page ≡ 1 → 1 ≤ length n.items → 2 ≤ length n.items
      two_or (no h) r g = omega arith
      two_or (yes h) r g =
          let z : lone E ≡ true = rw (eq_true n.page 1 r, eq_true (size (at t.pages n.page)) 1 (ap length e_page.items ∙ h)) in
          clash (sym z ∙ c)

  -- The child was reached without a split of the parent.
  pub step_whole : length n.items ≤ room → Direct ups xs n ys → (5 ≤ length n.items) ⊎ (ups ≡ [])
      → Result t ls 5 1 (step_by (lone E) k E).run (Rich k l (step_by (lone E) k E).page)
  unfolding step_by
  step_whole small d rich = go (case (lone E))
    where
      loses : lone E ≡ false → (5 ≤ length n.items) ⊎ (ups ≡ []) → Loses ups xs n ys
      loses c (inl h) = plenty h
      loses c (inr u) = root_two c d u

      by : Dec (room ≤ length n.items) → lone E ≡ false → Result t ls 5 1 (stocked k E).run (Rich k l (stocked k E).page)
      by (yes h) c = stocked_full k l t ls ups xs n ys e q p is ends v d (omega arith)
      by (no h) c = loosen t ls 4 0 5 1 _ _ (omega arith) (omega arith) (stocked_room k l t ls ups xs n ys e q p is ends v (omega arith) (loses c rich))

      go : Case (lone E) → Result t ls 5 1 (step_by (lone E) k E).run (Rich k l (step_by (lone E) k E).page)
      go (yes! c) =
          let (a, b) = and_true (eqb n.page 1) (eqb (size (at t.pages n.page)) 1) c in
          subst (λ z. Result t ls 5 1 (step_by z k E).run (Rich k l (step_by z k E).page)) (sym c)
          (loosen t ls 1 0 5 1 _ _ (omega arith) (omega arith)
          (lower_went k l t ls ups xs n ys e q p is ends v (true_eq _ 1 a) (sym (ap length e_page.items) ∙ true_eq _ 1 b) d))
      go (no! c) = subst (λ z. Result t ls 5 1 (step_by z k E).run (Rich k l (step_by z k E).page)) (sym c) (by (dec_le room (length n.items)) c)

  -- The parent was split on the way.
  pub step_half : 7 ≤ length n.items → length n.items ≤ 8 → Result t ls 4 0 (step_by (lone E) k E).run (Rich k l (step_by (lone E) k E).page)
  unfolding step_by
  step_half h₁ h₂ = go (case (lone E))
    where
      go : Case (lone E) → Result t ls 4 0 (step_by (lone E) k E).run (Rich k l (step_by (lone E) k E).page)
      go (yes! c) =
          let (a, b) = and_true (eqb n.page 1) (eqb (size (at t.pages n.page)) 1) c in
          let z : length n.items ≡ 1 = sym (ap length e_page.items) ∙ true_eq _ 1 b in
          absurd (omega arith)
      go (no! c) = subst (λ z. Result t ls 4 0 (step_by z k E).run (Rich k l (step_by z k E).page)) (sym c) (stocked_room k l t ls ups xs n ys e q p is ends v (omega arith) (plenty (omega arith)))

-- ---- one step, and all of them

halt_step : (k : ℕ) (d : Pair) → Halt d.run → Halt (step_by (lone d) k d).run
halt_step k d h = keep_step Halt halt_by halt_stop _ k d h

pair_path : (d : Pair) (a b : ℕ) → d.parent ≡ a → d.child ≡ b → ◌≡◌ {A = Pair} d (record { run = d.run; parent = a; child = b })
pair_path d a b p q = λ i. record { run = d.run; parent = p i; child = q i }

-- ONE STEP: at most 6 records and one page.
pub step_went : (k l page : ℕ) (s : Run) (ls : List (List Node)) → Live s ls → Rich k (suc l) page ls
    → Result s ls 6 1 (step_by (lone (direct k page s)) k (direct k page s)).run
    (Rich k l (step_by (lone (direct k page s)) k (direct k page s)).page)
step_went k l page s ls v rc =
    let o = open_place s.pages k ls st.ups st.xs st.node st.ys l st.place v.rules.levels v.rules.joined in
    subst (λ pg. Result s ls 6 1 (step_by (lone (direct k pg s)) k (direct k pg s)).run (Rich k l (step_by (lone (direct k pg s)) k (direct k pg s)).page)) (sym st.is_page)
    (go o.entry o.mid o.spot (stands o.entry o.mid o.spot.here) (dec_le room (length st.node.items)))
  where
    st : Stand k (suc l) page ls
    st = rc.stand

    d : Pair
    d = direct k st.node.page s

    a : At
    a = step_by (lone d) k d

    small : length st.node.items ≤ room
    small = place_small s.pages k ls st.ups st.xs st.node st.ys (suc l) st.place v.rules.levels

    more_rich : (m : Node) → length st.node.items ≤ length m.items → (5 ≤ length st.node.items) ⊎ (st.ups ≡ [])
        → (5 ≤ length m.items) ⊎ (st.ups ≡ [])
    more_rich m h (inl x) = inl (omega arith)
    more_rich m h (inr x) = inr x

    whole : Result s ls 1 0 d.run (PairAt k l st.ups st.xs st.node st.ys Any d.parent d.child)
        → Result s ls 6 1 a.run (Rich k l a.page)
    whole r =
        bind s ls 1 0 d.run _ 5 1 a.run (Rich k l a.page) r (halt_step k d)
        (λ ls₁ w x.
        let sm = (all_cut (λ z. length z.items ≤ room) st.xs x.node st.ys
        (levels_at d.run.pages st.ups (st.xs ++ x.node ∷ st.ys) ((x.spot.bs ++ x.q ∷ x.spot.cs) ∷ x.spot.downs) (subst (Levels d.run.pages) x.spot.whole w.rules.levels)).small).1 in
        subst (λ z. Result d.run ls₁ 5 1 (step_by (lone z) k z).run (Rich k l (step_by (lone z) k z).page)) (sym (pair_path d x.node.page x.q.page (x.is_parent ∙ sym x.same_page) x.is_child))
        (step_whole k l d.run ls₁ st.ups st.xs x.node st.ys x.entry x.q x.spot x.is x.ends w sm
        (direct_same st.ups st.xs st.node x.node st.ys x.same_page x.same_high st.direct) (more_rich x.node x.grows rc.rich)))

    go : (e : Entry) (mid : List Node) (p : Spot k ls st.ups st.xs st.node st.ys e mid l) → Stands e mid
        → Dec (room ≤ length st.node.items) → Result s ls 6 1 a.run (Rich k l a.page)
    go e mid p x (no h) = whole (direct_easy k s ls st.ups st.xs st.node st.ys e mid l p x (omega arith) v)
    go e mid p (alone q i h) (yes f) = whole (direct_alone k s ls st.ups st.xs st.node st.ys e q l p i h v)
    go e mid p (pair q m i lo hi) (yes f) =
        bind s ls 2 1 d.run (HalfAt k l d.parent d.child) 4 0 a.run (Rich k l a.page)
        (direct_halved k s ls st.ups st.xs st.node st.ys e q m l p i lo hi st.direct (omega (arith, small)) v) (halt_step k d)
        (λ ls₁ w x.
        subst (λ z. Result d.run ls₁ 4 0 (step_by (lone z) k z).run (Rich k l (step_by (lone z) k z).page)) (sym (pair_path d x.node.page x.q.page x.is_parent x.is_child))
        (step_half k l d.run ls₁ x.ups x.xs x.node x.ys x.entry x.q x.spot x.is x.ends w x.least x.few))

pub removal_went : (l k page : ℕ) (s : Run) (ls : List (List Node)) → Live s ls → Rich k l page ls
    → Result s ls (6 * l) l (descend_remove l k page s).run (Rich k 0 (descend_remove l k page s).page)
unfolding descend_remove
removal_went zero k page s ls v st = idle s ls (Rich k 0 page) v st
removal_went (suc l) k page s ls v st =
    let d = direct k page s in
    let a = step_by (lone d) k d in
    let u = descend_remove l k a.page a.run in
    loosen s ls (6 + 6 * l) (1 + l) (6 * suc l) (suc l) u.run (Rich k 0 u.page) (omega arith) (omega arith)
    (bind s ls 6 1 a.run (Rich k l a.page) (6 * l) l u.run (Rich k 0 u.page) (step_went k l page s ls v st)
    (keep_descend_remove Halt halt_by halt_stop l k a.page a.run) (λ ls₁ w x. removal_went l k a.page a.run ls₁ w x))
