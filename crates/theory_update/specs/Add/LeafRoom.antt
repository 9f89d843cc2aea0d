-- Room in the leaf that an addition has come to.
use Rattle.std.specs.Prelude.{ℕ, ◌≤◌, ◌<◌, ◌≡◌, refl, List, [], ◌∷◌, ◌++◌, length, drop}
use Rattle.std.proofs.Common.{sym, ap, ◌∙◌, subst, append_assoc, arith, length-append}
use Rattle.std.proofs.Math.Decide.{dec_le}
use Rattle.def_layout.specs.declared.Entry.{Entry}
use Rattle.def_layout.specs.Entries.{key_at}
use Rattle.def_layout.specs.Sizes.{room}
use Rattle.def_layout.specs.Pages.{at}
use Rattle.def_model.specs.TreeRules.{Node, first_page}
use Rattle.def_model.specs.Lookup.{covering}
use Rattle.def_model.specs.Update.{Run, split_page, make_room}
use Rattle.theory_tree.specs.Shape.Levels.{from_of}
use Rattle.theory_tree.specs.Shape.Chains.{IsNode}
use Rattle.theory_tree.specs.Shape.Trees.{Levels, page_at}
use Rattle.theory_tree.specs.Change.Split.{left_half, right_half}
use Rattle.theory_update.specs.Run.Way.{Live, Result, idle, loosen, recast}
use Rattle.theory_update.specs.Find.Places.{Place}
use Rattle.theory_update.specs.Add.Splitting.{seven, SplitAt, split_went, half_left, half_right}
use Rattle.theory_update.specs.Add.MakingRoom.{room_enough, room_full, full_test, room_test}
use Rattle.theory_update.specs.Add.Descent.{Stand, place_small}
use Rattle.theory_update.specs.Add.Raising.{last_from}

-- The leaf that covers k has room.
pub record LeafAt (k page : ℕ) (ls : List (List Node)) : Type 0 where
  pub ups : List (List Node)
  pub xs : List Node
  pub node : Node
  pub ys : List Node
  pub place : Place k ls ups xs node ys 0
  pub space : length node.items < room
  pub is_page : page ≡ node.page

pub leaf_room : (k page : ℕ) (s : Run) (ls : List (List Node)) → Live s ls → Stand k 0 page ls
    → Result s ls 1 1 (make_room k page s).run (LeafAt k (make_room k page s).page)
leaf_room k page s ls v st =
    subst (λ pg. Result s ls 1 1 (make_room k pg s).run (LeafAt k (make_room k pg s).page)) (sym st.is_page) (go (dec_le room (length st.node.items)))
  where
    n : Node
    n = st.node

    pl : Place k ls st.ups st.xs n st.ys 0
    pl = st.place

    lv : Levels s.pages (st.ups ++ (st.xs ++ n ∷ st.ys) ∷ pl.downs)
    lv = subst (Levels s.pages) pl.whole v.rules.levels

    np : IsNode (at s.pages n.page) (length pl.downs) (first_page st.ys 0) n
    np = (page_at s.pages st.ups st.xs n st.ys pl.downs lv).2

    t : Run
    t = split_page n.page s

    key : ℕ
    key = key_at n.items 6

    moved : List Entry
    moved = drop 7 n.items

    by : (ls' : List (List Node)) → Live t ls' → length n.items ≡ room → (a : SplitAt st.ups st.xs n st.ys pl.downs ls')
        → Dec (k ≤ key) → LeafAt k (covering k n.page t.pages) ls'
    by ls' w full a (yes h) =
        let lv' = subst (Levels t.pages) a.whole w.rules.levels in
        let sv = (seven n.items full).0 in
        let tk = sym full ∙ ap length a.parts.same_items ∙ length-append (left_half n key moved).items moved in
        record {
          ups = st.ups;
          xs = st.xs;
          node = left_half n key moved;
          ys = right_half n a.fresh_page moved ∷ st.ys;
          place = record { downs = pl.downs; whole = a.whole; depth = pl.depth; low = pl.low; high = h };
          space = omega arith;
          is_page = half_left k t st.ups st.xs (left_half n key moved) (right_half n a.fresh_page moved) st.ys pl.downs lv' h;
        }
    by ls' w full a (no h) =
        let lv' = subst (Levels t.pages) a.whole w.rules.levels in
        let sv = (seven n.items full).0 in
        record {
          ups = st.ups;
          xs = st.xs ++ left_half n key moved ∷ [];
          node = right_half n a.fresh_page moved;
          ys = st.ys;
          place = record {
            downs = pl.downs;
            whole = a.whole ∙ ap (λ z. st.ups ++ z ∷ pl.downs) (sym (append_assoc st.xs (left_half n key moved ∷ []) (right_half n a.fresh_page moved ∷ st.ys)));
            depth = pl.depth;
            low = from_last st.xs key h;
            high = pl.high;
          };
          space = omega arith;
          is_page = half_right k t st.ups st.xs (left_half n key moved) (right_half n a.fresh_page moved) st.ys pl.downs lv' (omega arith);
        }
      where
        from_last : (xs : List Node) (key : ℕ) → ¬ (k ≤ key) → from_of 0 (xs ++ left_half n key moved ∷ []) ≤ k
        from_last xs key h = let z = last_from xs (left_half n key moved) in omega arith

    go : Dec (room ≤ length n.items) → Result s ls 1 1 (make_room k n.page s).run (LeafAt k (make_room k n.page s).page)
    go (no h) =
        subst (λ z. Result s ls 1 1 z.run (LeafAt k z.page)) (sym (room_enough k n.page s (room_test s.pages n _ _ np (omega arith))))
        (loosen s ls 0 0 1 1 s (LeafAt k n.page) (omega arith) (omega arith)
        (idle s ls (LeafAt k n.page) v (record { ups = st.ups; xs = st.xs; node = n; ys = st.ys; place = pl; space = omega arith; is_page = refl })))
    go (yes h) =
        let sm = place_small s.pages k ls st.ups st.xs n st.ys 0 pl v.rules.levels in
        let full : length n.items ≡ room = omega arith in
        subst (λ z. Result s ls 1 1 z.run (LeafAt k z.page)) (sym (room_full k n.page s (full_test s.pages n _ _ np full)))
        (subst (λ z. Result s z 1 1 t (LeafAt k (covering k n.page t.pages))) (sym pl.whole)
        (recast s _ 1 1 t (SplitAt st.ups st.xs n st.ys pl.downs) (LeafAt k (covering k n.page t.pages)) (λ ls' w a. by ls' w full a (dec_le k key))
        (split_went s st.ups st.xs n st.ys pl.downs (subst (Live s) pl.whole v) st.direct full)))
