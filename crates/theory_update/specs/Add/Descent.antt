-- THE DESCENT OF AN ADDITION: at most two records and one page a level.
use Rattle.std.specs.Prelude.{ℕ, zero, suc, ◌+◌, ◌*◌, ◌≤◌, ◌≡◌, List, [], ◌∷◌, ◌++◌, length}
use Rattle.std.proofs.Common.{sym, subst, arith}
use Rattle.std.proofs.Math.Decide.{dec_le}
use Rattle.def_layout.specs.declared.Entry.{Entry}
use Rattle.def_layout.specs.Sizes.{room}
use Rattle.def_layout.specs.Pages.{Page}
use Rattle.def_model.specs.TreeRules.{Node}
use Rattle.def_model.specs.Update.{Run, Pair, direct, descend_add}
use Rattle.theory_tree.specs.Shape.Trees.{Levels, levels_at, all_cut, Direct}
use Rattle.theory_update.specs.Run.Keeps.{Halt, halt_by, halt_stop, keep_descend_add}
use Rattle.theory_update.specs.Run.Way.{Live, Result, idle, loosen, bind, recast}
use Rattle.theory_update.specs.Find.Places.{Place, Spot, open_place, Stands, alone, pair, stands, child_place, child_direct}
use Rattle.theory_update.specs.Add.Linking.{Any, PairAt}
use Rattle.theory_update.specs.Add.Directing.{direct_alone, direct_easy, direct_halved}

-- Node n of level l, directly under its parent, covers k.
pub record Stand (k l page : ℕ) (ls : List (List Node)) : Type 0 where
  pub ups : List (List Node)
  pub xs : List Node
  pub node : Node
  pub ys : List Node
  pub place : Place k ls ups xs node ys l
  pub direct : Direct ups xs node ys
  pub is_page : page ≡ node.page

pub stand_child : (k l child : ℕ) (ls ups : List (List Node)) (xs : List Node) (n : Node) (ys : List Node) (e : Entry) (q : Node)
    (p : Spot k ls ups xs n ys e (q ∷ []) l) → e.val ≡ q.page → q.high ≡ e.key → child ≡ q.page → Stand k l child ls
stand_child k l child ls ups xs n ys e q p i h c =
    record { ups = ups ++ (xs ++ n ∷ ys) ∷ []; xs = p.bs; node = q; ys = p.cs; place = child_place k ls ups xs n ys e q l p h; direct = child_direct k ls ups xs n ys e q l p i h; is_page = c }

pub place_small : (pages : List Page) (k : ℕ) (ls ups : List (List Node)) (xs : List Node) (n : Node) (ys : List Node) (l : ℕ)
    → Place k ls ups xs n ys l → Levels pages ls → length n.items ≤ room
place_small pages k ls ups xs n ys l p lv =
    (all_cut (λ z. length z.items ≤ room) xs n ys (levels_at pages ups (xs ++ n ∷ ys) p.downs (subst (Levels pages) p.whole lv)).small).1

pub direct_add : (k l page : ℕ) (s : Run) (ls : List (List Node)) → Live s ls → Stand k (suc l) page ls
    → Result s ls 2 1 (direct k page s).run (Stand k l (direct k page s).child)
direct_add k l page s ls v st =
    let o = open_place s.pages k ls st.ups st.xs st.node st.ys l st.place v.rules.levels v.rules.joined in
    subst (λ pg. Result s ls 2 1 (direct k pg s).run (Stand k l (direct k pg s).child)) (sym st.is_page)
    (go o.entry o.mid o.spot (stands o.entry o.mid o.spot.here) (dec_le room (length st.node.items)))
  where
    D : Pair
    D = direct k st.node.page s

    easy : Result s ls 1 0 D.run (PairAt k l st.ups st.xs st.node st.ys Any D.parent D.child)
        → Result s ls 2 1 D.run (Stand k l D.child)
    easy r =
        loosen s ls 1 0 2 1 D.run (Stand k l D.child) (omega arith) (omega arith)
        (recast s ls 1 0 D.run _ (Stand k l D.child) (λ ls' t x. stand_child k l D.child ls' st.ups st.xs x.node st.ys x.entry x.q x.spot x.is x.ends x.is_child) r)

    go : (e : Entry) (mid : List Node) (p : Spot k ls st.ups st.xs st.node st.ys e mid l) → Stands e mid
        → Dec (room ≤ length st.node.items) → Result s ls 2 1 D.run (Stand k l D.child)
    go e mid p x (no h) = easy (direct_easy k s ls st.ups st.xs st.node st.ys e mid l p x (omega arith) v)
    go e mid p (alone q i h) (yes f) = easy (direct_alone k s ls st.ups st.xs st.node st.ys e q l p i h v)
    go e mid p (pair q m i lo hi) (yes f) =
        let g = place_small s.pages k ls st.ups st.xs st.node st.ys (suc l) st.place v.rules.levels in
        recast s ls 2 1 D.run _ (Stand k l D.child) (λ ls' t x. stand_child k l D.child ls' x.ups x.xs x.node x.ys x.entry x.q x.spot x.is x.ends x.is_child)
        (direct_halved k s ls st.ups st.xs st.node st.ys e q m l p i lo hi st.direct (omega arith) v)

pub descend_went : (l k page : ℕ) (s : Run) (ls : List (List Node)) → Live s ls → Stand k l page ls
    → Result s ls (2 * l) l (descend_add l k page s).run (Stand k 0 (descend_add l k page s).page)
unfolding descend_add
descend_went zero k page s ls v st = idle s ls (Stand k 0 page) v st
descend_went (suc l) k page s ls v st =
    let d = direct k page s in
    let u = descend_add l k d.child d.run in
    loosen s ls (2 + 2 * l) (1 + l) (2 * suc l) (suc l) u.run (Stand k 0 u.page) (omega arith) (omega arith)
    (bind s ls 2 1 d.run (Stand k l d.child) (2 * l) l u.run (Stand k 0 u.page) (direct_add k l page s ls v st)
    (keep_descend_add Halt halt_by halt_stop l k d.child d.run) (λ ls₁ w x. descend_went l k d.child d.run ls₁ w x))
