-- Step 2 of going down: the child that covers k stands directly under its parent.
use Rattle.std.specs.Prelude.{ℕ, ◌≤◌, ◌<◌, ◌≡◌, refl, true, false, List, [], ◌∷◌, ◌++◌, length, ltb, eqb}
use Rattle.std.proofs.Common.{sym, ap, ◌∙◌, subst, append_assoc, arith}
use Rattle.std.proofs.Math.Option.{some}
use Rattle.def_base.specs.Tests.{lt_true, lt_false}
use Rattle.def_layout.specs.declared.Entry.{Entry}
use Rattle.def_layout.specs.Entries.{seek}
use Rattle.def_layout.specs.Sizes.{room}
use Rattle.def_layout.specs.Pages.{at, size}
use Rattle.def_model.specs.TreeRules.{Node}
use Rattle.def_model.specs.Lookup.{covering, entry_or}
use Rattle.def_model.specs.Update.{Run, At, make_room, link_child, Pair, linked_by, direct_by, direct_for, direct}
use Rattle.theory_tree.specs.Shape.Trees.{Levels, Direct, page_at}
use Rattle.theory_update.specs.Run.Keeps.{Halt, halt_by, halt_stop, keep_link}
use Rattle.theory_update.specs.Run.Way.{Live, Result, idle, loosen, bind, recast}
use Rattle.theory_update.specs.Find.Search.{seek_at}
use Rattle.theory_update.specs.Find.Places.{Spot, searched, Stands, alone, pair}
use Rattle.theory_update.specs.Add.Linking.{Any, PairAt, link_down}
use Rattle.theory_update.specs.Add.MakingRoom.{room_enough, RoomAt, spot_page, room_test, room_went}

-- ---- `direct`, by its cases

pub direct_clear : (k p : ℕ) (s : Run) (e : Entry) (es : List Entry) → (at s.pages p).entries ≡ es → seek k es ≡ some e
    → ltb (at s.pages e.val).high e.key ≡ false → direct k p s ≡ record { run = s; parent = p; child = e.val }
unfolding direct direct_for direct_by entry_or
direct_clear k p s e es a b c = rw (a, b, c)

pub direct_link : (k p : ℕ) (s : Run) (e : Entry) (es : List Entry) → (at s.pages p).entries ≡ es → seek k es ≡ some e
    → ltb (at s.pages e.val).high e.key ≡ true → eqb (size (at s.pages p)) room ≡ false
    → direct k p s ≡ record { run = link_child p e.val e.key s; parent = p; child = covering k e.val (link_child p e.val e.key s).pages }
unfolding direct direct_for direct_by entry_or linked_by
direct_link k p s e es a b c n = rw (a, b, c, room_enough k p s n)

pub direct_full : (k p : ℕ) (s : Run) (e : Entry) (es : List Entry) → (at s.pages p).entries ≡ es → seek k es ≡ some e
    → ltb (at s.pages e.val).high e.key ≡ true
    → direct k p s ≡ linked_by k e (make_room k p s)
unfolding direct direct_for direct_by entry_or
direct_full k p s e es a b c = rw (a, b, c)

-- ---- what it does

pub direct_alone : (k : ℕ) (s : Run) (ls ups : List (List Node)) (xs : List Node) (n : Node) (ys : List Node) (e : Entry) (q : Node) (l : ℕ)
    (p : Spot k ls ups xs n ys e (q ∷ []) l)
    → e.val ≡ q.page → q.high ≡ e.key → Live s ls
    → Result s ls 1 0 (direct k n.page s).run (PairAt k l ups xs n ys Any (direct k n.page s).parent (direct k n.page s).child)
direct_alone k s ls ups xs n ys e q l p i h v =
    let sp = spot_page s.pages k ls ups xs n ys e (q ∷ []) l p v.rules.levels in
    let lv = subst (Levels s.pages) (p.whole ∙ sym (append_assoc ups ((xs ++ n ∷ ys) ∷ []) ((p.bs ++ q ∷ p.cs) ∷ p.downs))) v.rules.levels in
    let (a, b, qi) = page_at s.pages (ups ++ (xs ++ n ∷ ys) ∷ []) p.bs q p.cs p.downs lv in
    let se = searched s.pages k ls ups xs n ys e (q ∷ []) l p v.rules.levels in
    let f : seek k n.items ≡ some e = ap (seek k) p.items ∙ seek_at k se.from p.pre e p.post se.rises se.starts p.high in
    let z : (at s.pages e.val).high ≡ e.key = ap (λ x. (at s.pages x).high) i ∙ qi.high ∙ h in
    let w = direct_clear k n.page s e n.items sp.items f (lt_false (at s.pages e.val).high e.key (omega arith)) in
    subst (λ d. Result s ls 1 0 d.run (PairAt k l ups xs n ys Any d.parent d.child)) (sym w)
    (loosen s ls 0 0 1 0 s (PairAt k l ups xs n ys Any n.page e.val) (omega arith) (omega arith)
    (idle s ls (PairAt k l ups xs n ys Any n.page e.val) v
    (record { node = n; entry = e; q = q; spot = p; same_page = refl; same_high = refl; grows = omega arith; bounded = omega arith; is = i; ends = h; is_parent = refl; is_child = i; has = tt })))

-- Where the child stands alone, or the parent has room.
pub direct_easy : (k : ℕ) (s : Run) (ls ups : List (List Node)) (xs : List Node) (n : Node) (ys : List Node) (e : Entry) (mid : List Node) (l : ℕ)
    (p : Spot k ls ups xs n ys e mid l)
    → Stands e mid → length n.items < room → Live s ls
    → Result s ls 1 0 (direct k n.page s).run (PairAt k l ups xs n ys Any (direct k n.page s).parent (direct k n.page s).child)
direct_easy k s ls ups xs n ys e mid l p (alone q i h) space v = direct_alone k s ls ups xs n ys e q l p i h v
direct_easy k s ls ups xs n ys e mid l p (pair q m i lo hi) rm v =
    let sp = spot_page s.pages k ls ups xs n ys e (q ∷ m ∷ []) l p v.rules.levels in
    let lv = subst (Levels s.pages) (p.whole ∙ sym (append_assoc ups ((xs ++ n ∷ ys) ∷ []) ((p.bs ++ q ∷ m ∷ p.cs) ∷ p.downs))) v.rules.levels in
    let (a, b, qi) = page_at s.pages (ups ++ (xs ++ n ∷ ys) ∷ []) p.bs q (m ∷ p.cs) p.downs lv in
    let se = searched s.pages k ls ups xs n ys e (q ∷ m ∷ []) l p v.rules.levels in
    let f : seek k n.items ≡ some e = ap (seek k) p.items ∙ seek_at k se.from p.pre e p.post se.rises se.starts p.high in
    let z : (at s.pages e.val).high ≡ q.high = ap (λ x. (at s.pages x).high) i ∙ qi.high in
    let w = direct_link k n.page s e n.items sp.items f (lt_true (at s.pages e.val).high e.key (omega arith)) (room_test s.pages n _ _ sp rm) in
    subst (λ d. Result s ls 1 0 d.run (PairAt k l ups xs n ys Any d.parent d.child)) (sym w) (link_down k s ls ups xs n ys e q m l Any p i lo hi rm tt tt v)

-- Where the parent is full and is split first.
pub record HalfAt (k l parent child : ℕ) (ls : List (List Node)) : Type 0 where
  pub ups : List (List Node)
  pub xs : List Node
  pub node : Node
  pub ys : List Node
  pub entry : Entry
  pub q : Node
  pub spot : Spot k ls ups xs node ys entry (q ∷ []) l
  pub few : length node.items ≤ 8
  pub least : 7 ≤ length node.items
  pub is : entry.val ≡ q.page
  pub ends : q.high ≡ entry.key
  pub is_parent : parent ≡ node.page
  pub is_child : child ≡ q.page

pub direct_halved : (k : ℕ) (s : Run) (ls ups : List (List Node)) (xs : List Node) (n : Node) (ys : List Node) (e : Entry) (q m : Node) (l : ℕ)
    (p : Spot k ls ups xs n ys e (q ∷ m ∷ []) l)
    → e.val ≡ q.page → q.high < e.key → m.high ≡ e.key → Direct ups xs n ys → length n.items ≡ room → Live s ls
    → Result s ls 2 1 (direct k n.page s).run (HalfAt k l (direct k n.page s).parent (direct k n.page s).child)
unfolding linked_by link_child
direct_halved k s ls ups xs n ys e q m l p i lo hi d full v =
    subst (λ z. Result s ls 2 1 z.run (HalfAt k l z.parent z.child)) (sym is_direct)
    (bind s ls 1 1 a.run (RoomAt k l e (q ∷ m ∷ []) a.page) 1 0 c.run (HalfAt k l c.parent c.child) (room_went k s ls ups xs n ys e (q ∷ m ∷ []) l p d full v)
    (halt_link a.run) then)
  where
    a : At
    a = make_room k n.page s

    c : Pair
    c = linked_by k e a

    halt_link : (t : Run) → Halt t → Halt (linked_by k e (record { run = t; page = a.page })).run
    halt_link t h = keep_link Halt halt_by halt_stop a.page e.val e.key t h

    is_direct : direct k n.page s ≡ c
    is_direct =
        let sp = spot_page s.pages k ls ups xs n ys e (q ∷ m ∷ []) l p v.rules.levels in
        let lv = subst (Levels s.pages) (p.whole ∙ sym (append_assoc ups ((xs ++ n ∷ ys) ∷ []) ((p.bs ++ q ∷ m ∷ p.cs) ∷ p.downs))) v.rules.levels in
        let (g, b, qi) = page_at s.pages (ups ++ (xs ++ n ∷ ys) ∷ []) p.bs q (m ∷ p.cs) p.downs lv in
        let se = searched s.pages k ls ups xs n ys e (q ∷ m ∷ []) l p v.rules.levels in
        let f : seek k n.items ≡ some e = ap (seek k) p.items ∙ seek_at k se.from p.pre e p.post se.rises se.starts p.high in
        let z : (at s.pages e.val).high ≡ q.high = ap (λ x. (at s.pages x).high) i ∙ qi.high in
        direct_full k n.page s e n.items sp.items f (lt_true (at s.pages e.val).high e.key (omega arith))

    then : (ls₁ : List (List Node)) → Live a.run ls₁ → RoomAt k l e (q ∷ m ∷ []) a.page ls₁
        → Result a.run ls₁ 1 0 c.run (HalfAt k l c.parent c.child)
    then ls₁ w r =
        let rs = r.seven in
        subst (λ pg. Result a.run ls₁ 1 0 (link_child pg e.val e.key a.run) (HalfAt k l pg (covering k e.val (link_child pg e.val e.key a.run).pages))) (sym r.is_page)
        (recast a.run ls₁ 1 0 (link_child r.node.page e.val e.key a.run) _ _
        (λ ls' t x.
        let g = x.grows in let b = x.bounded in
        record {
          ups = r.ups;
          xs = r.xs;
          node = x.node;
          ys = r.ys;
          entry = x.entry;
          q = x.q;
          spot = x.spot;
          few = omega arith;
          least = omega arith;
          is = x.is;
          ends = x.ends;
          is_parent = sym x.same_page;
          is_child = x.is_child;
        })
        (link_down k a.run ls₁ r.ups r.xs r.node r.ys e q m l Any r.spot i lo hi (omega arith) tt tt w))
