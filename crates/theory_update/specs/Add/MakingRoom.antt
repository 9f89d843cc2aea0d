-- A full page is split, and the half that covers k has room.
use Rattle.std.specs.Prelude.{ℕ, suc, ◌+◌, ◌≤◌, ◌<◌, ◌≡◌, true, false, List, [], ◌∷◌, ◌++◌, length, drop, eqb}
use Rattle.std.proofs.Common.{sym, ap, ◌∙◌, subst, arith, length-append}
use Rattle.std.proofs.Math.Decide.{dec_le}
use Rattle.def_base.specs.Tests.{eq_true, neq_false}
use Rattle.def_layout.specs.declared.Entry.{Entry}
use Rattle.def_layout.specs.Entries.{key_at}
use Rattle.def_layout.specs.Sizes.{room}
use Rattle.def_layout.specs.Pages.{Page, at, size}
use Rattle.def_model.specs.Change.{kept}
use Rattle.def_model.specs.TreeRules.{Node, first_page}
use Rattle.def_model.specs.Lookup.{covering}
use Rattle.def_model.specs.Update.{Run, split_page, room_by, make_room}
use Rattle.theory_tree.specs.Shape.Chains.{IsNode}
use Rattle.theory_tree.specs.Shape.Trees.{Levels, Direct, page_at}
use Rattle.theory_tree.specs.Change.Split.{left_half, right_half}
use Rattle.theory_update.specs.Run.Way.{Live, Result, recast}
use Rattle.theory_update.specs.Find.Places.{Spot}
use Rattle.theory_update.specs.Find.Halves.{spot_left, spot_right}
use Rattle.theory_update.specs.Add.Splitting.{seven, SplitAt, split_went, half_left, half_right}

pub room_enough : (k p : ℕ) (s : Run) → eqb (size (at s.pages p)) room ≡ false → make_room k p s ≡ record { run = s; page = p }
unfolding make_room room_by
room_enough k p s n = rw n

pub record RoomAt (k l : ℕ) (e : Entry) (mid : List Node) (page : ℕ) (ls : List (List Node)) : Type 0 where
  pub ups : List (List Node)
  pub xs : List Node
  pub node : Node
  pub ys : List Node
  pub spot : Spot k ls ups xs node ys e mid l
  pub is_page : page ≡ node.page
  pub seven : length node.items ≡ 7

pub room_full : (k p : ℕ) (s : Run) → eqb (size (at s.pages p)) room ≡ true
    → make_room k p s ≡ record { run = split_page p s; page = covering k p (split_page p s).pages }
unfolding make_room room_by
room_full k p s e = rw e

pub spot_page : (pages : List Page) (k : ℕ) (ls ups : List (List Node)) (xs : List Node) (n : Node) (ys : List Node) (e : Entry) (mid : List Node)
    (l : ℕ) (p : Spot k ls ups xs n ys e mid l) → Levels pages ls
    → IsNode (at pages n.page) (suc (length p.downs)) (first_page ys 0) n
spot_page pages k ls ups xs n ys e mid l p lv = (page_at pages ups xs n ys ((p.bs ++ (mid ++ p.cs)) ∷ p.downs) (subst (Levels pages) p.whole lv)).2

pub full_test : (pages : List Page) (n : Node) (lev next : ℕ) → IsNode (at pages n.page) lev next n → length n.items ≡ room
    → eqb (size (at pages n.page)) room ≡ true
full_test pages n lev next i f = eq_true _ room (ap length i.items ∙ f)

pub room_test : (pages : List Page) (n : Node) (lev next : ℕ) → IsNode (at pages n.page) lev next n → length n.items < room
    → eqb (size (at pages n.page)) room ≡ false
room_test pages n lev next i f = neq_false {a = size (at pages n.page)} {b = room} (let e : size (at pages n.page) ≡ length n.items = ap length i.items in omega arith)

pub room_went : (k : ℕ) (s : Run) (ls ups : List (List Node)) (xs : List Node) (n : Node) (ys : List Node) (e : Entry) (mid : List Node) (l : ℕ)
    (p : Spot k ls ups xs n ys e mid l)
    → Direct ups xs n ys → length n.items ≡ room → Live s ls
    → Result s ls 1 1 (make_room k n.page s).run (RoomAt k l e mid (make_room k n.page s).page)
room_went k s ls ups xs n ys e mid l p d full v =
    subst (λ z. Result s ls 1 1 z.run (RoomAt k l e mid z.page)) (sym (room_full k n.page s (full_test s.pages n _ _ (spot_page s.pages k ls ups xs n ys e mid l p v.rules.levels) full)))
    (subst (λ z. Result s z 1 1 t (RoomAt k l e mid (covering k n.page t.pages))) (sym p.whole)
    (recast s T 1 1 t (SplitAt ups xs n ys low) (RoomAt k l e mid (covering k n.page t.pages)) after (split_went s ups xs n ys low (subst (Live s) p.whole v) d full)))
  where
    low : List (List Node)
    low = (p.bs ++ (mid ++ p.cs)) ∷ p.downs

    T : List (List Node)
    T = ups ++ (xs ++ n ∷ ys) ∷ low

    t : Run
    t = split_page n.page s

    key : ℕ
    key = key_at n.items 6

    moved : List Entry
    moved = drop 7 n.items

    by : (ls' : List (List Node)) → Live t ls' → (a : SplitAt ups xs n ys low ls') → Dec (k ≤ key) → RoomAt k l e mid (covering k n.page t.pages) ls'
    by ls' w a (yes h) =
        let lv = subst (Levels t.pages) a.whole w.rules.levels in
        let sv = seven n.items full in
        let tk : room ≡ length (kept moved n.items) + length moved = sym full ∙ ap length a.parts.same_items ∙ length-append (kept moved n.items) moved in
        let sv₀ = sv.0 in
        record {
          ups = ups;
          xs = xs;
          node = left_half n key moved;
          ys = right_half n a.fresh_page moved ∷ ys;
          spot = subst (λ z. Spot k z ups xs (left_half n key moved) (right_half n a.fresh_page moved ∷ ys) e mid l) (sym a.whole)
              (spot_left s.pages k ls ups xs n ys e mid l p v.rules.levels a.fresh_page key moved a.parts h);
          is_page = half_left k t ups xs (left_half n key moved) (right_half n a.fresh_page moved) ys low lv h;
          seven = omega arith;
        }
    by ls' w a (no h) =
        let lv = subst (Levels t.pages) a.whole w.rules.levels in
        let sv = seven n.items full in
        record {
          ups = ups;
          xs = xs ++ left_half n key moved ∷ [];
          node = right_half n a.fresh_page moved;
          ys = ys;
          spot = subst (λ z. Spot k z ups (xs ++ left_half n key moved ∷ []) (right_half n a.fresh_page moved) ys e mid l) (sym a.whole)
              (spot_right s.pages k ls ups xs n ys e mid l p v.rules.levels a.fresh_page key moved a.parts (omega arith));
          is_page = half_right k t ups xs (left_half n key moved) (right_half n a.fresh_page moved) ys low lv (omega arith);
          seven = sv.0;
        }

    after : (ls' : List (List Node)) → Live t ls' → SplitAt ups xs n ys low ls' → RoomAt k l e mid (covering k n.page t.pages) ls'
    after ls' w a = by ls' w a (dec_le k key)
