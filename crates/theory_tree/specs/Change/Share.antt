-- REDISTRIBUTE in the whole tree: two neighbours share their entries anew.
use Rattle.std.specs.Prelude.{ℕ, suc, ◌≤◌, ◌<◌, ◌≡◌, ◌≢◌, Bool, true, false, drop, leb}
use Rattle.std.proofs.Math.Path.{refl, ap}
use Rattle.std.proofs.Common.{sym, ◌∙◌, subst}
use mathlib.Core.List.{List, [], ◌∷◌, ◌++◌, append_assoc}
use native.Mathlib.Omega.{arith}
use Rattle.std.proofs.Math.ListN.{length}
use Rattle.def_base.specs.Tests.{pick}
use Rattle.def_layout.specs.declared.Entry.{Entry}
use Rattle.def_layout.specs.Entries.{top}
use Rattle.def_layout.specs.Sizes.{room}
use Rattle.def_layout.specs.Pages.{Page, at}
use Rattle.def_layout.specs.Records.{Rec, redistribute_row}
use Rattle.def_model.specs.Change.{first_key, kept, as_a, as_b, into_a, share_in_a, share_in_b, change_a, change_b, change}
use Rattle.def_model.specs.Redo.{redo_record}
use Rattle.def_model.specs.TreeRules.{Node, first_page}
use Rattle.theory_redo.specs.Area.{length_redo_record}
use Rattle.theory_tree.specs.Change.LevelChanges.{Splits, share_chain}
use Rattle.theory_tree.specs.Shape.Chains.{Chained, chained_append, chained_cut, All, chained_frame, once_in_level}
use Rattle.theory_tree.specs.Shape.Trees.{is_bottom, LevelOk, Levels, levels_at, all_cut, all_join, above_away}
use Rattle.theory_tree.specs.Change.Roles.{at_role, at_none, redistribute_role_a, redistribute_role_b, redistribute_role_none}
use Rattle.theory_tree.specs.Change.Frames.{levels_swap}
use Rattle.theory_tree.specs.Change.Merge.{merged}

share_in_a_is : (b : Bool) (r : Rec) (es : List Entry) → share_in_a b r es ≡ pick b (es ++ r.entries) (kept r.entries es)
unfolding share_in_a
share_in_a_is true r es = refl
share_in_a_is false r es = refl

share_in_b_is : (b : Bool) (r : Rec) (es : List Entry) → share_in_b b r es ≡ pick b (drop (length r.entries) es) (r.entries ++ es)
unfolding share_in_b
share_in_b_is true r es = refl
share_in_b_is false r es = refl

-- What the two pages hold after it.
abbrev pub shared_left : Node → ℕ → List Entry → Node
shared_left q key moved = record { page = q.page; high = key; items = pick (leb (first_key moved) key) (q.items ++ moved) (kept moved q.items) }

abbrev pub shared_right : Node → ℕ → List Entry → Node
shared_right r key moved = record { page = r.page; high = r.high; items = pick (leb (first_key moved) key) (drop (length moved) r.items) (moved ++ r.items) }

module _ (num : ℕ) (pages : List Page) (lower_numbers : (p : ℕ) → p < length pages → (at pages p).lsn < num)
    (ups : List (List Node)) (xs : List Node) (q r : Node) (ys : List Node) (downs : List (List Node)) (deep : length downs < 16) (key : ℕ) (moved : List Entry) where
  abbrev row : Rec
  row = redistribute_row q.page r.page key moved

  abbrev q' : Node
  q' = shared_left q key moved

  abbrev r' : Node
  r' = shared_right r key moved

  level : Splits (merged q r) q' r' → length q'.items ≤ room → length r'.items ≤ room → LevelOk pages (length downs) (xs ++ q ∷ r ∷ ys)
      → LevelOk (redo_record num row pages) (length downs) (xs ++ q' ∷ r' ∷ ys)
  unfolding Chained change change_a change_b first_page All
  level s c₁ c₂ k =
      let b = is_bottom (length downs) in
      let (hx, hn) = chained_cut pages (length downs) xs (q ∷ r ∷ ys) 0 k.chained in
      let (wx, wy) = once_in_level pages (length downs) b 0 xs q (r ∷ ys) 0 (suc top) k.chained k.chain in
      let e : (xs ++ q ∷ []) ++ r ∷ ys ≡ xs ++ q ∷ r ∷ ys = append_assoc xs (q ∷ []) (r ∷ ys) in
      let (vx, vy) = once_in_level pages (length downs) b 0 (xs ++ q ∷ []) r ys 0 (suc top) (rw e k.chained) (rw e k.chain) in
      let (ux, uq, un) = all_cut (λ z. z.page ≢ r.page) xs q [] vx in
      let (sx, sn, sy) = all_cut (λ z. length z.items ≤ room) xs q (r ∷ ys) k.small in
      let n = length_redo_record num row pages in
      let ea = ap (share_in_a (into_a row) row) hn.2.items ∙ share_in_a_is (into_a row) row q.items in
      let eb = ap (share_in_b (into_a row) row) hn.3.2.items ∙ share_in_b_is (into_a row) row r.items in
      let fa = at_role num row pages q.page as_a hn.1 (lower_numbers _ hn.1) (redistribute_role_a _ _ _ _) refl (length downs) hn.2.kind
      (subst (λ z. length z ≤ room) (sym ea) c₁) (subst (λ l. l < 16) (sym hn.2.level) deep) in
      let fb = at_role num row pages r.page as_b hn.3.1 (lower_numbers _ hn.3.1) (redistribute_role_b _ _ _ _ wy.0) refl (length downs) hn.3.2.kind
      (subst (λ z. length z ≤ room) (sym eb) c₂) (subst (λ l. l < 16) (sym hn.3.2.level) deep) in
      let na = hn.1 in
      let nb = hn.3.1 in
      record {
        chain = share_chain q r (merged q r) q' r' (record { same_page = refl; same_items = refl; same_high = refl }) s b 0 xs ys (suc top) k.chain;
        chained =
            chained_append (redo_record num row pages) (length downs) xs (q' ∷ r' ∷ ys) 0 (chained_frame pages _ _ xs q.page n (stays xs _ hx wx ux) hx) (
              hn.0,
              omega arith,
              rw fa (record { kind = hn.2.kind; level = hn.2.level; right = hn.2.right; high = refl; items = ea }),
              (
                hn.3.0,
                omega arith,
                rw fb (record { kind = hn.3.2.kind; level = hn.3.2.level; right = hn.3.2.right; high = hn.3.2.high; items = eb }),
                chained_frame pages _ _ ys 0 n (stays ys 0 hn.3.3 wy.1 vy) hn.3.3,
              ),
            );
        small = all_join (λ z. length z.items ≤ room) xs (q' ∷ r' ∷ ys) sx (c₁, (c₂, sy.1));
      }
    where
      stays : (ms : List Node) (next : ℕ) → Chained pages (length downs) ms next → All (λ z. z.page ≢ q.page) ms → All (λ z. z.page ≢ r.page) ms
          → All (λ z. at (redo_record num row pages) z.page ≡ at pages z.page) ms
      stays [] next c w v = tt
      stays (z ∷ ms) next c w v = (at_none num row pages z.page c.1 (redistribute_role_none _ _ _ _ z.page w.0 v.0), stays ms next c.3 w.1 v.1)

  pub share_levels : Splits (merged q r) q' r' → length q'.items ≤ room → length r'.items ≤ room
      → Levels pages (ups ++ (xs ++ q ∷ r ∷ ys) ∷ downs)
      → Levels (redo_record num row pages) (ups ++ (xs ++ q' ∷ r' ∷ ys) ∷ downs)
  unfolding Chained
  share_levels s c₁ c₂ lv =
      let k = levels_at pages ups (xs ++ q ∷ r ∷ ys) downs lv in
      let h = (chained_cut pages (length downs) xs (q ∷ r ∷ ys) 0 k.chained).1 in
      let (ou, od) = above_away pages r.page ups (xs ++ q ∷ r ∷ ys) downs h.3.2.level lv in
      levels_swap num row pages (length downs) q.page r.page (λ p a b c. redistribute_role_none _ _ _ _ p a b) h.2.level ups (xs ++ q ∷ r ∷ ys) (xs ++ q' ∷ r' ∷ ys) downs refl ou od (level s c₁ c₂) lv
