-- MERGE in the whole tree: a page is joined to the page before it, and freed.
use Rattle.std.specs.Prelude.{ℕ, suc, ◌≤◌, ◌<◌, ◌≡◌, ◌≢◌}
use Rattle.std.proofs.Math.Path.{refl, ap}
use Rattle.std.proofs.Common.{sym, subst}
use mathlib.Core.List.{List, [], ◌∷◌, ◌++◌, append_assoc}
use native.Mathlib.Omega.{arith}
use Rattle.std.proofs.Math.ListN.{length}
use Rattle.def_layout.specs.Entries.{top}
use Rattle.def_layout.specs.Sizes.{room}
use Rattle.def_layout.specs.Pages.{Page, at}
use Rattle.def_layout.specs.Records.{Rec, merge_row}
use Rattle.def_model.specs.Change.{as_a, change_a, change}
use Rattle.def_model.specs.Redo.{redo_record}
use Rattle.def_model.specs.TreeRules.{Node, first_page}
use Rattle.theory_redo.specs.Area.{length_redo_record}
use Rattle.theory_tree.specs.Change.LevelChanges.{merge_chain}
use Rattle.theory_tree.specs.Shape.Chains.{Chained, chained_append, chained_cut, All, chained_frame, once_in_level}
use Rattle.theory_tree.specs.Shape.Trees.{is_bottom, LevelOk, Levels, levels_at, all_cut, all_join, above_away}
use Rattle.theory_tree.specs.Change.Roles.{at_role, at_none, merge_role_a, merge_role_none}
use Rattle.theory_tree.specs.Change.Frames.{levels_swap}

-- Two neighbours as one node.
abbrev pub merged : Node → Node → Node
merged q r = record { page = q.page; high = r.high; items = q.items ++ r.items }

module _ (num : ℕ) (pages : List Page) (lower_numbers : (p : ℕ) → p < length pages → (at pages p).lsn < num)
    (ups : List (List Node)) (xs : List Node) (q r : Node) (ys : List Node) (downs : List (List Node)) (deep : length downs < 16) where
  abbrev row : Rec
  row = merge_row q.page r.page r.high (first_page ys 0) r.items

  level : length (q.items ++ r.items) ≤ room → LevelOk pages (length downs) (xs ++ q ∷ r ∷ ys)
      → LevelOk (redo_record num row pages) (length downs) (xs ++ merged q r ∷ ys)
  unfolding Chained change change_a first_page All
  level space k =
      let b = is_bottom (length downs) in
      let (hx, hn) = chained_cut pages (length downs) xs (q ∷ r ∷ ys) 0 k.chained in
      let (wx, wy) = once_in_level pages (length downs) b 0 xs q (r ∷ ys) 0 (suc top) k.chained k.chain in
      let e : (xs ++ q ∷ []) ++ r ∷ ys ≡ xs ++ q ∷ r ∷ ys = append_assoc xs (q ∷ []) (r ∷ ys) in
      let (vx, vy) = once_in_level pages (length downs) b 0 (xs ++ q ∷ []) r ys 0 (suc top) (rw e k.chained) (rw e k.chain) in
      let (ux, uq, un) = all_cut (λ z. z.page ≢ r.page) xs q [] vx in
      let (sx, sn, sy) = all_cut (λ z. length z.items ≤ room) xs q (r ∷ ys) k.small in
      let n = length_redo_record num row pages in
      let fa = at_role num row pages q.page as_a hn.1 (lower_numbers _ hn.1) (merge_role_a _ _ _ _ _) refl (length downs) hn.2.kind
      (subst (λ es. length (es ++ r.items) ≤ room) (sym hn.2.items) space) (subst (λ l. l < 16) (sym hn.2.level) deep) in
      let na = hn.1 in
      record {
        chain = merge_chain q r (merged q r) (record { same_page = refl; same_items = refl; same_high = refl }) b 0 xs ys (suc top) k.chain;
        chained =
            chained_append (redo_record num row pages) (length downs) xs (merged q r ∷ ys) 0 (chained_frame pages _ _ xs q.page n (stays xs _ hx wx ux) hx) (
              hn.0,
              omega arith,
              rw fa (record { kind = hn.2.kind; level = hn.2.level; right = refl; high = refl; items = ap (◌++ r.items) hn.2.items }),
              chained_frame pages _ _ ys 0 n (stays ys 0 hn.3.3 wy.1 vy) hn.3.3,
            );
        small = all_join (λ z. length z.items ≤ room) xs (merged q r ∷ ys) sx (space, sy.1);
      }
    where
      stays : (ms : List Node) (next : ℕ) → Chained pages (length downs) ms next → All (λ z. z.page ≢ q.page) ms → All (λ z. z.page ≢ r.page) ms
          → All (λ z. at (redo_record num row pages) z.page ≡ at pages z.page) ms
      stays [] next c w v = tt
      stays (z ∷ ms) next c w v =
          let k = c.0 in
          (at_none num row pages z.page c.1 (merge_role_none _ _ _ _ _ z.page w.0 v.0 (omega arith)), stays ms next c.3 w.1 v.1)

  -- The levels; how the level above stands for them is another matter.
  pub merge_levels : length (q.items ++ r.items) ≤ room → Levels pages (ups ++ (xs ++ q ∷ r ∷ ys) ∷ downs)
      → Levels (redo_record num row pages) (ups ++ (xs ++ merged q r ∷ ys) ∷ downs)
  unfolding Chained
  merge_levels space lv =
      let k = levels_at pages ups (xs ++ q ∷ r ∷ ys) downs lv in
      let h = (chained_cut pages (length downs) xs (q ∷ r ∷ ys) 0 k.chained).1 in
      let (ou, od) = above_away pages r.page ups (xs ++ q ∷ r ∷ ys) downs h.3.2.level lv in
      levels_swap num row pages (length downs) q.page r.page (merge_role_none _ _ _ _ _) h.2.level ups (xs ++ q ∷ r ∷ ys) (xs ++ merged q r ∷ ys) downs refl ou od (level space) lv
