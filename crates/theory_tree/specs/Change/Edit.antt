-- A record that changes the entries of one page alone, in the whole tree: inserts, deletes and their undoings, and unlink.
use Rattle.std.specs.Prelude.{ℕ, suc, ◌≤◌, ◌<◌, ◌≡◌, ◌≢◌}
use Rattle.std.proofs.Math.Path.{refl, ap}
use Rattle.std.proofs.Common.{sym, ◌∙◌, subst}
use mathlib.Core.List.{List, [], ◌∷◌, ◌++◌}
use native.Mathlib.Omega.{arith}
use Rattle.std.proofs.Math.ListN.{length}
use Rattle.def_layout.specs.declared.Entry.{Entry}
use Rattle.def_layout.specs.Entries.{top}
use Rattle.def_layout.specs.Sizes.{room}
use Rattle.def_layout.specs.Pages.{Page, at, size}
use Rattle.def_layout.specs.Records.{Rec}
use Rattle.def_model.specs.Change.{with_lsn, with_entries, as_a, role, change}
use Rattle.def_model.specs.Change
use Rattle.def_model.specs.Redo.{redo_record}
use Rattle.def_model.specs.TreeRules.{Node, first_page}
use Rattle.theory_redo.specs.Area.{length_redo_record}
use Rattle.theory_tree.specs.Shape.Levels.{ChainOk}
use Rattle.theory_tree.specs.Shape.Chains.{Chained, chained_append, chained_cut, All, chained_frame, once_in_level}
use Rattle.theory_tree.specs.Shape.Trees.{is_bottom, LevelOk, Levels, Joined, joined_cut, joined_append, Every, levels_at, every_cut, all_cut, all_join, same_mid, joined_same}
use Rattle.theory_tree.specs.Change.Roles.{at_role, at_none}
use Rattle.theory_tree.specs.Change.Frames.{levels_swap}

-- A node with other entries.
abbrev pub with_items : List Entry → Node → Node
with_items es p = record { page = p.page; high = p.high; items = es }

module _ (num : ℕ) (pages : List Page) (lower_numbers : (p : ℕ) → p < length pages → (at pages p).lsn < num) (r : Rec) (f : List Entry → List Entry)
    (ups : List (List Node)) (xs : List Node) (p : Node) (ys : List Node) (downs : List (List Node)) (deep : length downs < 16)
    (is_a : role r p.page ≡ as_a) (is_none : (z : ℕ) → z ≢ p.page → role r z ≡ Change.none) (effect : (x : Page) → change r as_a x ≡ with_entries (f x.entries) x) where
  level : ChainOk (is_bottom (length downs)) 0 (xs ++ with_items (f p.items) p ∷ ys) (suc top) → length (f p.items) ≤ room
      → LevelOk pages (length downs) (xs ++ p ∷ ys)
      → LevelOk (redo_record num r pages) (length downs) (xs ++ with_items (f p.items) p ∷ ys)
  unfolding Chained first_page All
  level chain space k =
      let (hx, hn) = chained_cut pages (length downs) xs (p ∷ ys) 0 k.chained in
      let (wx, wy) = once_in_level pages (length downs) (is_bottom (length downs)) 0 xs p ys 0 (suc top) k.chained k.chain in
      let (sx, sn, sy) = all_cut (λ z. length z.items ≤ room) xs p ys k.small in
      let n = length_redo_record num r pages in
      let fa = at_role num r pages p.page as_a hn.1 (lower_numbers _ hn.1) is_a refl (length downs) (ap (λ y. y.kind) (effect (at pages p.page)) ∙ hn.2.kind)
      (subst (λ y. size y ≤ room) (sym (effect (at pages p.page))) (subst (λ es. length (f es) ≤ room) (sym hn.2.items) space))
      (subst (λ y. y.level < 16) (sym (effect (at pages p.page))) (subst (λ l. l < 16) (sym hn.2.level) deep)) ∙ ap (with_lsn num) (effect (at pages p.page)) in
      let na = hn.1 in
      record {
        chain = chain;
        chained =
            chained_append (redo_record num r pages) (length downs) xs (with_items (f p.items) p ∷ ys) 0 (chained_frame pages _ _ xs p.page n (stays xs _ hx wx) hx) (
              hn.0,
              omega arith,
              rw fa (record { kind = hn.2.kind; level = hn.2.level; right = hn.2.right; high = hn.2.high; items = ap f hn.2.items }),
              chained_frame pages _ _ ys 0 n (stays ys 0 hn.3 wy) hn.3,
            );
        small = all_join (λ z. length z.items ≤ room) xs (with_items (f p.items) p ∷ ys) sx (space, sy);
      }
    where
      stays : (ms : List Node) (next : ℕ) → Chained pages (length downs) ms next → All (λ z. z.page ≢ p.page) ms
          → All (λ z. at (redo_record num r pages) z.page ≡ at pages z.page) ms
      stays [] next c w = tt
      stays (z ∷ ms) next c w = (at_none num r pages z.page c.1 (is_none z.page w.0), stays ms next c.3 w.1)

  pub edit_tree : ChainOk (is_bottom (length downs)) 0 (xs ++ with_items (f p.items) p ∷ ys) (suc top) → length (f p.items) ≤ room
      → Every (λ z. z.page ≢ 0) (ups ++ (xs ++ p ∷ ys) ∷ downs) → Levels pages (ups ++ (xs ++ p ∷ ys) ∷ downs)
      → Joined (ups ++ (xs ++ p ∷ ys) ∷ downs)
      → Joined ((xs ++ with_items (f p.items) p ∷ ys) ∷ downs)
      → Levels (redo_record num r pages)
      (ups ++ (xs ++ with_items (f p.items) p ∷ ys) ∷ downs) × Joined (ups ++ (xs ++ with_items (f p.items) p ∷ ys) ∷ downs)
  unfolding Chained
  edit_tree chain space nz lv j jd =
      let (ou, ol, od) = every_cut (λ z. z.page ≢ 0) ups (xs ++ p ∷ ys) downs nz in
      let k = levels_at pages ups (xs ++ p ∷ ys) downs lv in
      let h = (chained_cut pages (length downs) xs (p ∷ ys) 0 k.chained).1 in (
        levels_swap num r pages (length downs) p.page 0 (λ z a b c. is_none z a) h.2.level ups (xs ++ p ∷ ys) (xs ++ with_items (f p.items) p ∷ ys) downs refl ou od (level chain space) lv,
        joined_append ups (xs ++ with_items (f p.items) p ∷ ys) downs (joined_same ups (xs ++ p ∷ ys) _ (same_mid xs p (with_items (f p.items) p) ys refl refl) (joined_cut ups (xs ++ p ∷ ys) downs j).0) jd,
      )
