-- SPLIT in the whole tree.
use Rattle.std.specs.Prelude.{ℕ, suc, ◌≤◌, ◌<◌, ◌≡◌, ◌≢◌}
use Rattle.std.proofs.Math.Path.{refl, ap}
use Rattle.std.proofs.Common.{sym, subst}
use mathlib.Core.List.{List, [], ◌∷◌, ◌++◌}
use native.Mathlib.Omega.{arith}
use Rattle.std.proofs.Math.ListN.{length}
use Rattle.def_layout.specs.declared.Entry.{Entry}
use Rattle.def_layout.specs.Entries.{top}
use Rattle.def_layout.specs.Sizes.{room}
use Rattle.def_layout.specs.Pages.{Page, at}
use Rattle.def_layout.specs.Records.{Rec, split_row}
use Rattle.def_model.specs.Change.{kept, as_a, as_b, change_a, change_b, change}
use Rattle.def_model.specs.Redo.{redo_record}
use Rattle.def_model.specs.TreeRules.{Node, first_page}
use Rattle.theory_redo.specs.Area.{length_redo_record}
use Rattle.theory_tree.specs.Change.LevelChanges.{Splits, split_flat, split_match, split_chain}
use Rattle.theory_tree.specs.Shape.Chains.{Chained, chained_append, chained_cut, All, chained_frame, all_both, once_in_level}
use Rattle.theory_tree.specs.Shape.Trees.{is_bottom, LevelOk, Levels, Joined, joined_cut, joined_append, Every, levels_at, every_cut, all_cut, all_join, Direct}
use Rattle.theory_tree.specs.Change.Roles.{at_role, at_none, split_role_a, split_role_b, split_role_none}
use Rattle.theory_tree.specs.Change.Frames.{levels_swap}

-- The two halves of a node: the left keeps what does not move.
abbrev pub left_half : Node → ℕ → List Entry → Node
left_half n key moved = record { page = n.page; high = key; items = kept moved n.items }

abbrev pub right_half : Node → ℕ → List Entry → Node
right_half n b moved = record { page = b; high = n.high; items = moved }

-- Split, on the pages of its level.
module _ (num : ℕ) (pages : List Page) (fresh : (p : ℕ) → p < length pages → (at pages p).lsn < num) (lev b key : ℕ) (deep : lev < 16) (n : Node) (xs ys : List Node) (next : ℕ)
    (moved : List Entry) where
  abbrev row : Rec
  row = split_row lev n.page b key n.high (first_page ys next) moved

  abbrev Away : Node → Type 0
  Away m = (m.page ≢ n.page) × (m.page ≢ b)

  away : (ms : List Node) (to : ℕ) → All Away ms → Chained pages lev ms to
      → All (λ m. at (redo_record num row pages) m.page ≡ at pages m.page) ms
  unfolding All Chained
  away [] to a h = tt
  away (m ∷ ms) to a h =
      let k = h.0 in (
        at_none num row pages m.page h.1 (split_role_none _ _ _ _ _ _ _ m.page a.0.0 a.0.1 (omega arith)),
        away ms to a.1 h.3,
      )

  pub split_chained : length (kept moved n.items) ≤ room → length moved ≤ room → b < length pages → 0 < b → b ≢ n.page → All Away xs → All Away ys
      → Chained pages lev (xs ++ n ∷ ys) next
      → Chained (redo_record num row pages) lev (xs ++ left_half n key moved ∷ right_half n b moved ∷ ys) next
  unfolding Chained first_page change change_a change_b
  split_chained c₁ c₂ inb posb nb ax ay h =
      let (hx, hn) = chained_cut pages lev xs (n ∷ ys) next h in
      let l = length_redo_record num row pages in
      let fa = at_role num row pages n.page as_a hn.1 (fresh _ hn.1) (split_role_a _ _ _ _ _ _ _) refl lev hn.2.kind
      (subst (λ es. length (kept moved es) ≤ room) (sym hn.2.items) c₁) (subst (λ l. l < 16) (sym hn.2.level) deep) in
      let fb = at_role num row pages b as_b inb (fresh _ inb) (split_role_b _ _ _ _ _ _ _ nb) refl lev refl c₂ deep in
      let na = hn.1 in
      chained_append (redo_record num row pages) lev xs (left_half n key moved ∷ right_half n b moved ∷ ys) next (chained_frame pages _ lev xs n.page l (away xs _ ax hx) hx) (
        hn.0,
        omega arith,
        rw fa (record { kind = hn.2.kind; level = hn.2.level; right = refl; high = refl; items = ap (kept moved) hn.2.items }),
        (posb, omega arith, rw fb (record { kind = refl; level = refl; right = refl; high = refl; items = refl }), chained_frame pages _ lev ys next l (away ys _ ay hn.3) hn.3),
      )

-- The level above: the page stood for its entry alone, and the entry stands for both halves.
split_joined : (n n₁ n₂ : Node) → Splits n n₁ n₂ → (ups : List (List Node)) (xs ys : List Node) → Direct ups xs n ys
    → Joined (ups ++ (xs ++ n ∷ ys) ∷ []) → Joined (ups ++ (xs ++ n₁ ∷ n₂ ∷ ys) ∷ [])
unfolding Joined Direct
split_joined n n₁ n₂ s [] xs ys d j = tt
split_joined n n₁ n₂ s (u ∷ []) xs ys d j =
    let (es, e, fs, w, p, q, m, k) = d in
    (rw w (split_match n n₁ n₂ s e p q m k), tt)
split_joined n n₁ n₂ s (u ∷ v ∷ ups) xs ys d j = (j.0, split_joined n n₁ n₂ s (v ∷ ups) xs ys d j.1)

split_below : (n n₁ n₂ : Node) → Splits n n₁ n₂ → (xs ys : List Node) (downs : List (List Node)) → Joined ((xs ++ n ∷ ys) ∷ downs)
    → Joined ((xs ++ n₁ ∷ n₂ ∷ ys) ∷ downs)
unfolding Joined
split_below n n₁ n₂ s xs ys [] j = tt
split_below n n₁ n₂ s xs ys (ms ∷ downs) j = (rw (split_flat n n₁ n₂ s xs ys) j.0, j.1)

module _ (num : ℕ) (pages : List Page) (lower_numbers : (p : ℕ) → p < length pages → (at pages p).lsn < num)
    (ups : List (List Node)) (xs : List Node) (n : Node) (ys : List Node) (downs : List (List Node)) (deep : length downs < 16) (b key : ℕ) (moved : List Entry) where
  abbrev new_pages : List Page
  new_pages = redo_record num (split_row (length downs) n.page b key n.high (first_page ys 0) moved) pages

  -- The level itself.
  level : Splits n (left_half n key moved) (right_half n b moved) → length (kept moved n.items) ≤ room → length moved ≤ room → b < length pages
      → 0 < b
      → All (λ m. m.page ≢ b) (xs ++ n ∷ ys) → LevelOk pages (length downs) (xs ++ n ∷ ys)
      → LevelOk new_pages (length downs) (xs ++ left_half n key moved ∷ right_half n b moved ∷ ys)
  unfolding All
  level s c₁ c₂ inb posb out k =
      let (ox, on, oy) = all_cut (λ m. m.page ≢ b) xs n ys out in
      let (wx, wy) = once_in_level pages (length downs) (is_bottom (length downs)) 0 xs n ys 0 (suc top) k.chained k.chain in
      let (sx, sn, sy) = all_cut (λ m. length m.items ≤ room) xs n ys k.small in
      record {
        chain = split_chain n (left_half n key moved) (right_half n b moved) s (is_bottom (length downs)) 0 xs ys (suc top) k.chain;
        chained =
            split_chained num pages lower_numbers (length downs) b key deep n xs ys 0 moved c₁ c₂ inb posb (λ e. on (sym e))
            (all_both _ _ _ (λ m p q. (p, q)) xs wx ox) (all_both _ _ _ (λ m p q. (p, q)) ys wy oy) k.chained;
        small = all_join (λ m. length m.items ≤ room) xs (left_half n key moved ∷ right_half n b moved ∷ ys) sx (c₁, (c₂, sy));
      }

  -- A split of a page that stands directly under its parent, into a page outside the tree, keeps the tree.
  pub split_tree : Splits n (left_half n key moved) (right_half n b moved) → length (kept moved n.items) ≤ room → length moved ≤ room
      → b < length pages → 0 < b
      → Every (λ m. m.page ≢ b) (ups ++ (xs ++ n ∷ ys) ∷ downs) → Direct ups xs n ys
      → Levels pages (ups ++ (xs ++ n ∷ ys) ∷ downs) → Joined (ups ++ (xs ++ n ∷ ys) ∷ downs)
      → Levels new_pages (ups ++ (xs ++ left_half n key moved ∷ right_half n b moved ∷ ys) ∷ downs) × Joined (ups ++ (xs ++ left_half n key moved ∷ right_half n b moved ∷ ys) ∷ downs)
  unfolding Chained
  split_tree s c₁ c₂ inb posb out d lv j =
      let (j₁, j₂) = joined_cut ups (xs ++ n ∷ ys) downs j in
      let (ou, ol, od) = every_cut (λ m. m.page ≢ b) ups (xs ++ n ∷ ys) downs out in
      let k = levels_at pages ups (xs ++ n ∷ ys) downs lv in
      let h = (chained_cut pages (length downs) xs (n ∷ ys) 0 k.chained).1 in (
        levels_swap num (split_row (length downs) n.page b key n.high (first_page ys 0) moved) pages (length downs) n.page b
            (split_role_none (length downs) n.page b key n.high (first_page ys 0) moved) h.2.level ups (xs ++ n ∷ ys) (xs ++ left_half n key moved ∷ right_half n b moved ∷ ys) downs refl ou od (level s c₁ c₂ inb posb ol) lv,
        joined_append ups (xs ++ left_half n key moved ∷ right_half n b moved ∷ ys) downs (split_joined n (left_half n key moved) (right_half n b moved) s ups xs ys d j₁) (split_below n (left_half n key moved) (right_half n b moved) s xs ys downs j₂),
      )
