-- EVERY STEP FITS EVERY PAGE THAT IT CHANGES.
use Rattle.std.specs.Prelude.{ℕ, suc, ◌+◌, ◌-◌, ◌≤◌, ◌<◌, ◌≡◌, take, drop, leb}
use Rattle.std.proofs.Math.Path.{refl, subst}
use Rattle.std.proofs.Common.{sym, ap, ◌∙◌, arith}
use Rattle.std.proofs.Math.Option.{none, some}
use Rattle.std.proofs.Math.Bool.{true}
use mathlib.Core.List.{List, [], ◌∷◌, ◌++◌, append_assoc, append-nil}
use Rattle.std.proofs.Math.ListN.{length, length-append}
use Rattle.def_base.specs.Tests.{Case, yes!, no!, case, clash, lt_true, eq_true, le_true}
use Rattle.def_layout.specs.declared.Entry.{Entry}
use Rattle.def_layout.specs.Entries.{top, look}
use Rattle.def_layout.specs.Sizes.{room}
use Rattle.def_layout.specs.Pages.{page_kind_number, kind_is, Page, at, map_bits}
use Rattle.def_layout.specs.declared.page.PageKind.TheVariants.{Free}
use Rattle.def_layout.specs.Records.{Kind, Rec, batch_row, data_row, split_row, link_row, unlink_row, merge_row, redistribute_row, raise_row, lower_row}
use Rattle.def_model.specs.Change.{first_key, kept}
use Rattle.def_model.specs.Fit.{found, found_value, children_in, after, link_fits, side_by_side, share_fits_a, share_fits_b, fits_a, fits_b, fits_map, fits_role, fits}
use Rattle.def_model.specs.TreeRules.{Node, flat, first_page, least}
use Rattle.theory_tree.specs.Order.Keys.{Rising, after_append, rising_cut, rising_weaken, after_mono}
use Rattle.theory_tree.specs.Shape.Levels.{Match, ChainOk, chain_cut, chain_from_of, match_from, node_rises}
use Rattle.theory_tree.specs.Change.LevelChanges.{Splits}
use Rattle.theory_tree.specs.Shape.Chains.{IsNode, All}
use Rattle.theory_tree.specs.Shape.Trees.{is_bottom, Levels, Joined, joined_cut, Every, levels_at, every_cut, all_cut, page_at}
use Rattle.theory_tree.specs.Change.Split.{left_half, right_half}
use Rattle.theory_tree.specs.Change.Merge.{merged}
use Rattle.theory_tree.specs.Change.Share.{shared_left, shared_right}
use Rattle.theory_tree.specs.Shape.Marks.{Gives}
use Rattle.theory_tree.specs.Shape.Sizes.{Sized}
use Rattle.theory_tree.specs.Shape.Rules.{Marked, Rooted, Rules}
use Rattle.theory_tree.specs.Shape.Height.{height}
use Rattle.theory_tree.specs.Step.Steps.{Adding, by_insert, by_undo_delete, Removing, by_delete, by_undo_insert, Noting, by_begin, by_commit, by_mark, by_end, Step, splits, links, unlinks, merges, shares, raises, lowers, puts, cuts, notes}
use Rattle.theory_tree.specs.Step.Parts.{under}
use Rattle.theory_update.specs.Find.Places.{index_node}
use Rattle.theory_fit.specs.Judging.{role_cases, entries_self, entries_same, cancel_left, cancel_size, take_all, tail_cut, link_fit, side_fit, level_test, node_test, index_test, leaf_test}
use Rattle.theory_fit.specs.Order.{nowhere_looked, in_order_rising, after_part, side_by_side_rises}
use Rattle.theory_fit.specs.Children.{node_bits, below_of, children_part}
use Rattle.theory_fit.specs.Clean.{Clean}

module _ (pages : List Page) (small : length pages ≤ map_bits) (clean : Clean pages) where
  free_test : (b : ℕ) → Gives (length pages) (at pages 0).marks b → kind_is (at pages b).kind Free ≡ true
  unfolding kind_is page_kind_number
  free_test b g = rw (clean b g.inside g.is_free)

  split_passes : (ups : List (List Node)) (xs : List Node) (n : Node) (ys : List Node) (downs : List (List Node)) (b key : ℕ) (moved : List Entry)
      → Splits n (left_half n key moved) (right_half n b moved) → length n.items ≡ room → Gives (length pages) (at pages 0).marks b
      → Rules pages (ups ++ (xs ++ n ∷ ys) ∷ downs)
      → (p : ℕ) → fits p (split_row (length downs) n.page b key n.high (first_page ys 0) moved) (at pages p) ≡ true
  unfolding fits_role fits_a fits_b fits_map
  split_passes ups xs n ys downs b key moved s full g k p =
      let i = (page_at pages ups xs n ys downs k.levels).2 in
      let (d, t) = tail_cut n.items (kept moved n.items) moved s.same_items in
      role_cases (split_row (length downs) n.page b key n.high (first_page ys 0) moved) p pages
      (λ e. rw (
        level_test (at pages n.page) (length downs) (first_page ys 0) n i,
        i.items,
        eq_true (length n.items) room full,
        entries_same _ moved d,
        eq_true (after 0 (take (length n.items - length moved) n.items)) (suc key) (s.last_key 0),
        eq_true (at pages n.page).right (first_page ys 0) i.right,
      ))
      (λ e. free_test b g) (λ e. clash (sym e)) (λ e. rw g.is_free)

  link_passes : (ups : List (List Node)) (xs : List Node) (n : Node) (ys bs : List Node) (q r : Node) (cs : List Node) (downs : List (List Node))
      (pre : List Entry) (e : Entry) (post : List Entry)
      → n.items ≡ pre ++ e ∷ post → length n.items < room → e.val ≡ q.page → q.high < e.key → Match (flat xs ++ pre) bs
      → Rules pages (ups ++ (xs ++ n ∷ ys) ∷ (bs ++ q ∷ r ∷ cs) ∷ downs) → (p : ℕ)
      → fits p (link_row n.page q.page r.page q.high e.key) (at pages p) ≡ true
  unfolding fits_role fits_a ChainOk
  link_passes ups xs n ys bs q r cs downs pre e post old space v l m k p =
      let i = (page_at pages ups xs n ys ((bs ++ q ∷ r ∷ cs) ∷ downs) k.levels).2 in
      let o = index_node pages ups xs n ys (bs ++ q ∷ r ∷ cs) downs k.levels in
      let lv = subst (Levels pages) (sym (under ups (xs ++ n ∷ ys) (bs ++ q ∷ r ∷ cs) downs)) k.levels in
      let c = chain_cut (is_bottom (length downs)) 0 bs (q ∷ r ∷ cs) (suc top) (levels_at pages (ups ++ (xs ++ n ∷ ys) ∷ []) (bs ++ q ∷ r ∷ cs) downs lv).chain in
      let cf = chain_from_of (is_bottom (length downs)) 0 bs c.mid c.left in
      let cv = c.right.0.covers in
      let mf = match_from 0 m in
      let aa = after_append 0 (flat xs) pre in
      let am = after_mono 0 (after 0 (flat xs)) pre (omega arith) in
      let ri : Rising 0 (pre ++ e ∷ post) = rising_weaken 0 (after 0 (flat xs)) (pre ++ e ∷ post) (omega arith) (subst (Rising (after 0 (flat xs))) old o.rises) in
      role_cases (link_row n.page q.page r.page q.high e.key) p pages
      (λ z. rw (index_test (at pages n.page) (length downs) (first_page ys 0) n i, i.items, le_true (length n.items + 1) room (omega arith))
      (ap (link_fits q.page q.high e.key 0) old ∙ link_fit q.page q.high e.key 0 pre e post ri refl v (omega arith) l))
      (λ z. clash (sym z)) (λ z. clash (sym z)) (λ z. clash (sym z))

  unlink_passes : (ups : List (List Node)) (xs : List Node) (n : Node) (ys bs : List Node) (q r : Node) (cs : List Node) (downs : List (List Node))
      (pre : List Entry) (e₁ e₂ : Entry) (post : List Entry)
      → n.items ≡ pre ++ e₁ ∷ e₂ ∷ post → e₁.val ≡ q.page → e₁.key ≡ q.high → e₂.val ≡ r.page → e₂.key ≡ r.high
      → Rules pages (ups ++ (xs ++ n ∷ ys) ∷ (bs ++ q ∷ r ∷ cs) ∷ downs) → (p : ℕ)
      → fits p (unlink_row n.page q.page r.page q.high r.high) (at pages p) ≡ true
  unfolding fits_role fits_a
  unlink_passes ups xs n ys bs q r cs downs pre e₁ e₂ post old v₁ k₁ v₂ k₂ k p =
      let i = (page_at pages ups xs n ys ((bs ++ q ∷ r ∷ cs) ∷ downs) k.levels).2 in
      let o = index_node pages ups xs n ys (bs ++ q ∷ r ∷ cs) downs k.levels in
      role_cases (unlink_row n.page q.page r.page q.high r.high) p pages
      (λ z. rw (index_test (at pages n.page) (length downs) (first_page ys 0) n i, i.items)
      (ap (side_by_side q.page q.high r.page r.high) old
      ∙ side_fit q.page q.high r.page r.high (after 0 (flat xs)) pre e₁ e₂ post (subst (Rising (after 0 (flat xs))) old o.rises) k₁ v₁ k₂ v₂))
      (λ z. clash (sym z)) (λ z. clash (sym z)) (λ z. clash (sym z))

  merge_passes : (ups : List (List Node)) (u bs : List Node) (q r : Node) (cs : List Node) (downs : List (List Node))
      → length (q.items ++ r.items) ≤ room
      → Rules pages (ups ++ u ∷ (bs ++ q ∷ r ∷ cs) ∷ downs) → (p : ℕ)
      → fits p (merge_row q.page r.page r.high (first_page cs 0) r.items) (at pages p) ≡ true
  unfolding fits_role fits_a fits_b fits_map All first_page
  merge_passes ups u bs q r cs downs space k p =
      let lv = subst (Levels pages) (sym (under ups u (bs ++ q ∷ r ∷ cs) downs)) k.levels in
      let jn = subst Joined (sym (under ups u (bs ++ q ∷ r ∷ cs) downs)) k.joined in
      let sa : (bs ++ q ∷ []) ++ r ∷ cs ≡ bs ++ q ∷ r ∷ cs = append_assoc bs (q ∷ []) (r ∷ cs) in
      let i = (page_at pages (ups ++ u ∷ []) bs q (r ∷ cs) downs lv).2 in
      let j = (page_at pages (ups ++ u ∷ []) (bs ++ q ∷ []) r cs downs (subst (λ z. Levels pages ((ups ++ u ∷ []) ++ z ∷ downs)) (sym sa) lv)).2 in
      let (qe, rr) = side_by_side_rises (is_bottom (length downs)) 0 bs q r cs (suc top) (levels_at pages (ups ++ u ∷ []) (bs ++ q ∷ r ∷ cs) downs lv).chain in
      let ln = length-append q.items r.items in
      let bits = node_bits pages (bs ++ q ∷ []) r cs downs (at pages q.page) r.page q small
      (below_of pages (ups ++ u ∷ []) ((bs ++ q ∷ []) ++ r ∷ cs) downs (subst (λ z. Levels pages ((ups ++ u ∷ []) ++ z ∷ downs)) (sym sa) lv))
      (subst (λ z. Joined (z ∷ downs)) (sym sa) (joined_cut (ups ++ u ∷ []) (bs ++ q ∷ r ∷ cs) downs jn).1) i in
      let mk = (all_cut (Marked pages) bs q (r ∷ cs) (every_cut (Marked pages) (ups ++ u ∷ []) (bs ++ q ∷ r ∷ cs) downs (subst (Every (Marked pages)) (sym (under ups u (bs ++ q ∷ r ∷ cs) downs)) k.mapped.marked)).1).2.0 in
      role_cases (merge_row q.page r.page r.high (first_page cs 0) r.items) p pages
      (λ z. rw (
        node_test (at pages q.page) (length downs) r.page q i,
        i.items,
        le_true (length q.items + length r.items) room (omega arith),
        eq_true (at pages q.page).right r.page i.right,
        in_order_rising q.items (suc q.high) r.items qe rr,
      ) bits)
      (λ z. rw (node_test (at pages r.page) (length downs) (first_page cs 0) r j, j.items, entries_self r.items, eq_true (at pages r.page).right (first_page cs 0) j.right))
      (λ z. clash (sym z)) (λ z. mk)

  share_passes : (ups : List (List Node)) (u bs : List Node) (q r : Node) (cs : List Node) (downs : List (List Node)) (key : ℕ) (moved : List Entry)
      → Splits (merged q r) (shared_left q key moved) (shared_right r key moved) → Sized least (shared_left q key moved)
      → Sized least (shared_right r key moved)
      → Rules pages (ups ++ u ∷ (bs ++ q ∷ r ∷ cs) ∷ downs) → (p : ℕ) → fits p (redistribute_row q.page r.page key moved) (at pages p) ≡ true
  unfolding fits_role fits_a fits_b first_page share_fits_a share_fits_b
  share_passes ups u bs q r cs downs key moved s z₁ z₂ k p = go (case (leb (first_key moved) key))
    where
      lv : Levels pages ((ups ++ u ∷ []) ++ (bs ++ q ∷ r ∷ cs) ∷ downs)
      lv = subst (Levels pages) (sym (under ups u (bs ++ q ∷ r ∷ cs) downs)) k.levels

      i : IsNode (at pages q.page) (length downs) r.page q
      i = (page_at pages (ups ++ u ∷ []) bs q (r ∷ cs) downs lv).2

      j : IsNode (at pages r.page) (length downs) (first_page cs 0) r
      j = (page_at pages (ups ++ u ∷ []) (bs ++ q ∷ []) r cs downs (subst (λ z. Levels pages ((ups ++ u ∷ []) ++ z ∷ downs)) (sym (append_assoc bs (q ∷ []) (r ∷ cs))) lv)).2

      sa : (bs ++ q ∷ []) ++ r ∷ cs ≡ bs ++ q ∷ r ∷ cs
      sa = append_assoc bs (q ∷ []) (r ∷ cs)

      below : Levels pages ((bs ++ q ∷ r ∷ cs) ∷ downs)
      below = below_of pages (ups ++ u ∷ []) (bs ++ q ∷ r ∷ cs) downs lv

      fitted : Joined ((bs ++ q ∷ r ∷ cs) ∷ downs)
      fitted = (joined_cut (ups ++ u ∷ []) (bs ++ q ∷ r ∷ cs) downs (subst Joined (sym (under ups u (bs ++ q ∷ r ∷ cs) downs)) k.joined)).1

      -- The children of either page have ten bits, whichever page they stand on.
      r_bits : children_in (at pages q.page) r.items ≡ true
      r_bits = node_bits pages (bs ++ q ∷ []) r cs downs (at pages q.page) r.page q small (subst (λ z. Levels pages (z ∷ downs)) (sym sa) below) (subst (λ z. Joined (z ∷ downs)) (sym sa) fitted) i

      q_bits : children_in (at pages r.page) q.items ≡ true
      q_bits = node_bits pages bs q (r ∷ cs) downs (at pages r.page) (first_page cs 0) r small below fitted j

      -- The first page's entries end where the second's cover begins, or before.
      side : (after 0 q.items ≤ suc q.high) × Rising (suc q.high) r.items
      side = side_by_side_rises (is_bottom (length downs)) 0 bs q r cs (suc top) (levels_at pages (ups ++ u ∷ []) (bs ++ q ∷ r ∷ cs) downs lv).chain

      go : Case (leb (first_key moved) key) → fits p (redistribute_row q.page r.page key moved) (at pages p) ≡ true
      go (yes! c) =
          let l₁ : (shared_left q key moved).items ≡ q.items ++ moved = rw c refl in
          let l₂ : (shared_right r key moved).items ≡ drop (length moved) r.items = rw c refl in
          let w : q.items ++ r.items ≡ q.items ++ (moved ++ drop (length moved) r.items) = s.same_items ∙ (λ t. l₁ t ++ l₂ t) ∙ append_assoc q.items moved (drop (length moved) r.items) in
          let rr = cancel_left q.items r.items (moved ++ drop (length moved) r.items) w in
          let tk : take (length moved) r.items ≡ moved = ap (take (length moved)) rr ∙ take_all moved (drop (length moved) r.items) in
          let n₁ : length q.items + length moved ≤ room = let a = z₁.0 in let b = ap length l₁ ∙ length-append q.items moved in omega arith in
          let a₁ : after 0 (q.items ++ moved) ≡ suc key = ap (after 0) (sym l₁) ∙ s.last_key 0 in
          let o = in_order_rising q.items (suc q.high) moved side.0
          (rising_cut (suc q.high) moved (drop (length moved) r.items) (subst (Rising (suc q.high)) rr side.1)).0 in
          role_cases (redistribute_row q.page r.page key moved) p pages
          (λ z. rw (node_test (at pages q.page) (length downs) r.page q i, eq_true (at pages q.page).right r.page i.right, c, i.items, le_true (length q.items + length moved) room n₁, eq_true (after 0 (q.items ++ moved)) (suc key) a₁, o) (children_part (at pages q.page) [] moved (drop (length moved) r.items) (subst (λ z. children_in (at pages q.page) z ≡ true) rr r_bits)))
          (λ z. rw (node_test (at pages r.page) (length downs) (first_page cs 0) r j, c, j.items) (entries_same _ moved tk))
          (λ z. clash (sym z)) (λ z. clash (sym z))
      go (no! c) =
          let l₁ : (shared_left q key moved).items ≡ kept moved q.items = rw c refl in
          let l₂ : (shared_right r key moved).items ≡ moved ++ r.items = rw c refl in
          let w : q.items ++ r.items ≡ (kept moved q.items ++ moved) ++ r.items = s.same_items ∙ (λ t. l₁ t ++ l₂ t) ∙ sym (append_assoc (kept moved q.items) moved r.items) in
          let x₁ = length-append q.items r.items in
          let x₂ = length-append (kept moved q.items ++ moved) r.items in
          let x₃ = ap length w in
          let qq = cancel_size q.items (kept moved q.items ++ moved) r.items r.items (omega arith) w in
          let (d, t) = tail_cut q.items (kept moved q.items) moved qq in
          let a₁ : after 0 (take (length q.items - length moved) q.items) ≡ suc key = ap (after 0) (t ∙ sym l₁) ∙ s.last_key 0 in
          let n₂ : length r.items + length moved ≤ room = let a = z₂.0 in let b = ap length l₂ ∙ length-append moved r.items in omega arith in
          let h : after 0 moved ≤ suc q.high = let a = after_part (kept moved q.items) moved in let b = ap (after 0) qq in let c = side.0 in omega arith in
          role_cases (redistribute_row q.page r.page key moved) p pages
          (λ z. rw (
            node_test (at pages q.page) (length downs) r.page q i,
            eq_true (at pages q.page).right r.page i.right,
            c,
            i.items,
            entries_same _ moved d,
            eq_true (after 0 (take (length q.items - length moved) q.items)) (suc key) a₁,
          ))
          (λ z. rw (node_test (at pages r.page) (length downs) (first_page cs 0) r j, c, j.items, le_true (length r.items + length moved) room n₂, in_order_rising moved (suc q.high) r.items h side.1) (children_part (at pages r.page) (kept moved q.items) moved [] (subst (λ z. children_in (at pages r.page) z ≡ true) (qq ∙ ap (kept moved q.items ++◌) (sym (append-nil moved))) q_bits)))
          (λ z. clash (sym z)) (λ z. clash (sym z))

  raise_passes : (r s : Node) (downs : List (List Node)) (c : ℕ) → Gives (length pages) (at pages 0).marks c → Rules pages ((r ∷ s ∷ []) ∷ downs)
      → (p : ℕ) → fits p (raise_row (length downs) s.page c r.high r.items) (at pages p) ≡ true
  unfolding fits_role fits_a fits_b fits_map first_page Rooted
  raise_passes r s downs c g k p =
      let e : r.page ≡ 1 = k.rooted in
      let i = subst (λ z. IsNode (at pages z) (length downs) s.page r) e (page_at pages [] [] r (s ∷ []) downs k.levels).2 in
      let h = height pages (r ∷ s ∷ []) downs k small in
      role_cases (raise_row (length downs) s.page c r.high r.items) p pages
      (λ z. rw (level_test (at pages 1) (length downs) s.page r i, i.items, entries_self r.items, eq_true (at pages 1).right s.page i.right, lt_true (length downs) 15 (omega arith)))
      (λ z. clash (sym z)) (λ z. free_test c g) (λ z. rw g.is_free)

  lower_passes : (n q : Node) (downs : List (List Node)) (e : Entry) → n.page ≡ 1 → n.items ≡ e ∷ [] → e.val ≡ q.page
      → Rules pages ((n ∷ []) ∷ (q ∷ []) ∷ downs)
      → (p : ℕ) → fits p (lower_row (length downs) q.page q.items) (at pages p) ≡ true
  unfolding fits_role fits_a fits_b fits_map first_page Every All
  lower_passes n q downs e root only is k p =
      let i = subst (λ z. IsNode (at pages z) (suc (length downs)) 0 n) root (page_at pages [] [] n [] ((q ∷ []) ∷ downs) k.levels).2 in
      let j = (page_at pages ((n ∷ []) ∷ []) [] q [] downs k.levels).2 in
      role_cases (lower_row (length downs) q.page q.items) p pages
      (λ z. rw (level_test (at pages 1) (suc (length downs)) 0 n i, i.items, only, eq_true e.val q.page is, eq_true (at pages 1).right 0 i.right))
      (λ z. rw (level_test (at pages q.page) (length downs) 0 q j, j.items, entries_self q.items, eq_true (at pages q.page).right 0 j.right))
      (λ z. clash (sym z)) (λ z. k.mapped.marked.1.0.0)

  put_passes : (kind : Kind) (batch previous key v : ℕ) (ups : List (List Node)) (xs : List Node) (n : Node) (ys : List Node) → Adding kind
      → look key n.items ≡ none → length n.items < room
      → Rules pages (ups ++ (xs ++ n ∷ ys) ∷ []) → (p : ℕ) → fits p (data_row kind batch previous n.page key v) (at pages p) ≡ true
  unfolding fits_role fits_a
  put_passes kind batch previous key v ups xs n ys by_insert ab space k p =
      let i = (page_at pages ups xs n ys [] k.levels).2 in
      let (from, ri) = node_rises true 0 xs n ys (suc top) (levels_at pages ups (xs ++ n ∷ ys) [] k.levels).chain in
      role_cases (data_row kind batch previous n.page key v) p pages
      (λ z. rw (leaf_test (at pages n.page) (first_page ys 0) n i, i.items, le_true (length n.items + 1) room (omega arith), nowhere_looked key from n.items ri ab)) (λ z. clash (sym z)) (λ z. clash (sym z)) (λ z. clash (sym z))
  put_passes kind batch previous key v ups xs n ys by_undo_delete ab space k p =
      let i = (page_at pages ups xs n ys [] k.levels).2 in
      let (from, ri) = node_rises true 0 xs n ys (suc top) (levels_at pages ups (xs ++ n ∷ ys) [] k.levels).chain in
      role_cases (data_row kind batch previous n.page key v) p pages
      (λ z. rw (leaf_test (at pages n.page) (first_page ys 0) n i, i.items, le_true (length n.items + 1) room (omega arith), nowhere_looked key from n.items ri ab)) (λ z. clash (sym z)) (λ z. clash (sym z)) (λ z. clash (sym z))

  cut_passes : (kind : Kind) (batch previous key v u : ℕ) (ups : List (List Node)) (xs : List Node) (n : Node) (ys : List Node) → Removing kind v u
      → look key n.items ≡ some u
      → Rules pages (ups ++ (xs ++ n ∷ ys) ∷ []) → (p : ℕ) → fits p (data_row kind batch previous n.page key v) (at pages p) ≡ true
  unfolding fits_role fits_a found found_value
  cut_passes kind batch previous key v u ups xs n ys by_delete th k p =
      let i = (page_at pages ups xs n ys [] k.levels).2 in
      role_cases (data_row kind batch previous n.page key v) p pages
      (λ z. rw (leaf_test (at pages n.page) (first_page ys 0) n i, i.items, th, eq_true v v refl)) (λ z. clash (sym z)) (λ z. clash (sym z)) (λ z. clash (sym z))
  cut_passes kind batch previous key v u ups xs n ys by_undo_insert th k p =
      let i = (page_at pages ups xs n ys [] k.levels).2 in
      role_cases (data_row kind batch previous n.page key v) p pages
      (λ z. rw (leaf_test (at pages n.page) (first_page ys 0) n i, i.items, th)) (λ z. clash (sym z)) (λ z. clash (sym z)) (λ z. clash (sym z))

  note_passes : (kind : Kind) (batch previous : ℕ) → Noting kind → (p : ℕ) → fits p (batch_row kind batch previous) (at pages p) ≡ true
  unfolding fits_role fits_a
  note_passes kind batch previous by_begin p = role_cases (batch_row kind batch previous) p pages (λ z. clash (sym z)) (λ z. clash (sym z)) (λ z. clash (sym z)) (λ z. clash (sym z))
  note_passes kind batch previous by_commit p = role_cases (batch_row kind batch previous) p pages (λ z. clash (sym z)) (λ z. clash (sym z)) (λ z. clash (sym z)) (λ z. clash (sym z))
  note_passes kind batch previous by_mark p = role_cases (batch_row kind batch previous) p pages (λ z. clash (sym z)) (λ z. clash (sym z)) (λ z. clash (sym z)) (λ z. clash (sym z))
  note_passes kind batch previous by_end p = role_cases (batch_row kind batch previous) p pages (λ z. clash (sym z)) (λ z. clash (sym z)) (λ z. clash (sym z)) (λ z. clash (sym z))

  -- EVERY STEP'S RECORD PASSES THE JUDGEMENT ON EVERY PAGE.
  pub step_fits : (ls ls' : List (List Node)) (r : Rec) → Step pages ls r ls' → Rules pages ls → (p : ℕ) → fits p r (at pages p) ≡ true
  step_fits ls ls' r (splits ups xs n ys downs b key moved s full seven d g pos) k p = split_passes ups xs n ys downs b key moved s full g k p
  step_fits ls ls' r (links ups xs n ys bs q t cs downs pre e post old space v l h m₁ m₂) k p = link_passes ups xs n ys bs q t cs downs pre e post old space v l m₁ k p
  step_fits ls ls' r (unlinks ups xs n ys bs q t cs downs pre e₁ e₂ post old v₁ k₁ v₂ k₂ qr m₁ m₂ fit) k p = unlink_passes ups xs n ys bs q t cs downs pre e₁ e₂ post old v₁ k₁ v₂ k₂ k p
  step_fits ls ls' r (merges ups u bs q t cs downs es e fs w v h m₁ m₂ space) k p = merge_passes ups u bs q t cs downs space k p
  step_fits ls ls' r (shares ups u bs q t cs downs es e fs key moved w v h m₁ m₂ s z₁ z₂) k p = share_passes ups u bs q t cs downs key moved s z₁ z₂ k p
  step_fits ls ls' r (raises a s downs c g pos) k p = raise_passes a s downs c g k p
  step_fits ls ls' r (lowers n q downs e root only is ends) k p = lower_passes n q downs e root only is k p
  step_fits ls ls' r (puts kind batch previous key v ups xs n ys a low within absent space) k p = put_passes kind batch previous key v ups xs n ys a absent space k p
  step_fits ls ls' r (cuts kind batch previous key v u ups xs n ys a low within there fit) k p = cut_passes kind batch previous key v u ups xs n ys a there k p
  step_fits ls ls' r (notes kind batch previous q) k p = note_passes kind batch previous q p
