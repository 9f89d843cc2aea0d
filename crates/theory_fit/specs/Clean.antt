-- Pages that are not used are free ones: every step keeps that.
use Prim.Native.Nat.{ℕ, zero, suc, ◌<◌}
use Rattle.std.specs.Prelude.{◌≡◌, refl, ◌≢◌, ◌⊎◌, Bool, false, set}
use Rattle.std.proofs.Math.Path.{sym, ap, subst}
use Rattle.std.proofs.Common.{◌∙◌, inl, inr}
use Rattle.std.proofs.Math.Bool.{true}
use mathlib.Core.List.{List, [], ◌∷◌, ◌++◌, append_assoc}
use native.Mathlib.Omega.{arith}
use Rattle.std.proofs.Math.ListN.{length, get_or}
use Rattle.def_base.specs.Tests.{clash}
use Rattle.def_layout.specs.Entries.{top}
use Rattle.def_layout.specs.Pages.{Page, at}
use Rattle.def_layout.specs.declared.page.PageKind.TheVariants.{Free}
use Rattle.def_layout.specs.Records.{Rec, data_row, split_row, link_row, unlink_row, merge_row, redistribute_row, raise_row, lower_row}
use Rattle.def_model.specs.Change.{cut_to_size, as_b, role, change_b, change}
use Rattle.def_model.specs.Change
use Rattle.def_model.specs.Redo.{redo_record}
use Rattle.def_model.specs.TreeRules.{Node, first_page}
use Rattle.theory_redo.specs.Area.{length_redo_record}
use Rattle.theory_tree.specs.Shape.Chains.{Chained, All, once_in_level}
use Rattle.theory_tree.specs.Shape.Trees.{is_bottom, Levels, Every, levels_at, every_cut, all_cut, every_mid, page_at}
use Rattle.theory_tree.specs.Change.Roles.{at_part, at_none, split_role_none, link_role_none, unlink_role_none, merge_role_none, merge_role_b, redistribute_role_none, raise_role_none, lower_role_none, lower_role_b, split_map, merge_map, raise_map, lower_map}
use Rattle.theory_tree.specs.Shape.Marks.{free_unused}
use Rattle.theory_tree.specs.Shape.Rules.{Marked, every_map, Rooted, Rules, pages_pos}
use Rattle.theory_tree.specs.Step.Steps.{Step, splits, links, unlinks, merges, shares, raises, lowers, puts, cuts, notes}
use Rattle.theory_tree.specs.Step.Parts.{Lows, map_set, map_same, under, add_role_none, cut_role_none, note_same}

-- Free pages are of kind 0. (Not a tree rule; records keep it, and redo's judgement asks for it.)
abbrev pub Clean : List Page → Type 0
Clean pages = (p : ℕ) → p < length pages → get_or (at pages 0).marks p true ≡ false → (at pages p).kind ≡ Free

-- What is clear after a bit is set, or cleared.
set_true : (m : List Bool) (b p : ℕ) → get_or (set m b true) p true ≡ false → (p ≢ b) × (get_or m p true ≡ false)
set_true [] b p e = clash e
set_true (x ∷ m) zero zero e = clash e
set_true (x ∷ m) zero (suc p) e = (omega arith, e)
set_true (x ∷ m) (suc b) zero e = (omega arith, e)
set_true (x ∷ m) (suc b) (suc p) e = let (n, h) = set_true m b p e in ((λ w. n (omega arith)), h)

set_false : (m : List Bool) (b p : ℕ) → get_or (set m b false) p true ≡ false → (p ≡ b) ⊎ (get_or m p true ≡ false)
set_false [] b p e = inr e
set_false (x ∷ m) zero zero e = inl refl
set_false (x ∷ m) zero (suc p) e = inr e
set_false (x ∷ m) (suc b) zero e = inr e
set_false (x ∷ m) (suc b) (suc p) e = go (set_false m b p e)
  where
    go : (p ≡ b) ⊎ (get_or m p true ≡ false) → (suc p ≡ suc b) ⊎ (get_or m p true ≡ false)
    go (inl w) = inl (ap suc w)
    go (inr w) = inr w

module _ (num : ℕ) (pages : List Page) (lows : Lows num pages) (clean : Clean pages) where
  -- A page that is free is outside the tree, and not the map.
  away : (ls : List (List Node)) → Rules pages ls → (p : ℕ) → get_or (at pages 0).marks p true ≡ false → Every (λ n. n.page ≢ p) ls × (p ≢ 0)
  away ls k p f = (
    every_map (Marked pages) (λ n. n.page ≢ p) (λ n u. free_unused (at pages 0).marks p n.page f u) ls k.mapped.marked,
    (λ e. free_unused (at pages 0).marks p 0 f k.mapped.itself (sym e)),
  )

  same : (r : Rec) (p : ℕ) → p < length (redo_record num r pages) → role r p ≡ Change.none → get_or (at pages 0).marks p true ≡ false
      → (at (redo_record num r pages) p).kind ≡ Free
  same r p h e f =
      let l : p < length pages = rw length_redo_record at h in
      ap (λ x. x.kind) (at_none num r pages p l e) ∙ clean p l f

  pub step_clean : (ls ls' : List (List Node)) (r : Rec) → Step pages ls r ls' → Rules pages ls → Clean (redo_record num r pages)
  unfolding change change_b cut_to_size first_page Rooted Levels Chained Every All
  step_clean ls ls' r (splits ups xs n ys downs b key moved s full seven d g pos) k p h f =
      let row = split_row (length downs) n.page b key n.high (first_page ys 0) moved in
      let z = pages_pos pages _ k in
      let (x, y, i) = page_at pages ups xs n ys downs k.levels in
      let m = map_set num row pages lows (omega arith) (split_map (length downs) n.page b key n.high (first_page ys 0) moved x pos) in
      let (nb, f') = set_true (at pages 0).marks b p (ap (λ w. get_or w p true) (sym m) ∙ f) in
      let (aw, n0) = away _ k p f' in
      let na = every_mid (λ w. w.page ≢ p) ups xs n ys downs aw in
      same row p h (split_role_none (length downs) n.page b key n.high (first_page ys 0) moved p (λ e. na (sym e)) nb n0) f'
  step_clean ls ls' r (links ups xs n ys bs q t cs downs pre e post old space v l hh m₁ m₂) k p h f =
      let row = link_row n.page q.page t.page q.high e.key in
      let z = pages_pos pages _ k in
      let (x, y, i) = page_at pages ups xs n ys ((bs ++ q ∷ t ∷ cs) ∷ downs) k.levels in
      let m = map_same num row pages (omega arith) (link_role_none n.page q.page t.page q.high e.key 0 (omega arith)) in
      let f' = ap (λ w. get_or w p true) (sym m) ∙ f in
      let (aw, n0) = away _ k p f' in
      let na = every_mid (λ w. w.page ≢ p) ups xs n ys ((bs ++ q ∷ t ∷ cs) ∷ downs) aw in
      same row p h (link_role_none n.page q.page t.page q.high e.key p (λ e. na (sym e))) f'
  step_clean ls ls' r (unlinks ups xs n ys bs q t cs downs pre e₁ e₂ post old v₁ k₁ v₂ k₂ qr m₁ m₂ fit) k p h f =
      let row = unlink_row n.page q.page t.page q.high t.high in
      let z = pages_pos pages _ k in
      let (x, y, i) = page_at pages ups xs n ys ((bs ++ q ∷ t ∷ cs) ∷ downs) k.levels in
      let m = map_same num row pages (omega arith) (unlink_role_none n.page q.page t.page q.high t.high 0 (omega arith)) in
      let f' = ap (λ w. get_or w p true) (sym m) ∙ f in
      let (aw, n0) = away _ k p f' in
      let na = every_mid (λ w. w.page ≢ p) ups xs n ys ((bs ++ q ∷ t ∷ cs) ∷ downs) aw in
      same row p h (unlink_role_none n.page q.page t.page q.high t.high p (λ e. na (sym e))) f'
  step_clean ls ls' r (merges ups u bs q t cs downs es e fs w v hh m₁ m₂ space) k p h f =
      let row = merge_row q.page t.page t.high (first_page cs 0) t.items in
      let z = pages_pos pages _ k in
      let U = under ups u (bs ++ q ∷ t ∷ cs) downs in
      let lv = subst (Levels pages) (sym U) k.levels in
      let sa : (bs ++ q ∷ []) ++ t ∷ cs ≡ bs ++ q ∷ t ∷ cs = append_assoc bs (q ∷ []) (t ∷ cs) in
      let (q₁, q₂, q₃) = page_at pages (ups ++ u ∷ []) bs q (t ∷ cs) downs lv in
      let (t₁, t₂, t₃) = page_at pages (ups ++ u ∷ []) (bs ++ q ∷ []) t cs downs (subst (λ z. Levels pages ((ups ++ u ∷ []) ++ z ∷ downs)) (sym sa) lv) in
      let c = levels_at pages (ups ++ u ∷ []) (bs ++ q ∷ t ∷ cs) downs lv in
      let tq : t.page ≢ q.page = (once_in_level pages (length downs) (is_bottom (length downs)) 0 bs q (t ∷ cs) 0 (suc top) c.chained c.chain).1.0 in
      let m = map_set num row pages lows (omega arith) (merge_map q.page t.page t.high (first_page cs 0) t.items q₁ t₁) in
      go U tq t₂ (set_false (at pages 0).marks t.page p (ap (λ w. get_or w p true) (sym m) ∙ f))
    where
      go : (ups ++ u ∷ []) ++ (bs ++ q ∷ t ∷ cs) ∷ downs ≡ ups ++ u ∷ (bs ++ q ∷ t ∷ cs) ∷ downs → t.page ≢ q.page → t.page < length pages
          → (p ≡ t.page) ⊎ (get_or (at pages 0).marks p true ≡ false)
          → (at (redo_record num (merge_row q.page t.page t.high (first_page cs 0) t.items) pages) p).kind ≡ Free
      go U tq ti (inl e) =
          ap (λ z. (at (redo_record num (merge_row q.page t.page t.high (first_page cs 0) t.items) pages) z).kind) e
          ∙ ap (λ x. x.kind) (at_part num (merge_row q.page t.page t.high (first_page cs 0) t.items) pages t.page as_b ti (lows t.page ti) (merge_role_b q.page t.page t.high (first_page cs 0) t.items tq) refl)
      go U tq ti (inr f') =
          let (aw, n0) = away _ k p f' in
          let ev = subst (Every (λ w. w.page ≢ p)) (sym U) aw in
          let (x₁, x₂, x₃) = all_cut (λ w. w.page ≢ p) bs q (t ∷ cs) (every_cut (λ w. w.page ≢ p) (ups ++ u ∷ []) (bs ++ q ∷ t ∷ cs) downs ev).1 in
          same (merge_row q.page t.page t.high (first_page cs 0) t.items) p h
          (merge_role_none q.page t.page t.high (first_page cs 0) t.items p (λ e. x₂ (sym e)) (λ e. x₃.0 (sym e)) n0) f'
  step_clean ls ls' r (shares ups u bs q t cs downs es e fs key moved w v hh m₁ m₂ s z₁ z₂) k p h f =
      let row = redistribute_row q.page t.page key moved in
      let z = pages_pos pages _ k in
      let U = under ups u (bs ++ q ∷ t ∷ cs) downs in
      let lv = subst (Levels pages) (sym U) k.levels in
      let (q₁, q₂, q₃) = page_at pages (ups ++ u ∷ []) bs q (t ∷ cs) downs lv in
      let (t₁, t₂, t₃) = page_at pages (ups ++ u ∷ []) (bs ++ q ∷ []) t cs downs (subst (λ z. Levels pages ((ups ++ u ∷ []) ++ z ∷ downs)) (sym (append_assoc bs (q ∷ []) (t ∷ cs))) lv) in
      let m = map_same num row pages (omega arith) (redistribute_role_none q.page t.page key moved 0 (omega arith) (omega arith)) in
      let f' = ap (λ w. get_or w p true) (sym m) ∙ f in
      let (aw, n0) = away _ k p f' in
      let ev = subst (Every (λ w. w.page ≢ p)) (sym U) aw in
      let (x₁, x₂, x₃) = all_cut (λ w. w.page ≢ p) bs q (t ∷ cs) (every_cut (λ w. w.page ≢ p) (ups ++ u ∷ []) (bs ++ q ∷ t ∷ cs) downs ev).1 in
      same row p h (redistribute_role_none q.page t.page key moved p (λ e. x₂ (sym e)) (λ e. x₃.0 (sym e))) f'
  step_clean ls ls' r (raises a s downs c g pos) k p h f =
      let row = raise_row (length downs) s.page c a.high a.items in
      let z = pages_pos pages _ k in
      let e₁ : a.page ≡ 1 = k.rooted in
      let m = map_set num row pages lows (omega arith) (raise_map (length downs) s.page c a.high a.items pos) in
      let (nc, f') = set_true (at pages 0).marks c p (ap (λ w. get_or w p true) (sym m) ∙ f) in
      let (aw, n0) = away _ k p f' in
      same row p h (raise_role_none (length downs) s.page c a.high a.items p (λ e. aw.0.0 (e₁ ∙ sym e)) nc n0) f'
  step_clean ls ls' r (lowers n q downs e root only is ends) k p h f =
      let row = lower_row (length downs) q.page q.items in
      let z = pages_pos pages _ k in
      let c = k.levels.1.0.chained in
      let l₁ : (at pages 1).level ≡ suc (length downs) = ap (λ x. (at pages x).level) (sym root) ∙ k.levels.0.chained.2.level in
      let l₂ = c.2.level in
      let qn : q.page ≢ 1 = λ w. let x : (at pages q.page).level ≡ (at pages 1).level = ap (λ p. (at pages p).level) w in omega arith in
      let m = map_set num row pages lows (omega arith) (lower_map (length downs) q.page q.items c.0) in
      go qn c.1 (set_false (at pages 0).marks q.page p (ap (λ w. get_or w p true) (sym m) ∙ f))
    where
      go : q.page ≢ 1 → q.page < length pages → (p ≡ q.page) ⊎ (get_or (at pages 0).marks p true ≡ false)
          → (at (redo_record num (lower_row (length downs) q.page q.items) pages) p).kind ≡ Free
      go qn qi (inl e) =
          ap (λ z. (at (redo_record num (lower_row (length downs) q.page q.items) pages) z).kind) e
          ∙ ap (λ x. x.kind) (at_part num (lower_row (length downs) q.page q.items) pages q.page as_b qi (lows q.page qi) (lower_role_b (length downs) q.page q.items qn) refl)
      go qn qi (inr f') =
          let (aw, n0) = away _ k p f' in
          same (lower_row (length downs) q.page q.items) p h (lower_role_none (length downs) q.page q.items p (λ e. aw.0.0 (root ∙ sym e)) (λ e. aw.1.0.0 (sym e)) n0) f'
  step_clean ls ls' r (puts kind batch previous key v ups xs n ys a low within absent space) k p h f =
      let row = data_row kind batch previous n.page key v in
      let z = pages_pos pages _ k in
      let (x, y, i) = page_at pages ups xs n ys [] k.levels in
      let m = map_same num row pages (omega arith) (add_role_none kind batch previous n.page key v 0 a (omega arith)) in
      let f' = ap (λ w. get_or w p true) (sym m) ∙ f in
      let (aw, n0) = away _ k p f' in
      let na = every_mid (λ w. w.page ≢ p) ups xs n ys [] aw in
      same row p h (add_role_none kind batch previous n.page key v p a (λ e. na (sym e))) f'
  step_clean ls ls' r (cuts kind batch previous key v u ups xs n ys a low within there fit) k p h f =
      let row = data_row kind batch previous n.page key v in
      let z = pages_pos pages _ k in
      let (x, y, i) = page_at pages ups xs n ys [] k.levels in
      let m = map_same num row pages (omega arith) (cut_role_none kind batch previous n.page key v u 0 a (omega arith)) in
      let f' = ap (λ w. get_or w p true) (sym m) ∙ f in
      let (aw, n0) = away _ k p f' in
      let na = every_mid (λ w. w.page ≢ p) ups xs n ys [] aw in
      same row p h (cut_role_none kind batch previous n.page key v u p a (λ e. na (sym e))) f'
  step_clean ls ls' r (notes kind batch previous q) k p h f =
      subst (λ z. (at z p).kind ≡ Free) (sym (note_same num kind batch previous q pages)) (clean p (rw (note_same num kind batch previous q pages) at h) (subst (λ z. get_or (at z 0).marks p true ≡ false) (note_same num kind batch previous q pages) f))
