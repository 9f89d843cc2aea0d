-- EVERY STEP KEEPS EVERY PAGE'S LAYOUT, so that restart never answers 3 for it.
use Prim.Native.Nat.{ℕ, suc, ◌≤◌, ◌<◌}
use Rattle.std.specs.Prelude.{◌≡◌, ◌≢◌, false, ◌&&◌, length}
use Rattle.std.proofs.Math.Path.{refl, sym, ap, subst}
use Rattle.std.proofs.Common.{◌∙◌}
use Rattle.std.proofs.Math.Bool.{true}
use mathlib.Core.List.{List, [], ◌∷◌, ◌++◌, append_assoc}
use native.Mathlib.Omega.{arith}
use Rattle.std.proofs.Math.Dec.{eqb}
use Rattle.def_base.specs.Tests.{Case, yes!, no!, case, clash, true_eq, and_true}
use Rattle.def_layout.specs.Entries.{insert_sorted, remove_key}
use Rattle.def_layout.specs.Pages.{Page, freed, at, map_bits, layout}
use Rattle.def_layout.specs.Records.{Kind, begin, insert, delete, undo_insert, undo_delete, commit, abort_mark, end, split, link, unlink, merge, redistribute, raise, lower, Rec, split_row, merge_row, redistribute_row, raise_row, lower_row}
use Rattle.def_model.specs.Change.{with_lsn, cut_to_size, as_a, as_b, as_c, as_map, changes, shape, role, change_a, change_b, change_c, page_marked, takes, change}
use Rattle.def_model.specs.Redo.{redo_record}
use Rattle.def_model.specs.TreeRules.{Node, first_page}
use Rattle.theory_redo.specs.Area.{length_redo_record}
use Rattle.theory_tree.specs.Shape.Trees.{Levels, every_mid, page_at}
use Rattle.theory_tree.specs.Change.Roles.{at_part, at_none, split_role_a, split_role_b, link_role_a, unlink_role_a, merge_role_a, merge_role_b, redistribute_role_a, redistribute_role_b, raise_role_a, raise_role_c, lower_role_a, lower_role_b, split_map, merge_map, raise_map, lower_map}
use Rattle.theory_tree.specs.Change.Split.{left_half, right_half}
use Rattle.theory_tree.specs.Change.Edit.{with_items}
use Rattle.theory_tree.specs.Change.Merge.{merged}
use Rattle.theory_tree.specs.Change.Share.{shared_left, shared_right}
use Rattle.theory_tree.specs.Shape.Marks.{free_unused}
use Rattle.theory_tree.specs.Shape.Rules.{Marked, Rooted, Rules, pages_pos}
use Rattle.theory_tree.specs.Step.Steps.{Adding, by_insert, by_undo_delete, Removing, by_delete, by_undo_insert, linked, unlinked, old_root, new_root, lowered, Step, splits, links, unlinks, merges, shares, raises, lowers, puts, cuts, notes}
use Rattle.theory_tree.specs.Step.Parts.{Lows, under, add_role_a, cut_role_a, note_same}
use Rattle.theory_tree.specs.Step.Rules.{step_rules}
use Rattle.theory_tree.specs.Step.Names.{under_pages, under_differ}
use Rattle.theory_pages.specs.Layout.{Laid, node_own, node_layout, map_marked, freed_layout}

-- A change keeps the own number of A, and of B where B is not taken.
change_a_own : (kind : Kind) (r : Rec) (x : Page) → (change_a kind r x).own ≡ x.own
unfolding change_a
change_a_own begin r x = refl
change_a_own insert r x = refl
change_a_own delete r x = refl
change_a_own undo_insert r x = refl
change_a_own undo_delete r x = refl
change_a_own commit r x = refl
change_a_own abort_mark r x = refl
change_a_own end r x = refl
change_a_own split r x = refl
change_a_own link r x = refl
change_a_own unlink r x = refl
change_a_own merge r x = refl
change_a_own redistribute r x = refl
change_a_own raise r x = refl
change_a_own lower r x = refl

add_shape : (kind : Kind) → Adding kind → shape kind ≡ changes true false false false
add_shape kind by_insert = refl
add_shape kind by_undo_delete = refl

cut_shape : (kind : Kind) (v u : ℕ) → Removing kind v u → shape kind ≡ changes true false false false
cut_shape kind v u by_delete = refl
cut_shape kind v u by_undo_insert = refl

module _ (num : ℕ) (pages : List Page) (few : length pages ≤ map_bits) (lows : Lows num pages) (laid : Laid pages) where
  -- The area after a record, judged page by page where the record changes it.
  laid_by_part : (r : Rec) → ((shape r.kind).a ≡ true → layout (length pages) r.pageA (at (redo_record num r pages) r.pageA) ≡ true)
      → ((shape r.kind).b ≡ true → layout (length pages) r.pageB (at (redo_record num r pages) r.pageB) ≡ true)
      → ((shape r.kind).c ≡ true → layout (length pages) r.pageC (at (redo_record num r pages) r.pageC) ≡ true)
      → ((shape r.kind).m ≡ true → layout (length pages) 0 (at (redo_record num r pages) 0) ≡ true) → Laid (redo_record num r pages)
  unfolding role
  laid_by_part r fa fb fc fm p h =
      let e = length_redo_record num r pages in
      subst (λ z. layout z p (at (redo_record num r pages) p) ≡ true) (sym e)
      (go (case ((shape r.kind).a && eqb p r.pageA)) (case ((shape r.kind).b && eqb p r.pageB)) (case ((shape r.kind).c && eqb p r.pageC)) (case ((shape r.kind).m && eqb p 0)) (omega arith))
    where
      move : (q : ℕ) → eqb p q ≡ true → layout (length pages) q (at (redo_record num r pages) q) ≡ true
          → layout (length pages) p (at (redo_record num r pages) p) ≡ true
      move q e t = subst (λ z. layout (length pages) z (at (redo_record num r pages) z) ≡ true) (sym (true_eq p q e)) t

      go : Case ((shape r.kind).a && eqb p r.pageA) → Case ((shape r.kind).b && eqb p r.pageB)
          → Case ((shape r.kind).c && eqb p r.pageC) → Case ((shape r.kind).m && eqb p 0)
          → p < length pages → layout (length pages) p (at (redo_record num r pages) p) ≡ true
      go (yes! a) b c m l = let (x, y) = and_true (shape r.kind).a (eqb p r.pageA) a in move r.pageA y (fa x)
      go (no! a) (yes! b) c m l = let (x, y) = and_true (shape r.kind).b (eqb p r.pageB) b in move r.pageB y (fb x)
      go (no! a) (no! b) (yes! c) m l = let (x, y) = and_true (shape r.kind).c (eqb p r.pageC) c in move r.pageC y (fc x)
      go (no! a) (no! b) (no! c) (yes! m) l = let (x, y) = and_true (shape r.kind).m (eqb p 0) m in move 0 y (fm x)
      go (no! a) (no! b) (no! c) (no! m) l = subst (λ x. layout (length pages) p x ≡ true) (sym (at_none num r pages p l (rw (a, b, c, m)))) (laid p l)

  own_a : (r : Rec) (p : ℕ) → p < length pages → role r p ≡ as_a → (at pages p).own ≡ p → (at (redo_record num r pages) p).own ≡ p
  unfolding change cut_to_size
  own_a r p h e o = ap (λ x. x.own) (at_part num r pages p as_a h (lows p h) e refl) ∙ change_a_own r.kind r (at pages p) ∙ o

  -- A node's page in the old tree.
  own_of : (ups : List (List Node)) (xs : List Node) (n : Node) (ys : List Node) (downs : List (List Node))
      → Levels pages (ups ++ (xs ++ n ∷ ys) ∷ downs) → (at pages n.page).own ≡ n.page
  own_of ups xs n ys downs lv =
      let (a, b, i) = page_at pages ups xs n ys downs lv in
      node_own (length pages) n.page (at pages n.page) (length downs) (first_page ys 0) n i (laid n.page b)

  map_after : (r : Rec) → 0 < length pages → role r 0 ≡ as_map → page_marked r < length pages
      → layout (length pages) 0 (at (redo_record num r pages) 0) ≡ true
  unfolding change
  map_after r h e b =
      subst (λ x. layout (length pages) 0 x ≡ true) (sym (at_part num r pages 0 as_map h (lows 0 h) e refl))
      (map_marked (length pages) num (page_marked r) (takes r.kind) (at pages 0) b (laid 0 h))

  -- A node of the new tree.
  node_after : (r : Rec) (ups : List (List Node)) (xs : List Node) (n : Node) (ys : List Node) (downs : List (List Node))
      → Rules (redo_record num r pages) (ups ++ (xs ++ n ∷ ys) ∷ downs)
      → (at (redo_record num r pages) n.page).own ≡ n.page → layout (length pages) n.page (at (redo_record num r pages) n.page) ≡ true
  node_after r ups xs n ys downs k o =
      let e = length_redo_record num r pages in
      subst (λ z. layout z n.page (at (redo_record num r pages) n.page) ≡ true) e (node_layout (redo_record num r pages) ups xs n ys downs (omega arith) k o)

  -- The second of two nodes of the new tree.
  second_after : (r : Rec) (ups : List (List Node)) (xs : List Node) (m n : Node) (ys : List Node) (downs : List (List Node))
      → Rules (redo_record num r pages) (ups ++ (xs ++ m ∷ n ∷ ys) ∷ downs)
      → (at (redo_record num r pages) n.page).own ≡ n.page → layout (length pages) n.page (at (redo_record num r pages) n.page) ≡ true
  second_after r ups xs m n ys downs k o =
      node_after r ups (xs ++ m ∷ []) n ys downs (subst (λ z. Rules (redo_record num r pages) (ups ++ z ∷ downs)) (sym (append_assoc xs (m ∷ []) (n ∷ ys))) k) o

  -- One page alone is changed, and stays the same node with other entries.
  edit_after : (r : Rec) (ups : List (List Node)) (xs : List Node) (n m : Node) (ys : List Node) (downs : List (List Node))
      → shape r.kind ≡ changes true false false false → r.pageA ≡ n.page → m.page ≡ n.page
      → role r n.page ≡ as_a → Levels pages (ups ++ (xs ++ n ∷ ys) ∷ downs) → Rules (redo_record num r pages) (ups ++ (xs ++ m ∷ ys) ∷ downs)
      → Laid (redo_record num r pages)
  edit_after r ups xs n m ys downs s a e is_a lv k =
      let h = (page_at pages ups xs n ys downs lv).1 in
      let o = own_a r n.page h is_a (own_of ups xs n ys downs lv) in
      let f : layout (length pages) m.page (at (redo_record num r pages) m.page) ≡ true
      = node_after r ups xs m ys downs k (subst (λ z. (at (redo_record num r pages) z).own ≡ z) (sym e) o) in
      laid_by_part r (λ z. subst (λ p. layout (length pages) p (at (redo_record num r pages) p) ≡ true) (e ∙ sym a) f)
      (λ z. clash (sym z ∙ ap (λ x. x.b) s)) (λ z. clash (sym z ∙ ap (λ x. x.c) s)) (λ z. clash (sym z ∙ ap (λ x. x.m) s))

  freed_after : (r : Rec) (p : ℕ) → p < length pages → 0 < p → role r p ≡ as_b → change r as_b (at pages p) ≡ freed (at pages p).own
      → (at pages p).own ≡ p
      → layout (length pages) p (at (redo_record num r pages) p) ≡ true
  freed_after r p h pos e c o =
      subst (λ x. layout (length pages) p x ≡ true) (sym (at_part num r pages p as_b h (lows p h) e refl ∙ ap (λ x. with_lsn num (cut_to_size x)) c))
      (freed_layout (length pages) num p (at pages p).own pos o)

  step_after : (ls ls' : List (List Node)) (r : Rec) → Step pages ls r ls' → Rules pages ls → Rules (redo_record num r pages) ls'
      → Laid (redo_record num r pages)
  unfolding change change_b change_c cut_to_size Rooted first_page Levels
  step_after ls ls' r (splits ups xs n ys downs b key moved s full seven d g pos) k k' =
      let row = split_row (length downs) n.page b key n.high (first_page ys 0) moved in
      let (x, y, i) = page_at pages ups xs n ys downs k.levels in
      let nb : n.page ≢ b = free_unused (at pages 0).marks b n.page g.is_free (every_mid (Marked pages) ups xs n ys downs k.mapped.marked) in
      let ra = split_role_a (length downs) n.page b key n.high (first_page ys 0) moved in
      let rb = split_role_b (length downs) n.page b key n.high (first_page ys 0) moved (λ e. nb (sym e)) in
      let ob : (at (redo_record num row pages) b).own ≡ b = ap (λ z. z.own) (at_part num row pages b as_b g.inside (lows b g.inside) rb refl) in
      laid_by_part row (λ z. node_after row ups xs (left_half n key moved) (right_half n b moved ∷ ys) downs k' (own_a row n.page y ra (own_of ups xs n ys downs k.levels)))
      (λ z. second_after row ups xs (left_half n key moved) (right_half n b moved) ys downs k' ob) (λ z. clash (sym z))
      (λ z. map_after row (omega arith) (split_map (length downs) n.page b key n.high (first_page ys 0) moved x pos) g.inside)
  step_after ls ls' r (links ups xs p ys bs q t cs downs pre e post old space v l hh m₁ m₂) k k' =
      edit_after r ups xs p (linked p q t e pre post) ys ((bs ++ q ∷ t ∷ cs) ∷ downs) refl refl refl (link_role_a p.page q.page t.page q.high e.key) k.levels k'
  step_after ls ls' r (unlinks ups xs p ys bs q t cs downs pre e₁ e₂ post old v₁ k₁ v₂ k₂ qr m₁ m₂ fit) k k' =
      edit_after r ups xs p (unlinked p q t pre post) ys ((bs ++ q ∷ t ∷ cs) ∷ downs) refl refl refl (unlink_role_a p.page q.page t.page q.high t.high) k.levels k'
  step_after ls ls' r (merges ups u bs q t cs downs es e fs w v hh m₁ m₂ space) k k' =
      let row = merge_row q.page t.page t.high (first_page cs 0) t.items in
      let lv = subst (Levels pages) (sym (under ups u (bs ++ q ∷ t ∷ cs) downs)) k.levels in
      let (a, b) = under_pages pages ups u bs q t cs downs k.levels in
      let tq = under_differ pages ups u bs q t cs downs k.levels in
      let ot = node_own (length pages) t.page (at pages t.page) (length downs) (first_page cs 0) t b.2 (laid t.page b.1) in
      laid_by_part row
      (λ z. node_after row (ups ++ u ∷ []) bs (merged q t) cs downs (subst (Rules (redo_record num row pages)) (sym (under ups u (bs ++ merged q t ∷ cs) downs)) k')
      (own_a row q.page a.1 (merge_role_a q.page t.page t.high (first_page cs 0) t.items) (own_of (ups ++ u ∷ []) bs q (t ∷ cs) downs lv)))
      (λ z. freed_after row t.page b.1 b.0 (merge_role_b q.page t.page t.high (first_page cs 0) t.items tq) refl ot) (λ z. clash (sym z))
      (λ z. map_after row (let h = a.1 in omega arith) (merge_map q.page t.page t.high (first_page cs 0) t.items a.0 b.0) b.1)
  step_after ls ls' r (shares ups u bs q t cs downs es e fs key moved w v hh m₁ m₂ s z₁ z₂) k k' =
      let row = redistribute_row q.page t.page key moved in
      let lv = subst (Levels pages) (sym (under ups u (bs ++ q ∷ t ∷ cs) downs)) k.levels in
      let (a, b) = under_pages pages ups u bs q t cs downs k.levels in
      let tq = under_differ pages ups u bs q t cs downs k.levels in
      let ot = node_own (length pages) t.page (at pages t.page) (length downs) (first_page cs 0) t b.2 (laid t.page b.1) in
      let ot' : (at (redo_record num row pages) t.page).own ≡ t.page
      = ap (λ z. z.own) (at_part num row pages t.page as_b b.1 (lows t.page b.1) (redistribute_role_b q.page t.page key moved tq) refl) ∙ ot in
      let k'' = subst (Rules (redo_record num row pages)) (sym (under ups u (bs ++ shared_left q key moved ∷ shared_right t key moved ∷ cs) downs)) k' in
      laid_by_part row
      (λ z. node_after row (ups ++ u ∷ []) bs (shared_left q key moved) (shared_right t key moved ∷ cs) downs k''
      (own_a row q.page a.1 (redistribute_role_a q.page t.page key moved) (own_of (ups ++ u ∷ []) bs q (t ∷ cs) downs lv)))
      (λ z. second_after row (ups ++ u ∷ []) bs (shared_left q key moved) (shared_right t key moved) cs downs k'' ot') (λ z. clash (sym z)) (λ z. clash (sym z))
  step_after ls ls' r (raises a s downs c g pos) k k' =
      let row = raise_row (length downs) s.page c a.high a.items in
      let e : a.page ≡ 1 = k.rooted in
      let z = pages_pos pages _ k in
      let nc : a.page ≢ c = free_unused (at pages 0).marks c a.page g.is_free (every_mid (Marked pages) [] [] a (s ∷ []) downs k.mapped.marked) in
      let o : (at pages 1).own ≡ 1 = subst (λ p. (at pages p).own ≡ p) e (own_of [] [] a (s ∷ []) downs k.levels) in
      let oc : (at (redo_record num row pages) c).own ≡ c
      = ap (λ x. x.own) (at_part num row pages c as_c g.inside (lows c g.inside) (raise_role_c (length downs) s.page c a.high a.items (λ w. nc (e ∙ sym w))) refl) in
      laid_by_part row
      (λ x. node_after row [] [] (new_root a s c) [] ((old_root a c ∷ s ∷ []) ∷ downs) k' (own_a row 1 z (raise_role_a (length downs) s.page c a.high a.items) o))
      (λ x. clash (sym x)) (λ x. node_after row ((new_root a s c ∷ []) ∷ []) [] (old_root a c) (s ∷ []) downs k' oc)
      (λ x. map_after row (omega arith) (raise_map (length downs) s.page c a.high a.items pos) g.inside)
  step_after ls ls' r (lowers n q downs e root only is ends) k k' =
      let row = lower_row (length downs) q.page q.items in
      let z = pages_pos pages _ k in
      let (x, y, i) = page_at pages ((n ∷ []) ∷ []) [] q [] downs k.levels in
      let j = (page_at pages [] [] n [] ((q ∷ []) ∷ downs) k.levels).2 in
      let l₁ : (at pages 1).level ≡ suc (length downs) = ap (λ p. (at pages p).level) (sym root) ∙ j.level in
      let l₂ = i.level in
      let qn : q.page ≢ 1 = λ w. let u : (at pages q.page).level ≡ (at pages 1).level = ap (λ p. (at pages p).level) w in omega arith in
      let o : (at pages 1).own ≡ 1 = subst (λ p. (at pages p).own ≡ p) root (own_of [] [] n [] ((q ∷ []) ∷ downs) k.levels) in
      laid_by_part row (λ w. node_after row [] [] (lowered n q) [] downs k' (own_a row 1 z (lower_role_a (length downs) q.page q.items) o))
      (λ w. freed_after row q.page y x (lower_role_b (length downs) q.page q.items qn) refl (own_of ((n ∷ []) ∷ []) [] q [] downs k.levels)) (λ w. clash (sym w))
      (λ w. map_after row (omega arith) (lower_map (length downs) q.page q.items x) y)
  step_after ls ls' r (puts kind batch previous key v ups xs n ys a low within absent space) k k' =
      edit_after r ups xs n (with_items (insert_sorted key v n.items) n) ys [] (add_shape kind a) refl refl (add_role_a kind batch previous n.page key v a) k.levels k'
  step_after ls ls' r (cuts kind batch previous key v u ups xs n ys a low within there fit) k k' =
      edit_after r ups xs n (with_items (remove_key key n.items) n) ys [] (cut_shape kind v u a) refl refl (cut_role_a kind batch previous n.page key v u a) k.levels k'
  step_after ls ls' r (notes kind batch previous q) k k' = subst Laid (sym (note_same num kind batch previous q pages)) laid

  pub step_laid : (ls ls' : List (List Node)) (r : Rec) → Step pages ls r ls' → Rules pages ls → Laid (redo_record num r pages)
  step_laid ls ls' r st k = step_after ls ls' r st k (step_rules num pages few lows ls ls' r st k)
