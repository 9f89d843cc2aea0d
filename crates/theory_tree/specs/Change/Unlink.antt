-- UNLINK in the whole tree.
use Prim.Native.Nat.{ℕ, suc, ◌+◌, ◌≤◌, ◌<◌}
use Rattle.std.specs.Prelude.{◌≡◌}
use Rattle.std.proofs.Math.Path.{refl, subst}
use Rattle.std.proofs.Common.{sym, ap, arith}
use mathlib.Core.List.{List, [], ◌∷◌, ◌++◌, append_assoc}
use Rattle.std.proofs.Math.ListN.{length, length-append}
use Rattle.std.proofs.Math.Dec.{eqb-suc-zero}
use Rattle.def_base.specs.Tests.{lt_true, lt_false}
use Rattle.def_layout.specs.declared.Entry.{Entry}
use Rattle.def_layout.specs.Entries.{top, entry}
use Rattle.def_layout.specs.Sizes.{room}
use Rattle.def_layout.specs.Pages.{Page, at}
use Rattle.def_layout.specs.Records.{unlink_row}
use Rattle.def_model.specs.Change.{unlink_in, change_a, change}
use Rattle.def_model.specs.Redo.{redo_record}
use Rattle.def_model.specs.TreeRules.{Node, flat}
use Rattle.theory_tree.specs.Order.Keys.{Rising, rising_mid}
use Rattle.theory_tree.specs.Shape.Levels.{Match, ChainOk, node_rises, parts}
use Rattle.theory_tree.specs.Change.LevelChanges.{unlink_match, unlink_chain}
use Rattle.theory_tree.specs.Shape.Trees.{is_bottom, Levels, Joined, joined_cut, levels_at, nonzero}
use Rattle.theory_tree.specs.Change.Roles.{unlink_role_a, unlink_role_none}
use Rattle.theory_tree.specs.Change.Edit.{with_items, edit_tree}

-- Where the keys rise, an unlink finds its entries.
unlink_in_at : (b u w from : ℕ) (pre : List Entry) (e₁ e₂ : Entry) (post : List Entry) → e₁.key ≡ u → Rising from (pre ++ e₁ ∷ e₂ ∷ post)
    → unlink_in b u w (pre ++ e₁ ∷ e₂ ∷ post) ≡ pre ++ entry w b ∷ post
unfolding unlink_in Rising
unlink_in_at b u w from [] e₁ e₂ post k r = rw (lt_false e₁.key u (omega arith))
unlink_in_at b u w from (x ∷ []) e₁ e₂ post k r =
    let a = r.1.0 in
    rw (lt_true x.key u (omega arith), lt_false e₁.key u (omega arith))
unlink_in_at b u w from (x ∷ y ∷ pre) e₁ e₂ post k r =
    let l = rising_mid (suc x.key) (y ∷ pre) e₁ (e₂ ∷ post) r.1 in
    rw (lt_true x.key u (omega arith)) (ap (x ∷◌) (unlink_in_at b u w (suc x.key) (y ∷ pre) e₁ e₂ post k r.1))

unlink_items : (b u w f : ℕ) (items pre : List Entry) (e₁ e₂ : Entry) (post : List Entry) → e₁.key ≡ u → Rising f items
    → items ≡ pre ++ e₁ ∷ e₂ ∷ post
    → unlink_in b u w items ≡ pre ++ entry w b ∷ post
unlink_items b u w f items pre e₁ e₂ post k r o = rw o (unlink_in_at b u w f pre e₁ e₂ post k (rw o at r))

module _ (num : ℕ) (pages : List Page) (lower_numbers : (p : ℕ) → p < length pages → (at pages p).lsn < num)
    (ups : List (List Node)) (xs : List Node) (p : Node) (ys : List Node) (bs : List Node) (q r : Node) (cs : List Node) (downs : List (List Node))
    (deep : suc (length downs) < 16) (pre : List Entry) (e₁ e₂ : Entry) (post : List Entry) where
  abbrev unlinked : Node
  unlinked = with_items (pre ++ entry r.high q.page ∷ post) p

  -- An unlink keeps the tree.
  pub unlink_tree : p.items ≡ pre ++ e₁ ∷ e₂ ∷ post → length p.items ≤ 15 → e₁.key ≡ q.high → e₂.key ≡ r.high → q.high < r.high
      → Match (flat xs ++ pre) bs → Match (post ++ flat ys) cs
      → Levels pages (ups ++ (xs ++ p ∷ ys) ∷ (bs ++ q ∷ r ∷ cs) ∷ downs) → Joined (ups ++ (xs ++ p ∷ ys) ∷ (bs ++ q ∷ r ∷ cs) ∷ downs)
      → Levels (redo_record num (unlink_row p.page q.page r.page q.high r.high) pages)
      (ups ++ (xs ++ unlinked ∷ ys) ∷ (bs ++ q ∷ r ∷ cs) ∷ downs)
      × Joined (ups ++ (xs ++ unlinked ∷ ys) ∷ (bs ++ q ∷ r ∷ cs) ∷ downs)
  unfolding Joined change change_a flat
  unlink_tree old space k₁ k₂ qr m₁ m₂ lv j =
      let row = unlink_row p.page q.page r.page q.high r.high in
      let k = levels_at pages ups (xs ++ p ∷ ys) ((bs ++ q ∷ r ∷ cs) ∷ downs) lv in
      let e : Entry = entry r.high q.page in
      let (f, rs) = node_rises (is_bottom (suc (length downs))) 0 xs p ys (suc top) k.chain in
      let w : unlink_in q.page q.high r.high p.items ≡ pre ++ e ∷ post = unlink_items q.page q.high r.high f p.items pre e₁ e₂ post k₁ rs old in
      let ln : length p.items ≡ length pre + suc (suc (length post)) = rw old (length-append pre (e₁ ∷ e₂ ∷ post)) in
      let ln' : length (pre ++ e ∷ post) ≡ length pre + suc (length post) = length-append pre (e ∷ post) in
      let ch : ChainOk (is_bottom (suc (length downs))) 0 (xs ++ unlinked ∷ ys) (suc top)
      = rw (eqb-suc-zero (length downs)) (unlink_chain p unlinked pre post e e₁ e₂ refl old refl (sym k₂) 0 xs ys (suc top) (rw (eqb-suc-zero (length downs)) at k.chain)) in
      let mt : Match (flat (xs ++ unlinked ∷ ys)) (bs ++ q ∷ r ∷ cs)
      = rw (parts xs unlinked ys pre e post refl, append_assoc (flat xs ++ pre) (e ∷ []) (post ++ flat ys)) (unlink_match e e₁ e₂ q r refl refl qr m₁ m₂) in
      subst (λ z. Levels (redo_record num row pages) (ups ++ (xs ++ with_items z p ∷ ys) ∷ (bs ++ q ∷ r ∷ cs) ∷ downs) × Joined (ups ++ (xs ++ with_items z p ∷ ys) ∷ (bs ++ q ∷ r ∷ cs) ∷ downs)) w
      (edit_tree num pages lower_numbers row (unlink_in q.page q.high r.high) ups xs p ys ((bs ++ q ∷ r ∷ cs) ∷ downs) deep
      (unlink_role_a p.page q.page r.page q.high r.high) (unlink_role_none p.page q.page r.page q.high r.high) (λ x. refl)
      (subst (λ z. ChainOk (is_bottom (suc (length downs))) 0 (xs ++ with_items z p ∷ ys) (suc top)) (sym w) ch)
      (subst (λ z. length z ≤ room) (sym w) (omega arith)) (nonzero pages _ lv) lv j
      (subst (λ z. Joined ((xs ++ with_items z p ∷ ys) ∷ (bs ++ q ∷ r ∷ cs) ∷ downs)) (sym w) (mt, (joined_cut ups (xs ++ p ∷ ys) ((bs ++ q ∷ r ∷ cs) ∷ downs) j).1.1)))
