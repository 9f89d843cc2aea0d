-- LINK in the whole tree.
use Rattle.std.specs.Prelude.{ℕ, suc, ◌≤◌, ◌<◌, ◌≡◌, ◌≢◌, eqb}
use Rattle.std.proofs.Math.Path.{refl, ap}
use Rattle.std.proofs.Common.{sym, ◌∙◌, subst}
use mathlib.Core.List.{List, [], ◌∷◌, ◌++◌, append_assoc}
use native.Mathlib.Omega.{arith}
use Rattle.std.proofs.Math.ListN.{length}
use Rattle.std.proofs.Math.Dec.{eqb-suc-zero}
use Rattle.def_base.specs.Tests.{lt_true, lt_false}
use Rattle.def_layout.specs.declared.Entry.{Entry}
use Rattle.def_layout.specs.Entries.{top, entry}
use Rattle.def_layout.specs.Sizes.{room}
use Rattle.def_layout.specs.Pages.{Page, at}
use Rattle.def_layout.specs.Records.{Rec, link_row}
use Rattle.def_model.specs.Change.{link_in, as_a, change_a, change}
use Rattle.def_model.specs.Redo.{redo_record}
use Rattle.def_model.specs.TreeRules.{Node, flat, first_page}
use Rattle.theory_redo.specs.Area.{length_redo_record}
use Rattle.theory_tree.specs.Order.Keys.{Rising, rising_mid}
use Rattle.theory_tree.specs.Shape.Levels.{Match, node_rises}
use Rattle.theory_tree.specs.Change.LevelChanges.{Links, link_match, link_flat, link_chain}
use Rattle.theory_tree.specs.Shape.Chains.{Chained, chained_append, chained_cut, All, chained_frame, once_in_level}
use Rattle.theory_tree.specs.Shape.Trees.{LevelOk, Levels, Joined, joined_cut, joined_append, Every, levels_at, every_cut, all_cut, all_join, same_mid, joined_same}
use Rattle.theory_tree.specs.Change.Roles.{at_role, at_none, link_role_a, link_role_none}
use Rattle.theory_tree.specs.Change.Frames.{levels_swap}

-- What `link_in` does where the keys rise.
-- Where the keys rise, a link finds its entry.
link_in_at : (b u c from : ℕ) (pre : List Entry) (e : Entry) (post : List Entry) → Rising from (pre ++ e ∷ post)
    → link_in b u c e.key (pre ++ e ∷ post) ≡ pre ++ entry u b ∷ entry e.key c ∷ post
unfolding link_in Rising
link_in_at b u c from [] e post r = rw (lt_false e.key e.key (omega arith))
link_in_at b u c from (x ∷ pre) e post r =
    let l = rising_mid (suc x.key) pre e post r.1 in
    rw (lt_true x.key e.key (omega arith)) (ap (x ∷◌) (link_in_at b u c (suc x.key) pre e post r.1))

link_items : (b u c f : ℕ) (items pre : List Entry) (e : Entry) (post : List Entry) → Rising f items → items ≡ pre ++ e ∷ post
    → link_in b u c e.key items ≡ pre ++ entry u b ∷ entry e.key c ∷ post
link_items b u c f items pre e post r w = rw w (link_in_at b u c f pre e post (rw w at r))

module _ (num : ℕ) (pages : List Page) (lower_numbers : (p : ℕ) → p < length pages → (at pages p).lsn < num)
    (ups : List (List Node)) (xs : List Node) (p : Node) (ys : List Node) (bs : List Node) (q r : Node) (cs : List Node) (downs : List (List Node))
    (deep : suc (length downs) < 16) (pre : List Entry) (e : Entry) (post : List Entry) where
  abbrev row : Rec
  row = link_row p.page q.page r.page q.high e.key

  abbrev e₁ : Entry
  e₁ = entry q.high q.page

  abbrev e₂ : Entry
  e₂ = entry e.key r.page

  abbrev linked : Node
  linked = record { page = p.page; high = p.high; items = pre ++ e₁ ∷ e₂ ∷ post }

  abbrev lower : List Node
  lower = bs ++ q ∷ r ∷ cs

  -- The level of p.
  level : p.items ≡ pre ++ e ∷ post → length linked.items ≤ room → Links e e₁ e₂ q r → LevelOk pages (length downs) lower
      → Match (flat xs ++ pre) bs
      → LevelOk pages (suc (length downs)) (xs ++ p ∷ ys) → LevelOk (redo_record num row pages) (suc (length downs)) (xs ++ linked ∷ ys)
  unfolding Chained change change_a first_page All
  level old space l low m k =
      let (hx, hn) = chained_cut pages (suc (length downs)) xs (p ∷ ys) 0 k.chained in
      let (wx, wy) = once_in_level pages (suc (length downs)) (eqb (suc (length downs)) 0) 0 xs p ys 0 (suc top) k.chained k.chain in
      let (sx, sn, sy) = all_cut (λ z. length z.items ≤ room) xs p ys k.small in
      let n = length_redo_record num row pages in
      let (f, rs) = node_rises (eqb (suc (length downs)) 0) 0 xs p ys (suc top) k.chain in
      let es : link_in q.page q.high r.page e.key (at pages p.page).entries ≡ linked.items
      = ap (link_in q.page q.high r.page e.key) hn.2.items ∙ link_items q.page q.high r.page f p.items pre e post rs old in
      let fa = at_role num row pages p.page as_a hn.1 (lower_numbers _ hn.1) (link_role_a p.page q.page r.page q.high e.key) refl (suc (length downs)) hn.2.kind
      (subst (λ z. length z ≤ room) (sym es) space) (subst (λ l. l < 16) (sym hn.2.level) deep) in
      let na = hn.1 in
      record {
        chain = rw (eqb-suc-zero (length downs))
            (link_chain p linked pre post e e₁ e₂ (record { same_page = refl; same_high = refl; old = old; new = refl }) q r l 0 xs ys (suc top) (eqb (length downs) 0) bs (r ∷ cs) (suc top)
            low.chain m (rw (eqb-suc-zero (length downs)) at k.chain));
        chained =
            chained_append (redo_record num row pages) (suc (length downs)) xs (linked ∷ ys) 0 (chained_frame pages _ _ xs p.page n (stays xs _ hx wx) hx) (
              hn.0,
              omega arith,
              rw fa (record {
                kind = hn.2.kind;
                level = hn.2.level;
                right = hn.2.right;
                high = hn.2.high;
                items = es;
              }),
              chained_frame pages _ _ ys 0 n (stays ys 0 hn.3 wy) hn.3,
            );
        small = all_join (λ z. length z.items ≤ room) xs (linked ∷ ys) sx (space, sy);
      }
    where
      stays : (ms : List Node) (next : ℕ) → Chained pages (suc (length downs)) ms next → All (λ z. z.page ≢ p.page) ms
          → All (λ z. at (redo_record num row pages) z.page ≡ at pages z.page) ms
      stays [] next c w = tt
      stays (z ∷ ms) next c w = (at_none num row pages z.page c.1 (link_role_none p.page q.page r.page q.high e.key z.page w.0), stays ms next c.3 w.1)

  -- A link of an indirect page keeps the tree.
  pub link_tree : p.items ≡ pre ++ e ∷ post → length linked.items ≤ room → Links e e₁ e₂ q r → Match (flat xs ++ pre) bs
      → Match (post ++ flat ys) cs
      → Every (λ z. z.page ≢ 0) (ups ++ (xs ++ p ∷ ys) ∷ lower ∷ downs) → Levels pages (ups ++ (xs ++ p ∷ ys) ∷ lower ∷ downs)
      → Joined (ups ++ (xs ++ p ∷ ys) ∷ lower ∷ downs)
      → Levels (redo_record num row pages) (ups ++ (xs ++ linked ∷ ys) ∷ lower ∷ downs) × Joined (ups ++ (xs ++ linked ∷ ys) ∷ lower ∷ downs)
  unfolding Chained Levels Joined
  link_tree old space l m₁ m₂ nz lv j =
      let (j₁, j₂) = joined_cut ups (xs ++ p ∷ ys) (lower ∷ downs) j in
      let (ou, ol, od) = every_cut (λ z. z.page ≢ 0) ups (xs ++ p ∷ ys) (lower ∷ downs) nz in
      let k = levels_at pages ups (xs ++ p ∷ ys) (lower ∷ downs) lv in
      let h = (chained_cut pages (suc (length downs)) xs (p ∷ ys) 0 k.chained).1 in
      let low = levels_at pages (ups ++ (xs ++ p ∷ ys) ∷ []) lower downs (rw (append_assoc ups ((xs ++ p ∷ ys) ∷ []) (lower ∷ downs)) lv) in
      let (g₁, g₂) = link_flat p linked pre post e e₁ e₂ (record { same_page = refl; same_high = refl; old = old; new = refl }) xs ys in (
        levels_swap num row pages (suc (length downs)) p.page 0 (λ z a b c. link_role_none p.page q.page r.page q.high e.key z a) h.2.level
            ups (xs ++ p ∷ ys) (xs ++ linked ∷ ys) (lower ∷ downs) refl ou od (level old space l low m₁) lv,
        joined_append ups (xs ++ linked ∷ ys) (lower ∷ downs) (joined_same ups (xs ++ p ∷ ys) (xs ++ linked ∷ ys) (same_mid xs p linked ys refl refl) j₁)
            (rw g₂ (link_match e e₁ e₂ q r l m₁ m₂), j₂.1),
      )
