-- LOWER in the whole tree: the root takes the contents of its only child, which is freed.
use Prim.Native.Nat.{ℕ, suc, ◌<◌}
use Rattle.std.specs.Prelude.{◌≡◌, ◌≢◌}
use Rattle.std.proofs.Math.Path.{refl, ap}
use Rattle.std.proofs.Common.{sym, ◌∙◌}
use mathlib.Core.List.{List, [], ◌∷◌}
use native.Mathlib.Omega.{arith}
use Rattle.std.proofs.Math.ListN.{length}
use Rattle.def_layout.specs.declared.Entry.{Entry}
use Rattle.def_layout.specs.Entries.{top}
use Rattle.def_layout.specs.Pages.{Page, at}
use Rattle.def_layout.specs.Records.{Rec, lower_row}
use Rattle.def_model.specs.Change.{as_a, change_a, change}
use Rattle.def_model.specs.Redo.{redo_record}
use Rattle.def_model.specs.TreeRules.{Node, flat, first_page}
use Rattle.theory_redo.specs.Area.{length_redo_record}
use Rattle.theory_tree.specs.Shape.Levels.{ChainOk}
use Rattle.theory_tree.specs.Shape.Chains.{Chained, All}
use Rattle.theory_tree.specs.Shape.Trees.{Levels, Joined, Every, below_away}
use Rattle.theory_tree.specs.Change.Roles.{at_role, lower_role_a, lower_role_none}
use Rattle.theory_tree.specs.Change.Frames.{below_levels}

module _ (num : ℕ) (pages : List Page) (lower_numbers : (p : ℕ) → p < length pages → (at pages p).lsn < num) (n q : Node) (downs : List (List Node)) (deep : length downs < 16) (e : Entry)
    (root : n.page ≡ 1) (only : n.items ≡ e ∷ []) (is : e.val ≡ q.page) (ends : q.high ≡ e.key) where
  abbrev lowered : Node
  lowered = record { page = 1; high = n.high; items = q.items }

  abbrev low_row : Rec
  low_row = lower_row (length downs) q.page q.items

  pub lower_tree : Levels pages ((n ∷ []) ∷ (q ∷ []) ∷ downs) → Joined ((n ∷ []) ∷ (q ∷ []) ∷ downs)
      → Levels (redo_record num low_row pages) ((lowered ∷ []) ∷ downs) × Joined ((lowered ∷ []) ∷ downs) × Every (λ z. z.page ≢ q.page)
      ((lowered ∷ []) ∷ downs)
  unfolding Levels Joined Chained ChainOk first_page All Every change change_a flat
  lower_tree lv j =
      let h = lv.0.chained in
      let g = lv.1.0.chained in
      let c = lv.1.0.chain in
      let t : suc n.high ≡ suc top = lv.0.chain.1 in
      let u : suc q.high ≡ suc top = c.1 in
      let ht : n.high ≡ q.high = omega arith in
      let l1 : (at pages 1).level ≡ suc (length downs) = ap (λ p. (at pages p).level) (sym root) ∙ h.2.level in
      let ne : 1 ≢ q.page = λ w. let v = g.2.level in let x : (at pages 1).level ≡ (at pages q.page).level = ap (λ p. (at pages p).level) w in omega arith in
      let hr = h.1 in
      let one_in : 1 < length pages = omega arith in
      let fa = at_role num low_row pages 1 as_a one_in (lower_numbers 1 one_in) (lower_role_a (length downs) q.page q.items) refl (length downs) refl lv.1.0.small.0 deep in
      let len = length_redo_record num low_row pages in
      let od = below_away pages (length downs) q.page downs g.2.level (omega arith) lv.1.1 in (
        (
          record {
            chain = (record { covers = omega arith; rises = c.0.rises; ends = rw ht c.0.ends }, rw ht u);
            chained = (omega arith, omega arith, rw fa (record { kind = refl; level = refl; right = refl; high = ap (λ p. (at pages p).high) (sym root) ∙ h.2.high; items = refl }), tt);
            small = lv.1.0.small;
          },
          below_levels num low_row pages (suc (length downs)) 1 q.page (lower_role_none (length downs) q.page q.items) l1 downs (omega arith) od lv.1.1,
        ),
        joined downs j.1,
        ((ne, tt), od),
      )
    where
      joined : (ds : List (List Node)) → Joined ((q ∷ []) ∷ ds) → Joined ((lowered ∷ []) ∷ ds)
      joined [] j = tt
      joined (d ∷ ds) j = j
