-- RAISE in the whole tree: the root's contents go to a page taken, and the root becomes an index over it and its right sibling.
use Prim.Native.Nat.{ℕ, suc, ◌<◌}
use Rattle.std.specs.Prelude.{◌≡◌, ◌≢◌}
use Rattle.std.proofs.Math.Path.{refl, sym, ap}
use Rattle.std.proofs.Common.{◌∙◌}
use mathlib.Core.List.{List, [], ◌∷◌}
use native.Mathlib.Omega.{arith}
use Rattle.std.proofs.Math.ListN.{length}
use Rattle.std.proofs.Math.Dec.{eqb-suc-zero}
use Rattle.def_layout.specs.Entries.{top, entry}
use Rattle.def_layout.specs.Pages.{Page, at}
use Rattle.def_layout.specs.Records.{Rec, raise_row}
use Rattle.def_model.specs.Change.{as_a, as_c, change_a, change_c, change}
use Rattle.def_model.specs.Fit.{after}
use Rattle.def_model.specs.Redo.{redo_record}
use Rattle.def_model.specs.TreeRules.{Node, flat, first_page}
use Rattle.theory_redo.specs.Area.{length_redo_record}
use Rattle.theory_tree.specs.Order.Keys.{Rising}
use Rattle.theory_tree.specs.Shape.Levels.{done, one, ChainOk}
use Rattle.theory_tree.specs.Shape.Chains.{Chained, All}
use Rattle.theory_tree.specs.Shape.Trees.{Levels, Joined, Every}
use Rattle.theory_tree.specs.Change.Roles.{at_role, at_none, raise_role_a, raise_role_c, raise_role_none}
use Rattle.theory_tree.specs.Change.Frames.{below_levels}

module _ (num : ℕ) (pages : List Page) (lower_numbers : (p : ℕ) → p < length pages → (at pages p).lsn < num) (r s : Node) (downs : List (List Node)) (deep : suc (length downs) < 16) (c : ℕ)
    (root : r.page ≡ 1) (inc : c < length pages) (posc : 0 < c) (out : Every (λ n. n.page ≢ c) ((r ∷ s ∷ []) ∷ downs)) where
  abbrev row : Rec
  row = raise_row (length downs) s.page c r.high r.items

  abbrev old_root : Node
  old_root = record { page = c; high = r.high; items = r.items }

  abbrev new_root : Node
  new_root = record { page = 1; high = top; items = entry r.high c ∷ entry top s.page ∷ [] }

  pub raise_tree : Levels pages ((r ∷ s ∷ []) ∷ downs) → Joined ((r ∷ s ∷ []) ∷ downs)
      → Levels (redo_record num row pages) ((new_root ∷ []) ∷ (old_root ∷ s ∷ []) ∷ downs) × Joined ((new_root ∷ []) ∷ (old_root ∷ s ∷ []) ∷ downs)
  unfolding Levels Joined Chained ChainOk first_page Every All change change_a change_c flat Rising after
  raise_tree lv j =
      let k = lv.0 in
      let h = k.chained in
      let g = k.chain in
      let t : suc s.high ≡ suc top = g.1.1 in
      let v = g.1.0.covers in
      let st : s.high ≡ top = omega arith in
      let rs : s.page ≢ 1 = λ w. let x = h.2.high in let y = h.3.2.high in let z : (at pages s.page).high ≡ (at pages r.page).high = ap (λ p. (at pages p).high) (w ∙ sym root) in omega arith in
      let n1 : c ≢ 1 = λ w. out.0.0 (root ∙ sym w) in
      let hr = h.1 in
      let one_in : 1 < length pages = omega arith in
      let fa = at_role num row pages 1 as_a one_in (lower_numbers 1 one_in) (raise_role_a (length downs) s.page c r.high r.items) refl (suc (length downs)) refl (omega arith) deep in
      let fc = at_role num row pages c as_c inc (lower_numbers c inc) (raise_role_c (length downs) s.page c r.high r.items n1) refl (length downs) refl k.small.0 (omega arith) in
      let hs = h.3.0 in
      let fs = at_none num row pages s.page h.3.1 (raise_role_none (length downs) s.page c r.high r.items s.page rs out.0.1.0 (omega arith)) in
      let len = length_redo_record num row pages in
      let ls = h.3.1 in
      let lev1 : (at pages 1).level ≡ length downs = ap (λ p. (at pages p).level) (sym root) ∙ h.2.level in (
        (
          record {
            chain = rw (eqb-suc-zero (length downs)) (record { covers = omega arith; rises = (omega arith, (omega arith, tt)); ends = refl }, refl);
            chained = (omega arith, omega arith, rw fa (record { kind = refl; level = refl; right = refl; high = refl; items = refl }), tt);
            small = (omega arith, tt);
          },
          (
            record {
              chain = (record { covers = g.0.covers; rises = g.0.rises; ends = g.0.ends }, g.1);
              chained = (
                posc,
                omega arith,
                rw fc (record { kind = refl; level = refl; right = refl; high = refl; items = refl }),
                (hs, omega arith, rw fs h.3.2, tt),
              );
              small = (k.small.0, k.small.1);
            },
            below_levels num row pages (length downs) 1 c (raise_role_none (length downs) s.page c r.high r.items) lev1 downs (omega arith) out.1 lv.1,
          ),
        ),
        (one refl refl (one refl st done), joined downs j),
      )
    where
      joined : (ds : List (List Node)) → Joined ((r ∷ s ∷ []) ∷ ds) → Joined ((old_root ∷ s ∷ []) ∷ ds)
      joined [] j = tt
      joined (d ∷ ds) j = j
