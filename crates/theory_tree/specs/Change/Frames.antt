-- A record that touches one level of the tree leaves the others as they are.
use Prim.Native.Nat.{ℕ, suc, ◌+◌, ◌≤◌}
use Rattle.std.specs.Prelude.{◌≡◌, ◌≢◌}
use Rattle.std.proofs.Math.Path.{sym, ap}
use Rattle.std.proofs.Common.{◌∙◌, arith}
use mathlib.Core.List.{List, [], ◌∷◌, ◌++◌}
use Rattle.std.proofs.Math.ListN.{length, length-append}
use Rattle.def_layout.specs.Pages.{Page, at}
use Rattle.def_layout.specs.Records.{Rec}
use Rattle.def_model.specs.Change.{role}
use Rattle.def_model.specs.Change
use Rattle.def_model.specs.Redo.{redo_record}
use Rattle.def_model.specs.TreeRules.{Node}
use Rattle.theory_redo.specs.Area.{length_redo_record}
use Rattle.theory_tree.specs.Shape.Chains.{Chained, All, chained_frame}
use Rattle.theory_tree.specs.Shape.Trees.{LevelOk, Levels, Every}
use Rattle.theory_tree.specs.Change.Roles.{at_none}

module _ (num : ℕ) (r : Rec) (pages : List Page) (l a b : ℕ)
    (untouched : (p : ℕ) → p ≢ a → p ≢ b → p ≢ 0 → role r p ≡ Change.none) (here : (at pages a).level ≡ l) where
  stay : (m : ℕ) → m ≢ l → (ns : List Node) (next : ℕ) → Chained pages m ns next → All (λ n. n.page ≢ b) ns
      → All (λ n. at (redo_record num r pages) n.page ≡ at pages n.page) ns
  unfolding All Chained
  stay m d [] next c f = tt
  stay m d (n ∷ ns) next c f =
      let k = c.0 in
      let v = c.2.level in (
        at_none num r pages n.page c.1 (untouched n.page (λ e. d (sym v ∙ ap (λ p. (at pages p).level) e ∙ here)) f.0 (omega arith)),
        stay m d ns next c.3 f.1,
      )

  -- A level of another number stays.
  pub other_level : (m : ℕ) (ns : List Node) → m ≢ l → All (λ n. n.page ≢ b) ns → LevelOk pages m ns → LevelOk (redo_record num r pages) m ns
  other_level m ns d f c =
      record { chain = c.chain; small = c.small; chained = chained_frame pages (redo_record num r pages) m ns 0 (length_redo_record num r pages) (stay m d ns 0 c.chained f) c.chained }

  pub below_levels : (ls : List (List Node)) → length ls ≤ l → Every (λ n. n.page ≢ b) ls → Levels pages ls → Levels (redo_record num r pages) ls
  unfolding Levels Every
  below_levels [] k f c = tt
  below_levels (ns ∷ ls) k f c = (other_level (length ls) ns (omega arith) f.0 c.0, below_levels ls (omega arith) f.1 c.1)

  -- One level is rewritten, the others stay.
  pub levels_swap : (ups : List (List Node)) (old new : List Node) (downs : List (List Node)) → length downs ≡ l
      → Every (λ n. n.page ≢ b) ups → Every (λ n. n.page ≢ b) downs
      → (LevelOk pages l old → LevelOk (redo_record num r pages) l new) → Levels pages (ups ++ old ∷ downs)
      → Levels (redo_record num r pages) (ups ++ new ∷ downs)
  unfolding Levels Every
  levels_swap [] old new downs e fu fd g c = (rw e (g (rw e at c.0)), below_levels downs (omega arith) fd c.1)
  levels_swap (u ∷ ups) old new downs e fu fd g c =
      let i : length (ups ++ new ∷ downs) ≡ length (ups ++ old ∷ downs) = length-append ups (new ∷ downs) ∙ sym (length-append ups (old ∷ downs)) in
      let n : length (ups ++ old ∷ downs) ≡ length ups + suc (length downs) = length-append ups (old ∷ downs) in (
        rw i (other_level (length (ups ++ old ∷ downs)) u (omega arith) fu.0 c.0),
        levels_swap ups old new downs e fu.1 fd g c.1,
      )
