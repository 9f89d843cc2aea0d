-- Of pages whose free ones are of kind 0, left links follow from the pages alone (02, U5): every leaf is reached.
use Prim.Native.Nat.{ℕ, zero, suc, ◌<◌}
use Rattle.std.specs.Prelude.{◌≡◌, ◌≢◌, ◌⊎◌, Bool}
use Rattle.std.proofs.Math.Path.{refl}
use Rattle.std.proofs.Common.{sym, ap, ◌∙◌, inl, inr, arith}
use Rattle.std.proofs.Math.Bool.{true, false}
use mathlib.Core.List.{List, [], ◌∷◌}
use Rattle.std.proofs.Math.ListN.{length, get_or}
use Rattle.std.proofs.Math.Dec.{eqb-suc-zero}
use Rattle.def_base.specs.Tests.{pick, Case, yes!, no!, case, clash}
use Rattle.def_layout.specs.Pages.{Page, page_kind_number, kind_is, at}
use Rattle.def_layout.specs.declared.page.PageKind.TheVariants.{Leaf, Index, Map}
use Rattle.def_model.specs.TreeRules.{Node, levels_of, bottom}
use Rattle.def_model.specs.Links.{relinked}
use Rattle.theory_tree.specs.Shape.Chains.{Chained, All}
use Rattle.theory_tree.specs.Shape.Trees.{Levels}
use Rattle.theory_tree.specs.Shape.Exact.{numbers, reached, In, marked_reached}
use Rattle.theory_tree.specs.Shape.Rules.{Rules}
use Rattle.theory_tree.specs.Shape.LeftLinks.{relinked_any}
use Rattle.theory_fit.specs.Clean.{Clean}

-- A leaf that is reached is in the lowest level.
in_bottom : (pages : List Page) (ls : List (List Node)) → Levels pages ls → (p : ℕ) → In p (reached ls) → kind_is (at pages p).kind Leaf ≡ true → All (λ n. n.page ≢ p) (bottom ls) → ⊥
unfolding Levels reached numbers In bottom All Chained kind_is page_kind_number
in_bottom pages [] lv p i t a = i
in_bottom pages (ns ∷ []) lv p i t a = go ns i a
  where
    go : (ns : List Node) → In p (numbers ns []) → All (λ n. n.page ≢ p) ns → ⊥
    go [] i a = i
    go (n ∷ ns) (inl e) a = a.0 (sym e)
    go (n ∷ ns) (inr i) a = go ns i a.1
in_bottom pages (ns ∷ ms ∷ ls) lv p i t a = go ns lv.0.chained i (λ j. in_bottom pages (ms ∷ ls) lv.1 p j t a)
  where
    go : (ns : List Node) → Chained pages (suc (length ls)) ns 0 → In p (numbers ns (reached (ms ∷ ls))) → (In p (reached (ms ∷ ls)) → ⊥) → ⊥
    go [] c i below = below i
    go (n ∷ ns) c (inl e) below = let k : (at pages p).kind ≡ Index = ap (λ q. (at pages q).kind) e ∙ c.2.kind ∙ ap (λ b. pick b Leaf Index) (eqb-suc-zero (length ls)) in clash (sym (ap (λ q. kind_is q Leaf) (sym k) ∙ t))
    go (n ∷ ns) c (inr i) below = go ns c.3 i below

module _ (pages : List Page) (k : Rules pages (levels_of pages)) (clean : Clean pages) (map : (at pages 0).kind ≡ Map) where
  leaf_reached : (p : ℕ) → p < length pages → kind_is (at pages p).kind Leaf ≡ true → All (λ n. n.page ≢ p) (bottom (levels_of pages)) → ⊥
  unfolding kind_is page_kind_number
  leaf_reached p h t a = go (case (get_or (at pages 0).marks p true))
    where
      wide : (m : List Bool) (q : ℕ) → q < length m → get_or m q false ≡ get_or m q true
      wide [] q h = absurd (omega arith)
      wide (x ∷ m) zero h = refl
      wide (x ∷ m) (suc q) h = wide m q (omega arith)

      by : (p ≡ 0) ⊎ In p (reached (levels_of pages)) → ⊥
      by (inl e) = clash (sym (ap (λ q. kind_is q Leaf) (sym (ap (λ q. (at pages q).kind) e ∙ map)) ∙ t))
      by (inr i) = in_bottom pages (levels_of pages) k.levels p i t a

      go : Case (get_or (at pages 0).marks p true) → ⊥
      go (no! f) = clash (sym (ap (λ q. kind_is q Leaf) (sym (clean p h f)) ∙ t))
      go (yes! f) = let w = k.mapped.wide in by (marked_reached pages (levels_of pages) k p h (wide (at pages 0).marks p (omega arith) ∙ f))

  pub relinked_clean : (ls ms : List ℕ) → relinked pages ls ≡ relinked pages ms
  relinked_clean ls ms = relinked_any pages k leaf_reached ls ms
