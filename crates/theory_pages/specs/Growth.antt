-- AREAS THAT GROW BY ZERO PAGES keep the rules, the layout, and the lawfulness of the log.
use Rattle.std.specs.Prelude.{ℕ, zero, suc, ◌≤◌, ◌<◌, ◌≡◌, refl, Bool, true, false, length, get_or, take, drop}
use Rattle.std.proofs.Common.{sym, ap, ◌∙◌}
use Rattle.std.proofs.Math.Path.{subst}
use mathlib.Core.List.{List, [], ◌∷◌}
use native.Mathlib.Omega.{arith}
use Rattle.std.proofs.Math.Decide.{dec_le}
use Rattle.def_base.specs.Tests.{clash, any}
use Rattle.def_layout.specs.Pages.{Page, at, layout}
use Rattle.def_layout.specs.declared.page.PageKind.TheVariants.{Free}
use Rattle.def_layout.specs.Records.{Rec}
use Rattle.def_model.specs.Redo.{redo_record}
use Rattle.def_model.specs.TreeRules.{Node, first_page, ones}
use Rattle.theory_redo.specs.Grown.{Extends, ZerosBeyond, extends_record}
use Rattle.theory_tree.specs.Shape.Chains.{IsNode, Chained}
use Rattle.theory_tree.specs.Shape.Trees.{Levels}
use Rattle.theory_tree.specs.Shape.Marks.{Gives}
use Rattle.theory_tree.specs.Shape.Rules.{Marked, every_map, Rules}
use Rattle.theory_tree.specs.Step.Steps.{Step, splits, links, unlinks, merges, shares, raises, lowers, puts, cuts, notes}
use Rattle.theory_tree.specs.Step.Parts.{Lows}
use Rattle.theory_update.specs.Run.Lawful.{Lawful, here, next}
use Rattle.theory_fit.specs.Clean.{Clean}
use Rattle.theory_pages.specs.Layout.{Laid, never_used_layout, longer_layout}

-- ---- spare marks

-- Marks that are clear are not counted.
no_marks : (k : ℕ) (m : List Bool) → any (λ b. b) m ≡ false → ones (take k m) ≡ 0
unfolding any ones
no_marks zero m e = refl
no_marks (suc k) [] e = refl
no_marks (suc k) (true ∷ m) e = clash e
no_marks (suc k) (false ∷ m) e = no_marks k m e

ones_spare : (n k : ℕ) (m : List Bool) → n ≤ k → any (λ b. b) (drop n m) ≡ false → ones (take k m) ≡ ones (take n m)
unfolding ones
ones_spare zero k m h e = no_marks k m e
ones_spare (suc n) zero m h e = absurd (omega arith)
ones_spare (suc n) (suc k) [] h e = refl
ones_spare (suc n) (suc k) (true ∷ m) h e = ap suc (ones_spare n k m (omega arith) e)
ones_spare (suc n) (suc k) (false ∷ m) h e = ones_spare n k m (omega arith) e

module _ (pages pages' : List Page) (grows : Extends pages pages') where
  marks_same : (at pages' 0).marks ≡ (at pages 0).marks
  marks_same = ap (λ x. x.marks) (grows.same 0 grows.some_pages)

  chained_grow : (l : ℕ) (ns : List Node) (to : ℕ) → Chained pages l ns to → Chained pages' l ns to
  unfolding Chained
  chained_grow l [] to h = tt
  chained_grow l (n ∷ ns) to h =
      let a = h.1 in
      let b = grows.longer in
      (h.0, omega arith, subst (λ x. IsNode x l (first_page ns to) n) (sym (grows.same n.page h.1)) h.2, chained_grow l ns to h.3)

  levels_grow : (ls : List (List Node)) → Levels pages ls → Levels pages' ls
  unfolding Levels
  levels_grow [] lv = tt
  levels_grow (ns ∷ ls) lv = (record { chain = lv.0.chain; chained = chained_grow (length ls) ns 0 lv.0.chained; small = lv.0.small }, levels_grow ls lv.1)

  -- THE RULES, where the map has bits for the new pages, and they are clear.
  pub rules_grow : (ls : List (List Node)) → length pages' ≤ length (at pages 0).marks
      → any (λ b. b) (drop (length pages) (at pages 0).marks) ≡ false → Rules pages ls → Rules pages' ls
  rules_grow ls w spare k =
      let m = marks_same in
      let c = k.mapped.count in
      record {
        levels = levels_grow ls k.levels;
        joined = k.joined;
        sizes = k.sizes;
        rooted = k.rooted;
        mapped = record {
          wide = subst (λ z. length pages' ≤ length z) (sym m) w;
          itself = ap (λ z. get_or z 0 false) m ∙ k.mapped.itself;
          marked = every_map (Marked pages) (Marked pages') (λ n u. ap (λ z. get_or z n.page false) m ∙ u) ls k.mapped.marked;
          count = c ∙ sym (ones_spare (length pages) (length pages') (at pages 0).marks grows.longer spare) ∙ ap (λ z. ones (take (length pages') z)) (sym m);
        };
      }

  -- A page that is free stays so.
  gives_grow : (b : ℕ) → Gives (length pages) (at pages 0).marks b → Gives (length pages') (at pages' 0).marks b
  gives_grow b g = let a = g.inside in let l = grows.longer in record { inside = omega arith; is_free = ap (λ z. get_or z b true) marks_same ∙ g.is_free }

  pub step_grow : (ls ls' : List (List Node)) (r : Rec) → Step pages ls r ls' → Step pages' ls r ls'
  step_grow ls ls' r (splits ups xs n ys downs b key moved s full seven d g pos) = splits ups xs n ys downs b key moved s full seven d (gives_grow b g) pos
  step_grow ls ls' r (links ups xs p ys bs q t cs downs pre e post old space v l h m₁ m₂) = links ups xs p ys bs q t cs downs pre e post old space v l h m₁ m₂
  step_grow ls ls' r (unlinks ups xs p ys bs q t cs downs pre e₁ e₂ post old v₁ k₁ v₂ k₂ qr m₁ m₂ fit) = unlinks ups xs p ys bs q t cs downs pre e₁ e₂ post old v₁ k₁ v₂ k₂ qr m₁ m₂ fit
  step_grow ls ls' r (merges ups u bs q t cs downs es e fs w v h m₁ m₂ space) = merges ups u bs q t cs downs es e fs w v h m₁ m₂ space
  step_grow ls ls' r (shares ups u bs q t cs downs es e fs key moved w v h m₁ m₂ s z₁ z₂) = shares ups u bs q t cs downs es e fs key moved w v h m₁ m₂ s z₁ z₂
  step_grow ls ls' r (raises a s downs c g pos) = raises a s downs c (gives_grow c g) pos
  step_grow ls ls' r (lowers n q downs e root only is ends) = lowers n q downs e root only is ends
  step_grow ls ls' r (puts kind batch previous key v ups xs n ys a low within absent space) = puts kind batch previous key v ups xs n ys a low within absent space
  step_grow ls ls' r (cuts kind batch previous key v u ups xs n ys a low within there fit) = cuts kind batch previous key v u ups xs n ys a low within there fit
  step_grow ls ls' r (notes kind batch previous q) = notes kind batch previous q

  module _ (zeros : ZerosBeyond (length pages) pages') where
    pub clean_grow : Clean pages → Clean pages'
    clean_grow c p h f = go (dec_le (suc p) (length pages))
      where
        go : Dec (p < length pages) → (at pages' p).kind ≡ Free
        go (yes i) = ap (λ x. x.kind) (grows.same p i) ∙ c p i (ap (λ z. get_or z p true) (sym marks_same) ∙ f)
        go (no i) = ap (λ x. x.kind) (zeros p (omega arith))

    pub lows_grow : (n : ℕ) → Lows (suc n) pages → Lows (suc n) pages'
    lows_grow n l p h = go (dec_le (suc p) (length pages))
      where
        go : Dec (p < length pages) → (at pages' p).lsn < suc n
        go (yes i) = subst (λ x. x.lsn < suc n) (sym (grows.same p i)) (l p i)
        go (no i) = subst (λ x. x.lsn < suc n) (sym (zeros p (omega arith))) (omega arith)

    -- Only the map's layout looks at the number of pages.
    pub laid_grow : Laid pages → Laid pages'
    laid_grow l p h = go (dec_le (suc p) (length pages))
      where
        go : Dec (p < length pages) → layout (length pages') p (at pages' p) ≡ true
        go (no i) = subst (λ x. layout (length pages') p x ≡ true) (sym (zeros p (omega arith))) (never_used_layout (length pages') p (let s = grows.some_pages in omega arith))
        go (yes i) = subst (λ x. layout (length pages') p x ≡ true) (sym (grows.same p i)) (longer_layout (length pages) (length pages') p (at pages p) grows.longer (l p i))

-- ---- a lawful log

pub lawful_grow : {n : ℕ} {pages : List Page} {ls ls' : List (List Node)} {rs : List Rec} → Lawful n pages ls rs ls' → (pages' : List Page)
    → Extends pages pages' → Lawful n pages' ls rs ls'
lawful_grow here pages' e = here
lawful_grow {n} {pages} {ls} (next {ls₁ = ls₁} {r = r} j h) pages' e = next (step_grow pages pages' e ls ls₁ r j) (lawful_grow h (redo_record n r pages') (extends_record n r pages pages' e))
