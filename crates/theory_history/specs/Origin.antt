-- WHERE A HISTORY STARTS: pages before the first record, and the slides that they hold.
use Rattle.std.specs.Prelude.{ℕ, ◌≤◌, ◌<◌, ◌≡◌, true, List, length}
use Rattle.std.proofs.Common.{sym, ◌∙◌, arith}
use Rattle.std.proofs.Math.Path.{ap, subst}
use Rattle.std.proofs.Math.Decide.{dec_lt}
use Rattle.def_layout.specs.declared.Entry.{Entry}
use Rattle.def_layout.specs.Numbers.{tab}
use Rattle.def_layout.specs.Pages.{Page, at, zero_page, map_bits}
use Rattle.def_model.specs.TreeRules.{Node, tree_ok, levels_of, leaves, leaf_records}
use Rattle.law_bytes.specs.Tables.{tab_length, getD_tab, getD_tab_past}
use Rattle.law_bytes.specs.PageBytes.{BodyFits, Fits as PageFits}
use Rattle.theory_redo.specs.Grown.{Extends, ZerosBeyond}
use Rattle.theory_tree.specs.Order.Keys.{Rising}
use Rattle.theory_tree.specs.Step.Parts.{Lows}
use Rattle.theory_tree.specs.Shape.Rules.{Rules, pages_pos}
use Rattle.theory_tree.specs.Test.Test.{test_sound, test_complete, rules_levels}
use Rattle.theory_fit.specs.Clean.{Clean}
use Rattle.theory_pages.specs.Layout.{Laid, map_laid}
use Rattle.theory_pages.specs.Growth.{rules_grow, laid_grow, clean_grow}

-- Page p before the first record, for every p. The first of them, as many as it needs, keep the tree rules and the layout; the unused ones are free, no
-- record was done to any, and the leaves hold the slides. After them come zero pages, so that its laws hold of more pages too (below).
pub record Origin : Type 0 where
  pub base : ℕ → Page
  pub least : ℕ
  pub slides : List Entry
  pub tree : tree_ok (tab least base) ≡ true
  pub laid : Laid (tab least base)
  pub clean : Clean (tab least base)
  pub held : leaf_records (tab least base) ≡ slides
  pub rising : Rising 0 slides
  pub numbers : (p : ℕ) → (base p).lsn ≡ 0
  pub fits : (p : ℕ) → PageFits (base p)
  pub beyond : (p : ℕ) → least ≤ p → base p ≡ zero_page

-- Its first n pages.
abbrev pub origin_pages : Origin → ℕ → List Page
origin_pages o n = tab n o.base

pub origin_length : (o : Origin) (n : ℕ) → length (origin_pages o n) ≡ n
origin_length o n = tab_length n o.base

pub origin_page : (o : Origin) (n p : ℕ) → p < n → at (origin_pages o n) p ≡ o.base p
origin_page o n p h = getD_tab n p o.base zero_page h

-- A map and a root.
pub two_pages : (o : Origin) → 2 ≤ o.least
two_pages o =
    let e = origin_length o o.least in
    let p = pages_pos (origin_pages o o.least) (levels_of (origin_pages o o.least)) (test_sound (origin_pages o o.least) o.tree) in
    omega arith

pub origin_lows : (o : Origin) (p : ℕ) → (o.base p).lsn < 1
origin_lows o p = let z = o.numbers p in omega arith

module _ (o : Origin) (n : ℕ) (least : o.least ≤ n) where
  -- Page by page, past the last one too.
  pub origin_at : (p : ℕ) → at (origin_pages o n) p ≡ o.base p
  origin_at p = go (dec_lt p n)
    where
      go : Dec (p < n) → at (origin_pages o n) p ≡ o.base p
      go (yes h) = origin_page o n p h
      go (no h) = getD_tab_past n p o.base zero_page (omega arith) ∙ sym (o.beyond p (omega arith))

  pub pages_low : Lows 1 (origin_pages o n)
  pages_low p h = subst (λ x. x.lsn < 1) (sym (origin_at p)) (origin_lows o p)

pub origin_extends : (o : Origin) (n m : ℕ) → o.least ≤ n → n ≤ m → Extends (origin_pages o n) (origin_pages o m)
origin_extends o n m least longer =
    let a = origin_length o n in
    let b = origin_length o m in
    let t = two_pages o in
    record { some_pages = omega arith; longer = omega arith; same = λ p h. origin_at o m (omega arith) p ∙ sym (origin_at o n least p) }

-- ---- the laws, of as many pages as there are

module _ (o : Origin) where
  -- The levels of its tree.
  pub origin_levels : List (List Node)
  origin_levels = levels_of (origin_pages o o.least)

  -- The map has a bit for every page there may be.
  wide : length (at (origin_pages o o.least) 0).marks ≡ map_bits
  unfolding BodyFits
  wide =
      let t = two_pages o in
      let e = origin_length o o.least in
      let m = map_laid (length (origin_pages o o.least)) (at (origin_pages o o.least) 0) (o.laid 0 (omega arith)) in
      let f : PageFits (at (origin_pages o o.least) 0) = subst PageFits (sym (origin_at o o.least (omega arith) 0)) (o.fits 0) in
      (subst (λ k. BodyFits k (at (origin_pages o o.least) 0)) m.kind f.body).marks

  module _ (n : ℕ) (least : o.least ≤ n) where
    zeros : ZerosBeyond (length (origin_pages o o.least)) (origin_pages o n)
    zeros p h = let e = origin_length o o.least in origin_at o n least p ∙ o.beyond p (omega arith)

    pub origin_laid : Laid (origin_pages o n)
    origin_laid = laid_grow (origin_pages o o.least) (origin_pages o n) (origin_extends o o.least n (omega arith) least) zeros o.laid

    pub origin_clean : Clean (origin_pages o n)
    origin_clean = clean_grow (origin_pages o o.least) (origin_pages o n) (origin_extends o o.least n (omega arith) least) zeros o.clean

    module _ (most : n ≤ map_bits) where
      pub origin_rules : Rules (origin_pages o n) origin_levels
      unfolding origin_levels
      origin_rules =
          let t = two_pages o in
          let a = origin_length o o.least in
          let b = origin_length o n in
          let w = wide in
          let m = map_laid (length (origin_pages o o.least)) (at (origin_pages o o.least) 0) (o.laid 0 (omega arith)) in
          rules_grow (origin_pages o o.least) (origin_pages o n) (origin_extends o o.least n (omega arith) least) origin_levels (omega arith) m.spare (test_sound (origin_pages o o.least) o.tree)

      pub origin_tree : tree_ok (origin_pages o n) ≡ true
      origin_tree = test_complete (origin_pages o n) origin_levels origin_rules

      pub levels_are : levels_of (origin_pages o n) ≡ origin_levels
      levels_are = rules_levels (origin_pages o n) origin_levels origin_rules

      pub origin_held : leaf_records (origin_pages o n) ≡ o.slides
      unfolding origin_levels leaf_records
      origin_held = ap leaves levels_are ∙ o.held
