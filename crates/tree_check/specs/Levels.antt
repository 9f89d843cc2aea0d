-- The levels walked from the root's down to the leaves', with the pages counted, are the tree rules of the levels below an upper one.
use Rattle.std.specs.Prelude.{◌≡◌, refl, ◌≢◌, Bool, ◌&&◌}
use Rattle.std.proofs.Common.{sym, ap, ◌∙◌, sub-one}
use Prim.Native.Nat.{ℕ, zero, suc, ◌+◌, ◌-◌}
use native.Mathlib.Omega.{arith}
use Rattle.std.proofs.Math.Bool.{true, false}
use mathlib.Core.List.{List, []}
use Rattle.std.proofs.Math.ListN.{length}
use Rattle.std.proofs.Math.Dec.{eqb}
use Rattle.def_base.specs.Tests.{Case, yes!, no!, case, eq_true, clash}
use Rattle.def_layout.specs.declared.Entry.{Entry}
use Rattle.def_layout.specs.Pages.{Page, at}
use Rattle.def_model.specs.TreeRules.{Node, flat, chain, first_child, first_page, collect, level_ok, pages_ok, matches, below_ok, counted, used_pages, least}
use Rattle.tree_check.specs.Under.{met, met_matches, and_false}
use Rattle.tree_check.specs.Level.{level_walk, level_law, level_end, walk_end, walk_out, chain_none, chain_cons}

-- Level l, which page p begins, and those below it; k pages were counted before.
unfoldable pub levels_walk : ℕ → List Page → ℕ → List Entry → ℕ → ℕ → Bool
levels_walk zero pages few es p k =
    level_walk (length pages) pages 0 few p 0 false es && eqb (k + length (chain (length pages) pages p)) (used_pages pages)
levels_walk (suc l) pages few es p k =
    level_walk (length pages) pages (suc l) few p 0 false es
    && levels_walk l pages least (flat (chain (length pages) pages p)) (first_child (at pages p).entries) (k + length (chain (length pages) pages p))

module _ (pages : List Page) (p few : ℕ) where
  -- A level has a page: no chain of none ends with the top key.
  begins : (b x : Bool) (f : ℕ)
      → eqb p (first_page (chain f pages p) 0) && (level_ok b few 0 (chain f pages p) && x) ≡ level_ok b few 0 (chain f pages p) && x
  unfolding chain level_ok first_page
  begins b x zero = and_false (eqb p (first_page [] 0))
  begins b x (suc f) = go (case (eqb p 0))
    where
      go : Case (eqb p 0)
          → eqb p (first_page (chain (suc f) pages p) 0) && (level_ok b few 0 (chain (suc f) pages p) && x) ≡ level_ok b few 0 (chain (suc f) pages p) && x
      go (yes! t) = rw (chain_none pages p (suc f) t) (and_false (eqb p 0))
      go (no! t) = rw (chain_cons pages p f t, eq_true p p refl)

  -- A whole level is walked: the level's rules, and the rule of its entries.
  pub whole_level : (l : ℕ) (es : List Entry)
      → level_walk (length pages) pages l few p 0 false es
      ≡ level_ok (eqb l 0) few 0 (chain (length pages) pages p) && (pages_ok pages l (chain (length pages) pages p) && matches es (chain (length pages) pages p))
  whole_level l es =
      let c : List Node = chain (length pages) pages p in
      level_law pages l few (length pages) p 0 false es
      ∙ begins (eqb l 0) (pages_ok pages l c && met false es c) (length pages)
      ∙ ap (λ (b : Bool). level_ok (eqb l 0) few 0 c && (pages_ok pages l c && b)) (met_matches es c)

last_first : (l p m b c : Bool) → (l && (p && m)) && (b && c) ≡ (m && (l && (p && b))) && c
last_first false p false b c = refl
last_first false p true b c = refl
last_first true false false b c = refl
last_first true false true b c = refl
last_first true true false b c = refl
last_first true true true b c = refl

pub collect_length : (l : ℕ) (pages : List Page) (p : ℕ) → length (collect l pages p) ≡ suc l
unfolding collect
collect_length zero pages p = refl
collect_length (suc l) pages p = ap suc (collect_length l pages (first_child (at pages p).entries))

module _ (pages : List Page) where
  pub below_law : (l : ℕ) (upper : List Node) (p k : ℕ)
      → levels_walk l pages least (flat upper) p (k + 1) ≡ below_ok pages upper (collect l pages p) && eqb (k + counted (collect l pages p)) (used_pages pages)
  unfolding levels_walk collect below_ok counted
  below_law zero upper p k =
      let c : List Node = chain (length pages) pages p in
      let n : k + 1 + length c ≡ k + (length c + 1) = omega arith in
      rw (whole_level pages p least 0 (flat upper), n)
      (last_first (level_ok true least 0 c) (pages_ok pages 0 c) (matches (flat upper) c) true (eqb (k + (length c + 1)) (used_pages pages)))
  below_law (suc l) upper p k =
      let c : List Node = chain (length pages) pages p in
      let q : ℕ = first_child (at pages p).entries in
      let rest : List (List Node) = collect l pages q in
      let n : k + 1 + length c ≡ k + length c + 1 = omega arith in
      let m : k + length c + counted rest ≡ k + (length c + counted rest) = omega arith in
      rw (whole_level pages p least (suc l) (flat upper), n, below_law l c q (k + length c), m, collect_length l pages q)
      (last_first (level_ok (eqb (suc l) 0) least 0 c) (pages_ok pages (suc l) c) (matches (flat upper) c) (below_ok pages c rest) (eqb (k + (length c + counted rest)) (used_pages pages)))

  -- ---- the turns of the walk

  module _ (few : ℕ) (es : List Entry) (p k : ℕ) where
    pub levels_broken : (l : ℕ) → level_walk (length pages) pages l few p 0 false es ≡ false → levels_walk l pages few es p k ≡ false
    unfolding levels_walk
    levels_broken zero e = rw e
    levels_broken (suc l) e = rw e

    pub levels_last : (l : ℕ) → l ≡ 0 → level_walk (length pages) pages l few p 0 false es ≡ true
        → levels_walk l pages few es p k ≡ eqb (k + length (chain (length pages) pages p)) (used_pages pages)
    unfolding levels_walk
    levels_last zero z e = rw e
    levels_last (suc l) z e = absurd (omega arith)

    pub levels_down : (l : ℕ) → l ≢ 0 → level_walk (length pages) pages l few p 0 false es ≡ true
        → levels_walk l pages few es p k
        ≡ levels_walk (l - 1) pages least (flat (chain (length pages) pages p)) (first_child (at pages p).entries) (k + length (chain (length pages) pages p))
    unfolding levels_walk
    levels_down zero z e = absurd (z refl)
    levels_down (suc l) z e = rw (e, sub-one)

-- A level that keeps the rules has a first page, and so the area has one.
module _ (pages : List Page) (l few p : ℕ) (es : List Entry) where
  pub level_first : (f : ℕ) → level_walk f pages l few p 0 false es ≡ true → p ≢ 0
  unfolding level_end
  level_first f e z = clash (sym e ∙ walk_end pages l few p 0 false es f z)

  pub level_fuel : (f : ℕ) → level_walk f pages l few p 0 false es ≡ true → f ≢ 0
  level_fuel f e z = clash (sym e ∙ walk_out pages l few p 0 false es f (level_first f e) z)
