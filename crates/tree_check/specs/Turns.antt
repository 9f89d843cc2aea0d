-- What holds as the walk goes on, and what it means when it is left: the turns of its two loops.
use Rattle.std.specs.Prelude.{◌≡◌, ◌≢◌, ℕ, suc, ◌+◌, ◌-◌, ◌<◌, Bool, true, false, ◌&&◌, length, take}
use Rattle.std.proofs.Math.Path.{sym, ap}
use Rattle.std.proofs.Common.{ap₂, ◌∙◌, arith}
use mathlib.Core.List.{List}
use Rattle.std.proofs.Math.Dec.{eqb}
use Rattle.def_layout.specs.declared.Entry.{Entry}
use Rattle.def_layout.specs.Entries.{top}
use Rattle.def_layout.specs.Pages.{Page, at}
use Rattle.codec_page.specs.declared.Page as program
use Rattle.codec_page.specs.Typed.{typed}
use Rattle.def_model.specs.TreeRules.{chain, flat, first_child, walk_ok, used_pages, ones}
use Rattle.tree_check.specs.Under.{stands, due_after, left_after, all_met}
use Rattle.tree_check.specs.Level.{visit, page_fits, level_walk, level_end, walk_end, walk_out, walk_broken, walk_astray, walk_on, count_end, count_on}
use Rattle.tree_check.specs.Levels.{levels_walk, levels_broken, levels_last, levels_down, level_first, level_fuel}
use Rattle.tree_check.specs.Rules.{root_few, above_root, walk_law}
use Rattle.tree_check.specs.declared.Above.{Above}
use Rattle.tree_check.specs.Above.{shown, rest, flat_none, Readied, Passed, Started, stands_rest, met_rest, passed_due, passed_rest, begun}

-- As a level begins: the walk from it down decides.
pub record Begun (pages : List Page) (level few count : ℕ) (above : Above) : Type 0 where
  pub whole : walk_ok pages ≡ levels_walk level pages few (rest pages above) (first_child (shown above)) count
  pub clear : above.due ≡ false

-- Along a level that `first` begins: the walk of what is left of it decides it, and what is left is still to be counted.
pub record Going (pages : List Page) (level few count₀ first : ℕ) (above₀ : Above) (count p from left : ℕ) (above : Above) : Type 0 where
  pub whole : walk_ok pages ≡ levels_walk level pages few (rest pages above₀) first count₀
  pub part : level_walk (length pages) pages level few first 0 false (rest pages above₀) ≡ level_walk left pages level few p from above.due (rest pages above)
  pub counted : count + length (chain left pages p) ≡ count₀ + length (chain (length pages) pages first)

-- ---- the beginnings

pub root_begun : (pages : List Page) (x : program.Page) (few : ℕ) (above : Above) → typed x ≡ at pages 1 → few ≡ root_few (typed x)
    → (shown above ≡ above_root) × (above.next ≡ 0) × (above.due ≡ false) → Begun pages x.level few 1 above
unfolding first_child typed
root_begun pages x few above t f k =
    let l : x.level ≡ (at pages 1).level = ap (λ (y : Page). y.level) t in
    let g : few ≡ root_few (at pages 1) = f ∙ ap root_few t in
    let r : rest pages above ≡ above_root = rw (k.0, flat_none pages above.left above.next k.1) in
    record { whole = rw (l, g, r, k.0) (sym (walk_law pages)); clear = k.2 }

pub level_begun : (pages : List Page) (level few count n first : ℕ) (above : Above) → length pages ≡ n → Begun pages level few count above → first ≡ first_child (shown above)
    → Going pages level few count first above count first 0 n above
level_begun pages level few count n first above size b f =
    record {
      whole = b.whole ∙ ap (λ (p : ℕ). levels_walk level pages few (rest pages above) p count) (sym f);
      part = ap₂ (λ (k : ℕ) (d : Bool). level_walk k pages level few first 0 d (rest pages above)) size (sym b.clear);
      counted = ap (λ (k : ℕ). count + length (chain k pages first)) (sym size);
    }

-- ---- a page

module _ (pages : List Page) (level few count₀ first : ℕ) (above₀ : Above) (count p from left : ℕ) (above : Above)
    (g : Going pages level few count₀ first above₀ count p from left above) where
  -- A level whose walk fails is the end of the whole.
  fails : level_walk left pages level few p from above.due (rest pages above) ≡ false → false ≡ walk_ok pages
  fails e = sym (g.whole ∙ levels_broken pages few (rest pages above₀) first count₀ level (g.part ∙ e))

  module _ (n : p ≢ 0) where
    pub too_long : left ≡ 0 → false ≡ walk_ok pages
    too_long z = fails (walk_out pages level few p from above.due (rest pages above) left n z)

    module _ (x : program.Page) (t : typed x ≡ at pages p) (m : List Bool) (size : ℕ) (s : length pages ≡ size) (e : (at pages 0).marks ≡ m) where
      fits : (b : Bool) → page_fits size m level few from p (typed x) ≡ b → visit pages level few from p ≡ b
      fits b f = rw (s, e, ← t) f

      pub not_fit : page_fits size m level few from p (typed x) ≡ false → false ≡ walk_ok pages
      not_fit b = fails (walk_broken pages level few p from above.due (rest pages above) left n (fits false b))

      module _ (r : Above) (q : Readied pages above r) where
        high_is : x.high ≡ (at pages p).high
        unfolding typed
        high_is = ap (λ (y : Page). y.high) t

        right_is : x.right ≡ (at pages p).right
        unfolding typed
        right_is = ap (λ (y : Page). y.right) t

        under : (b : Bool) → stands r.due (shown r) p x.high ≡ b → stands above.due (rest pages above) p (at pages p).high ≡ b
        under b f =
            ap₂ (λ (d : Bool) (es : List Entry). stands d es p (at pages p).high) (sym q.1) (sym q.0)
            ∙ ap (λ (h : ℕ). stands r.due (rest pages r) p h) (sym high_is)
            ∙ sym (stands_rest pages r q.2 p x.high) ∙ f

        pub not_under : stands r.due (shown r) p x.high ≡ false → false ≡ walk_ok pages
        not_under f = fails (walk_astray pages level few p from above.due (rest pages above) left n (under false f))

        pub goes_on : left ≢ 0 → page_fits size m level few from p (typed x) ≡ true → stands r.due (shown r) p x.high ≡ true
            → (d : Above) → r.place < r.count → Passed r x.high d
            → Going pages level few count₀ first above₀ (count + 1) x.right (x.high + 1) (left - 1) d
        goes_on z b f d w k =
            let due : due_after (rest pages above) (at pages p).high ≡ d.due =
            sym (passed_due pages r d x.high w k ∙ rw (q.0, high_is)) in
            let es : left_after (rest pages above) (at pages p).high ≡ rest pages d =
            sym (passed_rest pages r d x.high w k ∙ rw (q.0, high_is)) in
            record {
              whole = g.whole;
              part =
                  g.part
                  ∙ walk_on pages level few p from above.due (rest pages above) left n z (fits true b) (under true f)
                  ∙ rw (due, es, high_is, right_is);
              counted =
                  let c : length (chain left pages p) ≡ length (chain (left - 1) pages x.right) + 1 =
                  count_on pages level few p from above.due (rest pages above) left n z ∙ rw right_is in
                  let h = g.counted in
                  omega arith;
            }

  -- ---- the level's end

  module _ (z : p ≡ 0) (r : Above) (q : Readied pages above r) where
    at_end : level_walk left pages level few p from above.due (rest pages above) ≡ level_end from r.due (shown r)
    unfolding level_end
    at_end =
        walk_end pages level few p from above.due (rest pages above) left z
        ∙ ap (λ (b : Bool). eqb from (suc top) && b) (ap₂ (λ (d : Bool) (es : List Entry). all_met d es) (sym q.1) (sym q.0) ∙ sym (met_rest pages r q.2))

    pub not_ended : level_end from r.due (shown r) ≡ false → false ≡ walk_ok pages
    not_ended e = fails (at_end ∙ e)

    module _ (t : level_end from r.due (shown r) ≡ true) where
      ended : level_walk (length pages) pages level few first 0 false (rest pages above₀) ≡ true
      ended = g.part ∙ at_end ∙ t

      all_counted : count₀ + length (chain (length pages) pages first) ≡ count
      all_counted = let h = g.counted in omega (arith, count_end pages level few p from above.due (rest pages above) left z)

      pub judged : (n : ℕ) (m : List Bool) (u : ℕ) → level ≡ 0 → length pages ≡ n → (at pages 0).marks ≡ m → u ≡ ones (take n m) → eqb count u ≡ walk_ok pages
      judged n m u v s e k =
          let used : u ≡ used_pages pages = k ∙ rw (s, e) in
          sym (g.whole ∙ levels_last pages few (rest pages above₀) first count₀ level v ended ∙ rw (all_counted, used))

      pub has_pages : length pages ≢ 0
      has_pages = level_fuel pages level few first (rest pages above₀) (length pages) ended

      pub goes_down : (n : ℕ) (b : Above) → level ≢ 0 → length pages ≡ n → Started pages first (n - 1) false b → Begun pages (level - 1) 4 count b
      goes_down n b v s k =
          let f : first ≢ 0 = level_first pages level few first (rest pages above₀) (length pages) ended in
          let e : rest pages b ≡ flat (chain (length pages) pages first) = rw s (begun pages first n b f (λ o. has_pages (s ∙ o)) k) in
          record {
            whole = g.whole ∙ levels_down pages few (rest pages above₀) first count₀ level v ended ∙ rw (all_counted, e, k.0);
            clear = k.3;
          }
