-- What one page has to keep, test by test, in the program's numbers: its number, its kind and level, its mark and its entries.
use Rattle.std.specs.Prelude.{◌≡◌, ◌≢◌, Bool, true, false, ◌&&◌, length, get_or, drop, leb, ltb, eqb}
use Rattle.std.proofs.Math.Path.{refl, sym, ap}
use Rattle.std.proofs.Common.{◌∙◌}
use Prim.Native.Nat.{ℕ, suc, ◌+◌, ◌-◌, ◌<◌, ◌≤◌}
use Rattle.std.proofs.Math.Numerals.{add-one}
use native.Mathlib.Omega.{arith}
use mathlib.Core.List.{List, [], ◌∷◌, ◌++◌}
use Rattle.def_base.specs.Tests.{lt_true, lt_false, le_true, le_false, eq_true, neq_false}
use Rattle.def_layout.specs.declared.Entry.{Entry}
use Rattle.def_layout.specs.Entries.{entry_at, key_at}
use Rattle.def_layout.specs.Sizes.{room}
use Rattle.def_layout.specs.Numbers.{tab}
use Rattle.def_layout.specs.declared.page.PageKind.TheVariants.{Map}
use Rattle.def_layout.specs.Pages.{Page, at, kind_is, kind_at}
use Rattle.law_bytes.specs.Tables.{tab_length, getD_tab}
use Rattle.law_bytes.specs.EntryBytes.{used}
use Rattle.codec_entries.specs.Turns.{used_cons, used_rest_none}
use Rattle.codec_page.specs.declared.Page as program
use Rattle.codec_page.specs.Typed.{typed, map_mark, used_marks_node}
use Rattle.codec_page.specs.Shown.{typed_marks}
use Rattle.codec_map.specs.Turns.{marks}
use Rattle.def_model.specs.Fit.{after}
use Rattle.def_model.specs.TreeRules.{rising, ends_ok, node_ok, walk_ok, tree_ok}
use Rattle.tree_check.specs.Under.{and_false}
use Rattle.tree_check.specs.Level.{node, reached, page_fits}
use Rattle.tree_check.specs.Rules.{no_map, map_unmarked, map_marked}

-- ---- a page that the walk may reach

module _ (n : ℕ) (m : List Bool) (l p : ℕ) (x : Page) where
  pub off_zero : p ≡ 0 → false ≡ reached n m l p x
  unfolding reached
  off_zero e = sym (rw (lt_false 0 p (omega arith)))

  pub off_area : n ≤ p → false ≡ reached n m l p x
  unfolding reached
  off_area h = sym (rw (lt_false p n h) (and_false (ltb 0 p)))

  pub off_kind : kind_is x.kind (kind_at l) ≡ false → false ≡ reached n m l p x
  unfolding reached
  off_kind e = sym (rw (e, and_false (ltb p n)) (and_false (ltb 0 p)))

  pub off_level : x.level ≢ l → false ≡ reached n m l p x
  unfolding reached
  off_level e = sym (rw (neq_false e, and_false (kind_is x.kind (kind_at l)), and_false (ltb p n)) (and_false (ltb 0 p)))

  pub by_mark : p ≢ 0 → p < n → kind_is x.kind (kind_at l) ≡ true → x.level ≡ l → get_or m p false ≡ reached n m l p x
  unfolding reached
  by_mark z h k e = sym (rw (lt_true 0 p (omega arith), lt_true p n h, k, eq_true x.level l e))

  -- Both of what is asked of a page: whether it may be reached, and its own rules.
  module _ (few from : ℕ) where
    pub fits_not : reached n m l p x ≡ false → false ≡ page_fits n m l few from p x
    unfolding page_fits
    fits_not e = sym (rw e)

    pub fits_by : reached n m l p x ≡ true → node_ok (eqb l 0) few from (node 0 x) ≡ page_fits n m l few from p x
    unfolding page_fits node_ok
    fits_by e = sym (rw e)

pub mark_of : (es : List Entry) (p : ℕ) → p < 896 → map_mark es p ≡ get_or (marks es) p false
mark_of es p h = sym (getD_tab 896 p (map_mark es) false h)

-- ---- the entries in use

module _ (es : List Entry) (n : ℕ) where
  pub rising_more : (i from : ℕ) → i < n → from ≤ key_at es i → rising from (drop i (used n es)) ≡ rising (key_at es i + 1) (drop (i + 1) (used n es))
  unfolding rising
  rising_more i from h l = rw (used_cons es n i h, rising, le_true from (key_at es i) l, add-one (key_at es i))

  pub rising_off : (i from : ℕ) → i < n → key_at es i < from → rising from (drop i (used n es)) ≡ false
  unfolding rising
  rising_off i from h l = rw (used_cons es n i h, rising, le_false from (key_at es i) l)

  pub rising_none : (i from : ℕ) → n ≤ i → rising from (drop i (used n es)) ≡ true
  unfolding rising
  rising_none i from h = rw (used_rest_none es n i h)

  pub after_none : (from : ℕ) → n ≡ 0 → from ≡ after from (used n es)
  unfolding after tab
  after_none from e = sym (rw e)

  pub after_last : (from : ℕ) → n ≢ 0 → key_at es (n - 1) + 1 ≡ after from (used n es)
  unfolding tab after
  after_last from o =
      let z : n ≡ suc (n - 1) = omega arith in
      add-one (key_at es (n - 1)) ∙ sym (ap (λ (k : ℕ). after from (used k es)) z ∙ snoc from (tab (n - 1) (entry_at es)) (entry_at es (n - 1)))
    where
      snoc : (from : ℕ) (l : List Entry) (e : Entry) → after from (l ++ e ∷ []) ≡ suc e.key
      snoc from [] e = refl
      snoc from (f ∷ l) e = snoc (suc f.key) l e

-- ---- the page's own rules

leaf_end : (l a h : ℕ) → l ≡ 0 → leb a (h + 1) ≡ ends_ok (eqb l 0) a h
unfolding ends_ok
leaf_end l a h e = sym (rw (e, add-one h))

index_end : (l a h : ℕ) → l ≢ 0 → eqb a (h + 1) ≡ ends_ok (eqb l 0) a h
unfolding ends_ok
index_end l a h n = sym (rw (neq_false n, add-one h))

and_on : (a : Bool) → a && true ≡ a
and_on true = refl
and_on false = refl

module _ (x : program.Page) (l few from m : ℕ) (is : (typed x).entries ≡ used m x.entries) where
  abbrev pub keeps : Bool
  keeps = node_ok (eqb l 0) few from (node 0 (typed x))

  abbrev rises : Bool
  rises = rising from (typed x).entries

  abbrev ends : Bool
  ends = ends_ok (eqb l 0) (after from (typed x).entries) (typed x).high

  abbrev starts : Bool
  starts = leb from (typed x).high

  size : length (typed x).entries ≡ m
  size = ap length is ∙ tab_length m (entry_at x.entries)

  pub many_entries : 14 < m → false ≡ keeps
  unfolding node_ok
  many_entries h = sym (rw (size, le_false m room h, and_false ends, and_false rises) (and_false starts))

  pub few_entries : m < few → false ≡ keeps
  unfolding node_ok
  few_entries h = sym (rw (size, le_false few m h, and_false (leb m room), and_false ends, and_false rises) (and_false starts))

  pub low_high : x.high < from → false ≡ keeps
  unfolding node_ok typed
  low_high h = sym (rw (le_false from x.high h))

  pub keys_off : rising from (used m x.entries) ≡ false → false ≡ keeps
  unfolding node_ok
  keys_off e = sym (rw (ap (λ (es : List Entry). rising from es) is ∙ e) (and_false starts))

  module _ (room_ok : m ≤ 14) (enough : few ≤ m) (above : from ≤ x.high) (rise : rising from (used m x.entries) ≡ true) (a : ℕ) (last : a ≡ after from (used m x.entries)) where
    by_end : ends_ok (eqb l 0) a x.high ≡ keeps
    unfolding node_ok typed
    by_end =
        ap (λ (k : ℕ). ends_ok (eqb l 0) k x.high) (last ∙ ap (λ (es : List Entry). after from es) (sym is))
        ∙ sym (rw (size, le_true from x.high above, ap (λ (es : List Entry). rising from es) is ∙ rise, le_true m room room_ok, le_true few m enough) (and_on ends))

    pub ends_leaf : l ≡ 0 → leb a (x.high + 1) ≡ keeps
    ends_leaf e = leaf_end l a x.high e ∙ by_end

    pub ends_index : l ≢ 0 → eqb a (x.high + 1) ≡ keeps
    ends_index n = index_end l a x.high n ∙ by_end

-- ---- the map

module _ (pages : List Page) (x : program.Page) (t : typed x ≡ at pages 0) where
  pub not_a_map : (x.kind ≡ Map → ⊥) → false ≡ tree_ok pages
  unfolding typed
  not_a_map h = sym (no_map pages (sym (ap (λ (y : Page). y.marks) t) ∙ used_marks_node x.entries x.kind h))

  module _ (h : x.kind ≡ Map) where
    pub marks_are : (at pages 0).marks ≡ marks x.entries
    marks_are = sym (ap (λ (y : Page). y.marks) t) ∙ typed_marks x h

    itself : get_or (at pages 0).marks 0 false ≡ map_mark x.entries 0
    itself = ap (λ (m : List Bool). get_or m 0 false) marks_are ∙ sym (mark_of x.entries 0 (omega arith))

    pub itself_unmarked : map_mark x.entries 0 ≡ false → false ≡ tree_ok pages
    itself_unmarked e = sym (map_unmarked pages (itself ∙ e))

    pub by_walk : (n : ℕ) → length pages ≡ n → n ≤ 896 → map_mark x.entries 0 ≡ true → walk_ok pages ≡ tree_ok pages
    by_walk n s l e =
        let w : length (at pages 0).marks ≡ 896 = ap length marks_are ∙ tab_length 896 (map_mark x.entries) in
        sym (map_marked pages (omega arith) (itself ∙ e))
