-- The layout of each kind as the program tests it, on its own page; and the marks past the last page.
use Rattle.std.specs.Prelude.{◌≡◌, refl, ℕ, zero, suc, ◌+◌, ◌-◌, ◌/◌, ◌%◌, ◌^◌, ◌<◌, ◌≤◌, eqb, ltb, leb, Bool, true, false, not, ◌&&◌, ◌||◌, List, ◌∷◌, length, drop}
use Rattle.std.proofs.Common.{ap, sym, ◌∙◌, add-one, arith, drop_of_length-le, drop-cons}
use Rattle.std.proofs.Math.Nat.{zero-div}
use Rattle.def_base.specs.Tests.{any, and_both, lt_true}
use Rattle.def_layout.specs.declared.Entry.{Entry}
use Rattle.def_layout.specs.Entries.{entry_at, ten_bits}
use Rattle.def_layout.specs.Numbers.{tab, same_bytes, zeros}
use Rattle.def_layout.specs.Sizes.{page_size}
use Rattle.def_layout.specs.Pages.{Page, zero_page, map_bits, layout, layout_by, own_ok, never_used}
use Rattle.def_layout.specs.declared.page.PageKind.TheVariants.{Free, Leaf, Index, Map}
use Rattle.def_layout.specs.PageBytes.{page, read_block}
use Rattle.law_bytes.specs.Same.{same_true}
use Rattle.law_bytes.specs.Tables.{tab_length, getD_tab}
use Rattle.law_bytes.specs.EntryBytes.{used}
use Rattle.codec_page.specs.Typed.{typed, used_entries, used_marks, map_word, map_mark}
use Rattle.def_model.specs.Areas.{block_ok}
use Rattle.law_areas.specs.Pages.{zero_read}
use Rattle.codec_page.specs.declared.Page as program

abbrev pub bare_with : program.Page → ℕ → Bool
bare_with x count = eqb x.level 0 && (eqb x.right 0 && (eqb x.high 0 && eqb count 0))

unfoldable pub free_layout : ℕ → program.Page → Bool
free_layout p x = ltb 0 p && (bare_with x x.count && (eqb x.own p || (eqb x.own 0 && eqb x.lsn 0)))

unfoldable pub leaf_layout : ℕ → program.Page → Bool
leaf_layout p x = ltb 0 p && (eqb x.own p && (eqb x.level 0 && leb x.count 14))

unfoldable pub index_layout : ℕ → program.Page → Bool
index_layout p x = ltb 0 p && (eqb x.own p && (ltb 0 x.level && (leb x.count 14 && ten_bits (used x.count x.entries))))

-- No mark from the n-th on.
unfoldable pub unmarked_from : ℕ → List Entry → Bool
unmarked_from n es = not (any (λ b. b) (drop n (tab map_bits (map_mark es))))

unfoldable pub map_layout : ℕ → ℕ → program.Page → Bool
map_layout n p x = eqb p 0 && (eqb x.own p && (bare_with x 0 && unmarked_from n x.entries))

module _ (n p : ℕ) (x : program.Page) where
  pub layout_free : x.kind ≡ Free → layout n p (typed x) ≡ free_layout p x
  unfolding layout layout_by own_ok never_used typed used_entries free_layout
  layout_free k = rw (k, tab_length x.count (entry_at x.entries))

  pub layout_leaf : x.kind ≡ Leaf → layout n p (typed x) ≡ leaf_layout p x
  unfolding layout layout_by own_ok typed used_entries leaf_layout
  layout_leaf k = rw (k, tab_length x.count (entry_at x.entries))

  pub layout_index : x.kind ≡ Index → layout n p (typed x) ≡ index_layout p x
  unfolding layout layout_by own_ok typed used_entries index_layout
  layout_index k = rw (k, tab_length x.count (entry_at x.entries))

  pub layout_map : x.kind ≡ Map → layout n p (typed x) ≡ map_layout n p x
  unfolding layout layout_by own_ok typed used_entries used_marks map_layout unmarked_from
  layout_map k = rw k

-- A block's test, by what the block is.
pub keeps_page : (n p : ℕ) (b : List ℕ) (x : Page) → read_block b ≡ page x → block_ok n p (read_block b) ≡ layout n p x
unfolding block_ok
keeps_page n p b x e = rw e

-- A page of zeros, but the map's.
pub never_used_keeps : (n p : ℕ) (b : List ℕ) → length b ≡ page_size → (t : Bool) → t ≡ same_bytes (zeros (length b)) b → t ≡ true → (p ≡ 0 → ⊥) → block_ok n p (read_block b) ≡ true
unfolding layout layout_by own_ok never_used
never_used_keeps n p b size t e z q =
    let s : zeros page_size ≡ b = same_true (zeros page_size) b (ap (λ (k : ℕ). same_bytes (zeros k) b) (sym size) ∙ sym e ∙ z) in
    keeps_page n p b zero_page (ap read_block (sym s) ∙ zero_read) ∙ and_both (lt_true 0 p (omega arith)) (or_right (eqb 0 p))
  where
    or_right : (x : Bool) → x || true ≡ true
    or_right true = refl
    or_right false = refl

-- A turn of the test of the marks.
module _ (es : List Entry) where
  marks_cons : (i : ℕ) → i < map_bits → drop i (tab map_bits (map_mark es)) ≡ map_mark es i ∷ drop (i + 1) (tab map_bits (map_mark es))
  marks_cons i h =
      drop-cons (tab map_bits (map_mark es)) i false (omega (arith, tab_length map_bits (map_mark es)))
      ∙ rw (getD_tab map_bits i (map_mark es) false h) (ap (λ (k : ℕ). map_mark es i ∷ drop k (tab map_bits (map_mark es))) (sym (add-one i)))

  pub unmarked_more : (i : ℕ) → i < map_bits → map_mark es i ≡ false → unmarked_from i es ≡ unmarked_from (i + 1) es
  unfolding unmarked_from any
  unmarked_more i h m = rw (marks_cons i h, any, m)

  pub marked_here : (i : ℕ) → i < map_bits → map_mark es i ≡ true → unmarked_from i es ≡ false
  unfolding unmarked_from any
  marked_here i h m = rw (marks_cons i h, any, m)

  pub unmarked_none : (i : ℕ) → map_bits ≤ i → unmarked_from i es ≡ true
  unfolding unmarked_from any
  unmarked_none i h = rw (drop_of_length-le (tab map_bits (map_mark es)) {i = i} (omega (arith, tab_length map_bits (map_mark es))))

  -- 32 pages at once, where their word is zero.
  mark_clear : (j p : ℕ) → map_word es j ≡ 0 → p / 32 ≡ j → map_mark es p ≡ false
  unfolding map_mark
  mark_clear j p e h =
      let z : 0 / 2 ^ (31 - p % 32) ≡ 0 = zero-div (2 ^ (31 - p % 32)) in
      rw (h, e, z)

  pub unmarked_word : (i k : ℕ) → i % 32 ≡ 0 → map_word es (i / 32) ≡ 0 → k ≤ 32 → i + k ≤ map_bits → unmarked_from i es ≡ unmarked_from (i + k) es
  unmarked_word i zero a e h l = let z : i ≡ i + 0 = omega arith in ap (λ (j : ℕ). unmarked_from j es) z
  unmarked_word i (suc k) a e h l =
      let z : i + k + 1 ≡ i + suc k = omega arith in
      unmarked_word i k a e (omega arith) (omega arith) ∙ unmarked_more (i + k) (omega arith) (mark_clear (i / 32) (i + k) e (omega arith)) ∙ ap (λ (j : ℕ). unmarked_from j es) z
