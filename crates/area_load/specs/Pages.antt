-- A page of a loading from its place, and an area that is written page after page.
use Rattle.std.specs.Prelude.{ℕ, zero, suc, ◌+◌, ◌-◌, ◌*◌, ◌≤◌, ◌<◌, ◌≡◌, true, false, List, [], ◌∷◌, ◌++◌, map, length, drop}
use Rattle.std.proofs.Math.Path.{refl, sym, ap, ap₂}
use Rattle.std.proofs.Common.{◌∙◌, append-nil, arith, add-one}
use Rattle.std.proofs.lemmas.List.{map-append}
use Rattle.std.proofs.Math.ListN.{get_or-eq_default}
use Rattle.std.proofs.Math.Seq.{drop-length}
use Rattle.def_layout.specs.declared.Entry.{Entry}
use Rattle.def_layout.specs.Entries.{entry_at, no_entry, top}
use Rattle.def_layout.specs.Numbers.{tab}
use Rattle.def_layout.specs.Pages.{Page, at, zero_page, node_at}
use Rattle.def_layout.specs.PageBytes.{page, page_bytes, block_bytes}
use Rattle.def_model.specs.Loading.{columns, levels_pages, loaded_levels, loaded_count, loaded_pages}
use Rattle.def_model.specs.OnBytes.{joined, pages_bytes}
use Rattle.law_bytes.specs.Tables.{tab_length, tab_is, getD_tab}
use Rattle.law_bytes.specs.Patch.{patch, patch_front}
use Rattle.law_bytes.specs.PageBytes.{page_bytes_length}
use Rattle.law_areas.specs.Parts.{joined_append}
use Rattle.law_areas.specs.Pages.{pages_length}
use Rattle.theory_load.specs.Columns.{columns_length}
use Rattle.theory_load.specs.Loaded.{loaded_length, rest_zero, same_at}
use Rattle.theory_load.specs.Rungs.{level_entry, level_key, placed}
use Rattle.area_load.specs.declared.Place.{Place}
use Rattle.area_load.specs.Placed.{Placed}
use Rattle.area_load.specs.Columns.{Columns, loaded_page}
use Rattle.area_load.specs.Maps.{used_map}

-- ---- by its number

pub map_loaded : (es : List Entry) (p : ℕ) → p ≡ 0 → used_map (suc (loaded_count (length es))) ≡ loaded_page es p
unfolding loaded_pages
map_loaded es p e = rw e refl

pub free_loaded : (es : List Entry) (p : ℕ) → suc (loaded_count (length es)) ≤ p → zero_page ≡ loaded_page es p
free_loaded es p h = sym (get_or-eq_default (loaded_pages (suc (loaded_count (length es))) es) zero_page (let n = loaded_length (suc (loaded_count (length es))) es (omega arith) in omega arith))

tree_loaded : (es : List Entry) (p : ℕ) → 0 < p → loaded_page es p ≡ at (levels_pages (loaded_levels es)) (p - 1)
unfolding loaded_pages
tree_loaded es zero h = absurd (omega arith)
tree_loaded es (suc p) h =
    let q : p ≡ suc p - 1 = omega arith in
    rest_zero (levels_pages (loaded_levels es)) (suc (loaded_count (length es)) - suc (loaded_count (length es))) p ∙ ap (at (levels_pages (loaded_levels es))) q

-- ---- a page of the tree, with the entries that the program has

module _ (ks vs : List ℕ) (p : ℕ) (x : Place) (es : List Entry) (cs : Columns ks vs) (pos : 0 < p) (r : Placed (length ks) p x)
    (e : tab x.size (entry_at es) ≡ tab x.size (λ i. level_entry (columns ks vs) x.height x.below (x.from + i))) where
  n : length (columns ks vs) ≡ length ks
  n = columns_length ks vs cs.same

  is : loaded_page (columns ks vs) p ≡ placed (columns ks vs) p x.height x.below x.from x.size x.ends
  is = tree_loaded (columns ks vs) p pos ∙ r.page (columns ks vs) n

  pub last_page : x.ends ≡ true → node_at p x.height 0 top (tab x.size (entry_at es)) ≡ loaded_page (columns ks vs) p
  unfolding placed
  last_page t = ap (node_at p x.height 0 top) e ∙ sym (is ∙ ap (placed (columns ks vs) p x.height x.below x.from x.size) t)

  last_entry : 0 < x.size → entry_at es (x.size - 1) ≡ level_entry (columns ks vs) x.height x.below (x.from + x.size - 1)
  last_entry h =
      let q : x.from + (x.size - 1) ≡ x.from + x.size - 1 = omega arith in
      sym (getD_tab x.size (x.size - 1) (entry_at es) no_entry (omega arith)) ∙ ap (λ l. entry_at l (x.size - 1)) e
      ∙ getD_tab x.size (x.size - 1) (λ i. level_entry (columns ks vs) x.height x.below (x.from + i)) no_entry (omega arith) ∙ ap (level_entry (columns ks vs) x.height x.below) q

  pub inner_page : x.ends ≡ false → node_at p x.height (suc p) (entry_at es (x.size - 1)).key (tab x.size (entry_at es)) ≡ loaded_page (columns ks vs) p
  unfolding placed
  inner_page f =
      let h = r.some f in
      let w = r.within.inside in
      let m = n in
      ap₂ (node_at p x.height (suc p)) (ap (λ y. y.key) (last_entry h) ∙ level_key (columns ks vs) x.height x.below (x.from + x.size - 1) (rw m (omega arith))) e
      ∙ sym (is ∙ ap (placed (columns ks vs) p x.height x.below x.from x.size) f)

-- ---- page after page

module _ (f : ℕ → Page) where
  abbrev pub written : ℕ → List ℕ
  written p = pages_bytes (map page (tab p f))

  written_next : (p : ℕ) → written (p + 1) ≡ written p ++ page_bytes (f p)
  unfolding tab pages_bytes joined block_bytes
  written_next p =
      rw (add-one p)
      (ap (λ bs. joined (map block_bytes bs)) (map-append page (tab p f) (f p ∷ [])) ∙ ap joined (map-append block_bytes (map page (tab p f)) (page (f p) ∷ []))
      ∙ joined_append (map block_bytes (map page (tab p f))) (page_bytes (f p) ∷ []) ∙ ap (written p ++◌) (append-nil (page_bytes (f p))))

  written_length : (p : ℕ) → length (written p) ≡ 128 * p
  written_length p = let a = tab_length p f in pages_length (tab p f) ∙ ap (128 *◌) a

  pub write_none : (s : List ℕ) → s ≡ written 0 ++ drop (128 * 0) s
  unfolding tab pages_bytes joined
  write_none s = refl

  pub write_next : (p : ℕ) (s₀ s s' : List ℕ) (x : Page) → s ≡ written p ++ drop (128 * p) s₀ → s' ≡ patch s (128 * p) (page_bytes x) → x ≡ f p → s' ≡ written (p + 1) ++ drop (128 * (p + 1)) s₀
  write_next p s₀ s s' x e e' ex =
      let n = page_bytes_length (f p) in
      let k : 128 * p + length (page_bytes (f p)) ≡ 128 * (p + 1) = omega arith in
      e' ∙ ap₂ (λ a y. patch a (128 * p) (page_bytes y)) e ex ∙ patch_front (written p) s₀ (128 * p) (page_bytes (f p)) (written_length p)
      ∙ ap₂ (λ a j. a ++ drop j s₀) (sym (written_next p)) k

pub written_all : (es : List Entry) (n p : ℕ) (s₀ s : List ℕ) → suc (loaded_count (length es)) ≤ n → p ≡ n → length s₀ ≡ 128 * n → s ≡ written (loaded_page es) p ++ drop (128 * p) s₀ → s ≡ pages_bytes (map page (loaded_pages n es))
written_all es n p s₀ s h q l e =
    let none : drop (128 * p) s₀ ≡ [] = ap (λ k. drop k s₀) (sym (l ∙ ap (128 *◌) (sym q))) ∙ drop-length s₀ in
    e ∙ ap₂ ◌++◌ (ap (written (loaded_page es)) q) none ∙ append-nil (written (loaded_page es) n)
    ∙ ap (λ xs. pages_bytes (map page xs)) (tab_is n (loaded_page es) (loaded_pages n es) zero_page (loaded_length n es h) (λ i b. same_at es (suc (loaded_count (length es))) n i))
