-- The pages of a start that get their left links: they show no links yet, and keep the tree rules.
use Rattle.std.specs.Prelude.{ℕ, zero, suc, ◌/◌, ◌≤◌, ◌<◌, ◌≡◌, refl, true, List, [], ◌∷◌, map, length, get_or, leb}
use Rattle.std.proofs.Common.{sym, ap, ◌∙◌, arith}
use Rattle.std.proofs.Math.Path.{subst}
use Rattle.def_base.specs.Tests.{every, and_both, le_true}
use Rattle.def_layout.specs.declared.Entry.{Entry}
use Rattle.def_layout.specs.Entries.{top}
use Rattle.def_layout.specs.Pages.{Page, map_bits}
use Rattle.def_layout.specs.PageBytes.{page}
use Rattle.def_layout.specs.Sizes.{page_size}
use Rattle.def_model.specs.Links.{relinked}
use Rattle.def_model.specs.Loading.{columns, keys_rise, tree_count, loaded_count, loaded_pages}
use Rattle.def_model.specs.TreeRules.{tree_ok}
use Rattle.def_model.specs.OnBytes.{Lent, pages_bytes, work_bytes}
use Rattle.law_bytes.specs.PageBytes.{Fits}
use Rattle.law_areas.specs.Pages.{AllPagesFit}
use Rattle.law_areas.specs.Working.{work_unlinked}
use Rattle.law_areas.specs.WorkPages.{bare_links}
use Rattle.theory_tree.specs.Order.Keys.{Rising}
use Rattle.theory_history.specs.Origin.{Origin, origin_pages, origin_length, origin_page, origin_tree}
use Rattle.theory_load.specs.Fitting.{Fine}
use Rattle.theory_load.specs.Columns.{columns_length, columns_rise, columns_fine}
use Rattle.theory_load.specs.Loaded.{loaded_length}
use Rattle.theory_load.specs.LoadedOrigin.{loaded_origin, loaded_least, loaded_is}
use Rattle.area_lengths.specs.Lent.{lent}
use Rattle.record_pages.specs.Pages.{Pages}
use Rattle.area_format.specs.Started.{Started, none_fit}
use Rattle.area_format.specs.Call.{Linked}

module _ (es : List Entry) (n : ℕ) (enough : suc (loaded_count (length es)) ≤ n) (most : n ≤ map_bits) (rises : Rising 0 es) (fine : Fine top es) where
  few : suc (loaded_count (length es)) ≤ map_bits
  few = omega arith

  o : Origin
  o = loaded_origin es few rises fine

  is : origin_pages o n ≡ loaded_pages n es
  unfolding o
  is = loaded_is es few rises fine n enough most

  tree : tree_ok (loaded_pages n es) ≡ true
  unfolding o
  tree = subst (λ xs. tree_ok xs ≡ true) is (origin_tree o n (subst (◌≤ n) (sym (loaded_least es few rises fine)) enough) most)

  fits : AllPagesFit (loaded_pages n es)
  fits = subst AllPagesFit is (λ p h. let l = origin_length o n in subst Fits (sym (origin_page o n p (omega arith))) (o.fits p))

  -- LINKED, if the program links pages that show no links and keep the rules.
  pub linked : (budget : ℕ) (l mid : Lent) (wp : List ℕ) → length l.work_pages / page_size ≡ n → Started es budget l mid
      → ((xs : List Page) (ls : List ℕ) → Pages n mid.work_pages xs ls → tree_ok xs ≡ true → Pages n wp xs (relinked xs ls)) → Linked es budget l (lent wp mid.stable_pages mid.work_log mid.stable_log)
  linked budget l mid wp e s relink =
      let b : mid.work_pages ≡ pages_bytes (map page (loaded_pages n es)) = subst (λ k. mid.work_pages ≡ pages_bytes (map page (loaded_pages k es))) e s.work_pages in
      let h : Pages n mid.work_pages (loaded_pages n es) [] =
      record { bytes = b ∙ sym (work_unlinked (map page (loaded_pages n es)) 0); links = bare_links (loaded_pages n es) fits; fits = fits; size = loaded_length n es enough } in
      record {
        unlinked = mid.work_pages;
        started = s;
        work_pages = subst (λ k. wp ≡ work_bytes (map page (loaded_pages k es)) (relinked (loaded_pages k es) [])) (sym e) (relink (loaded_pages n es) [] h tree).bytes;
      }

-- ---- of columns

every_low : (ks : List ℕ) → ((i : ℕ) → get_or ks i 0 ≤ top) → every (λ k. leb k top) ks ≡ true
unfolding every
every_low [] h = refl
every_low (k ∷ ks) h = and_both (le_true k top (h 0)) (every_low ks (λ i. h (suc i)))

pub columns_linked : (ks vs : List ℕ) (n : ℕ) → length ks ≡ length vs → keys_rise 0 ks ≡ true → ((i : ℕ) → get_or ks i 0 ≤ top) → ((i : ℕ) → get_or vs i 0 ≤ top) → loaded_count (length ks) < n → n ≤ map_bits
    → (budget : ℕ) (l mid : Lent) (wp : List ℕ) → length l.work_pages / page_size ≡ n → Started (columns ks vs) budget l mid
    → ((xs : List Page) (ls : List ℕ) → Pages n mid.work_pages xs ls → tree_ok xs ≡ true → Pages n wp xs (relinked xs ls)) → Linked (columns ks vs) budget l (lent wp mid.stable_pages mid.work_log mid.stable_log)
columns_linked ks vs n same rise low high room most =
    let c = columns_length ks vs same in
    linked (columns ks vs) n (subst (λ k. suc (loaded_count k) ≤ n) (sym c) (omega arith)) most (columns_rise 0 ks vs rise) (columns_fine ks vs (every_low ks low) (every_low vs high))

-- Of none.
pub none_linked : (n : ℕ) → 16 ≤ n → n ≤ map_bits → (budget : ℕ) (l mid : Lent) (wp : List ℕ) → length l.work_pages / page_size ≡ n → Started [] budget l mid
    → ((xs : List Page) (ls : List ℕ) → Pages n mid.work_pages xs ls → tree_ok xs ≡ true → Pages n wp xs (relinked xs ls)) → Linked [] budget l (lent wp mid.stable_pages mid.work_log mid.stable_log)
unfolding Rising Fine
none_linked n least most = linked [] n (none_fit n least) most tt tt
