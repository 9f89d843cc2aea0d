-- A LOADED REGISTER as an origin: histories start from it, with the columns' records as slides.
use Prim.Native.Nat.{ℕ, zero, suc, ◌-◌, ◌≤◌, ◌<◌, ◌^◌}
use Rattle.std.specs.Prelude.{◌≡◌, length, get_or, drop, replicate}
use Rattle.std.proofs.Math.Path.{refl, ap, subst}
use Rattle.std.proofs.Common.{sym, ◌∙◌}
use Rattle.std.proofs.Math.Bool.{true, false}
use mathlib.Core.List.{List, [], ◌∷◌, ◌++◌, append-nil}
use native.Mathlib.Omega.{arith}
use Rattle.std.proofs.Math.Decide.{dec_lt}
use Rattle.std.proofs.Math.ListN.{length-append, length-replicate, get_or-eq_default}
use Rattle.std.proofs.Math.Dec.{eqb-suc-zero, lit<}
use Rattle.def_base.specs.Tests.{clash, any, and_both, lt_true, le_true, eq_true}
use Rattle.def_layout.specs.declared.Entry.{Entry}
use Rattle.def_layout.specs.Entries.{entry_at, top, ten_bits}
use Rattle.def_layout.specs.Numbers.{tab}
use Rattle.def_layout.specs.Sizes.{room}
use Rattle.def_layout.specs.Pages.{Page, at, zero_page, node_at, map_page, map_bits, own_ok, layout_by, layout}
use Rattle.def_model.specs.Fit.{after}
use Rattle.def_model.specs.TreeRules.{Node, first_page, tree_ok, leaf_records}
use Rattle.def_model.specs.Calls.{formatted_pages}
use Rattle.def_model.specs.Loading.{tree_count, load_levels, level_pages, levels_pages, loaded_levels, loaded_count, loaded_pages}
use Rattle.law_bytes.specs.Tables.{tab_is}
use Rattle.law_bytes.specs.EntryBytes.{EntryFits}
use Rattle.law_bytes.specs.PageBytes.{BodyFits, Fits as PageFits}
use Rattle.law_areas.specs.Pages.{zero_fits}
use Rattle.theory_tree.specs.Order.Keys.{Rising}
use Rattle.theory_tree.specs.Shape.Height.{few_levels}
use Rattle.theory_fit.specs.Clean.{Clean}
use Rattle.theory_pages.specs.Layout.{Laid}
use Rattle.theory_history.specs.Origin.{Origin, origin_pages}
use Rattle.theory_load.specs.Numbering.{load_numbers}
use Rattle.theory_load.specs.Fitting.{Fine, NodeFine, AllFine, load_fine, at_levels}
use Rattle.theory_load.specs.Loaded.{loaded_length, loaded_rules, loaded_tree, loaded_leaves, same_at}

-- ---- one page

entry_fits : (v : ℕ) (es : List Entry) → v < 2 ^ 32 → Fine v es → (i : ℕ) → EntryFits (entry_at es i)
unfolding Fine
entry_fits v [] h f i = (lit< tt, lit< tt)
entry_fits v (e ∷ es) h f zero = let a = f.0 in let b = f.1 in (omega arith, omega arith)
entry_fits v (e ∷ es) h f (suc i) = entry_fits v es h f.2 i

fine_ten : (es : List Entry) → Fine 1023 es → ten_bits es ≡ true
unfolding Fine ten_bits
fine_ten [] f = refl
fine_ten (e ∷ es) f = let b = f.1 in and_both (lt_true e.val 1024 (omega arith)) (fine_ten es f.2)

-- Among n pages.
record Good (n p : ℕ) (x : Page) : Type 0 where
  laid : layout n p x ≡ true
  fits : PageFits x
  number : x.lsn ≡ 0

good : (n l : ℕ) (m : Node) (right : ℕ) → l < 16 → 0 < m.page → m.page < 1024 → right < 1024 → NodeFine l m → Good n m.page (node_at m.page l right m.high m.items)
unfolding layout layout_by own_ok BodyFits
good n zero m right low pos few r f =
    let a = f.few in
    let h = f.high in
    record {
      laid = and_both (lt_true 0 m.page pos) (and_both (eq_true m.page m.page refl) (and_both refl (le_true (length m.items) room a)));
      fits = record { level = omega arith; right = r; high = omega arith; lsn = lit< tt; own = few; body = record { count = a; entry = entry_fits top m.items (lit< tt) f.items; marks = refl } };
      number = refl;
    }
good n (suc l) m right low pos few r f =
    let a = f.few in
    let h = f.high in
    rw (eqb-suc-zero l)
    (record {
      laid = and_both (lt_true 0 m.page pos) (and_both (eq_true m.page m.page refl) (and_both (lt_true 0 (suc l) (omega arith)) (and_both (le_true (length m.items) room a) (fine_ten m.items f.items))));
      fits = record { level = low; right = r; high = omega arith; lsn = lit< tt; own = few; body = record { count = a; entry = entry_fits 1023 m.items (lit< tt) f.items; marks = refl } };
      number = refl;
    })

-- ---- the map

none_spare : (k : ℕ) → any (λ b. b) (replicate k false) ≡ false
unfolding any
none_spare zero = refl
none_spare (suc k) = none_spare k

marks_spare : (u k : ℕ) → any (λ b. b) (drop u (replicate u true ++ replicate k false)) ≡ false
marks_spare zero k = none_spare k
marks_spare (suc u) k = marks_spare u k

marks_set : (u k p : ℕ) → p < u → get_or (replicate u true ++ replicate k false) p true ≡ true
marks_set zero k p h = absurd (omega arith)
marks_set (suc u) k zero h = refl
marks_set (suc u) k (suc p) h = marks_set u k p (omega arith)

fine_after : (from : ℕ) (es : List Entry) → from ≤ suc top → Fine top es → after from es ≤ suc top
unfolding Fine after
fine_after from [] h f = h
fine_after from (e ∷ es) h f = let a = f.0 in fine_after (suc e.key) es (omega arith) f.2

-- ---- all pages

module _ (es : List Entry) (few : suc (loaded_count (length es)) ≤ map_bits) (rises : Rising 0 es) (fine : Fine top es) where
  used : ℕ
  used = suc (loaded_count (length es))

  pages : List Page
  pages = loaded_pages used es

  upto : after 0 es ≤ suc top
  upto = fine_after 0 es (omega arith) fine

  size : length pages ≡ used
  unfolding pages used
  size = loaded_length (suc (loaded_count (length es))) es (omega arith)

  level_few : length (loaded_levels es) ≤ 16
  unfolding used pages
  level_few =
      let k = loaded_rules (suc (loaded_count (length es))) es (omega arith) few rises upto in
      let s = loaded_length (suc (loaded_count (length es))) es (omega arith) in
      let a = few_levels (loaded_pages (suc (loaded_count (length es))) es) (loaded_levels es) k (omega arith) in
      omega arith

  tree_page : (p : ℕ) → 0 < p → p < used → Good used p (at pages p)
  unfolding pages used loaded_pages AllFine
  tree_page p pos low =
      let k = load_numbers (length es) es (omega arith) in
      let c = k.count in
      let fines = subst AllFine (append-nil (loaded_levels es)) (load_fine (length es) es [] (omega arith) fine (omega arith) tt) in
      at_levels (Good (suc (loaded_count (length es)))) (good (suc (loaded_count (length es)))) (map_page _ ∷ []) (replicate (suc (loaded_count (length es)) - suc (loaded_count (length es))) zero_page) (loaded_levels es) level_few (omega arith) k.numbered fines (omega arith) p (omega arith) (omega arith)

  laid : Laid pages
  unfolding layout layout_by own_ok used pages loaded_pages
  laid zero h = let s = size in rw s (rw (marks_spare (suc (loaded_count (length es))) (map_bits - suc (loaded_count (length es)))))
  laid (suc p) h = let s = size in subst (λ n. layout n (suc p) (at pages (suc p)) ≡ true) (sym s) (tree_page (suc p) (omega arith) (omega arith)).laid

  clean : Clean pages
  unfolding used pages loaded_pages
  clean p h f = let s = size in clash (sym (marks_set (suc (loaded_count (length es))) (map_bits - suc (loaded_count (length es))) p (omega arith)) ∙ f)

  beyond : (p : ℕ) → used ≤ p → at pages p ≡ zero_page
  beyond p h = let s = size in get_or-eq_default pages zero_page (omega arith)

  numbers : (p : ℕ) → (at pages p).lsn ≡ 0
  unfolding pages loaded_pages
  numbers zero = refl
  numbers (suc p) = go (dec_lt (suc p) used)
    where
      go : Dec (suc p < used) → (at pages (suc p)).lsn ≡ 0
      go (yes h) = (tree_page (suc p) (omega arith) h).number
      go (no h) = ap (λ x. x.lsn) (beyond (suc p) (omega arith))

  map_fits : PageFits (at pages 0)
  unfolding pages used loaded_pages BodyFits
  map_fits =
      let a = length-append (replicate (suc (loaded_count (length es))) true) (replicate (map_bits - suc (loaded_count (length es))) false) in
      let b = length-replicate (suc (loaded_count (length es))) true in
      let c = length-replicate (map_bits - suc (loaded_count (length es))) false in
      record { level = lit< tt; right = lit< tt; high = lit< tt; lsn = lit< tt; own = lit< tt; body = record { entries = refl; marks = omega arith } }

  fits : (p : ℕ) → PageFits (at pages p)
  fits zero = map_fits
  fits (suc p) = go (dec_lt (suc p) used)
    where
      go : Dec (suc p < used) → PageFits (at pages (suc p))
      go (yes h) = (tree_page (suc p) (omega arith) h).fits
      go (no h) = subst PageFits (sym (beyond (suc p) (omega arith))) zero_fits

  all : tab used (at pages) ≡ pages
  all = tab_is used (at pages) pages zero_page size (λ p h. refl)

  pub loaded_origin : Origin
  unfolding used pages
  loaded_origin =
      record {
        base = at (loaded_pages (suc (loaded_count (length es))) es);
        least = suc (loaded_count (length es));
        slides = es;
        tree = subst (λ xs. tree_ok xs ≡ true) (sym all) (loaded_tree (suc (loaded_count (length es))) es (omega arith) few rises upto);
        laid = subst Laid (sym all) laid;
        clean = subst Clean (sym all) clean;
        held = subst (λ xs. leaf_records xs ≡ es) (sym all) (loaded_leaves (suc (loaded_count (length es))) es (omega arith) few rises upto);
        rising = rises;
        numbers = numbers;
        fits = fits;
        beyond = beyond;
      }

  pub loaded_slides : loaded_origin.slides ≡ es
  unfolding loaded_origin
  loaded_slides = refl

  pub loaded_least : loaded_origin.least ≡ suc (loaded_count (length es))
  unfolding loaded_origin
  loaded_least = refl

  -- Its first n pages are those that a loading of n pages builds.
  pub loaded_is : (n : ℕ) → suc (loaded_count (length es)) ≤ n → n ≤ map_bits → origin_pages loaded_origin n ≡ loaded_pages n es
  unfolding loaded_origin
  loaded_is n h most = tab_is n _ (loaded_pages n es) zero_page (loaded_length n es h) (λ p l. same_at es (suc (loaded_count (length es))) n p)

-- A formatting is a loading of no records.
pub formatted_loaded : (n : ℕ) → formatted_pages n ≡ loaded_pages n []
unfolding formatted_pages loaded_pages load_levels levels_pages level_pages tree_count first_page
formatted_loaded n = refl
