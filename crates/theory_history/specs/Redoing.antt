-- REDO ALONE: of stored pages that each hold a first part of a history, restart answers none of 3 to 6, and redo gives the history's pages.
use Rattle.std.specs.Prelude.{ℕ, suc, ◌-◌, ◌≤◌, ◌<◌, ◌≡◌}
use Rattle.std.proofs.Math.Path.{refl, sym, ap, subst}
use Rattle.std.proofs.Common.{◌∙◌}
use Rattle.std.proofs.Math.Bool.{true}
use mathlib.Core.List.{List, [], ◌∷◌, map}
use native.Mathlib.Omega.{arith}
use Rattle.std.proofs.Math.ListN.{length, length-map}
use Rattle.def_base.specs.Tests.{every, and_both, le_true}
use Rattle.def_layout.specs.Pages.{Page, at, map_bits}
use Rattle.def_layout.specs.PageBytes.{page}
use Rattle.def_layout.specs.Records.{Rec}
use Rattle.def_model.specs.Log.{records_of, log_area, slots_ok}
use Rattle.def_model.specs.Redo.{replay, redo_fits}
use Rattle.def_model.specs.TreeRules.{tree_ok, levels_of, leaf_records}
use Rattle.def_model.specs.Batches.{open_batches, chain_ok}
use Rattle.def_model.specs.Pending.{pending_ok}
use Rattle.def_model.specs.Areas.{Side, Areas, pages_of, blocks_ok}
use Rattle.def_model.specs.Sound.{layouts_ok, numbers_ok, log_ok}
use Rattle.def_model.specs.Restart.{stable_pages, stable_log, redone_pages, redone}
use Rattle.law_areas.specs.Typed.{pages_back, log_back}
use Rattle.theory_redo.specs.Area.{length_replay}
use Rattle.theory_redo.specs.Current.{page_run, Behind, redo_current, current_unique, behind_numbers}
use Rattle.theory_tree.specs.Test.Test.{test_sound}
use Rattle.theory_update.specs.Find.Fetching.{fetched_is}
use Rattle.theory_fit.specs.NeverFive.{never_five}
use Rattle.theory_pages.specs.Restartable.{behind_laid, laid_blocks, lawful_slots}
use Rattle.theory_ledger.specs.PendingRule.{settles_pending}
use Rattle.theory_history.specs.Origin.{Origin, origin_pages, origin_length, origin_lows, origin_at, pages_low, origin_laid, origin_clean, origin_tree}
use Rattle.theory_history.specs.Start.{slides_after, pages_after, length_after, after_current}
use Rattle.theory_history.specs.History.{History, history_now, run_after, core_same, Standing}

pub numbers_true : (last : ℕ) (xs : List Page) → ((p : ℕ) → p < length xs → (at xs p).lsn ≤ last) → numbers_ok last xs ≡ true
unfolding numbers_ok every
numbers_true last [] h = refl
numbers_true last (x ∷ xs) h = and_both (le_true x.lsn last (h 0 (omega arith))) (numbers_true last xs (λ p l. h (suc p) (omega arith)))

-- ---- a stored image of a history

-- n pages, each with the changes of a first part of the log; m slots with the log.
pub record Image (o : Origin) (n m : ℕ) (log : List Rec) (s : Side) : Type 0 where
  pub pages : List Page
  pub count : length pages ≡ n
  pub stored : s.pages ≡ map page pages
  pub behind : Behind 1 o.base log pages
  pub logged : s.log ≡ log_area m log
  pub fits : length log ≤ m

module _ (o : Origin) (n m : ℕ) (least : o.least ≤ n) (most : n ≤ map_bits) (log : List Rec) (h : History o n log) where
  few : length (origin_pages o n) ≤ map_bits
  few = let e = origin_length o n in omega arith

  -- Page by page, or as a list: the start is the same.
  behind_list : (xs : List Page) → Behind 1 o.base log xs → Behind 1 (at (origin_pages o n)) log xs
  unfolding Behind
  behind_list xs b p k = let (x, y, e, w) = b p k in (x, y, e, subst (λ z. at xs p ≡ page_run p 1 x z) (sym (origin_at o n least p)) w)

  -- REDO GIVES THE PAGES OF THE WHOLE LOG.
  pub redo_pages : (xs : List Page) → length xs ≡ n → Behind 1 o.base log xs → replay 1 log xs ≡ pages_after o n log
  redo_pages xs e b =
      current_unique 1 o.base log (replay 1 log xs) (pages_after o n log) (length_replay 1 log xs ∙ e ∙ sym (length_after o n log))
      (redo_current 1 o.base log xs (origin_lows o) b) (after_current o n log)

  -- Not 5.
  pub image_fits : (xs : List Page) → length xs ≡ n → Behind 1 o.base log xs → redo_fits 1 log xs ≡ true
  image_fits xs e b =
      never_five (origin_pages o n) (levels_of (origin_pages o n)) (levels_of (pages_after o n log)) log xs h.lawful
      (test_sound (origin_pages o n) (origin_tree o n least most)) (pages_low o n least) (origin_clean o n least) few (e ∙ sym (origin_length o n)) (behind_list xs b)

  module _ (s : Side) (i : Image o n m log s) where
    -- Not 3.
    pub image_layouts : layouts_ok s ≡ true
    unfolding layouts_ok
    image_layouts =
        let laid = behind_laid (origin_pages o n) (levels_of (origin_pages o n)) (levels_of (pages_after o n log)) log i.pages h.lawful few
        (test_sound (origin_pages o n) (origin_tree o n least most)) (pages_low o n least) (origin_laid o n least) (i.count ∙ sym (origin_length o n)) (behind_list i.pages i.behind) in
        let e : length (map page i.pages) ≡ length i.pages = length-map i.pages page in
        subst (λ z. blocks_ok (length z) 0 z ≡ true) (sym i.stored) (subst (λ z. blocks_ok z 0 (map page i.pages) ≡ true) (sym e) (laid_blocks i.pages laid))

    -- Not 4.
    pub image_log : log_ok s ≡ true
    unfolding log_ok log_area
    image_log =
        let r : records_of s.log ≡ log = ap records_of i.logged ∙ log_back m log in
        let c : length s.pages ≡ n = ap length i.stored ∙ length-map i.pages page ∙ i.count in
        let g : pages_of s.pages ≡ i.pages = ap pages_of i.stored ∙ pages_back i.pages in
        let sl : slots_ok (length (origin_pages o n)) 1 (log_area m log) ≡ true = lawful_slots h.lawful few (test_sound (origin_pages o n) (origin_tree o n least most)) (pages_low o n least) h.begins (m - length log) in
        and_both (subst (λ z. slots_ok z 1 s.log ≡ true) (origin_length o n ∙ sym c) (subst (λ z. slots_ok (length (origin_pages o n)) 1 z ≡ true) (sym i.logged) sl))
        (and_both (subst (λ z. chain_ok 1 z [] ≡ true) (sym r) (history_now o n log h).chain)
        (subst (λ z. numbers_ok (length z) (pages_of s.pages) ≡ true) (sym r) (subst (λ z. numbers_ok (length log) z ≡ true) (sym g) (numbers_true (length log) i.pages low))))
      where
        low : (p : ℕ) → p < length i.pages → (at i.pages p).lsn ≤ length log
        low p k = let z = behind_numbers 1 o.base log i.pages (origin_lows o) i.behind p k in omega arith

  -- Not 6.
  pub history_pending : pending_ok (pages_after o n log) (open_batches log) ≡ true
  history_pending =
      let c = history_now o n log h in
      settles_pending (pages_after o n log) (leaf_records (pages_after o n log)) (λ k t. fetched_is k (pages_after o n log) c.tree t) (slides_after o log) (open_batches log) c.small c.settles

  module _ (a : Areas) (i : Image o n m log a.stable) where
    stable_pages_are : stable_pages a ≡ i.pages
    stable_pages_are = ap pages_of i.stored ∙ pages_back i.pages

    pub stable_log_is : stable_log a ≡ log
    stable_log_is = ap records_of i.logged ∙ log_back m log

    pub image_redone : redone_pages a ≡ pages_after o n log
    unfolding redone_pages
    image_redone = (λ j. replay 1 (stable_log_is j) (stable_pages_are j)) ∙ redo_pages i.pages i.count i.behind

    pub image_redo_fits : redo_fits 1 (stable_log a) (stable_pages a) ≡ true
    image_redo_fits = (λ j. redo_fits 1 (stable_log_is j) (stable_pages_are j)) ∙ image_fits i.pages i.count i.behind

    pub image_tree : tree_ok (redone_pages a) ≡ true
    image_tree = subst (λ z. tree_ok z ≡ true) (sym image_redone) (history_now o n log h).tree

    pub image_pending : pending_ok (redone_pages a) (open_batches (stable_log a)) ≡ true
    image_pending = (λ j. pending_ok (image_redone j) (open_batches (stable_log_is j))) ∙ history_pending

    -- The run that restart goes on from stands at the end of the history.
    pub redone_standing : Standing o n (redone a) (slides_after o log)
    unfolding redone
    redone_standing =
        let e = image_redone in
        let l = stable_log_is in
        record {
          core = core_same n (run_after o n log) (redone a) (slides_after o log) (slides_after o log) (sym e) (sym l) refl refl refl (history_now o n log h);
          pages = e ∙ ap (pages_after o n) (sym l);
          slides = ap (slides_after o) (sym l);
          history = subst (History o n) (sym l) h;
        }
