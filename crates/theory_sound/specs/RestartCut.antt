-- A RESTART CUT AFTER SOME OF ITS STORES: the stable log has a first part of the new records. The next restart finds none of 3 to 6, and where it finishes the
-- leaves are the same.
use Rattle.std.specs.Prelude.{ℕ, suc, ◌+◌, ◌-◌, ◌≤◌, ◌<◌, ◌≡◌, true, List, [], ◌∷◌, ◌++◌}
use Rattle.std.proofs.Math.Path.{refl, sym, ap, subst}
use Rattle.std.proofs.Common.{◌∙◌, append-nil, append_assoc, suc-add, add-suc, add-zero, take-append-drop}
use native.Mathlib.Omega.{arith}
use Rattle.std.proofs.Math.ListN.{length, length-append, take, drop, replicate}
use Rattle.std.proofs.lemmas.List.{length-replicate, replicate-append-replicate}
use Rattle.def_base.specs.Tests.{and_both, and_true}
use Rattle.def_layout.specs.declared.Entry.{Entry}
use Rattle.def_layout.specs.declared.Desk.{Desk}
use Rattle.def_layout.specs.Pages.{Page, at}
use Rattle.def_layout.specs.Records.{Rec}
use Rattle.def_layout.specs.RecordBytes.{empty}
use Rattle.def_model.specs.Log.{records_of, slots_ok, log_area, slots_from}
use Rattle.def_model.specs.Areas.{Areas, pages_of, blocks_ok, store_all, slot_stores, log_stores}
use Rattle.def_model.specs.Answers.{passed}
use Rattle.def_model.specs.Redo.{redo_record, replay, redo_fits, fits_places, places}
use Rattle.def_model.specs.TreeRules.{tree_ok, leaf_records}
use Rattle.def_model.specs.Update.{Run}
use Rattle.def_model.specs.Batches.{open_batches, pending_count}
use Rattle.def_model.specs.Pending.{pending_ok}
use Rattle.def_model.specs.Undo.{mark_all, end_idle, undo_all}
use Rattle.def_model.specs.Sound.{layouts_ok, log_ok}
use Rattle.def_model.specs.Restart.{stable_log, stable_pages, stable_slots, redone_pages, redone, restarted, settle}
use Rattle.def_model.specs.OnBytes.{restart, outcome}
use Rattle.law_areas.specs.Typed.{log_back, slots_length}
use Rattle.law_areas.specs.Logs.{slots_append}
use Rattle.law_areas.specs.Storing.{take_stores, log_stores_are}
use Rattle.theory_room.specs.Restarting.{restarted_within}
use Rattle.theory_redo.specs.Area.{replay_append}
use Rattle.theory_update.specs.Find.Fetching.{fetched_is}
use Rattle.theory_fit.specs.Clean.{Clean}
use Rattle.theory_ledger.specs.Settles.{Settles, settled}
use Rattle.theory_ledger.specs.PendingRule.{settles_pending}
use Rattle.theory_ledger.specs.Telling.{number_due}
use Rattle.theory_history.specs.Core.{Core, RowsOk, NamesOk}
use Rattle.theory_history.specs.Trail.{trail_core}
use Rattle.theory_history.specs.History.{core_same}
use Rattle.theory_history.specs.Settling.{settle_trail}
use Rattle.theory_history.specs.Redoing.{numbers_true}
use Rattle.theory_history.specs.Points.{Point, point, point_fits}
use Rattle.theory_sound.specs.FromSound.{numbers_low}
use Rattle.theory_sound.specs.ToSound.{rows_slots}
use Rattle.theory_sound.specs.SlotStores.{slots_written, slots_leave, slots_exact}
use Rattle.theory_sound.specs.Restarted.{Readable}
use Rattle.theory_sound.specs.Restarted

redo_fits_append : (n : ℕ) (x y : List Rec) (pages : List Page) → redo_fits n x pages ≡ true → redo_fits (n + length x) y (replay n x pages) ≡ true → redo_fits n (x ++ y) pages ≡ true
unfolding redo_fits replay
redo_fits_append n [] y pages e f = subst (λ m. redo_fits m y pages ≡ true) (add-zero n) f
redo_fits_append n (r ∷ x) y pages e f =
    let (a, b) = and_true (fits_places n r (places r) pages) (redo_fits (suc n) x (redo_record n r pages)) e in
    and_both a (redo_fits_append (suc n) x y (redo_record n r pages) b (subst (λ m. redo_fits m y (replay (suc n) x (redo_record n r pages)) ≡ true) (add-suc n (length x) ∙ sym (suc-add n (length x))) f))

-- Where no batch is open there is nothing to settle.
pub settle_none : (s : Run) → open_batches s.log ≡ [] → settle s ≡ s
unfolding settle mark_all end_idle undo_all pending_count
settle_none s e = rw (e, e) refl

module _ (a : Areas) (d : Desk) (b : Readable a) (p : passed (outcome restart a d).answer ≡ true) where
  abbrev N : ℕ
  N = length a.stable.pages

  abbrev sl : List Entry
  sl = Restarted.sl a d b p

  core₀ : Core N (redone a) sl
  core₀ = Restarted.started a d b p

  -- What it leaves.
  pub own_leaves : leaf_records (restarted a).pages ≡ sl
  own_leaves = settled sl (leaf_records (restarted a).pages) (subst (Settles sl (leaf_records (restarted a).pages)) (Restarted.none_open a d b p) (Restarted.core a d b p).settles)

  -- AN IMAGE WITH A FIRST PART OF THE NEW RECORDS.
  module _ (clean : Clean (redone_pages a)) (a' : Areas) (part tail : List Rec) (is : (restarted a).log ≡ stable_log a ++ (part ++ tail)) (same : a'.stable.pages ≡ a.stable.pages)
      (stored : a'.stable.log ≡ log_area (stable_slots a) (stable_log a ++ part)) where
    pt : Point N (redone a) sl part
    unfolding redone
    pt = point N b.few core₀ (Restarted.trailed a d b p).0 part tail is

    pub log_is : stable_log a' ≡ stable_log a ++ part
    log_is = ap records_of stored ∙ log_back (stable_slots a) (stable_log a ++ part)

    pages_are : stable_pages a' ≡ stable_pages a
    pages_are = ap pages_of same

    redone_are : redone_pages a' ≡ pt.run.pages
    unfolding redone_pages redone pt
    redone_are =
        (λ i. replay 1 (log_is i) (pages_are i)) ∙ replay_append 1 (stable_log a) part (stable_pages a)
        ∙ ap (λ m. replay m part (replay 1 (stable_log a) (stable_pages a))) (number_due (stable_log a)) ∙ sym pt.pages

    pub core' : Core N (redone a') sl
    unfolding redone
    core' = core_same N pt.run (redone a') sl sl (sym redone_are) (pt.log ∙ sym log_is) refl refl refl pt.core

    -- Not 3.
    pub layouts : layouts_ok a'.stable ≡ true
    unfolding layouts_ok
    layouts = subst (λ z. blocks_ok (length z) 0 z ≡ true) (sym same) (Restarted.asked a d b p).layouts

    -- Not 4.
    pub log_good : log_ok a'.stable ≡ true
    unfolding log_ok log_area redone
    log_good =
        let rows : RowsOk 1 (stable_log a ++ part) = subst (RowsOk 1) log_is core'.rows in
        let names : NamesOk N (stable_log a ++ part) = subst (NamesOk N) log_is core'.names in
        and_both (subst (λ z. slots_ok (length z) 1 a'.stable.log ≡ true) (sym same) (subst (λ z. slots_ok N 1 z ≡ true) (sym stored) (rows_slots N 1 (stable_slots a - length (stable_log a ++ part)) (stable_log a ++ part) rows names)))
        (and_both core'.chain
        (numbers_true (length (stable_log a')) (stable_pages a') (λ q h. low q (subst (λ z. q < length z) pages_are h))))
      where
        low : (q : ℕ) → q < length (stable_pages a) → (at (stable_pages a') q).lsn ≤ length (stable_log a')
        low q h =
            let y = numbers_low (length (stable_log a)) (stable_pages a) (Restarted.chain_good a d b p).1 q h in
            let e : (at (stable_pages a') q).lsn ≡ (at (stable_pages a) q).lsn = ap (λ z. (at z q).lsn) pages_are in
            let l : length (stable_log a') ≡ length (stable_log a ++ part) = ap length log_is in
            let g = length-append (stable_log a) part in
            omega arith

    -- Not 5.
    pub fits_good : redo_fits 1 (stable_log a') (stable_pages a') ≡ true
    unfolding redone redone_pages
    fits_good =
        (λ i. redo_fits 1 (log_is i) (pages_are i))
        ∙ redo_fits_append 1 (stable_log a) part (stable_pages a) (Restarted.asked a d b p).fits
        (subst (λ m. redo_fits m part (replay 1 (stable_log a) (stable_pages a)) ≡ true) (sym (number_due (stable_log a))) (point_fits N b.few (redone a) sl part (length (stable_log a)) refl core₀ clean pt))

    -- Not 6.
    pub rules_good : (tree_ok (redone_pages a') ≡ true) × (pending_ok (redone_pages a') (open_batches (stable_log a')) ≡ true)
    unfolding redone
    rules_good = (core'.tree, settles_pending (redone_pages a') (leaf_records (redone_pages a')) (λ k h. fetched_is k (redone_pages a') core'.tree h) sl (open_batches (stable_log a')) core'.small core'.settles)

    -- WHERE IT FINISHES, THE SAME SLIDES.
    pub cut_leaves : (restarted a').stop ≡ 0 → leaf_records (restarted a').pages ≡ leaf_records (restarted a).pages
    unfolding restarted
    cut_leaves z =
        let (tr, shut) = settle_trail N b.few (redone a') sl core' z in
        settled sl (leaf_records (restarted a').pages) (subst (Settles sl (leaf_records (restarted a').pages)) shut (trail_core b.few tr core').settles) ∙ sym own_leaves

    -- STRAIGHT AFTER A FINISHED ONE: nothing is open, and nothing is written.
    pub again : tail ≡ [] → restarted a' ≡ redone a'
    unfolding restarted redone
    again e =
        let l : stable_log a' ≡ (restarted a).log = log_is ∙ ap (stable_log a ++◌) (sym (append-nil part) ∙ ap (part ++◌) (sym e)) ∙ sym is in
        settle_none (redone a') (ap open_batches l ∙ Restarted.none_open a d b p)

-- ---- what was stored

module _ (a : Areas) (d : Desk) (b : Readable a) (p : passed (outcome restart a d).answer ≡ true) where
  -- Of its stores the first j.
  pub part_stored : (j : ℕ) (more : List Rec) → (restarted a).log ≡ stable_log a ++ more
      → ((store_all (take j (log_stores (length (stable_log a)) (restarted a).log)) a.stable).pages ≡ a.stable.pages)
      × ((store_all (take j (log_stores (length (stable_log a)) (restarted a).log)) a.stable).log ≡ log_area (stable_slots a) (stable_log a ++ take j more))
  unfolding log_area
  part_stored j more e =
      let l = stable_log a in
      let ts : take j (log_stores (length l) (restarted a).log) ≡ slot_stores (suc (length l)) (slots_from (suc (length l)) (take j more)) =
      ap (λ z. take j (log_stores (length l) z)) e ∙ ap (take j) (log_stores_are l more) ∙ take_stores j (suc (length l)) (suc (length l)) more in
      let w = restarted_within a in
      let f : length (restarted a).log ≡ length (l ++ more) = ap length e in
      let g = length-append l more in
      let h = length-append l (take j more) in
      let k = length-append (take j more) (drop j more) in
      let w' : length (take j more ++ drop j more) ≡ length more = ap length (take-append-drop j more) in
      let q = stable_slots a - length (l ++ take j more) in
      let new = slots_from (suc (length l)) (take j more) in
      let area : a.stable.log ≡ slots_from 1 l ++ (replicate (length (take j more)) empty ++ replicate q empty) =
      slots_exact (length a.stable.pages) 1 a.stable.log (Restarted.slots_good a d b p)
      ∙ ap (λ z. slots_from 1 l ++ replicate z empty) (let e : stable_slots a - length l ≡ length (take j more) + q = omega arith in e)
      ∙ ap (slots_from 1 l ++◌) (sym (replicate-append-replicate (length (take j more)) q empty)) in
      let put : (store_all (slot_stores (suc (length l)) new) a.stable).log ≡ slots_from 1 l ++ (new ++ replicate q empty) =
      subst (λ z. (store_all (slot_stores (suc z) new) a.stable).log ≡ slots_from 1 l ++ (new ++ replicate q empty)) (slots_length 1 l)
      (slots_written new (slots_from 1 l) (replicate (length (take j more)) empty) (replicate q empty) a.stable area (length-replicate (length (take j more)) empty ∙ sym (slots_length (suc (length l)) (take j more)))) in (
        ap (λ z. (store_all z a.stable).pages) ts ∙ slots_leave (suc (length l)) new a.stable,
        ap (λ z. (store_all z a.stable).log) ts ∙ put ∙ sym (append_assoc (slots_from 1 l) new (replicate q empty))
            ∙ ap (◌++ replicate q empty) (sym (slots_append 1 l (take j more) ∙ ap (λ z. slots_from 1 l ++ slots_from z (take j more)) (number_due l))),
      )
