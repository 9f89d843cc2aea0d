-- A RESTART SETTLES: of any image that restart accepts, whose unmarked pages redo leaves free, every first part of what it stores leads the next restart to the same slides.
use Rattle.std.specs.Prelude.{ℕ, ◌≡◌, drop}
use Rattle.std.proofs.Math.Path.{refl, sym, ap}
use Rattle.std.proofs.Common.{◌∙◌, arith, take-append-drop}
use Rattle.std.proofs.Math.Bool.{true}
use Rattle.std.proofs.Math.Option.{none}
use mathlib.Core.List.{List, [], ◌++◌, append-nil}
use Rattle.std.proofs.Math.ListN.{length, take}
use Rattle.std.proofs.Math.Seq.{take_all}
use Rattle.def_layout.specs.declared.Desk.{Desk}
use Rattle.def_layout.specs.Records.{Rec}
use Rattle.def_model.specs.Log.{log_area, slots_from}
use Rattle.def_model.specs.Areas.{Areas, pages_of, store_all, slot_stores, log_stores}
use Rattle.def_model.specs.declared.Answer.TheVariants.{Pair}
use Rattle.def_model.specs.Answers.{passed, first_broken}
use Rattle.def_model.specs.Calls.{run_side}
use Rattle.def_model.specs.Redo.{redo_fits, redo_count}
use Rattle.def_model.specs.TreeRules.{tree_ok, leaf_records}
use Rattle.def_model.specs.Batches.{open_batches}
use Rattle.def_model.specs.Pending.{pending_ok}
use Rattle.def_model.specs.Sound.{layouts_ok, log_ok}
use Rattle.def_model.specs.Restart.{stable_log, stable_pages, stable_slots, redone_pages, redone, restarted, restart_checks, restart_areas}
use Rattle.def_model.specs.OnBytes.{restart, checks, does, outcome}
use Rattle.law_areas.specs.Outcomes.{unbroken_does}
use Rattle.law_areas.specs.Typed.{pages_back}
use Rattle.law_areas.specs.Storing.{log_stores_are, log_stores_count}
use Rattle.theory_refusals.specs.Order.{passed_does}
use Rattle.theory_fit.specs.Clean.{Clean}
use Rattle.theory_sound.specs.Restarted.{Readable, unstopped}
use Rattle.theory_sound.specs.Restarted
use Rattle.theory_sound.specs.RestartCut.{log_is, layouts, log_good, fits_good, rules_good, cut_leaves, again, part_stored}

left_pages : (a : Areas) (d : Desk) → passed (outcome restart a d).answer ≡ true → pages_of (outcome restart a d).work.pages ≡ (restarted a).pages
unfolding does restart_areas run_side
left_pages a d p = ap (λ o. pages_of o.work.pages) (passed_does restart a d p).1 ∙ pages_back (restarted a).pages

finishes : (a : Areas) (d : Desk) → passed (outcome restart a d).answer ≡ true → (restarted a).stop ≡ 0
unfolding checks
finishes a d p = unstopped a (passed_does restart a d p).0

-- THE TWO CLAIMS, of the typed calls.
module _ (a : Areas) (d : Desk) (b : Readable a) (p : passed (outcome restart a d).answer ≡ true) (clean : Clean (redone_pages a)) where
  stores_are : (outcome restart a d).stores ≡ log_stores (length (stable_log a)) (restarted a).log
  unfolding does restart_areas
  stores_are = ap (λ o. o.stores) (passed_does restart a d p).1

  -- Cut after j stores, and then finished: the same slides.
  pub settles_cut : (j : ℕ) (a' : Areas) (d' : Desk) → a'.stable ≡ store_all (take j (outcome restart a d).stores) a.stable → passed (outcome restart a' d').answer ≡ true
      → leaf_records (pages_of (outcome restart a' d').work.pages) ≡ leaf_records (pages_of (outcome restart a d).work.pages)
  settles_cut j a' d' after p' =
      let (more, e) = Restarted.longer a d b p in
      let (x, y) = part_stored a d b p j more e in
      let s : a'.stable ≡ store_all (take j (log_stores (length (stable_log a)) (restarted a).log)) a.stable = after ∙ ap (λ z. store_all (take j z) a.stable) stores_are in
      ap leaf_records (left_pages a' d' p')
      ∙ cut_leaves a d b p clean a' (take j more) (drop j more) (e ∙ ap (stable_log a ++◌) (sym (take-append-drop j more))) (ap (λ z. z.pages) s ∙ x) (ap (λ z. z.log) s ∙ y) (finishes a' d' p')
      ∙ sym (ap leaf_records (left_pages a d p))

  -- STRAIGHT AFTER A FINISHED ONE: no batch ended, nothing stored, the same slides.
  pub record Again (a' : Areas) (d' : Desk) : Type 0 where
    pub answer : (c : ℕ) × ((outcome restart a' d').answer ≡ Pair 0 c)
    pub stores : (outcome restart a' d').stores ≡ []
    pub leaves : leaf_records (pages_of (outcome restart a' d').work.pages) ≡ leaf_records (pages_of (outcome restart a d).work.pages)

  -- Where 3 to 6 find nothing and nothing is left to do, no check is broken.
  nothing_found : (a' : Areas) → layouts_ok a'.stable ≡ true → log_ok a'.stable ≡ true → redo_fits 1 (stable_log a') (stable_pages a') ≡ true → tree_ok (redone_pages a') ≡ true
      → pending_ok (redone_pages a') (open_batches (stable_log a')) ≡ true → (restarted a').stop ≡ 0 → first_broken (restart_checks a') ≡ none
  unfolding restart_checks first_broken
  nothing_found a' l g f t q z = rw (l, g, f, t, q, z) refl

  pub settles_again : (a' : Areas) (d' : Desk) → a'.stable ≡ store_all (outcome restart a d).stores a.stable → Again a' d'
  unfolding checks does restart_areas redone slot_stores slots_from passed
  settles_again a' d' after =
      let (more, e) = Restarted.longer a d b p in
      let ts = log_stores (length (stable_log a)) (restarted a).log in
      let j = length ts in
      let c : j ≡ length more = ap (λ z. length (log_stores (length (stable_log a)) z)) e ∙ log_stores_count (stable_log a) more in
      let (x, y) = part_stored a d b p j more e in
      let s : a'.stable ≡ store_all (take j ts) a.stable = after ∙ ap (λ z. store_all z a.stable) (stores_are ∙ sym (take_all j ts (omega arith))) in
      let all : take j more ≡ more = take_all j more (omega arith) in
      let is : (restarted a).log ≡ stable_log a ++ (more ++ []) = e ∙ ap (stable_log a ++◌) (sym (append-nil more)) in
      let u = ap (λ z. z.pages) s ∙ x in
      let v = ap (λ z. z.log) s ∙ y ∙ ap (λ z. log_area (stable_slots a) (stable_log a ++ z)) all in
      let done = again a d b p clean a' more [] is u v refl in
      let (t, q) = rules_good a d b p clean a' more [] is u v in
      let zero_stop : (restarted a').stop ≡ 0 = ap (λ r. r.stop) done in
      let n' = nothing_found a' (layouts a d b p clean a' more [] is u v) (log_good a d b p clean a' more [] is u v) (fits_good a d b p clean a' more [] is u v) t q zero_stop in
      let did : outcome restart a' d' ≡ restart_areas a' = unbroken_does restart a' d' n' in
      let p' : passed (outcome restart a' d').answer ≡ true = ap (λ o. passed o.answer) did in
      let shut : open_batches (stable_log a') ≡ [] = ap open_batches (log_is a d b p clean a' more [] is u v ∙ sym e) ∙ Restarted.none_open a d b p in
      record {
        answer = (redo_count 1 (stable_log a') (stable_pages a'), ap (λ o. o.answer) did ∙ ap (λ k. Pair (length k) (redo_count 1 (stable_log a') (stable_pages a'))) shut);
        stores = ap (λ o. o.stores) did ∙ ap (λ r. log_stores (length (stable_log a')) r.log) done ∙ none_left (stable_log a');
        leaves = ap leaf_records (left_pages a' d' p') ∙ cut_leaves a d b p clean a' more [] is u v zero_stop ∙ sym (ap leaf_records (left_pages a d p));
      }
    where
      none_left : (l : List Rec) → log_stores (length l) l ≡ []
      none_left l = ap (log_stores (length l)) (sym (append-nil l)) ∙ log_stores_are l []
