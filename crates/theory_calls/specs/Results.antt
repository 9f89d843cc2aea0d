-- A call's run as its result: where it starts, and what a trail from there gives.
use Rattle.std.specs.Prelude.{ℕ, suc, ◌≤◌, ◌≡◌, false, List, [], ◌∷◌, ◌++◌}
use Rattle.std.proofs.Common.{sym, ◌∙◌, subst}
use Rattle.std.proofs.Math.Path.{ap}
use native.Mathlib.Omega.{arith}
use Rattle.std.proofs.Math.ListN.{length}
use Rattle.def_layout.specs.declared.Desk.{Desk}
use Rattle.def_layout.specs.Pages.{map_bits}
use Rattle.def_layout.specs.Records.{Rec}
use Rattle.def_model.specs.Update.{Run}
use Rattle.def_model.specs.Areas.{Areas}
use Rattle.def_model.specs.Sound.{work_log, work_slots}
use Rattle.def_model.specs.Batches.{tell, open_batches}
use Rattle.def_model.specs.Calls.{run_of, run_side}
use Rattle.def_model.specs.OnBytes.{Call, outcome}
use Rattle.theory_ledger.specs.Telling.{slides_by, slides_more, open_more}
use Rattle.theory_history.specs.Origin.{Origin}
use Rattle.theory_history.specs.Start.{slides_after}
use Rattle.theory_history.specs.Trail.{Trail, trail_longer}
use Rattle.theory_history.specs.History.{History, Standing, trail_standing, trail_fixed}
use Rattle.theory_room.specs.Reasons.{Within}
use Rattle.theory_calls.specs.Stories.{story, sheets_of}
use Rattle.theory_calls.specs.LiveAreas.{Holds, live_log, live_slots, live_standing}
use Rattle.theory_calls.specs.Passing.{is_commit, book_of, calm, Stored, nothing, quietly, Passes, standing_slides}

-- The story with one record more.
pub story_more : (o : Origin) (log : List Rec) (r : Rec) → story o (log ++ r ∷ []) ≡ record { slides = slides_by r.kind r (open_batches log) (slides_after o log); sheets = sheets_of (tell r.kind (suc (length log)) r (open_batches log)) }
unfolding story
story_more o log r = λ i. record { slides = slides_more o.slides log r i; sheets = sheets_of (open_more log r i) }

module _ (o : Origin) (n m : ℕ) (most : n ≤ map_bits) (stable log : List Rec) (a : Areas) (d : Desk) (h : Holds o n m log a.work) (x : History o n log) where
  pub l : work_log a ≡ log
  l = live_log o n m log a h

  pub standing : Standing o n (run_of a) (slides_after o log)
  standing = live_standing o n m log a h x

  pub run_log : (run_of a).log ≡ log
  unfolding run_of
  run_log = l

  pub run_due : (run_of a).due ≡ suc (length log)
  run_due = standing.core.due ∙ ap (λ z. suc (length z)) run_log

  pub run_within : Within m (run_of a)
  unfolding run_of
  run_within = let e = live_slots o n m log a h in let q = ap length l in let f = h.fits in omega arith

  -- A trail as a call's result.
  pub calm_passes : (c : Call) (t : Run) → is_commit c ≡ false → Trail (run_of a) (slides_after o log) t (slides_after o log) → Within m t → (outcome c a d).work ≡ run_side (work_slots a) t → (outcome c a d).stores ≡ []
      → book_of c (outcome c a d) (story o log) ≡ story o t.log → Passes o n m stable log c a d
  calm_passes c t q p w wk st b =
      let y = trail_standing o n most p standing in
      let g = trail_longer p in
      let e : t.log ≡ log ++ g.recs = g.log ∙ ap (◌++ g.recs) run_log in
      record {
        run = t;
        walk = calm p;
        standing = standing_slides o n t (slides_after o log) y;
        work = wk ∙ ap (λ k. run_side k t) (live_slots o n m log a h);
        within = omega arith;
        stored = subst (Stored n stable t) (sym st) nothing;
        follows = quietly g.recs q e (λ u v f. subst (λ z. slides_after o (z ++ u) ≡ slides_after o z) run_log (trail_fixed o n most p standing g.recs g.log u v f));
        book = b;
      }
