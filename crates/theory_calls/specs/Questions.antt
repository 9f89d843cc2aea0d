-- A question and a write-out change no working page and no record.
use Rattle.std.specs.Prelude.{ℕ, ◌≤◌, ◌≡◌, true, false, leb}
use Rattle.std.proofs.Math.Path.{refl, sym, ap, subst}
use Rattle.std.proofs.Common.{◌∙◌, arith}
use mathlib.Core.List.{List, [], ◌∷◌, ◌++◌, append-nil}
use Rattle.std.proofs.Math.ListN.{length}
use Rattle.def_base.specs.Tests.{false_le}
use Rattle.def_layout.specs.declared.Desk.{Desk}
use Rattle.def_layout.specs.Pages.{map_bits, at}
use Rattle.def_layout.specs.Records.{Rec}
use Rattle.def_model.specs.declared.Refusal.TheVariants.{PageNumber, Unsound}
use Rattle.def_model.specs.Log.{log_area}
use Rattle.def_model.specs.Areas.{Areas, store_page, log_stores}
use Rattle.def_model.specs.Answers.{passed, check}
use Rattle.def_model.specs.Sound.{sound, work_pages, work_log}
use Rattle.def_model.specs.Calls.{run_of, run_side, stored_run, write_out_checks, write_out_page}
use Rattle.def_model.specs.OnBytes.{Call, request, Question, ask, write_out, checks, request_checks, does, request_does, outcome}
use Rattle.def_recovery.specs.Book.{book_call, book_request, commits, commits_request}
use Rattle.def_model.specs.Fit.{found}
use Rattle.theory_refusals.specs.Order.{passed_does}
use Rattle.theory_history.specs.Origin.{Origin}
use Rattle.theory_history.specs.Start.{slides_after}
use Rattle.theory_history.specs.Trail.{stay}
use Rattle.theory_history.specs.History.{History, Standing}
use Rattle.theory_calls.specs.Stories.{story}
use Rattle.theory_calls.specs.LiveAreas.{Holds, live_log, live_slots, live_count, live_standing, live_same, stored_count}
use Rattle.theory_calls.specs.Checks.{none_broken, kept_check, sound_parts}
use Rattle.theory_calls.specs.Passing.{is_commit, book_of, Stored, calm, nothing, log_and_page, quietly, Passes}

nothing_first : (o : Origin) (log a b : List Rec) → [] ≡ a ++ b → slides_after o (log ++ a) ≡ slides_after o log
nothing_first o log [] b e = ap (slides_after o) (append-nil log)
nothing_first o log (x ∷ a) b e = let w : ◌≡◌ {A = ℕ} 0 1 = cc in absurd (omega arith)

module _ (o : Origin) (n m : ℕ) (most : n ≤ map_bits) (stable log : List Rec) (a : Areas) (d : Desk) (h : Holds o n m log a.work) (x : History o n log) where
  standing : Standing o n (run_of a) (slides_after o log)
  standing = live_standing o n m log a h x

  -- A call that leaves everything as it is.
  same : (c : Call) → (outcome c a d).work ≡ a.work → (outcome c a d).stores ≡ [] → is_commit c ≡ false → book_of c (outcome c a d) (story o log) ≡ story o log → Passes o n m stable log c a d
  unfolding run_of
  same c w s q b =
      let l = live_log o n m log a h in
      record {
        run = run_of a;
        walk = calm stay;
        standing = subst (λ z. Standing o n (run_of a) (slides_after o z)) (sym l) standing;
        work = w ∙ sym (live_same o n m log a h most x);
        within = subst (λ z. length z ≤ m) (sym l) h.fits;
        stored = subst (Stored n stable (run_of a)) (sym s) nothing;
        follows = quietly [] q (l ∙ sym (append-nil log)) (nothing_first o log);
        book = b ∙ ap (story o) (sym l);
      }

  pub question_passes : (q : Question) → passed (outcome (request (ask q)) a d).answer ≡ true → Passes o n m stable log (request (ask q)) a d
  unfolding does request_does is_commit commits commits_request found book_call book_request
  question_passes q p = let (e, did) = passed_does (request (ask q)) a d p in same (request (ask q)) (ap (λ o. o.work) did) (ap (λ o. o.stores) did) refl refl

  pub write_out_passes : (q : ℕ) → a.stable.log ≡ log_area m stable → passed (outcome (request (write_out q)) a d).answer ≡ true → Passes o n m stable log (request (write_out q)) a d
  unfolding checks request_checks does request_does write_out_page write_out_checks is_commit commits commits_request found book_call book_request stored_run run_of
  write_out_passes q t p =
      let (e, y) = passed_does (request (write_out q)) a d p in
      let (e₁, e₂) = none_broken (check (leb (length a.work.pages) q) PageNumber) _ e in
      let (snd, e₃) = kept_check (sound a d) Unsound [] e₂ in
      let k = stored_count m stable a d t (sound_parts a d snd).stored in
      let inside = false_le (length a.work.pages) q e₁ in
      let c = live_count o n m log a h in
      record {
        run = run_of a;
        walk = calm stay;
        standing = subst (λ z. Standing o n (run_of a) (slides_after o z)) (sym l) standing;
        work = ap (λ o. o.work) y ∙ ap (λ k. run_side k (run_of a)) (live_slots o n m log a h);
        within = subst (λ z. length z ≤ m) (sym l) h.fits;
        stored = subst (Stored n stable (run_of a)) (sym (ap (λ o. o.stores) y ∙ ap (λ z. log_stores z (run_of a).log ++ store_page q (at (work_pages a) q) ∷ []) k)) (log_and_page q (omega arith));
        follows = quietly [] refl (l ∙ sym (append-nil log)) (nothing_first o log);
        book = ap (story o) (sym l);
      }
    where
      l : work_log a ≡ log
      l = live_log o n m log a h
