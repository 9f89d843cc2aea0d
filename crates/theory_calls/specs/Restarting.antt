-- RESTART of a stored history: it answers 0, 17 or 18; where it finishes no batch is open, and the leaves hold the slides.
use Rattle.std.specs.Prelude.{ℕ, ◌≤◌, ◌≡◌, ◌⊎◌, Bool, true, not, ◌&&◌, List, [], ◌∷◌, eqb}
use Rattle.std.proofs.Math.Path.{sym, ap}
use Rattle.std.proofs.Common.{◌∙◌, subst, inl, inr, arith}
use Rattle.std.proofs.Math.Option.{none, some}
use Rattle.std.proofs.Math.ListN.{length}
use Rattle.def_base.specs.Tests.{clash, and_both}
use Rattle.def_layout.specs.declared.Desk.{Desk}
use Rattle.def_layout.specs.Pages.{map_bits}
use Rattle.def_layout.specs.Records.{Rec}
use Rattle.def_model.specs.declared.Refusal.{Refusal}
use Rattle.def_model.specs.declared.Refusal.TheVariants.{Layout, Log, Redo, Rules, SlotsShort, PagesShort}
use Rattle.def_model.specs.TreeRules.{tree_ok, leaf_records}
use Rattle.def_model.specs.Redo.{redo_fits}
use Rattle.def_model.specs.Batches.{open_batches, desk_of}
use Rattle.def_model.specs.Pending.{pending_ok}
use Rattle.def_model.specs.Areas.{Areas, log_stores}
use Rattle.def_model.specs.Answers.{Check, check, first_broken, passed, answer_numbers, refusal_number}
use Rattle.def_model.specs.Sound.{layouts_ok, log_ok}
use Rattle.def_model.specs.Calls.{run_side}
use Rattle.def_model.specs.Restart.{stable_log, stable_pages, redone, redone_pages, restarted, restart_checks, restart_areas}
use Rattle.def_model.specs.OnBytes.{restart, checks, does, refused, outcome}
use Rattle.def_recovery.specs.Book.{Book, book_call, abort_sheets}
use Rattle.theory_ledger.specs.Settles.{Settles, settled}
use Rattle.theory_room.specs.Restarting.{restarted_cases, restarted_within}
use Rattle.theory_history.specs.Origin.{Origin}
use Rattle.theory_history.specs.Start.{slides_after}
use Rattle.theory_history.specs.Trail.{Trail}
use Rattle.theory_history.specs.Settling.{settle_trail}
use Rattle.theory_history.specs.History.{History, Standing, trail_standing}
use Rattle.theory_history.specs.Redoing.{Image, image_layouts, image_log, image_redo_fits, image_tree, image_pending, redone_standing, stable_log_is}
use Rattle.law_areas.specs.Typed.{log_area_length}
use Rattle.law_areas.specs.Outcomes.{broken_refused, unbroken_does}
use Rattle.theory_calls.specs.Stories.{story, sheets_of}
use Rattle.theory_calls.specs.Passing.{book_of}

skip : (b : Bool) (r : Refusal) (cs : List Check) → b ≡ true → first_broken (check (not b) r ∷ cs) ≡ first_broken cs
unfolding first_broken
skip b r cs e = rw e

module _ (o : Origin) (n m : ℕ) (least : o.least ≤ n) (most : n ≤ map_bits) (log : List Rec) (h : History o n log) (a : Areas) (d : Desk) (i : Image o n m log a.stable) where
  -- None of 3 to 6.
  pub restart_asks : first_broken (restart_checks a) ≡ first_broken (check (eqb (restarted a).stop 17) SlotsShort ∷ check (eqb (restarted a).stop 18) PagesShort ∷ [])
  unfolding restart_checks
  restart_asks =
      skip (layouts_ok a.stable) Layout _ (image_layouts o n m least most log h a.stable i)
      ∙ skip (log_ok a.stable) Log _ (image_log o n m least most log h a.stable i)
      ∙ skip (redo_fits 1 (stable_log a) (stable_pages a)) Redo _ (image_redo_fits o n m least most log h a i)
      ∙ skip (tree_ok (redone_pages a) && pending_ok (redone_pages a) (open_batches (stable_log a))) Rules _
      (and_both (image_tree o n m least most log h a i) (image_pending o n m least most log h a i))

  asked : (z : ℕ) → (restarted a).stop ≡ z → first_broken (restart_checks a) ≡ first_broken (check (eqb z 17) SlotsShort ∷ check (eqb z 18) PagesShort ∷ [])
  asked z e = restart_asks ∙ ap (λ y. first_broken (check (eqb y 17) SlotsShort ∷ check (eqb y 18) PagesShort ∷ [])) e

  pub restart_refusal : ((restarted a).stop ≡ 0 → first_broken (restart_checks a) ≡ none) × ((restarted a).stop ≡ 17 → first_broken (restart_checks a) ≡ some SlotsShort) × ((restarted a).stop ≡ 18 → first_broken (restart_checks a) ≡ some PagesShort)
  unfolding first_broken
  restart_refusal = (asked 0, asked 17, asked 18)

  -- The number that it answers is why its run stopped.
  pub restart_reason : (answer_numbers (outcome restart a d).answer).reason ≡ (restarted a).stop
  unfolding checks does refused restart_areas answer_numbers refusal_number
  restart_reason = go (restarted_cases a)
    where
      go : ((restarted a).stop ≡ 0) ⊎ (((restarted a).stop ≡ 17) ⊎ ((restarted a).stop ≡ 18)) → (answer_numbers (outcome restart a d).answer).reason ≡ (restarted a).stop
      go (inl e) = ap (λ o. (answer_numbers o.answer).reason) (unbroken_does restart a d (restart_refusal.0 e)) ∙ sym e
      go (inr (inl e)) = ap (λ o. (answer_numbers o.answer).reason) (broken_refused restart a d SlotsShort (restart_refusal.1 e)) ∙ sym e
      go (inr (inr e)) = ap (λ o. (answer_numbers o.answer).reason) (broken_refused restart a d PagesShort (restart_refusal.2 e)) ∙ sym e

  pub passed_stop : passed (outcome restart a d).answer ≡ true → (restarted a).stop ≡ 0
  unfolding checks refused passed
  passed_stop p = go (restarted_cases a)
    where
      go : ((restarted a).stop ≡ 0) ⊎ (((restarted a).stop ≡ 17) ⊎ ((restarted a).stop ≡ 18)) → (restarted a).stop ≡ 0
      go (inl e) = e
      go (inr (inl e)) = clash (sym p ∙ ap (λ o. passed o.answer) (broken_refused restart a d SlotsShort (restart_refusal.1 e)))
      go (inr (inr e)) = clash (sym p ∙ ap (λ o. passed o.answer) (broken_refused restart a d PagesShort (restart_refusal.2 e)))

  -- Where it finishes.
  pub record Finished : Type 0 where
    pub trail : Trail (redone a) (slides_after o log) (restarted a) (slides_after o log)
    pub standing : Standing o n (restarted a) (slides_after o log)
    pub closed : open_batches (restarted a).log ≡ []
    pub leaves : leaf_records (restarted a).pages ≡ slides_after o log

  pub finished : (restarted a).stop ≡ 0 → Finished
  unfolding restarted
  finished z =
      let x = redone_standing o n m least most log h a i in
      let (t, c) = settle_trail n most (redone a) (slides_after o log) x.core z in
      let y = trail_standing o n most t x in
      record {
        trail = t;
        standing = y;
        closed = c;
        leaves = settled (slides_after o log) (leaf_records (restarted a).pages) (subst (Settles (slides_after o log) (leaf_records (restarted a).pages)) c y.core.settles);
      }

  pub restart_work : (restarted a).stop ≡ 0 → (outcome restart a d).work ≡ run_side m (restarted a)
  unfolding checks does restart_areas
  restart_work z = ap (λ o. o.work) (unbroken_does restart a d (restart_refusal.0 z)) ∙ ap (λ k. run_side k (restarted a)) (ap length i.logged ∙ log_area_length m log i.fits)

  pub restart_stores : (restarted a).stop ≡ 0 → (outcome restart a d).stores ≡ log_stores (length log) (restarted a).log
  unfolding checks does restart_areas
  restart_stores z = ap (λ o. o.stores) (unbroken_does restart a d (restart_refusal.0 z)) ∙ ap (λ l. log_stores (length l) (restarted a).log) (stable_log_is o n m least most log h a i)

  pub restart_desk : (restarted a).stop ≡ 0 → (outcome restart a d).desk ≡ desk_of (restarted a).log (length (restarted a).log)
  unfolding checks does restart_areas
  restart_desk z = ap (λ o. o.desk) (unbroken_does restart a d (restart_refusal.0 z))

  pub restart_within : length (restarted a).log ≤ m
  restart_within = let e = ap length i.logged ∙ log_area_length m log i.fits in let l = restarted_within a in omega arith

  -- A finished restart drops all sheets.
  pub restart_book : (restarted a).stop ≡ 0 → (b : Book) → b.slides ≡ slides_after o log → book_of restart (outcome restart a d) b ≡ story o (restarted a).log
  unfolding book_call abort_sheets story sheets_of
  restart_book z b e = let f = finished z in λ j. record { slides = (e ∙ f.standing.slides) j; sheets = sheets_of (sym f.closed j) }
