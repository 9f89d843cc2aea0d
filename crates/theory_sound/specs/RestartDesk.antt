-- After a restart that is not refused no batch is open, so that the desk has no row in use.
use Rattle.std.specs.Prelude.{ℕ, ◌≡◌, true, [], length, replicate}
use Rattle.std.proofs.Math.Path.{ap}
use Rattle.std.proofs.Math.Option.{none}
use Rattle.def_base.specs.Tests.{and_both}
use Rattle.def_layout.specs.declared.Desk.{Desk}
use Rattle.def_layout.specs.Desks.{empty_desk, no_row}
use Rattle.def_model.specs.Areas.{Areas}
use Rattle.def_model.specs.Answers.{Outcome, first_broken, passed}
use Rattle.def_model.specs.Batches.{open_batches, desk_of}
use Rattle.def_model.specs.Pending.{pending_ok}
use Rattle.def_model.specs.TreeRules.{tree_ok}
use Rattle.def_model.specs.Redo.{redo_fits}
use Rattle.def_model.specs.Sound.{layouts_ok, log_ok}
use Rattle.def_model.specs.Restart.{stable_log, stable_pages, redone_pages, restarted, restart_checks, restart_areas}
use Rattle.def_model.specs.OnBytes.{restart, checks, does, outcome}
use Rattle.law_areas.specs.Outcomes.{unbroken_does}
use Rattle.theory_desk.specs.After.{desk_none_open}
use Rattle.theory_sound.specs.Restarted.{Readable, none_open}

module _ (a : Areas) where
  -- Every check passes where restart's 3 to 6 find nothing and its run did not stop.
  pub restart_accepts : layouts_ok a.stable ≡ true → log_ok a.stable ≡ true → redo_fits 1 (stable_log a) (stable_pages a) ≡ true → tree_ok (redone_pages a) ≡ true
      → pending_ok (redone_pages a) (open_batches (stable_log a)) ≡ true → (restarted a).stop ≡ 0 → first_broken (restart_checks a) ≡ none
  unfolding restart_checks first_broken
  restart_accepts l g f t p z = rw (l, g, f, and_both t p, z)

  passes : (d : Desk) → first_broken (restart_checks a) ≡ none → passed (outcome restart a d).answer ≡ true
  unfolding checks does restart_areas passed
  passes d e = ap (λ (o : Outcome). passed o.answer) (unbroken_does restart a d e)

  pub restart_none_open : Readable a → first_broken (restart_checks a) ≡ none → open_batches (restarted a).log ≡ []
  restart_none_open b e = none_open a empty_desk b (passes empty_desk e)

  pub restart_desk : Readable a → first_broken (restart_checks a) ≡ none → (n stored : ℕ) → n ≡ length (restarted a).log
      → desk_of (restarted a).log stored ≡ record { rows = replicate 8 no_row; logged = n; stored = stored }
  restart_desk b e n stored en = desk_none_open (restarted a).log n stored (restart_none_open b e) en
