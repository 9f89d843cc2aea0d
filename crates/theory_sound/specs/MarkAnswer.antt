-- WHAT MARK ANSWERS (02, U2), on every sound register: the number of the batch's latest record. Nothing is asked of the batch but that it is open: a mark is
-- given of one with its abort mark (7), too.
use Rattle.std.specs.Prelude.{ℕ, ◌≡◌, true, false, length}
use Rattle.std.proofs.Common.{sym, ◌∙◌}
use Rattle.std.proofs.Math.Path.{ap, subst}
use Rattle.def_base.specs.Tests.{and_true}
use Rattle.def_layout.specs.declared.Desk.{Desk}
use Rattle.def_model.specs.declared.Refusal.TheVariants.{NoBatch}
use Rattle.def_model.specs.declared.Answer.TheVariants.{Number}
use Rattle.def_model.specs.Areas.{Areas}
use Rattle.def_model.specs.Answers.{first_broken, refuse}
use Rattle.def_model.specs.Batches.{find_batch}
use Rattle.def_model.specs.Sound.{sound, log_ok, work_log, work_open}
use Rattle.def_model.specs.Calls.{unchanged, is_none, last_of, last_record, mark_checks}
use Rattle.def_model.specs.OnBytes.{request, ask, take_mark, checks, request_checks, question_checks, does, request_does, question_answer, refused, refused_work, refused_desk, outcome}
use Rattle.law_areas.specs.Outcomes.{broken_refused, unbroken_does}
use Rattle.theory_history.specs.LatestRecords.{Latest, latest_one, last_is_latest}
use Rattle.theory_calls.specs.Checks.{sound_parts, some_of}
use Rattle.theory_sound.specs.FromSound.{slots_rows}

module _ (a : Areas) (d : Desk) (s : sound a d ≡ true) (b : ℕ) where
  -- An open batch has a latest record.
  pub open_latest : is_none (find_batch b (work_open a)) ≡ false → Latest b (last_record b a) (work_log a)
  unfolding log_ok last_of
  open_latest op =
      let (y, f) = some_of (find_batch b (work_open a)) op in
      subst (λ o. Latest b (last_of o) (work_log a)) (sym f) (last_is_latest (work_log a) b y (slots_rows (length a.work.pages) 1 a.work.log (and_true _ _ (sound_parts a d s).log).0).0 f)

  -- MARK ANSWERS IT, and changes nothing.
  pub mark_answers : (n : ℕ) → is_none (find_batch b (work_open a)) ≡ false → Latest b n (work_log a) → outcome (request (ask (take_mark b))) a d ≡ unchanged (Number n) a d
  unfolding checks request_checks question_checks mark_checks does request_does question_answer first_broken
  mark_answers n op x = unbroken_does (request (ask (take_mark b))) a d (rw (s, op)) ∙ ap (λ m. unchanged (Number m) a d) (latest_one (open_latest op) x)

  -- Of a batch that is not open there is none.
  pub mark_refused : is_none (find_batch b (work_open a)) ≡ true → outcome (request (ask (take_mark b))) a d ≡ refuse NoBatch a d
  unfolding checks request_checks question_checks mark_checks refused refused_work refused_desk first_broken
  mark_refused shut = broken_refused (request (ask (take_mark b))) a d NoBatch (rw (s, shut))
