-- What each call on sound areas does where none of its checks is broken.
use Rattle.std.specs.Prelude.{◌≡◌, ℕ, suc, true, false, [], ◌∷◌, length, leb}
use Rattle.std.proofs.Common.{◌∙◌}
use Rattle.std.proofs.Math.Option.{none, some}
use Rattle.def_base.specs.Tests.{eq_true}
use Rattle.def_layout.specs.declared.Entry.{Entry}
use Rattle.def_layout.specs.declared.Desk.{Desk}
use Rattle.def_layout.specs.Desks.{most_open}
use Rattle.def_layout.specs.Pages.{at}
use Rattle.def_layout.specs.Records as records
use Rattle.def_layout.specs.Records.{batch_row}
use Rattle.def_model.specs.declared.Answer.TheVariants.{Done, Number, Pair}
use Rattle.def_model.specs.Log.{last_number}
use Rattle.def_model.specs.Fit.{found}
use Rattle.def_model.specs.Lookup.{fetched, next_above}
use Rattle.def_model.specs.Areas.{Areas, store_page}
use Rattle.def_model.specs.Answers.{first_broken}
use Rattle.def_model.specs.Batches.{find_batch, unmarked, is_record_of}
use Rattle.def_model.specs.Pending.{held, held_between, held_from}
use Rattle.def_model.specs.Update.{emit, put_record, remove_record}
use Rattle.def_model.specs.Sound.{sound, work_pages, work_log, work_slots, work_open, begin_has_slots}
use Rattle.def_model.specs.Calls.{run_of, kept_run, stored_run, unchanged, is_none, value_or, last_record, next_limit, next_answer, before, previous_limit, abort_of, return_of, begin_checks, begin_batch, fetch_checks, next_checks, previous_checks, insert_checks, insert_slide, delete_checks, delete_slide, commit_checks, commit_batch, abort_checks, abort_batch, mark_checks, return_checks, return_batch, write_out_checks, write_out_page}
use Rattle.def_model.specs.OnBytes.{checks, question_checks, question_answer, request_checks, does, request_does, outcome}
use Rattle.def_model.specs.CallNames.{begin, fetch, next, previous, insert, delete, commit, abort, take_mark, return_to, write_out}
use Rattle.law_areas.specs.Outcomes.{unbroken_does}

module _ (a : Areas) (d : Desk) where
  -- ---- insert and delete, whose checks are told to be whole

  pub insert_goes : (b k v : ℕ) → first_broken (insert_checks b k a d) ≡ none → outcome (insert b k v) a d ≡ kept_run Done a (put_record records.insert b (last_record b a) k v (run_of a)) d
  unfolding checks request_checks does request_does insert_slide
  insert_goes b k v = unbroken_does (insert b k v) a d

  pub delete_goes : (b k : ℕ) → first_broken (delete_checks b k a d) ≡ none
      → outcome (delete b k) a d ≡ kept_run Done a (remove_record records.delete b (last_record b a) k (value_or (fetched k (work_pages a))) (run_of a)) d
  unfolding checks request_checks does request_does delete_slide
  delete_goes b k = unbroken_does (delete b k) a d

  -- ---- the others, check by check

  module _ (ok : sound a d ≡ true) where
    pub begin_goes : leb most_open (length (work_open a)) ≡ false → begin_has_slots (work_slots a) (work_log a) (work_open a) ≡ true
        → outcome begin a d ≡ kept_run (Number (suc (last_number (work_log a)))) a (emit (batch_row records.begin (suc (last_number (work_log a))) 0) (run_of a)) d
    unfolding checks request_checks does request_does begin_batch begin_checks first_broken
    begin_goes e f = unbroken_does begin a d (rw (ok, e, f))

    module _ (b k : ℕ) (is_open : is_none (find_batch b (work_open a)) ≡ false) where
      pub fetch_goes : (v : ℕ) → held b k (work_open a) ≡ false → fetched k (work_pages a) ≡ some v → outcome (fetch b k) a d ≡ unchanged (Number v) a d
      unfolding checks request_checks does request_does question_checks question_answer fetch_checks first_broken found value_or
      fetch_goes v e f = unbroken_does (fetch b k) a d (rw (ok, is_open, e, f)) ∙ rw f

      pub next_goes : (x : Entry) → next_above k (work_pages a) ≡ some x → held_between b k (next_limit (some x)) (work_open a) ≡ false
          → outcome (next b k) a d ≡ unchanged (Pair x.key x.val) a d
      unfolding checks request_checks does request_does question_checks question_answer next_checks first_broken is_none next_answer
      next_goes x f e = unbroken_does (next b k) a d (rw (ok, is_open, f, e)) ∙ rw f

      pub previous_goes : (x : Entry) → before k a ≡ some x → held_from b (previous_limit (some x)) k (work_open a) ≡ false
          → outcome (previous b k) a d ≡ unchanged (Pair x.key x.val) a d
      unfolding checks request_checks does request_does question_checks question_answer previous_checks first_broken is_none next_answer
      previous_goes x f e = unbroken_does (previous b k) a d (rw (ok, is_open, f, e)) ∙ rw f

    module _ (b : ℕ) (is_open : is_none (find_batch b (work_open a)) ≡ false) where
      pub mark_goes : outcome (take_mark b) a d ≡ unchanged (Number (last_record b a)) a d
      unfolding checks request_checks does request_does question_checks question_answer mark_checks first_broken
      mark_goes = unbroken_does (take_mark b) a d (rw (ok, is_open))

      pub return_goes : (m : ℕ) → is_record_of b m (work_log a) ≡ true → (return_of b m a).stop ≡ 0 → outcome (return_to b m) a d ≡ kept_run Done a (return_of b m a) d
      unfolding checks request_checks does request_does return_batch return_checks first_broken
      return_goes m e f = unbroken_does (return_to b m) a d (rw (ok, is_open, e, eq_true (return_of b m a).stop 0 f))

    module _ (b : ℕ) (live : unmarked (find_batch b (work_open a)) ≡ true) where
      pub commit_goes : outcome (commit b) a d ≡ stored_run Done a (emit (batch_row records.commit b (last_record b a)) (run_of a)) d []
      unfolding checks request_checks does request_does commit_batch commit_checks first_broken
      commit_goes = unbroken_does (commit b) a d (rw (ok, live))

      pub abort_goes : (abort_of b a).stop ≡ 0 → outcome (abort b) a d ≡ kept_run Done a (abort_of b a) d
      unfolding checks request_checks does request_does abort_batch abort_checks first_broken
      abort_goes f = unbroken_does (abort b) a d (rw (ok, live, eq_true (abort_of b a).stop 0 f))

    pub write_out_goes : (p : ℕ) → leb (length a.work.pages) p ≡ false
        → outcome (write_out p) a d ≡ stored_run Done a (run_of a) d (store_page p (at (work_pages a) p) ∷ [])
    unfolding checks request_checks does request_does write_out_page write_out_checks first_broken
    write_out_goes p e = unbroken_does (write_out p) a d (rw (e, ok))
