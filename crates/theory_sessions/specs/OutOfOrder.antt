-- WHAT IS GRANTED OF STORES IS NEEDED, on bytes: where a store is there without one before it, or a finished call's are not all there, what
-- demand 3 says is false.
use Rattle.std.specs.Prelude.{ℕ, zero, suc, ◌≡◌, false, List, [], ◌∷◌, ◌++◌, take}
use Rattle.std.proofs.Math.Path.{refl, sym, ap}
use Rattle.std.proofs.Common.{◌∙◌, subst, inl, inr, arith}
use Rattle.std.proofs.Math.Bool.{true}
use Rattle.std.proofs.Math.ListN.{length, drop}
use Rattle.def_base.specs.Tests.{any}
use Rattle.def_layout.specs.declared.Desk.{Desk}
use Rattle.def_layout.specs.Desks.{empty_desk}
use Rattle.def_model.specs.Areas.{Store, store_page, store_slot, store_all}
use Rattle.def_model.specs.Answers.{answer_numbers, passed}
use Rattle.def_model.specs.Log.{records_of}
use Rattle.def_model.specs.Restart.{stable_log}
use Rattle.def_model.specs.CallNames.{restart, commit, write_out}
use Rattle.def_model.specs.OnBytes.{Call, outcome, Lent, call_by, read_areas, lengths_ok, store_bytes, store_all_bytes}
use Rattle.def_recovery.specs.Events.{World, Rubble, result, passes, formatted, happen_all, request_32, of_32_bits, is_format}
use Rattle.def_recovery.specs.Demand3.{reason, FinishesOrWants, is_commit_of, commit_stored}
use Rattle.def_sessions.specs.Play.{Machine, new}
use Rattle.def_sessions.specs.OnBytes.{AllLeave, events}
use Rattle.law_bytes.specs.Pieces.{All}
use Rattle.law_areas.specs.Lengths.{Lengths, lengths_enough}
use Rattle.theory_recovery.specs.Going.{outcome_in}
use Rattle.theory_recovery.specs.Steps.{result_by}
use Rattle.theory_sessions.specs.StoresRead.{StoreFits, stores_read, fits_append, fits_first}
use Rattle.theory_sessions.specs.Leaving.{pages_count, log_count, call_reads}
use Rattle.theory_sessions.specs.Tie.{Tied, calm_granted, restart_same}
use Rattle.theory_sessions.specs.Starting.{formatted_tied}
use Rattle.theory_sessions.specs.Playing.{askable, step_askable, all_askable, whole, plays}
use Rattle.theory_sessions.specs.Needed.{to_one_slide, one_slide, stores_of, stored_only, reason_of, page_first, record_skipped, commit_reported, commit_unstored, to_two_open, two_open, other_reported, one_stored}

-- The working areas are not stored to.
stores_work : (ts : List Store) (l : Lent) → ((store_all_bytes ts l).work_pages ≡ l.work_pages) × ((store_all_bytes ts l).work_log ≡ l.work_log)
unfolding store_all_bytes store_bytes
stores_work [] l = (refl, refl)
stores_work (store_page p x ∷ ts) l = stores_work ts (store_bytes (store_page p x) l)
stores_work (store_slot k x ∷ ts) l = stores_work ts (store_bytes (store_slot k x) l)

fits_rest : (n m j : ℕ) (ts : List Store) → All (StoreFits n m) ts → All (StoreFits n m) (drop j ts)
unfolding All
fits_rest n m zero ts f = f
fits_rest n m (suc j) [] f = tt
fits_rest n m (suc j) (t ∷ ts) f = fits_rest n m j ts f.1

-- ---- any stores

-- These stores came to the stable areas, and then the power failed.
abbrev pub stored_world : List Store → World → World
stored_world ts w = record { lent = store_all_bytes ts w.lent; desk = w.desk; book = w.book; since_cut = true }

module _ (n m : ℕ) (w : World) (x : Machine) (t : Tied n m w x.areas x.desk) (ts : List Store) (fits : All (StoreFits n m) ts) where
  lengths : Lengths (store_all_bytes ts w.lent) n m
  lengths =
      let z = t.lengths in
      let (a, b) = stores_work ts w.lent in
      let s = stores_read n m ts w.lent fits z.stable_pages z.stable_log in
      record {
        work_pages = ap length a ∙ z.work_pages;
        stable_pages = s.pages_length;
        work_log = ap length b ∙ z.work_log;
        stable_log = s.log_length;
        least_pages = z.least_pages;
        most_pages = z.most_pages;
        least_slots = z.least_slots;
        most_slots = z.most_slots;
      }

  pub right_lengths : lengths_ok (stored_world ts w).lent ≡ true
  right_lengths = lengths_enough (stored_world ts w).lent n m lengths

  stable_is : (read_areas (stored_world ts w).lent).stable ≡ (stored_only ts x).stable
  unfolding stored_only
  stable_is = let z = t.lengths in (stores_read n m ts w.lent fits z.stable_pages z.stable_log).side ∙ ap (λ a. store_all ts a.stable) t.areas

  restart_is : outcome_in restart (stored_world ts w) ≡ outcome restart (stored_only ts x) x.desk
  unfolding stored_only
  restart_is =
      let z = t.lengths in
      let p = ap (λ a. length a.work.pages) t.areas in
      let q = ap (λ a. length a.work.log) t.areas in
      restart_same (read_areas (stored_world ts w).lent) (stored_only ts x) w.desk x.desk
      stable_is
      (pages_count n m (stored_world ts w).lent lengths ∙ sym (pages_count n m w.lent z) ∙ p) (log_count n m (stored_world ts w).lent lengths ∙ sym (log_count n m w.lent z) ∙ q)

  pub stored_is : (b : ℕ) → commit_stored b (stored_world ts w) ≡ any (is_commit_of b) (stable_log (stored_only ts x))
  stored_is b = ap (λ s. any (is_commit_of b) (records_of s.log)) stable_is

  pub reason_is : reason (stored_world ts w) ≡ reason_of (stored_only ts x) x
  unfolding reason_of call_by
  reason_is = ap (λ r. (answer_numbers r.answer).reason) (result_by restart (stored_world ts w) true right_lengths) ∙ ap (λ o. (answer_numbers o.answer).reason) restart_is

-- ---- stores out of order

only_asks : all_askable to_one_slide (new 16 80) ≡ true
unfolding all_askable step_askable askable request_32 to_one_slide
only_asks = refl

-- Nothing is cut.
no_rubble : ℕ → Rubble
no_rubble k = record { work_pages = []; work_log = []; desk = empty_desk }

no_cuts : AllLeave 16 80 to_one_slide no_rubble
unfolding AllLeave to_one_slide
no_cuts = tt

module _ (l : Lent) (d : Desk) (z : Lengths l 16 80) where
  -- Batch 1 has inserted a slide.
  pub begun : World
  begun = happen_all (events no_rubble to_one_slide) (formatted l d)

  tied : Tied 16 80 begun one_slide.areas one_slide.desk
  unfolding begun one_slide
  tied = (plays 16 80 no_rubble to_one_slide (formatted l d) (new 16 80) only_asks no_cuts (whole (formatted_tied 16 80 l d z))).tied

  -- The stores that a call owes.
  abbrev pub owed : Call → List Store
  owed c = (result c begun).stores

  owed_does : (c : Call) → owed c ≡ (outcome_in c begun).stores
  unfolding call_by
  owed_does c = ap (λ r. r.stores) (result_by c begun true (lengths_enough begun.lent 16 80 tied.lengths))

  owed_is : (c : Call) → owed c ≡ stores_of c one_slide
  unfolding stores_of
  owed_is c = owed_does c ∙ (λ i. (outcome c (tied.areas i) (tied.desk i)).stores)

  owed_fits : (c : Call) → of_32_bits c ≡ true → is_format c ≡ false → All (StoreFits 16 80) (owed c)
  owed_fits c k f = subst (All (StoreFits 16 80)) (sym (owed_does c)) (call_reads begun tied.inv 16 80 tied.lengths c (calm_granted 16 80 begun tied.lengths tied.calm c k f)).stores

  -- A PAGE WITHOUT ITS RECORDS: the last of write-out's stores, and neither of the two before it.
  pub page_alone : reason (stored_world (drop 2 (owed (write_out 1))) begun) ≡ 4
  unfolding of_32_bits request_32 is_format
  page_alone =
      reason_is 16 80 begun one_slide tied (drop 2 (owed (write_out 1))) (fits_rest 16 80 2 (owed (write_out 1)) (owed_fits (write_out 1) refl refl))
      ∙ ap (λ ts. reason_of (stored_only (drop 2 ts) one_slide) one_slide) (owed_is (write_out 1)) ∙ page_first

  -- A RECORD WITHOUT THE ONE BEFORE IT: the first and the last of commit's three stores.
  pub record_alone : reason (stored_world (take 1 (owed (commit 1)) ++ drop 2 (owed (commit 1))) begun) ≡ 4
  unfolding of_32_bits request_32 is_format
  record_alone =
      let f = owed_fits (commit 1) refl refl in
      reason_is 16 80 begun one_slide tied (take 1 (owed (commit 1)) ++ drop 2 (owed (commit 1)))
      (fits_append 16 80 (take 1 (owed (commit 1))) (drop 2 (owed (commit 1))) (fits_first 16 80 1 (owed (commit 1)) f) (fits_rest 16 80 2 (owed (commit 1)) f))
      ∙ ap (λ ts. reason_of (stored_only (take 1 ts ++ drop 2 ts) one_slide) one_slide) (owed_is (commit 1)) ∙ record_skipped

  -- A COMMIT THAT WAS REPORTED, AND NOT ALL OF ITS STORES: two of three.
  pub reported_unstored : (passes (commit 1) begun ≡ true) × (commit_stored 1 (stored_world (take 2 (owed (commit 1))) begun) ≡ false)
  unfolding of_32_bits request_32 is_format call_by
  reported_unstored = (
    ap (λ r. passed r.answer) (result_by (commit 1) begun true (lengths_enough begun.lent 16 80 tied.lengths)) ∙ (λ i. passed (outcome (commit 1) (tied.areas i) (tied.desk i)).answer) ∙ commit_reported,
    stored_is 16 80 begun one_slide tied (take 2 (owed (commit 1))) (fits_first 16 80 2 (owed (commit 1)) (owed_fits (commit 1) refl refl)) 1
        ∙ ap (λ ts. any (is_commit_of 1) (stable_log (stored_only (take 2 ts) one_slide))) (owed_is (commit 1)) ∙ commit_unstored,
  )

-- A COMMIT THAT WAS REPORTED, ANOTHER CASE'S STORED: none of the three stores of case 3's commit is there, while case 1's is.
two_asks : all_askable to_two_open (new 32 160) ≡ true
unfolding all_askable step_askable askable request_32 to_two_open
two_asks = refl

two_uncut : AllLeave 32 160 to_two_open no_rubble
unfolding AllLeave to_two_open
two_uncut = tt

module _ (l : Lent) (d : Desk) (z : Lengths l 32 160) where
  pub both_open : World
  both_open = happen_all (events no_rubble to_two_open) (formatted l d)

  two_tied : Tied 32 160 both_open two_open.areas two_open.desk
  unfolding both_open two_open
  two_tied = (plays 32 160 no_rubble to_two_open (formatted l d) (new 32 160) two_asks two_uncut (whole (formatted_tied 32 160 l d z))).tied

  pub another_stored : (passes (commit 3) both_open ≡ true) × (commit_stored 1 both_open ≡ true) × (commit_stored 3 both_open ≡ false)
  unfolding call_by
  another_stored = (
    ap (λ r. passed r.answer) (result_by (commit 3) both_open true (lengths_enough both_open.lent 32 160 two_tied.lengths)) ∙ (λ i. passed (outcome (commit 3) (two_tied.areas i) (two_tied.desk i)).answer) ∙ other_reported,
    ap (λ a. any (is_commit_of 1) (stable_log a)) two_tied.areas ∙ one_stored.0,
    ap (λ a. any (is_commit_of 3) (stable_log a)) two_tied.areas ∙ one_stored.1,
  )

-- An image that is called damaged is none that demand 3 speaks of.
pub damaged : (w : World) → reason w ≡ 4 → FinishesOrWants w → ⊥
damaged w e (inl f) = omega arith
damaged w e (inr (inl f)) = omega arith
damaged w e (inr (inr f)) = omega arith
