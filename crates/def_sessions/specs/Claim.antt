-- THE ONE CLAIM over the table of worked sessions: each comes out as written, the first for every key.
use Rattle.std.specs.Prelude.{ℕ, ◌≡◌, refl, Bool, true, false, [], ◌∷◌, leb}
use Rattle.std.proofs.Common.{sym, subst}
use Rattle.std.proofs.Math.Option.{none}
use Rattle.def_base.specs.Tests.{pick, every, and_both}
use Rattle.def_layout.specs.Entries.{entry, top, look}
use Rattle.def_layout.specs.Pages.{at}
use Rattle.def_model.specs.declared.Refusal.TheVariants.{Absent}
use Rattle.def_model.specs.Answers.{Outcome, refuse, first_broken}
use Rattle.def_model.specs.Fit.{found}
use Rattle.def_model.specs.Batches.{find_batch}
use Rattle.def_model.specs.Pending.{held}
use Rattle.def_model.specs.Lookup.{fetched}
use Rattle.def_model.specs.Sound.{sound, work_pages, work_open}
use Rattle.def_model.specs.Calls.{formatted_pages, is_none, fetch_checks}
use Rattle.def_model.specs.OnBytes
use Rattle.def_model.specs.CallNames.{begin, fetch, next}
use Rattle.def_model.specs.OnBytes.{checks, question_checks, request_checks, refused_work, refused_desk, outcome_by, outcome}
use Rattle.def_sessions.specs.Play.{Machine, ask, new, ended, play, play_step, shows, comes_true, same_answers}
use Rattle.def_sessions.specs.Compute.{computed}
use Rattle.def_sessions.specs.Table.{any_key, rows, table, answers, refused, a_split, a_raise, a_merge, a_held_key, a_ninth, enough_slots, too_few_slots, too_few_pages, a_cut, a_lower, shared_left, shared_right, an_abort, a_redo, unstored_commit, stored_commit, console, next_held, next_held_between, steps_back, each_refusal, zero_key, three_trays, marks, split_stays, partly_back, two_open, three_open, restart_order, desk_rows, redo_of_changes, two_inserts, begin_fits, begin_short, done}
use Rattle.def_sessions.specs.Forged.{forged, forged_answers, unsorted, two_added, both_removed}

-- ---- a new register with one batch, and any key

begun : Machine
begun = play_step (ask begin) (new 256 1024)

begun_pages : work_pages begun.areas ≡ formatted_pages 256
unfolding begun computed
begun_pages = refl

begun_open : is_none (find_batch 1 (work_open begun.areas)) ≡ false
unfolding begun computed
begun_open = refl

begun_sound : sound begun.areas begun.desk ≡ true
unfolding begun computed
begun_sound = refl

-- The search ends at the root, or where the key is above top at the map: neither has an entry.
nothing_there : (k : ℕ) → fetched k (formatted_pages 256) ≡ none
unfolding computed
nothing_there k = go (leb k top)
  where
    go : (b : Bool) → look k (at (formatted_pages 256) (pick b 1 0)).entries ≡ none
    go true = refl
    go false = refl

nobody_holds : (k : ℕ) → held 1 k (work_open begun.areas) ≡ false
unfolding begun computed
nobody_holds k = refl

absent : (k : ℕ) → outcome (fetch 1 k) begun.areas begun.desk ≡ refuse Absent begun.areas begun.desk
unfolding outcome outcome_by checks request_checks question_checks OnBytes.refused refused_work refused_desk fetch_checks first_broken found
absent k = rw (begun_sound, begun_open, nobody_holds k, begun_pages, nothing_there k)

then_next : Outcome → Bool
then_next o =
    let m = ended o begun in
    let n = ended (outcome (next 1 top) m.areas m.desk) m in
    same_answers n.answers (answers 1 ∷ refused 16 ∷ refused 16 ∷ [])

refused_then_next : then_next (refuse Absent begun.areas begun.desk) ≡ true
unfolding then_next begun computed
refused_then_next = refl

any_key_holds : (k : ℕ) → comes_true (any_key k) ≡ true
unfolding comes_true shows play play_step begun then_next every
any_key_holds k = and_both (subst (λ o. then_next o ≡ true) (sym (absent k)) refused_then_next) refl

-- ---- the other rows, computed

split_holds : comes_true a_split ≡ true
unfolding computed
split_holds = refl

raise_holds : comes_true a_raise ≡ true
unfolding computed
raise_holds = refl

merge_holds : comes_true a_merge ≡ true
unfolding computed
merge_holds = refl

held_key_holds : comes_true a_held_key ≡ true
unfolding computed
held_key_holds = refl

ninth_holds : comes_true a_ninth ≡ true
unfolding computed
ninth_holds = refl

enough_slots_holds : comes_true enough_slots ≡ true
unfolding computed
enough_slots_holds = refl

too_few_slots_holds : comes_true too_few_slots ≡ true
unfolding computed
too_few_slots_holds = refl

too_few_pages_holds : comes_true too_few_pages ≡ true
unfolding computed
too_few_pages_holds = refl

cut_holds : comes_true a_cut ≡ true
unfolding computed
cut_holds = refl

lower_holds : comes_true a_lower ≡ true
unfolding computed
lower_holds = refl

shared_left_holds : comes_true shared_left ≡ true
unfolding computed
shared_left_holds = refl

shared_right_holds : comes_true shared_right ≡ true
unfolding computed
shared_right_holds = refl

abort_holds : comes_true an_abort ≡ true
unfolding computed
abort_holds = refl

redo_holds : comes_true a_redo ≡ true
unfolding computed
redo_holds = refl

unstored_commit_holds : comes_true unstored_commit ≡ true
unfolding computed
unstored_commit_holds = refl

stored_commit_holds : comes_true stored_commit ≡ true
unfolding computed
stored_commit_holds = refl

console_holds : comes_true console ≡ true
unfolding computed
console_holds = refl

next_held_holds : comes_true next_held ≡ true
unfolding computed
next_held_holds = refl

next_held_between_holds : comes_true next_held_between ≡ true
unfolding computed
next_held_between_holds = refl

steps_back_holds : comes_true steps_back ≡ true
unfolding computed
steps_back_holds = refl

each_refusal_holds : comes_true each_refusal ≡ true
unfolding computed
each_refusal_holds = refl

zero_key_holds : comes_true zero_key ≡ true
unfolding computed
zero_key_holds = refl

three_trays_holds : comes_true three_trays ≡ true
unfolding computed
three_trays_holds = refl

marks_hold : comes_true marks ≡ true
unfolding computed
marks_hold = refl

split_stays_holds : comes_true split_stays ≡ true
unfolding computed
split_stays_holds = refl

partly_back_holds : comes_true partly_back ≡ true
unfolding computed
partly_back_holds = refl

two_open_holds : comes_true two_open ≡ true
unfolding computed
two_open_holds = refl

three_open_holds : comes_true three_open ≡ true
unfolding computed
three_open_holds = refl

redo_of_changes_holds : comes_true redo_of_changes ≡ true
unfolding computed
redo_of_changes_holds = refl

slots_pending_holds : comes_true (two_inserts 256 100 done) ≡ true
unfolding computed
slots_pending_holds = refl

no_slots_pending_holds : comes_true (two_inserts 256 99 (refused 17)) ≡ true
unfolding computed
no_slots_pending_holds = refl

pages_pending_holds : comes_true (two_inserts 23 1024 done) ≡ true
unfolding computed
pages_pending_holds = refl

no_pages_pending_holds : comes_true (two_inserts 22 1024 (refused 18)) ≡ true
unfolding computed
no_pages_pending_holds = refl

begin_fits_holds : comes_true begin_fits ≡ true
unfolding computed
begin_fits_holds = refl

begin_short_holds : comes_true begin_short ≡ true
unfolding computed
begin_short_holds = refl

restart_order_holds : comes_true restart_order ≡ true
unfolding computed
restart_order_holds = refl

desk_rows_holds : comes_true desk_rows ≡ true
unfolding computed
desk_rows_holds = refl

-- ---- forged images

-- Page 1 has record 2, and record 3 is to insert 10: done where the page lacks 10, refused where it has it though the search does not find it, also
-- where later records would leave 10 and 20, which rise.

forged_added_holds : same_answers (forged_answers two_added 2 (entry 30 30 ∷ [])) (answers 1 ∷ done ∷ done ∷ done ∷ (0 ∷ 0 ∷ 1 ∷ []) ∷ []) ≡ true
unfolding computed forged forged_answers
forged_added_holds = refl

forged_refused_holds : same_answers (forged_answers two_added 2 unsorted) (answers 1 ∷ done ∷ done ∷ done ∷ refused 5 ∷ []) ≡ true
unfolding computed forged forged_answers
forged_refused_holds = refl

forged_sorted_refused_holds : same_answers (forged_answers both_removed 2 unsorted) (answers 1 ∷ done ∷ done ∷ done ∷ done ∷ done ∷ refused 5 ∷ []) ≡ true
unfolding computed forged forged_answers
forged_sorted_refused_holds = refl

rows_hold : every comes_true rows ≡ true
unfolding every
rows_hold =
    and_both split_holds (and_both raise_holds (and_both merge_holds (and_both held_key_holds (and_both ninth_holds (and_both
    enough_slots_holds (and_both too_few_slots_holds (and_both too_few_pages_holds (and_both cut_holds (and_both lower_holds (and_both
    shared_left_holds (and_both shared_right_holds (and_both abort_holds (and_both redo_holds (and_both unstored_commit_holds
    (and_both stored_commit_holds (and_both console_holds (and_both next_held_holds (and_both next_held_between_holds (and_both steps_back_holds (and_both each_refusal_holds (and_both zero_key_holds (and_both three_trays_holds (and_both marks_hold (and_both split_stays_holds (and_both partly_back_holds (and_both two_open_holds (and_both three_open_holds (and_both restart_order_holds (and_both desk_rows_holds (and_both redo_of_changes_holds (and_both slots_pending_holds (and_both no_slots_pending_holds (and_both pages_pending_holds (and_both no_pages_pending_holds (and_both begin_fits_holds (and_both begin_short_holds refl))))))))))))))))))))))))))))))))))))

pub sessions_hold : (k : ℕ) → every comes_true (table k) ≡ true
unfolding every
sessions_hold k = and_both (any_key_holds k) rows_hold
