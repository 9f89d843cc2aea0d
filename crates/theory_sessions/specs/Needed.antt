-- WHAT DEMAND 3 GRANTS IS NEEDED: what restart makes of stable areas that no granted list of events leaves. Computed on typed areas.
use Rattle.std.specs.Prelude.{ℕ, ◌≡◌, refl, true, false, List, [], ◌∷◌, ◌++◌, take, drop}
use Rattle.def_base.specs.Tests.{any}
use Rattle.def_layout.specs.declared.Entry.{Entry}
use Rattle.def_layout.specs.Entries.{entry}
use Rattle.def_model.specs.Areas.{Areas, Store, store_all}
use Rattle.def_model.specs.Answers.{answer_numbers, passed}
use Rattle.def_model.specs.Sound.{work_pages}
use Rattle.def_model.specs.TreeRules.{leaf_records}
use Rattle.def_model.specs.Restart.{stable_log}
use Rattle.def_model.specs.OnBytes.{Call, outcome}
use Rattle.def_model.specs.CallNames.{begin, restart, insert, delete, commit, write_out}
use Rattle.def_recovery.specs.Demand3.{is_commit_of}
use Rattle.def_sessions.specs.Play.{Step, ask, Machine, play, new}
use Rattle.def_sessions.specs.Compute.{computed}

-- The stores that a call owes; and a machine to whose stable areas only these stores came.
unfoldable pub stores_of : Call → Machine → List Store
stores_of c m = (outcome c m.areas m.desk).stores

unfoldable pub stored_only : List Store → Machine → Areas
stored_only ts m = record { work = m.areas.work; stable = store_all ts m.areas.stable }

-- What restart answers then, 0 or the refusal, and the slides in the leaves that it leaves.
unfoldable pub reason_of : Areas → Machine → ℕ
reason_of a m = (answer_numbers (outcome restart a m.desk).answer).reason

unfoldable pub slides_of : Areas → Machine → List Entry
slides_of a m = leaf_records (work_pages (record { work = (outcome restart a m.desk).work; stable = a.stable }))

-- Batch 1 has inserted a slide, nothing is stored yet. Its commit owes records 1, 2, 3; a write-out of the root records 1 and 2, and the page.
unfoldable pub to_one_slide : List Step
to_one_slide = ask begin ∷ ask (insert 1 5 6) ∷ []

unfoldable pub one_slide : Machine
one_slide = play to_one_slide (new 16 80)

-- All stores of the commit: the slide is there.
all_stored : (reason_of (stored_only (stores_of (commit 1) one_slide) one_slide) one_slide ≡ 0) × (slides_of (stored_only (stores_of (commit 1) one_slide) one_slide) one_slide ≡ entry 5 6 ∷ [])
unfolding computed stores_of stored_only reason_of slides_of one_slide to_one_slide
all_stored = (refl, refl)

-- "none there without all those before it": a page without its records.
pub page_first : reason_of (stored_only (drop 2 (stores_of (write_out 1) one_slide)) one_slide) one_slide ≡ 4
unfolding computed stores_of stored_only reason_of slides_of one_slide to_one_slide
page_first = refl

-- A record without one before it.
pub record_skipped : reason_of (stored_only (take 1 (stores_of (commit 1) one_slide) ++ drop 2 (stores_of (commit 1) one_slide)) one_slide) one_slide ≡ 4
unfolding computed stores_of stored_only reason_of slides_of one_slide to_one_slide
record_skipped = refl

-- "a finished call's all there": a commit is reported, its last store is not there, and its slide is lost.
pub commit_reported : passed (outcome (commit 1) one_slide.areas one_slide.desk).answer ≡ true
unfolding computed passed one_slide to_one_slide
commit_reported = refl

pub commit_unstored : any (is_commit_of 1) (stable_log (stored_only (take 2 (stores_of (commit 1) one_slide)) one_slide)) ≡ false
unfolding computed is_commit_of stores_of stored_only one_slide to_one_slide
commit_unstored = refl

slide_lost : (reason_of (stored_only (take 2 (stores_of (commit 1) one_slide)) one_slide) one_slide ≡ 0) × (slides_of (stored_only (take 2 (stores_of (commit 1) one_slide)) one_slide) one_slide ≡ [])
unfolding computed stores_of stored_only reason_of slides_of one_slide to_one_slide
slide_lost = (refl, refl)

-- "A case whose commit was reported": of two cases one is committed, and the commit of the other is reported with none of its stores there. One case's commit is not another's.
unfoldable pub to_two_open : List Step
to_two_open = ask begin ∷ ask (insert 1 5 6) ∷ ask begin ∷ ask (insert 3 7 7) ∷ ask (commit 1) ∷ []

unfoldable pub two_open : Machine
two_open = play to_two_open (new 32 160)

pub other_reported : passed (outcome (commit 3) two_open.areas two_open.desk).answer ≡ true
unfolding computed passed two_open to_two_open
other_reported = refl

pub one_stored : (any (is_commit_of 1) (stable_log two_open.areas) ≡ true) × (any (is_commit_of 3) (stable_log two_open.areas) ≡ false)
unfolding computed is_commit_of two_open to_two_open
one_stored = (refl, refl)

-- "the first call after a cut to pass its checks is a restart": batch 1 inserted 5, batch 4 deleted it, both committed.
two_cases : Machine
two_cases = play (ask (commit 1) ∷ ask begin ∷ ask (delete 4 5) ∷ ask (commit 4) ∷ []) one_slide

-- After a cut the working pages are those of an earlier moment, before the deletion. A third case goes on with them, with no restart.
earlier_pages : Machine
earlier_pages = record { areas = record { work = record { pages = one_slide.areas.work.pages; lefts = one_slide.areas.work.lefts; log = two_cases.areas.work.log }; stable = two_cases.areas.stable }; desk = two_cases.desk; answers = two_cases.answers }

gone_on : Machine
gone_on = play (ask begin ∷ ask (insert 7 9 9) ∷ ask (commit 7) ∷ ask (write_out 1) ∷ []) earlier_pages

-- All is reported done, and the next restart finds the slide that was deleted.
deletion_lost :
    (gone_on.answers ≡ (0 ∷ 1 ∷ 0 ∷ []) ∷ (0 ∷ 0 ∷ 0 ∷ []) ∷ (0 ∷ 0 ∷ 0 ∷ []) ∷ (0 ∷ 4 ∷ 0 ∷ []) ∷ (0 ∷ 0 ∷ 0 ∷ []) ∷ (0 ∷ 0 ∷ 0 ∷ []) ∷ (0 ∷ 7 ∷ 0 ∷ []) ∷ (0 ∷ 0 ∷ 0 ∷ []) ∷ (0 ∷ 0 ∷ 0 ∷ []) ∷ (0 ∷ 0 ∷ 0 ∷ []) ∷ [])
    × (reason_of gone_on.areas gone_on ≡ 0) × (slides_of gone_on.areas gone_on ≡ entry 5 6 ∷ entry 9 9 ∷ [])
unfolding computed stores_of stored_only reason_of slides_of one_slide to_one_slide two_cases earlier_pages gone_on
deletion_lost = (refl, refl, refl)
