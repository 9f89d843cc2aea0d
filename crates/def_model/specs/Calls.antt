-- The calls: what each answers and leaves, for all typed areas and desks. (Restart has a file of its own.)
use Rattle.std.specs.Prelude.{ℕ, suc, ◌-◌, Bool, true, false, not, List, [], ◌∷◌, ◌++◌, map, length, replicate, leb, eqb}
use Rattle.std.proofs.Math.Option.{Option, none, some}
use Rattle.def_layout.specs.declared.Entry.{Entry}
use Rattle.def_layout.specs.declared.Desk.{Desk}
use Rattle.def_layout.specs.Desks.{empty_desk, most_open}
use Rattle.def_layout.specs.Entries.{top}
use Rattle.def_layout.specs.Pages.{Page, at, zero_page, node_at, map_page, first_marks}
use Rattle.def_layout.specs.PageBytes.{page}
use Rattle.def_layout.specs.Records.{begin, insert, delete, commit, batch_row}
use Rattle.def_layout.specs.RecordBytes.{empty}
use Rattle.def_model.specs.declared.Refusal.TheVariants.{PageNumber, ZeroKey, ColumnsDiffer, NotRising, Unsound, NoBatch, EightOpen, Held, Present, Absent, SlotsShort, PagesShort, AbortStopped, NoMark}
use Rattle.def_model.specs.declared.Answer.{Answer}
use Rattle.def_model.specs.declared.Answer.TheVariants.{Done, Number, Pair}
use Rattle.def_base.specs.Tests.{any}
use Rattle.def_model.specs.Fit.{found}
use Rattle.def_model.specs.Links.{relinked}
use Rattle.def_model.specs.Loading.{columns, keys_rise, loaded_count, loaded_pages}
use Rattle.def_model.specs.Log.{last_number, slots_used, log_area}
use Rattle.def_model.specs.Lookup.{fetched, next_above, previous_below}
use Rattle.def_model.specs.Update.{Run, emit, put_record, remove_record}
use Rattle.def_model.specs.Batches.{Batch, find_batch, unmarked, is_record_of, desk_of}
use Rattle.def_model.specs.Pending.{held, held_between, held_from}
use Rattle.def_model.specs.Undo.{return_run, abort_run}
use Rattle.def_model.specs.Areas.{Side, Areas, Store, store_page, slot_stores, log_stores}
use Rattle.def_model.specs.Answers.{Outcome, Check, check}
use Rattle.def_model.specs.Sound.{sound, work_pages, work_log, work_slots, work_open, update_has_slots, update_has_pages, begin_has_slots}

-- ---- from the areas to a run of updates, and back

unfoldable pub run_of : Areas → Run
run_of a =
    record { pages = work_pages a; lefts = a.work.lefts; log = work_log a; due = suc (last_number (work_log a)); room = work_slots a - slots_used (work_log a); stop = 0 }

-- The working areas that a run leaves, its left links worked out, its log in so many slots.
unfoldable pub run_side : ℕ → Run → Side
run_side slots s = record { pages = map page s.pages; lefts = relinked s.pages s.lefts; log = log_area slots s.log }

-- The working areas of a register that starts with these pages.
unfoldable pub start_side : List Page → ℕ → Side
start_side pages slots = record { pages = map page pages; lefts = relinked pages []; log = replicate slots empty }

-- A call that passed, storing nothing; and one that stores all that is unstored, and then more.
unfoldable pub kept_run : Answer → Areas → Run → Desk → Outcome
kept_run answer a s d = record { answer = answer; work = run_side (work_slots a) s; desk = desk_of s.log d.stored; stores = [] }

unfoldable pub stored_run : Answer → Areas → Run → Desk → List Store → Outcome
stored_run answer a s d more =
    record { answer = answer; work = run_side (work_slots a) s; desk = desk_of s.log (last_number s.log); stores = log_stores d.stored s.log ++ more }

-- A call that changes nothing.
abbrev pub unchanged : Answer → Areas → Desk → Outcome
unchanged answer a d = record { answer = answer; work = a.work; desk = d; stores = [] }

-- ---- checks

abbrev pub is_unsound : Areas → Desk → Check
is_unsound a d = check (not (sound a d)) Unsound

unfoldable pub is_none : {A : Type 0} → Option A → Bool
is_none none = true
is_none (some x) = false

abbrev pub no_batch : ℕ → Areas → Check
no_batch b a = check (is_none (find_batch b (work_open a))) NoBatch

-- An open batch that has its abort mark takes no record but its undos: no insert, delete, commit or abort.
abbrev pub no_live_batch : ℕ → Areas → Check
no_live_batch b a = check (not (unmarked (find_batch b (work_open a)))) NoBatch

-- 01: "A fetch, insert or delete answers 14 if another batch holds its key". (Two names for one rule: what stops a question and what stops a
-- change may come to differ, as soon as asking holds a key too.)
abbrev pub held_question : ℕ → ℕ → Areas → Check
held_question b k a = check (held b k (work_open a)) Held

abbrev pub held_change : ℕ → ℕ → Areas → Check
held_change b k a = check (held b k (work_open a)) Held

abbrev pub present : ℕ → Areas → Bool
present k a = found (fetched k (work_pages a))

abbrev pub no_slots : Areas → Check
no_slots a = check (not (update_has_slots (work_slots a) (work_log a) (work_open a))) SlotsShort

abbrev pub no_pages : Areas → Check
no_pages a = check (not (update_has_pages (work_pages a) (work_open a))) PagesShort

-- ---- format

-- 01: "a map and an empty root leaf".
unfoldable pub formatted_pages : ℕ → List Page
formatted_pages n = map_page first_marks ∷ node_at 1 0 0 top [] ∷ replicate (n - 2) zero_page

unfoldable pub page_stores : ℕ → List Page → List Store
page_stores p [] = []
page_stores p (x ∷ xs) = store_page p x ∷ page_stores (suc p) xs

-- The stores of a formatting: "storing pages, then slots, in order".
unfoldable pub format_stores : List Page → ℕ → List Store
format_stores pages slots = page_stores 0 pages ++ slot_stores 1 (replicate slots empty)

unfoldable pub format_areas : Areas → Outcome
format_areas a =
    let pages = formatted_pages (length a.work.pages) in
    let slots = length a.work.log in
    record {
      answer = Done;
      work = start_side pages slots;
      desk = empty_desk;
      stores = format_stores pages slots;
    }

-- ---- load

-- 02, U3: "8, the columns differ in length, checked after 1"; "A key of 0 is refused as an insert's is"; "9, keys do not rise strictly, checked after 7; 18, too few
-- pages, checked last".
unfoldable pub load_checks : (keys values : List ℕ) → Areas → List Check
load_checks ks vs a =
    check (not (eqb (length ks) (length vs))) ColumnsDiffer ∷ check (any (λ k. eqb k 0) ks) ZeroKey ∷ check (not (keys_rise 0 ks)) NotRising
    ∷ check (not (leb (suc (loaded_count (length ks))) (length a.work.pages))) PagesShort ∷ []

-- "a fresh register from the columns, with an empty log, and writes it as format does"; "A refused loading gives an empty desk."
unfoldable pub load_areas : (keys values : List ℕ) → Areas → Outcome
load_areas ks vs a =
    let pages = loaded_pages (length a.work.pages) (columns ks vs) in
    let slots = length a.work.log in
    record {
      answer = Done;
      work = start_side pages slots;
      desk = empty_desk;
      stores = format_stores pages slots;
    }

-- ---- begin

unfoldable pub begin_checks : Areas → Desk → List Check
begin_checks a d =
    is_unsound a d ∷ check (leb most_open (length (work_open a))) EightOpen
    ∷ check (not (begin_has_slots (work_slots a) (work_log a) (work_open a))) SlotsShort ∷ []

-- 01: "Begin answers the new batch number."
unfoldable pub begin_batch : Areas → Desk → Outcome
begin_batch a d = let n = suc (last_number (work_log a)) in kept_run (Number n) a (emit (batch_row begin n 0) (run_of a)) d

-- ---- fetch, next and previous

unfoldable pub fetch_checks : ℕ → ℕ → Areas → Desk → List Check
fetch_checks b k a d = is_unsound a d ∷ no_batch b a ∷ held_question b k a ∷ check (not (present k a)) Absent ∷ []

unfoldable pub value_or : Option ℕ → ℕ
value_or none = 0
value_or (some v) = v

abbrev pub fetch_answer : ℕ → Areas → Answer
fetch_answer k a = Number (value_or (fetched k (work_pages a)))

-- 01: "a next, if another holds any key above the asked one up to the found one, or to top if none".
unfoldable pub next_limit : Option Entry → ℕ
next_limit none = top
next_limit (some e) = e.key

unfoldable pub next_checks : ℕ → ℕ → Areas → Desk → List Check
next_checks b k a d =
    is_unsound a d ∷ no_batch b a ∷ check (held_between b k (next_limit (next_above k (work_pages a))) (work_open a)) Held
    ∷ check (is_none (next_above k (work_pages a))) Absent ∷ []

unfoldable pub next_answer : Option Entry → Answer
next_answer none = Done
next_answer (some e) = Pair e.key e.val

-- 02, U5: "previous", the mirror of next, with the same rule on held keys. 16 also means none below.
abbrev pub before : ℕ → Areas → Option Entry
before k a = previous_below k (work_pages a) a.work.lefts

unfoldable pub previous_limit : Option Entry → ℕ
previous_limit none = 0
previous_limit (some e) = e.key

unfoldable pub previous_checks : ℕ → ℕ → Areas → Desk → List Check
previous_checks b k a d =
    is_unsound a d ∷ no_batch b a ∷ check (held_from b (previous_limit (before k a)) k (work_open a)) Held ∷ check (is_none (before k a)) Absent ∷ []

-- ---- insert and delete

-- The batch's last record.
unfoldable pub last_of : Option Batch → ℕ
last_of none = 0
last_of (some b) = b.last

abbrev pub last_record : ℕ → Areas → ℕ
last_record b a = last_of (find_batch b (work_open a))

-- 02, U1: "Insert is to refuse key 0 .. 7 .. checked after 2 and before 11". Of no other call, and of nothing that a log or page holds.
abbrev pub zero_key : ℕ → Check
zero_key k = check (eqb k 0) ZeroKey

unfoldable pub insert_checks : ℕ → ℕ → Areas → Desk → List Check
insert_checks b k a d =
    zero_key k ∷ is_unsound a d ∷ no_live_batch b a ∷ held_change b k a ∷ check (present k a) Present ∷ no_slots a ∷ no_pages a ∷ []

unfoldable pub insert_slide : ℕ → ℕ → ℕ → Areas → Desk → Outcome
insert_slide b k v a d = kept_run Done a (put_record insert b (last_record b a) k v (run_of a)) d

unfoldable pub delete_checks : ℕ → ℕ → Areas → Desk → List Check
delete_checks b k a d =
    is_unsound a d ∷ no_live_batch b a ∷ held_change b k a ∷ check (not (present k a)) Absent ∷ no_slots a ∷ no_pages a ∷ []

unfoldable pub delete_slide : ℕ → ℕ → Areas → Desk → Outcome
delete_slide b k a d = kept_run Done a (remove_record delete b (last_record b a) k (value_or (fetched k (work_pages a))) (run_of a)) d

-- ---- commit and abort

unfoldable pub commit_checks : ℕ → Areas → Desk → List Check
commit_checks b a d = is_unsound a d ∷ no_live_batch b a ∷ []

-- 01: "Commit logs and then stores every unstored record, in order."
unfoldable pub commit_batch : ℕ → Areas → Desk → Outcome
commit_batch b a d = stored_run Done a (emit (batch_row commit b (last_record b a)) (run_of a)) d []

unfoldable pub aborted : Option Batch → Run → Run
aborted none s = s
aborted (some b) s = abort_run b s

abbrev pub abort_of : ℕ → Areas → Run
abort_of b a = aborted (find_batch b (work_open a)) (run_of a)

unfoldable pub abort_checks : ℕ → Areas → Desk → List Check
abort_checks b a d = is_unsound a d ∷ no_live_batch b a ∷ check (not (eqb (abort_of b a).stop 0)) AbortStopped ∷ []

unfoldable pub abort_batch : ℕ → Areas → Desk → Outcome
abort_batch b a d = kept_run Done a (abort_of b a) d

-- ---- mark and return

unfoldable pub mark_checks : ℕ → Areas → Desk → List Check
mark_checks b a d = is_unsound a d ∷ no_batch b a ∷ []

-- 02, U2: "ask for the number of its latest log record as a mark".
abbrev pub mark_answer : ℕ → Areas → Answer
mark_answer b a = Number (last_record b a)

-- 20: "the mark is not the number of a record of that batch, checked after 12 and before 13".
abbrev pub no_mark : ℕ → ℕ → Areas → Check
no_mark b m a = check (not (is_record_of b m (work_log a))) NoMark

unfoldable pub returned : ℕ → Option Batch → Run → Run
returned m none s = s
returned m (some b) s = return_run m b s

abbrev pub return_of : ℕ → ℕ → Areas → Run
return_of b m a = returned m (find_batch b (work_open a)) (run_of a)

-- A batch with its abort mark may be asked for a mark, and may return: neither writes what a 7 forbids.
unfoldable pub return_checks : ℕ → ℕ → Areas → Desk → List Check
return_checks b m a d = is_unsound a d ∷ no_batch b a ∷ no_mark b m a ∷ check (not (eqb (return_of b m a).stop 0)) AbortStopped ∷ []

-- "and later undo every pending update it made after that mark while staying open".
unfoldable pub return_batch : ℕ → ℕ → Areas → Desk → Outcome
return_batch b m a d = kept_run Done a (return_of b m a) d

-- ---- write-out

unfoldable pub write_out_checks : ℕ → Areas → Desk → List Check
write_out_checks p a d = check (leb (length a.work.pages) p) PageNumber ∷ is_unsound a d ∷ []

-- 01: "Write-out does the same, then stores one page." (Write-out flushes one page.)
unfoldable pub write_out_page : ℕ → Areas → Desk → Outcome
write_out_page p a d = stored_run Done a (run_of a) d (store_page p (at (work_pages a) p) ∷ [])
