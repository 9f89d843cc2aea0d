-- The calls on bytes: the four lent areas as the caller has them, and refusal 1.
use Rattle.std.specs.Prelude.{ℕ, zero, suc, ◌+◌, ◌*◌, ◌/◌, ◌%◌, Bool, true, false, ◌&&◌, List, [], ◌∷◌, ◌++◌, map, length, take, drop, leb, eqb}
use Rattle.def_layout.specs.declared.Desk.{Desk}
use Rattle.def_layout.specs.Desks.{empty_desk}
use Rattle.def_layout.specs.PageBytes.{Block, page_bytes, read_block, block_bytes, left_in, without_left, with_left}
use Rattle.def_layout.specs.Sizes.{page_size, slot_size}
use Rattle.def_layout.specs.RecordBytes.{Slot, read_slot, slot_bytes}
use Rattle.std.proofs.Math.Option.{Option, none, some}
use Rattle.def_model.specs.declared.Refusal.{Refusal}
use Rattle.def_model.specs.declared.Refusal.TheVariants.{Lengths}
use Rattle.def_model.specs.declared.Answer.{Answer}
use Rattle.def_model.specs.declared.Answer.TheVariants.{Refused}
use Rattle.def_model.specs.Areas.{Side, Areas, Store, store_page, store_slot, zero_side}
use Rattle.def_model.specs.Log.{slot_of}
use Rattle.def_model.specs.Lookup.{next_above}
use Rattle.def_model.specs.Sound.{work_pages}
use Rattle.def_model.specs.Answers.{Outcome, Check, first_broken}
use Rattle.def_model.specs.Calls.{format_areas, load_checks, load_areas, begin_checks, begin_batch, unchanged, fetch_checks, fetch_answer, next_checks, next_answer, before, previous_checks, insert_checks, insert_slide, delete_checks, delete_slide, commit_checks, commit_batch, abort_checks, abort_batch, mark_checks, mark_answer, return_checks, return_batch, write_out_checks, write_out_page}
use Rattle.def_model.specs.Restart.{restart_checks, restart_areas}

-- 01: "The caller lends working pages, stable pages, a working log and a stable log."
pub record Lent : Type 0 where
  pub work_pages : List ℕ
  pub stable_pages : List ℕ
  pub work_log : List ℕ
  pub stable_log : List ℕ

-- ---- bytes in equal parts

unfoldable pub parts : ℕ → ℕ → List ℕ → List (List ℕ)
parts zero size b = []
parts (suc n) size b = take size b ∷ parts n size (drop size b)

unfoldable pub joined : List (List ℕ) → List ℕ
joined [] = []
joined (x ∷ xs) = x ++ joined xs

unfoldable pub read_pages : List ℕ → List Block
read_pages b = map read_block (parts (length b / page_size) page_size b)

-- Working pages: without their left links, and these.
unfoldable pub read_work : List ℕ → List Block
read_work b = map (λ x. read_block (without_left x)) (parts (length b / page_size) page_size b)

unfoldable pub read_lefts : List ℕ → List ℕ
read_lefts b = map left_in (parts (length b / page_size) page_size b)

unfoldable pub read_log : List ℕ → List Slot
read_log b = map read_slot (parts (length b / slot_size) slot_size b)

unfoldable pub pages_bytes : List Block → List ℕ
pages_bytes bs = joined (map block_bytes bs)

unfoldable pub work_parts : List Block → List ℕ → List (List ℕ)
work_parts [] ls = []
work_parts (b ∷ bs) [] = block_bytes b ∷ work_parts bs []
work_parts (b ∷ bs) (l ∷ ls) = with_left l (block_bytes b) ∷ work_parts bs ls

unfoldable pub work_bytes : List Block → List ℕ → List ℕ
work_bytes bs ls = joined (work_parts bs ls)

unfoldable pub log_bytes : List Slot → List ℕ
log_bytes s = joined (map slot_bytes s)

unfoldable pub read_areas : Lent → Areas
read_areas l =
    record {
      work = record { pages = read_work l.work_pages; lefts = read_lefts l.work_pages; log = read_log l.work_log };
      stable = record { pages = read_pages l.stable_pages; lefts = []; log = read_log l.stable_log };
    }

-- ---- refusal 1

-- A whole number of parts, at least `low` and at most `high`.
unfoldable pub measures : ℕ → ℕ → ℕ → ℕ → Bool
measures size low high bytes = eqb (bytes % size) 0 && (leb (low * size) bytes && leb bytes (high * size))

-- 01: "Pages are 128 bytes, 16 to 896 of them. Log slots are 144 bytes, 64 to 16,384. Working and stable areas of a kind have equal length."
unfoldable pub lengths_ok : Lent → Bool
lengths_ok l =
    measures page_size 16 896 (length l.work_pages) && (eqb (length l.stable_pages) (length l.work_pages)
    && (measures slot_size 64 16384 (length l.work_log) && eqb (length l.stable_log) (length l.work_log)))

-- ---- every call

-- Calls that build the areas anew, whatever they hold.
pub data Start : Type 0 where
  format : Start
  load : (keys values : List ℕ) → Start

-- Questions: they ask for sound areas and change nothing.
pub data Question : Type 0 where
  fetch next previous : (batch key : ℕ) → Question
  take_mark : (batch : ℕ) → Question

-- Calls that ask for sound areas: questions, and those that change something.
pub data Request : Type 0 where
  ask : Question → Request
  begin : Request
  insert : (batch key value : ℕ) → Request
  delete : (batch key : ℕ) → Request
  commit abort : (batch : ℕ) → Request
  return_to : (batch mark : ℕ) → Request
  write_out : (page : ℕ) → Request

-- A call builds the areas anew, restarts from the stable ones, or asks for sound ones.
pub data Call : Type 0 where
  start : Start → Call
  restart : Call
  request : Request → Call

-- ---- what each checks, and what it does where no check is broken

unfoldable pub start_checks : Start → Areas → List Check
start_checks format a = []
start_checks (load ks vs) a = load_checks ks vs a

unfoldable pub question_checks : Question → Areas → Desk → List Check
question_checks (fetch b k) a d = fetch_checks b k a d
question_checks (next b k) a d = next_checks b k a d
question_checks (previous b k) a d = previous_checks b k a d
question_checks (take_mark b) a d = mark_checks b a d

unfoldable pub request_checks : Request → Areas → Desk → List Check
request_checks (ask q) a d = question_checks q a d
request_checks begin a d = begin_checks a d
request_checks (insert b k v) a d = insert_checks b k a d
request_checks (delete b k) a d = delete_checks b k a d
request_checks (commit b) a d = commit_checks b a d
request_checks (abort b) a d = abort_checks b a d
request_checks (return_to b m) a d = return_checks b m a d
request_checks (write_out p) a d = write_out_checks p a d

unfoldable pub checks : Call → Areas → Desk → List Check
checks (start s) a d = start_checks s a
checks restart a d = restart_checks a
checks (request q) a d = request_checks q a d

unfoldable pub start_does : Start → Areas → Outcome
start_does format a = format_areas a
start_does (load ks vs) a = load_areas ks vs a

unfoldable pub question_answer : Question → Areas → Answer
question_answer (fetch b k) a = fetch_answer k a
question_answer (next b k) a = next_answer (next_above k (work_pages a))
question_answer (previous b k) a = next_answer (before k a)
question_answer (take_mark b) a = mark_answer b a

unfoldable pub request_does : Request → Areas → Desk → Outcome
request_does (ask q) a d = unchanged (question_answer q a) a d
request_does begin a d = begin_batch a d
request_does (insert b k v) a d = insert_slide b k v a d
request_does (delete b k) a d = delete_slide b k a d
request_does (commit b) a d = commit_batch b a d
request_does (abort b) a d = abort_batch b a d
request_does (return_to b m) a d = return_batch b m a d
request_does (write_out p) a d = write_out_page p a d

unfoldable pub does : Call → Areas → Desk → Outcome
does (start s) a d = start_does s a
does restart a d = restart_areas a
does (request q) a d = request_does q a d

-- ---- what a refused one leaves

-- 01: "a refused format or restart gives an empty desk"; 02, U3: "A refused loading gives an empty desk."
unfoldable pub refused_desk : Call → Desk → Desk
refused_desk (start s) d = empty_desk
refused_desk restart d = empty_desk
refused_desk (request q) d = d

-- 01: "A refusal .. changes nothing, except that restart's 3 to 18 zero the working areas".
unfoldable pub refused_work : Call → Areas → Side
refused_work (start s) a = a.work
refused_work restart a = zero_side (length a.work.pages) (length a.work.log)
refused_work (request q) a = a.work

unfoldable pub refused : Call → Refusal → Areas → Desk → Outcome
refused c r a d = record { answer = Refused r; work = refused_work c a; desk = refused_desk c d; stores = [] }

-- Refused by a broken check, or done where none is broken.
unfoldable pub outcome_by : Option Refusal → Call → Areas → Desk → Outcome
outcome_by (some r) c a d = refused c r a d
outcome_by none c a d = does c a d

-- The typed areas' answer to a call. 01: "Checks go in number order": the first broken one refuses it.
unfoldable pub outcome : Call → Areas → Desk → Outcome
outcome c a d = outcome_by (first_broken (checks c a d)) c a d

-- What a call on bytes answers and leaves: the working areas, the desk, and its list of stores.
pub record Result : Type 0 where
  pub answer : Answer
  pub work_pages : List ℕ
  pub work_log : List ℕ
  pub desk : Desk
  pub stores : List Store

unfoldable pub call_by : (lengths_right : Bool) → Call → Lent → Desk → Result
call_by false c l d = record { answer = Refused Lengths; work_pages = l.work_pages; work_log = l.work_log; desk = refused_desk c d; stores = [] }
call_by true c l d =
    let o = outcome c (read_areas l) d in
    record { answer = o.answer; work_pages = work_bytes o.work.pages o.work.lefts; work_log = log_bytes o.work.log; desk = o.desk; stores = o.stores }

-- A CALL ON BYTES.
unfoldable pub call : Call → Lent → Desk → Result
call c l d = call_by (lengths_ok l) c l d

-- 01: "the contract gives the stable areas after each number of them, the call's own being its whole list". One store on bytes:
unfoldable pub put_part : ℕ → List ℕ → List ℕ → List ℕ
put_part from new b = take from b ++ new ++ drop (from + length new) b

unfoldable pub store_bytes : Store → Lent → Lent
store_bytes (store_page p x) l =
    record { work_pages = l.work_pages; stable_pages = put_part (page_size * p) (page_bytes x) l.stable_pages; work_log = l.work_log; stable_log = l.stable_log }
store_bytes (store_slot n x) l =
    record { work_pages = l.work_pages; stable_pages = l.stable_pages; work_log = l.work_log; stable_log = put_part (slot_size * slot_of n) (slot_bytes x) l.stable_log }

unfoldable pub store_all_bytes : List Store → Lent → Lent
store_all_bytes [] l = l
store_all_bytes (t ∷ ts) l = store_all_bytes ts (store_bytes t l)

-- The four areas after a call, of whose stores the first `budget` were carried out.
unfoldable pub lent_after : ℕ → Result → Lent → Lent
lent_after budget r l =
    let s = store_all_bytes (take budget r.stores) l in
    record { work_pages = r.work_pages; stable_pages = s.stable_pages; work_log = r.work_log; stable_log = s.stable_log }
