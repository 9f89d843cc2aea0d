-- THE CHECKS OF A CALL: they go in number order, and the call is refused for the first that is broken, and for nothing else.
use Rattle.std.specs.Prelude.{ℕ, ◌+◌, ◌*◌, ◌≡◌, refl, ◌↔◌, Bool, true, false, not, ◌&&◌, List, [], ◌∷◌, ltb, eqb}
use Rattle.std.proofs.Common.{sym, ap, ◌∙◌}
use Rattle.std.proofs.Math.Option.{Option, none, some}
use Rattle.def_base.specs.Tests.{pick, clash, none_some, some_inj}
use Rattle.def_layout.specs.declared.Entry.{Entry}
use Rattle.def_layout.specs.declared.Desk.{Desk}
use Rattle.def_model.specs.declared.Refusal.{Refusal}
use Rattle.def_model.specs.declared.Refusal.TheVariants.{Lengths}
use Rattle.def_model.specs.declared.Answer.{Answer}
use Rattle.def_model.specs.declared.Answer.TheVariants.{Done, Number, Pair, Refused}
use Rattle.def_model.specs.Areas.{Areas}
use Rattle.def_model.specs.Answers.{refusal_number, Check, check, first_broken, passed}
use Rattle.def_model.specs.Lookup.{next_above}
use Rattle.def_model.specs.Sound.{work_pages}
use Rattle.def_model.specs.Calls.{format_areas, kept_run, stored_run, begin_checks, begin_batch, fetch_checks, next_checks, next_answer, before, previous_checks, insert_checks, insert_slide, delete_checks, delete_slide, commit_checks, commit_batch, abort_checks, abort_batch, mark_checks, return_checks, return_batch, write_out_checks, write_out_page, load_checks, load_areas}
use Rattle.def_model.specs.Restart.{restart_checks, restart_areas}
use Rattle.def_model.specs.OnBytes.{Call, start, restart, request, format, load, Question, fetch, next, previous, take_mark, question_checks, question_answer, ask, begin, insert, delete, commit, abort, write_out, return_to, checks, start_checks, request_checks, does, start_does, request_does, refused, outcome_by, outcome, Lent, read_areas, lengths_ok, call, call_by}
use Rattle.law_areas.specs.Outcomes.{unbroken_does}

-- On bytes: 1 goes before all others.
abbrev pub all_checks : Call → Lent → Desk → List Check
all_checks c l d = check (not (lengths_ok l)) Lengths ∷ checks c (read_areas l) d

-- ---- the order

-- A refusal's place among the checks. 01: "Checks go in number order, 1 to 19". 02: 20 is "checked after 12 and before 13" (U2), 8 "after 1" (U3).
abbrev pub place : Refusal → ℕ
place r = pick (eqb (refusal_number r) 20) (2 * 12 + 1) (pick (eqb (refusal_number r) 8) (2 * 1 + 1) (2 * refusal_number r))

-- Each check's place is above the one before, the first's above n.
unfoldable pub rises : ℕ → List Check → Bool
rises n [] = true
rises n (c ∷ cs) = ltb n (place c.says) && rises (place c.says) cs

-- IN NUMBER ORDER, of every call.
pub checks_rise : (c : Call) (l : Lent) (d : Desk) → rises 0 (all_checks c l d) ≡ true
unfolding rises refusal_number checks start_checks request_checks question_checks load_checks begin_checks restart_checks fetch_checks next_checks previous_checks insert_checks delete_checks commit_checks abort_checks mark_checks return_checks write_out_checks
checks_rise (start format) l d = refl
checks_rise (start (load ks vs)) l d = refl
checks_rise restart l d = refl
checks_rise (request begin) l d = refl
checks_rise (request (ask (fetch b k))) l d = refl
checks_rise (request (ask (next b k))) l d = refl
checks_rise (request (ask (previous b k))) l d = refl
checks_rise (request (insert b k v)) l d = refl
checks_rise (request (delete b k)) l d = refl
checks_rise (request (commit b)) l d = refl
checks_rise (request (abort b)) l d = refl
checks_rise (request (ask (take_mark b))) l d = refl
checks_rise (request (return_to b m)) l d = refl
checks_rise (request (write_out p)) l d = refl

-- ---- refused for the first that is broken

unfoldable pub refusal_in : Answer → Option Refusal
refusal_in Done = none
refusal_in (Number n) = none
refusal_in (Pair n m) = none
refusal_in (Refused r) = some r

-- An answer that passed has no refusal in it; one that did not is one.
pub passed_none : (x : Answer) → passed x ≡ true → refusal_in x ≡ none
unfolding passed refusal_in
passed_none Done p = refl
passed_none (Number n) p = refl
passed_none (Pair n m) p = refl
passed_none (Refused r) p = clash (sym p)

refusal_is : (x : Answer) (r : Refusal) → refusal_in x ≡ some r → x ≡ Refused r
unfolding refusal_in
refusal_is Done r e = none_some e
refusal_is (Number n) r e = none_some e
refusal_is (Pair n m) r e = none_some e
refusal_is (Refused q) r e = ap Refused (some_inj e)

pub not_passed : (x : Answer) → passed x ≡ false → (r : Refusal) × (x ≡ Refused r)
unfolding passed
not_passed Done p = clash p
not_passed (Number n) p = clash p
not_passed (Pair n m) p = clash p
not_passed (Refused r) p = (r, refl)

-- A call that does something answers no refusal.
step_passes : (e : Option Entry) → refusal_in (next_answer e) ≡ none
unfolding refusal_in next_answer
step_passes none = refl
step_passes (some e) = refl

question_passes : (q : Question) (a : Areas) → refusal_in (question_answer q a) ≡ none
unfolding refusal_in question_answer
question_passes (fetch b k) a = refl
question_passes (next b k) a = step_passes (next_above k (work_pages a))
question_passes (previous b k) a = step_passes (before k a)
question_passes (take_mark b) a = refl

does_passes : (c : Call) (a : Areas) (d : Desk) → refusal_in (does c a d).answer ≡ none
unfolding refusal_in does start_does request_does format_areas load_areas restart_areas begin_batch insert_slide delete_slide commit_batch abort_batch return_batch write_out_page kept_run stored_run
does_passes (start format) a d = refl
does_passes (start (load ks vs)) a d = refl
does_passes restart a d = refl
does_passes (request (ask q)) a d = question_passes q a
does_passes (request begin) a d = refl
does_passes (request (insert b k v)) a d = refl
does_passes (request (delete b k)) a d = refl
does_passes (request (commit b)) a d = refl
does_passes (request (abort b)) a d = refl
does_passes (request (return_to b m)) a d = refl
does_passes (request (write_out p)) a d = refl

-- The typed areas' answer.
pub first_refused : (c : Call) (a : Areas) (d : Desk) → refusal_in (outcome c a d).answer ≡ first_broken (checks c a d)
unfolding refusal_in outcome outcome_by refused
first_refused c a d = go (first_broken (checks c a d))
  where
    go : (o : Option Refusal) → refusal_in (outcome_by o c a d).answer ≡ o
    go none = does_passes c a d
    go (some r) = refl

-- A call that passed broke no check, and did what it does.
pub passed_does : (c : Call) (a : Areas) (d : Desk) → passed (outcome c a d).answer ≡ true → (first_broken (checks c a d) ≡ none) × (outcome c a d ≡ does c a d)
passed_does c a d p = let e = sym (first_refused c a d) ∙ passed_none (outcome c a d).answer p in (e, unbroken_does c a d e)

-- REFUSED FOR THE FIRST CHECK THAT IS BROKEN: a call on bytes answers its refusal, and is not refused where none is broken.
pub refused_first : (c : Call) (l : Lent) (d : Desk) → refusal_in (call c l d).answer ≡ first_broken (all_checks c l d)
unfolding call call_by refusal_in first_broken
refused_first c l d = go (lengths_ok l)
  where
    go : (b : Bool) → refusal_in (call_by b c l d).answer ≡ first_broken (check (not b) Lengths ∷ checks c (read_areas l) d)
    go true = first_refused c (read_areas l) d
    go false = refl

-- The same, of one refusal.
pub refused_exactly : (c : Call) (l : Lent) (d : Desk) (r : Refusal) → ((call c l d).answer ≡ Refused r) ↔ (first_broken (all_checks c l d) ≡ some r)
unfolding refusal_in
refused_exactly c l d r = (λ e. sym (refused_first c l d) ∙ ap refusal_in e, λ e. refusal_is (call c l d).answer r (refused_first c l d ∙ e))
