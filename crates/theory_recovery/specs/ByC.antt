-- One event of C, and the event of demand 3 that it is: the same world, but for the desk, which fits its bytes and so is the same too.
use Rattle.std.specs.Prelude.{ℕ, suc, ◌<◌, ◌^◌, ◌≡◌, Bool, true, ◌&&◌, length}
use Rattle.std.proofs.Math.Path.{refl, ap}
use Rattle.std.proofs.Common.{sym, ◌∙◌, subst, arith}
use Rattle.std.proofs.Math.Bool.{false, not}
use Rattle.std.proofs.Math.Option.{Option, none, some}
use mathlib.Core.List.{List, [], ◌∷◌, map}
use Rattle.std.proofs.Math.Dec.{eqb}
use Rattle.def_base.specs.Tests.{Case, yes!, no!, case, eq_true, true_eq, and_both}
use Rattle.def_layout.specs.declared.Desk.{Desk}
use Rattle.def_layout.specs.Numbers.{put32}
use Rattle.def_layout.specs.Desks.{desk_bytes, read_desk}
use Rattle.def_layout.specs.Sizes.{desk_size}
use Rattle.def_model.specs.declared.Refusal.{Refusal}
use Rattle.def_model.specs.declared.Answer.{Answer}
use Rattle.def_model.specs.Answers.{answer_numbers, passed, first_broken}
use Rattle.def_model.specs.Areas.{Areas}
use Rattle.def_model.specs.Calls.{begin_batch, begin_checks, kept_run}
use Rattle.def_model.specs.OnBytes.{Call, Start, start, restart, request, ask, begin, insert, delete, commit, abort, write_out, return_to, Lent, lengths_ok, read_areas, checks, request_checks, does, request_does, refused, outcome_by, outcome, call_by, call, lent_after}
use Rattle.def_recovery.specs.Book.{book_request, Book, new_book, file, strike, open_sheet, write_line, book_call}
use Rattle.def_recovery.specs.Events.{World, Event, result, passes, last_in, fed, fed_request, book_after, end_call, cut_call, grow, happen, happen_all, Granted, Allowed, AllAllowed, started, first_slides}
use Rattle.def_recovery.specs.Events as typed
use Rattle.def_c.specs.FromC.{values_size, value_bytes, areas_left, answered, sizes_ok, returned_by, c_call, c_stores_by, c_stores}
use Rattle.def_c.specs.EventsOfC.{CWorld, as_world, CRubble, CEvent, ended, cut, grown, returns, returns_0, read_values, after_return, cut_c_call, c_happen, c_happen_all, CGranted, CAllowed, CAllAllowed, c_started}
use Rattle.law_bytes.specs.Words.{Bytes, be32_put}
use Rattle.law_bytes.specs.DeskBytes.{Fits, desk_bytes_length, read_desk_back}
use Rattle.law_areas.specs.Lengths.{lengths_said}
use Rattle.law_areas.specs.Logs.{read_log_length}
use Rattle.theory_refusals.specs.Numbers.{zero_if_passed}
use Rattle.theory_room.specs.Restarting.{length_records_of}
use Rattle.theory_recovery.specs.DeskNumbers.{read_fits}
use Rattle.theory_recovery.specs.DesksFit.{call_desk_fits, desk_read_back, passed_read_back}

-- ---- the answer: returned, and read from its bytes

-- The number that begin answers has 32 bits.
begin_by_fits : (o : Option Refusal) (a : Areas) (d : Desk) → suc (length a.work.log) < 2 ^ 32 → (answer_numbers (outcome_by o (request begin) a d).answer).first < 2 ^ 32
unfolding outcome_by refused does request_does begin_batch kept_run answer_numbers
begin_by_fits (some r) a d h = omega arith
begin_by_fits none a d h = let l = length_records_of a.work.log in omega arith

begin_fits : (l : Lent) (d : Desk) → (answer_numbers (call (request begin) l d).answer).first < 2 ^ 32
unfolding call call_by outcome checks request_checks read_areas answer_numbers
begin_fits l d = go (case (lengths_ok l))
  where
    go : Case (lengths_ok l) → (answer_numbers (call (request begin) l d).answer).first < 2 ^ 32
    go (no! e) = subst (λ b. (answer_numbers (call_by b (request begin) l d).answer).first < 2 ^ 32) (sym e) (omega arith)
    go (yes! e) =
        let z = lengths_said l e in
        let few = z.most_slots in
        let work = read_log_length _ l.work_log z.work_log in
        subst (λ b. (answer_numbers (call_by b (request begin) l d).answer).first < 2 ^ 32) (sym e) (begin_by_fits (first_broken (begin_checks (read_areas l) d)) (read_areas l) d (omega arith))

-- The first value, as it is read.
first_back : (a : Answer) → (answer_numbers a).first < 2 ^ 32 → (answer_numbers (read_values (value_bytes a))).first ≡ (answer_numbers a).first
unfolding read_values value_bytes answer_numbers
first_back a h = be32_put (answer_numbers a).first (put32 (answer_numbers a).second) h

-- The book of a call is the one that the host keeps by what it reads: the values, and for an update the desk.
book_read : (c : Call) (l : Lent) (d : Desk) (b : Book) → passed (call c l d).answer ≡ true
    → book_call c (read_values (value_bytes (call c l d).answer)) (fed c (read_desk (desk_bytes (call c l d).desk))) b ≡ book_call c (call c l d).answer (fed c (call c l d).desk) b
unfolding book_call book_request fed fed_request
book_read (start s) l d b p = refl
book_read restart l d b p = refl
book_read (request begin) l d b p = ap (λ n. open_sheet n b) (first_back (call (request begin) l d).answer (begin_fits l d))
book_read (request (ask q)) l d b p = refl
book_read (request (insert n k v)) l d b p = ap (λ q. write_line n (last_in n q.rows) (file k v) b) (passed_read_back (insert n k v) l d p)
book_read (request (delete n k)) l d b p = ap (λ q. write_line n (last_in n q.rows) (strike k) b) (passed_read_back (delete n k) l d p)
book_read (request (commit n)) l d b p = refl
book_read (request (abort n)) l d b p = refl
book_read (request (return_to n m)) l d b p = refl
book_read (request (write_out q)) l d b p = refl

book_alike : (p : Bool) (c : Call) (l : Lent) (d : Desk) (b : Book) → passed (call c l d).answer ≡ p
    → book_after p c (read_values (value_bytes (call c l d).answer)) (read_desk (desk_bytes (call c l d).desk)) b ≡ book_after p c (call c l d).answer (call c l d).desk b
unfolding book_after
book_alike true c l d b p = book_read c l d b p
book_alike false c l d b p = refl

-- ---- a desk and values of right lengths

abbrev pub with_desk : Desk → World → World
with_desk d w = record { lent = w.lent; desk = d; book = w.book; since_cut = w.since_cut }

module _ (c : Call) (values : List ℕ) (w : CWorld) (right : sizes_ok w.desk values ≡ true) where
  pub returns_answer : returns c values w ≡ answered (result c (as_world w)) w.lent
  unfolding c_call returned_by
  returns_answer = ap (λ b. returned_by b c w.lent w.desk values) right

  pub stores_alike : c_stores c w.lent w.desk values ≡ (result c (as_world w)).stores
  unfolding c_stores c_stores_by
  stores_alike = ap (λ b. c_stores_by b c w.lent w.desk) right

  pub passes_alike : returns_0 c values w ≡ passes c (as_world w)
  unfolding answered
  passes_alike = ap (λ r. eqb r.reason 0) returns_answer ∙ zero_if_passed (result c (as_world w)).answer

  -- The desk that is returned, read.
  pub desk_returned : Desk
  desk_returned = read_desk (desk_bytes (result c (as_world w)).desk)

  pub ended_alike : as_world (c_happen (ended c values) w) ≡ with_desk desk_returned (end_call c (as_world w))
  unfolding c_happen after_return end_call answered areas_left desk_returned
  ended_alike =
      let r = result c (as_world w) in
      let p = zero_if_passed r.answer in
      ap (λ q. as_world (after_return w c q q.desk)) returns_answer
      ∙ ap (λ b. record { lent = lent_after (length r.stores) r w.lent; desk = read_desk (desk_bytes r.desk); book = book_after b c (read_values (value_bytes r.answer)) (read_desk (desk_bytes r.desk)) w.book; since_cut = w.since_cut && not b }) p
      ∙ ap (λ b. record { lent = lent_after (length r.stores) r w.lent; desk = read_desk (desk_bytes r.desk); book = b; since_cut = w.since_cut && not (passed r.answer) }) (book_alike (passed r.answer) c w.lent (read_desk w.desk) w.book refl)

  pub cut_alike : (budget : ℕ) (left : CRubble) → as_world (c_happen (cut c values budget left) w) ≡ cut_call c budget (record { work_pages = left.work_pages; work_log = left.work_log; desk = read_desk left.desk }) (as_world w)
  unfolding c_happen cut_c_call cut_call lent_after
  cut_alike budget left = rw (stores_alike, passes_alike)

-- ---- demand 3's events, made by C

-- An event in bytes: each call is lent 8 bytes for its values.
unfoldable pub in_bytes : (values : List ℕ) → Event → CEvent
in_bytes values (typed.ended c) = ended c values
in_bytes values (typed.cut c budget left) = cut c values budget (record { work_pages = left.work_pages; work_log = left.work_log; desk = desk_bytes left.desk })
in_bytes values (typed.grown a b c d) = grown a b c d

-- What a cut leaves in the desk is what 136 bytes can hold.
unfoldable pub HoldsDesk : Event → Type 0
HoldsDesk (typed.ended c) = Unit {0}
HoldsDesk (typed.cut c budget left) = Fits left.desk
HoldsDesk (typed.grown a b c d) = Unit {0}

unfoldable pub AllHold : List Event → Type 0
AllHold [] = Unit {0}
AllHold (e ∷ es) = HoldsDesk e × AllHold es

-- The desk has its length, and its numbers 32 bits.
pub record DeskStands (w : CWorld) : Type 0 where
  pub size : length w.desk ≡ desk_size
  pub fits : Fits (read_desk w.desk)

pub bytes_stand : (w : CWorld) → Bytes w.desk → length w.desk ≡ desk_size → DeskStands w
bytes_stand w b e = record { size = e; fits = read_fits w.desk b }

module _ (values : List ℕ) (room : length values ≡ values_size) where
  right_sizes : (w : CWorld) → DeskStands w → sizes_ok w.desk values ≡ true
  unfolding sizes_ok
  right_sizes w s = and_both (eq_true (length w.desk) desk_size s.size) (eq_true (length values) values_size room)

  pub stands_by : (w : CWorld) (d : Desk) → Fits d → w.desk ≡ desk_bytes d → DeskStands w
  stands_by w d f e = record { size = ap length e ∙ desk_bytes_length d; fits = subst Fits (sym (ap read_desk e ∙ read_desk_back d f)) f }

  pub event_alike : (e : Event) → HoldsDesk e → (w : CWorld) → DeskStands w → (as_world (c_happen (in_bytes values e) w) ≡ happen e (as_world w)) × DeskStands (c_happen (in_bytes values e) w)
  unfolding in_bytes HoldsDesk happen c_happen after_return cut_c_call end_call grow desk_returned answered
  event_alike (typed.ended c) h w s =
      let k = right_sizes w s in
      let r = result c (as_world w) in
      let f = call_desk_fits c w.lent (read_desk w.desk) s.fits in (
        ended_alike c values w k ∙ ap (λ d. with_desk d (end_call c (as_world w))) (desk_read_back c w.lent (read_desk w.desk) s.fits),
        stands_by _ r.desk f (ap (λ q. q.desk) (returns_answer c values w k)),
      )
  event_alike (typed.cut c budget left) h w s =
      (cut_alike c values w (right_sizes w s) budget _ ∙ ap (λ d. cut_call c budget (record { work_pages = left.work_pages; work_log = left.work_log; desk = d }) (as_world w)) (read_desk_back left.desk h), stands_by _ left.desk h refl)
  event_alike (typed.grown a b c d) h w s = (refl, record { size = s.size; fits = s.fits })

  -- THE C FUNCTIONS, CALLED IN ANY ORDER AND CUT ANYWHERE, do what the calls of demand 3 do.
  pub run_alike : (es : List Event) → AllHold es → (w : CWorld) → DeskStands w → as_world (c_happen_all (map (in_bytes values) es) w) ≡ happen_all es (as_world w)
  unfolding AllHold c_happen_all happen_all
  run_alike [] h w s = refl
  run_alike (e ∷ es) h w s =
      let (a, t) = event_alike e h.0 w s in
      run_alike es h.1 (c_happen (in_bytes values e) w) t ∙ ap (happen_all es) a

  -- What demand 3 grants is granted over C.
  granted_alike : (c : Call) (w : CWorld) → DeskStands w → Granted c (as_world w) → CGranted c values w
  granted_alike c w s g =
      let p = passes_alike c values w (right_sizes w s) in
      record { numbers = g.numbers; no_format = λ f. p ∙ g.no_format f; restart_first = λ t q. g.restart_first t (sym p ∙ q) }

  one_allowed : (e : Event) (w : CWorld) → DeskStands w → Allowed e (as_world w) → CAllowed (in_bytes values e) w
  unfolding Allowed CAllowed in_bytes
  one_allowed (typed.ended c) w s a = granted_alike c w s a
  one_allowed (typed.cut c budget left) w s a = granted_alike c w s a
  one_allowed (typed.grown a b c d) w s x = tt

  -- WHAT DEMAND 3 ALLOWS IS ALLOWED OVER C.
  pub allowed_alike : (es : List Event) → AllHold es → (w : CWorld) → DeskStands w → AllAllowed es (as_world w) → CAllAllowed (map (in_bytes values) es) w
  unfolding AllHold AllAllowed CAllAllowed
  allowed_alike [] h w s a = tt
  allowed_alike (e ∷ es) h w s a =
      let (x, t) = event_alike e h.0 w s in
      (one_allowed e w s a.0, allowed_alike es h.1 (c_happen (in_bytes values e) w) t (subst (AllAllowed es) (sym x) a.1))

  -- The start over C.
  pub started_alike : (s : Start) (l : Lent) (desk : List ℕ) → length desk ≡ desk_size → Fits (read_desk desk) → (as_world (c_started s l desk values) ≡ started s l (read_desk desk)) × DeskStands (c_started s l desk values)
  unfolding c_started started c_call returned_by sizes_ok answered areas_left
  started_alike s l desk size fits =
      let r = call (start s) l (read_desk desk) in
      let is : c_call (start s) l desk values ≡ answered r l = ap (λ b. returned_by b (start s) l desk values) (and_both (eq_true (length desk) desk_size size) (eq_true (length values) values_size room)) in (
        ap (λ q. record { lent = q.areas; desk = read_desk q.desk; book = new_book (first_slides s); since_cut = false }) is
            ∙ ap (λ d. record { lent = lent_after (length r.stores) r l; desk = d; book = new_book (first_slides s); since_cut = false }) (desk_read_back (start s) l (read_desk desk) fits),
        stands_by _ r.desk (call_desk_fits (start s) l (read_desk desk) fits) (ap (λ q. q.desk) is),
      )

  pub started_0 : (s : Start) (l : Lent) (desk : List ℕ) → length desk ≡ desk_size → passed (call (start s) l (read_desk desk)).answer ≡ true → (c_call (start s) l desk values).reason ≡ 0
  unfolding c_call returned_by sizes_ok answered
  started_0 s l desk size p =
      ap (λ b. (returned_by b (start s) l desk values).reason) (and_both (eq_true (length desk) desk_size size) (eq_true (length values) values_size room)) ∙ true_eq _ 0 (zero_if_passed (call (start s) l (read_desk desk)).answer ∙ p)
