-- DEMAND 2 ON BYTES: what a call leaves in its bytes is what the next call reads.
use Rattle.std.specs.Prelude.{ℕ, ◌≡◌, refl, false, List, [], ◌∷◌, map}
use Rattle.std.proofs.Common.{sym, ◌∙◌, arith}
use Rattle.std.proofs.Math.Path.{ap, subst}
use Rattle.std.proofs.Math.Bool.{true}
use Rattle.std.proofs.Math.ListN.{length, take}
use Rattle.std.proofs.Math.Seq.{take_all}
use Rattle.def_base.specs.Tests.{Case, yes!, no!, case, clash, and_true, every}
use Rattle.def_layout.specs.declared.Desk.{Desk}
use Rattle.def_model.specs.Areas.{store_all, store_some}
use Rattle.def_model.specs.Answers.{passed, first_broken}
use Rattle.def_model.specs.Calls.{format_areas}
use Rattle.def_model.specs.Sound.{sound}
use Rattle.def_model.specs.OnBytes.{Call, start, request, format, Request, ask, Question, question_answer, Lent, Result, lengths_ok, read_areas, checks, start_checks, does, start_does, request_does, outcome, outcome_by, call, call_by, store_all_bytes, lent_after}
use Rattle.def_recovery.specs.Events.{of_32_bits, start_32, request_32, is_restart}
use Rattle.law_areas.specs.Lengths.{lengths_said}
use Rattle.theory_refusals.specs.Order.{not_passed, passed_does}
use Rattle.theory_refusals.specs.Left.{zeroes}
use Rattle.theory_refusals.specs.Lossless.{work_lossless, log_lossless}
use Rattle.theory_refusals.specs.OnBytes.{on_bytes, left_lent, left_lent_by, refused_leaves}
use Rattle.theory_sound.specs.SoundKept.{areas_after}
use Rattle.theory_sound.specs.OfBytes.{calls_leave_sound}
use Rattle.theory_readback.specs.Outcomes.{bytes_left, given, reads_back}

-- The four areas after a call and all its stores.
abbrev pub after : Call → Lent → Desk → Lent
after c l d = lent_after (length (call c l d).stores) (call c l d) l

stores_done : (r : Result) (l : Lent) → lent_after (length r.stores) r l
    ≡ record { work_pages = r.work_pages; stable_pages = (store_all_bytes r.stores l).stable_pages; work_log = r.work_log; stable_log = (store_all_bytes r.stores l).stable_log }
unfolding lent_after
stores_done r l =
    let e : take (length r.stores) r.stores ≡ r.stores = take_all (length r.stores) r.stores (omega arith) in
    λ i. record { work_pages = r.work_pages; stable_pages = (store_all_bytes (e i) l).stable_pages; work_log = r.work_log; stable_log = (store_all_bytes (e i) l).stable_log }

module _ (c : Call) (l : Lent) (d : Desk) where
  call_is : lengths_ok l ≡ true → call c l d ≡ call_by true c l d
  unfolding call
  call_is e = ap (λ b. call_by b c l d) e

  left_is : (j : ℕ) → lengths_ok l ≡ true → lent_after j (call c l d) l ≡ bytes_left j (outcome c (read_areas l) d) l
  unfolding call_by lent_after
  left_is j e = ap (λ r. lent_after j r l) (call_is e)

  -- READ BACK: the lengths stay right, and the bytes show what the call left, after any number of its stores,
  pub read_back_first : of_32_bits c ≡ true → lengths_ok l ≡ true → (j : ℕ)
      → (lengths_ok (lent_after j (call c l d) l) ≡ true) × (read_areas (lent_after j (call c l d) l) ≡ record { work = (outcome c (read_areas l) d).work; stable = store_some j (outcome c (read_areas l) d).stores (read_areas l).stable })
  unfolding store_some
  read_back_first k e j =
      let f = reads_back l (read_areas l) (given l e) d c k in
      (subst (λ z. lengths_ok z ≡ true) (sym (left_is j e)) (f.lengths j), ap read_areas (left_is j e) ∙ f.shows j)

  -- and after all of them.
  pub read_back : of_32_bits c ≡ true → lengths_ok l ≡ true → (lengths_ok (after c l d) ≡ true) × (read_areas (after c l d) ≡ areas_after c (read_areas l) d)
  unfolding call_by store_some
  read_back k e =
      let o = outcome c (read_areas l) d in
      let (z, s) = read_back_first k e (length (call c l d).stores) in
      let n : length (call c l d).stores ≡ length o.stores = ap (λ r. length r.stores) (call_is e) in
      let t : take (length (call c l d).stores) o.stores ≡ o.stores = take_all (length (call c l d).stores) o.stores (omega arith) in
      (z, s ∙ (λ i. record { work = o.work; stable = store_all (t i) (read_areas l).stable }))

  -- A call that passed has right lengths.
  pub passed_lengths : passed (call c l d).answer ≡ true → lengths_ok l ≡ true
  unfolding call call_by passed
  passed_lengths p = go (case (lengths_ok l))
    where
      go : Case (lengths_ok l) → lengths_ok l ≡ true
      go (yes! e) = e
      go (no! e) = clash (sym (subst (λ b. passed (call_by b c l d).answer ≡ true) e p))

  -- EVERY CALL THAT IS NOT REFUSED, format, load and a restart of whatever image too, LEAVES SOUND BYTES.
  pub bytes_stay_sound : of_32_bits c ≡ true → passed (call c l d).answer ≡ true → (lengths_ok (after c l d) ≡ true) × (sound (read_areas (after c l d)) (call c l d).desk ≡ true)
  unfolding call_by
  bytes_stay_sound k p =
      let e = passed_lengths p in
      let (z, s) = read_back k e in
      let q : passed (outcome c (read_areas l) d).answer ≡ true = subst (λ r. passed r.answer ≡ true) (call_is e) p in
      let w : (call c l d).desk ≡ (outcome c (read_areas l) d).desk = ap (λ r. r.desk) (call_is e) in
      (z, (λ i. sound (s i) (w i)) ∙ calls_leave_sound l e c d k q)

-- ---- requests: calls but format, load and restart

module _ (q : Request) (l : Lent) (d : Desk) where
  -- A refused one leaves its bytes and the desk as they were.
  pub refused_same : passed (call (request q) l d).answer ≡ false → (after (request q) l d ≡ l) × ((call (request q) l d).desk ≡ d)
  unfolding zeroes is_restart left_lent_by store_all_bytes
  refused_same p =
      let (x, e) = not_passed (call (request q) l d).answer p in
      let r : call (request q) l d ≡ left_lent (request q) x l d = refused_leaves (request q) l d x e in
      (ap (λ z. lent_after (length z.stores) z l) r ∙ stores_done (left_lent (request q) x l d) l, ap (λ z. z.desk) r)

  -- SOUND BYTES STAY SOUND, refused or not.
  pub bytes_still_sound : request_32 q ≡ true → lengths_ok l ≡ true → sound (read_areas l) d ≡ true
      → (lengths_ok (after (request q) l d) ≡ true) × (sound (read_areas (after (request q) l d)) (call (request q) l d).desk ≡ true)
  unfolding of_32_bits
  bytes_still_sound k e s = go (case (passed (call (request q) l d).answer))
    where
      go : Case (passed (call (request q) l d).answer) → (lengths_ok (after (request q) l d) ≡ true) × (sound (read_areas (after (request q) l d)) (call (request q) l d).desk ≡ true)
      go (yes! p) = bytes_stay_sound (request q) l d k p
      go (no! p) = let (u, v) = refused_same p in ((read_back (request q) l d k e).0, (λ i. sound (read_areas (u i)) (v i)) ∙ s)

-- A question leaves them so too, answered or refused.
pub question_same : (q : Question) (l : Lent) (d : Desk) → (after (request (ask q)) l d ≡ l) × ((call (request (ask q)) l d).desk ≡ d)
unfolding call_by does request_does store_all_bytes read_areas
question_same q l d = go (case (passed (call (request (ask q)) l d).answer))
  where
    go : Case (passed (call (request (ask q)) l d).answer) → (after (request (ask q)) l d ≡ l) × ((call (request (ask q)) l d).desk ≡ d)
    go (no! p) = refused_same (ask q) l d p
    go (yes! p) =
        let e = passed_lengths (request (ask q)) l d p in
        let z = lengths_said l e in
        let did = (passed_does (request (ask q)) (read_areas l) d (subst (λ r. passed r.answer ≡ true) (call_is (request (ask q)) l d e) p)).1 in
        let u : Result = record { answer = question_answer q (read_areas l); work_pages = l.work_pages; work_log = l.work_log; desk = d; stores = [] } in
        let r : call (request (ask q)) l d ≡ u = call_is (request (ask q)) l d e ∙ ap on_bytes did
        ∙ (λ i. record { answer = question_answer q (read_areas l); work_pages = work_lossless _ l.work_pages z.work_pages i; work_log = log_lossless _ l.work_log z.work_log i; desk = d; stores = [] }) in
        (ap (λ y. lent_after (length y.stores) y l) r ∙ stores_done u l, ap (λ y. y.desk) r)

-- ---- calls in a row

-- What the caller keeps from call to call.
pub record Kept : Type 0 where
  pub lent : Lent
  pub desk : Desk

abbrev pub kept_after : Call → Kept → Kept
kept_after c g = record { lent = after c g.lent g.desk; desk = (call c g.lent g.desk).desk }

unfoldable pub in_a_row : List Call → Kept → Kept
in_a_row [] g = g
in_a_row (c ∷ cs) g = in_a_row cs (kept_after c g)

abbrev pub SoundBytes : Kept → Type 0
SoundBytes g = (lengths_ok g.lent ≡ true) × (sound (read_areas g.lent) g.desk ≡ true)

pub row_stays_sound : (qs : List Request) (g : Kept) → every request_32 qs ≡ true → SoundBytes g → SoundBytes (in_a_row (map request qs) g)
unfolding in_a_row every
row_stays_sound [] g h s = s
row_stays_sound (q ∷ qs) g h s =
    let (k, r) = and_true (request_32 q) (every request_32 qs) h in
    row_stays_sound qs (kept_after (request q) g) r (bytes_still_sound q g.lent g.desk k s.0 s.1)

-- FROM ANY CALL THAT PASSED, as a format of any bytes does, or a restart of a stored, damaged or forged image that is accepted.
pub from_passed : (c : Call) (g : Kept) → of_32_bits c ≡ true → passed (call c g.lent g.desk).answer ≡ true → (qs : List Request) → every request_32 qs ≡ true → SoundBytes (in_a_row (c ∷ map request qs) g)
unfolding in_a_row
from_passed c g k p qs h = row_stays_sound qs (kept_after c g) h (bytes_stay_sound c g.lent g.desk k p)

pub format_passes : (l : Lent) (d : Desk) → lengths_ok l ≡ true → passed (call (start format) l d).answer ≡ true
unfolding call call_by outcome outcome_by checks start_checks first_broken does start_does format_areas passed
format_passes l d e = subst (λ b. passed (call_by b (start format) l d).answer ≡ true) (sym e) refl

pub from_format : (g : Kept) → lengths_ok g.lent ≡ true → (qs : List Request) → every request_32 qs ≡ true → SoundBytes (in_a_row (start format ∷ map request qs) g)
unfolding of_32_bits start_32
from_format g e qs h = from_passed (start format) g refl (format_passes g.lent g.desk e) qs h
