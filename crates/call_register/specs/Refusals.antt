-- Refusals 1, 2, 7 and 11, which come before every other.
use Rattle.std.specs.Prelude.{◌≡◌, ◌≢◌, ℕ, ◌/◌, ◌≤◌, ◌<◌, Bool, List, length}
use Rattle.std.proofs.Math.Path.{refl}
use Rattle.std.proofs.Common.{ap, sym, subst, arith}
use Rattle.std.proofs.Math.Bool.{true, false}
use Rattle.std.proofs.Math.Option.{Option, none, some}
use Rattle.std.proofs.Math.Dec.{eqb}
use Rattle.def_base.specs.Tests.{pick, le_true, le_false, neq_false, none_some, some_inj}
use Rattle.def_layout.specs.declared.Desk.{Desk}
use Rattle.def_model.specs.declared.Refusal.{Refusal}
use Rattle.def_model.specs.declared.Refusal.TheVariants.{PageNumber, ZeroKey, Unsound, Lengths}
use Rattle.def_model.specs.declared.Answer.TheVariants.{Refused}
use Rattle.def_model.specs.Answers.{first_broken}
use Rattle.def_model.specs.Areas.{Areas}
use Rattle.def_model.specs.Sound.{sound}
use Rattle.def_model.specs.Calls.{begin_checks, fetch_checks, next_checks, previous_checks, insert_checks, delete_checks, commit_checks, abort_checks, mark_checks, return_checks, write_out_checks}
use Rattle.def_model.specs.OnBytes.{request, Request, ask, begin, fetch, next, previous, insert, delete, commit, abort, take_mark, return_to, write_out, checks, question_checks, request_checks, refused_desk, refused_work, refused, Lent, lengths_ok, read_areas}
use Rattle.law_areas.specs.Outcomes.{broken_refused}
use Rattle.law_areas.specs.Working.{read_work_length}
use Rattle.area_lengths.specs.Lent.{lent, Sized, lengths_numbers}
use Rattle.call_reply.specs.declared.Reply.{Reply}
use Rattle.call_reply.specs.Replies.{Replies, lengths_refused, left_alone}

-- The page that a request names which 11 may refuse: page 0, which every register has, where it names none. An insert of key 0 is refused before.
abbrev pub names : Request → Option ℕ
names begin = some 0
names (ask q) = some 0
names (insert b k v) = pick (eqb k 0) none (some 0)
names (delete b k) = some 0
names (commit b) = some 0
names (abort b) = some 0
names (return_to b m) = some 0
names (write_out p) = some p

pub insert_names : (b k v : ℕ) → k ≢ 0 → names (insert b k v) ≡ some 0
insert_names b k v nz = rw (neq_false nz)

-- What such a request has first: the page's number, and sound.
record First (a : Areas) (d : Desk) (p : ℕ) (q : Request) : Type 0 where
  past : 0 < length a.work.pages → length a.work.pages ≤ p → first_broken (request_checks q a d) ≡ some PageNumber
  unsound : p < length a.work.pages → sound a d ≡ false → first_broken (request_checks q a d) ≡ some Unsound

module _ (a : Areas) (d : Desk) (p : ℕ) where
  -- One that names page 0.
  of : (q : Request) → some 0 ≡ some p → (sound a d ≡ false → first_broken (request_checks q a d) ≡ some Unsound) → First a d p q
  of q e u = record { past = λ h i. let z = some_inj e in absurd (omega arith); unsound = λ h bad. u bad }

  first : (q : Request) → names q ≡ some p → First a d p q
  unfolding request_checks question_checks first_broken begin_checks fetch_checks next_checks previous_checks insert_checks delete_checks commit_checks abort_checks mark_checks return_checks write_out_checks
  first begin e = of begin e (λ bad. rw bad)
  first (ask (fetch b k)) e = of (ask (fetch b k)) e (λ bad. rw bad)
  first (ask (next b k)) e = of (ask (next b k)) e (λ bad. rw bad)
  first (ask (previous b k)) e = of (ask (previous b k)) e (λ bad. rw bad)
  first (insert b k v) e = go (eqb k 0) refl e
    where
      go : (z : Bool) → eqb k 0 ≡ z → pick z none (some 0) ≡ some p → First a d p (insert b k v)
      go true t e = none_some e
      go false t e = of (insert b k v) e (λ bad. rw (t, bad))
  first (delete b k) e = of (delete b k) e (λ bad. rw bad)
  first (commit b) e = of (commit b) e (λ bad. rw bad)
  first (abort b) e = of (abort b) e (λ bad. rw bad)
  first (ask (take_mark b)) e = of (ask (take_mark b)) e (λ bad. rw bad)
  first (return_to b m) e = of (return_to b m) e (λ bad. rw bad)
  first (write_out i) e =
      let s = some_inj e in
      record {
        past = λ h n. rw (le_true (length a.work.pages) i (omega arith));
        unsound = λ h bad. rw (le_false (length a.work.pages) i (omega arith), bad);
      }

module _ (wp sp wl sl : List ℕ) (d : Desk) (budget : ℕ) (r : Reply) (q : Request) where
  abbrev l : Lent
  l = lent wp sp wl sl

  -- REFUSED, whichever the request is: by 1, and by its first broken check.
  pub by_1 : lengths_ok l ≡ false → r.answer ≡ Refused Lengths → r.desk ≡ d → Replies (request q) l d budget r l
  unfolding refused_desk
  by_1 e a k = lengths_refused (request q) l d budget r e a k

  module _ (lens : lengths_ok l ≡ true) where
    broken : (why : Refusal) → first_broken (request_checks q (read_areas l) d) ≡ some why → r.answer ≡ Refused why → r.desk ≡ d → Replies (request q) l d budget r l
    unfolding checks refused refused_work refused_desk
    broken why e = left_alone (request q) wp sp wl sl d lens (Refused why) budget r (broken_refused (request q) (read_areas l) d why e)

    module _ (p : ℕ) (named : names q ≡ some p) where
      firsts : First (read_areas l) d p q
      firsts = first (read_areas l) d p q named

      z : Sized wp sp wl sl
      z = lengths_numbers wp sp wl sl lens

      count : length (read_areas l).work.pages ≡ length wp / 128
      unfolding read_areas
      count = read_work_length (length wp / 128) wp z.0

      pub by_2 : length wp / 128 ≤ p → r.answer ≡ Refused PageNumber → r.desk ≡ d → Replies (request q) l d budget r l
      by_2 h = broken PageNumber (firsts.past (omega (arith, count, z.1)) (omega (arith, count)))

      pub by_11 : p < length wp / 128 → sound (read_areas l) d ≡ false → r.answer ≡ Refused Unsound → r.desk ≡ d → Replies (request q) l d budget r l
      by_11 h bad = broken Unsound (firsts.unsound (omega (arith, count)) bad)

-- AN INSERT OF KEY 0.
module _ (wp sp wl sl : List ℕ) (d : Desk) (r : Reply) (b v budget : ℕ) where
  abbrev areas : Lent
  areas = lent wp sp wl sl

  pub zero_1 : lengths_ok areas ≡ false → (r.answer ≡ Refused Lengths) × (r.desk ≡ d) → Replies (request (insert b 0 v)) areas d budget r areas
  zero_1 e h = by_1 wp sp wl sl d budget r (insert b 0 v) e h.0 h.1

  pub zero_7 : lengths_ok areas ≡ true → (r.answer ≡ Refused ZeroKey) × (r.desk ≡ d) → Replies (request (insert b 0 v)) areas d budget r areas
  unfolding request_checks first_broken insert_checks
  zero_7 lens h = broken wp sp wl sl d budget r (insert b 0 v) lens ZeroKey refl h.0 h.1

  pub zero_as : (k : ℕ) → k ≡ 0 → Replies (request (insert b 0 v)) areas d budget r areas → Replies (request (insert b k v)) areas d budget r areas
  zero_as k e x = subst (λ (z : ℕ). Replies (request (insert b z v)) areas d budget r areas) (sym e) x
