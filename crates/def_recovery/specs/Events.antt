-- What happens to a register, and what the customer grants of it.
use Rattle.std.specs.Prelude.{ℕ, ◌≡◌, Bool, true, false, not, ◌&&◌, List, [], ◌∷◌, ◌++◌, length, leb, eqb}
use Rattle.def_base.specs.Tests.{pick, every}
use Rattle.def_layout.specs.declared.Entry.{Entry}
use Rattle.def_layout.specs.declared.Row.{Row}
use Rattle.def_layout.specs.declared.Desk.{Desk}
use Rattle.def_layout.specs.Entries.{top}
use Rattle.def_layout.specs.Numbers.{zeros}
use Rattle.def_model.specs.declared.Answer.{Answer}
use Rattle.def_model.specs.Answers.{passed}
use Rattle.def_model.specs.Loading.{columns}
use Rattle.def_model.specs.OnBytes.{Call, start, restart, request, Start, format, load, Question, fetch, next, previous, take_mark, Request, ask, begin, insert, delete, commit, abort, write_out, return_to, Lent, Result, call, lent_after}
use Rattle.def_recovery.specs.Book.{Book, new_book, book_call, book_cut}

-- What a cut may leave in the working areas and the desk: anything.
pub record Rubble : Type 0 where
  pub work_pages : List ℕ
  pub work_log : List ℕ
  pub desk : Desk

-- A call that ends; a call that is cut after so many of its stores; zeros added to the four areas.
pub data Event : Type 0 where
  ended : Call → Event
  cut : Call → ℕ → Rubble → Event
  grown : (work_pages stable_pages work_log stable_log : ℕ) → Event

-- The lent areas, the desk, the plain book beside them, and whether there was a cut that no restart has followed yet.
pub record World : Type 0 where
  pub lent : Lent
  pub desk : Desk
  pub book : Book
  pub since_cut : Bool

-- The call's result where it stands.
abbrev pub result : Call → World → Result
result c w = call c w.lent w.desk

abbrev pub passes : Call → World → Bool
passes c w = passed (result c w).answer

-- ---- one event

-- The last record of batch n, as a desk's rows give it.
unfoldable pub last_in : ℕ → List Row → ℕ
last_in n [] = 0
last_in n (r ∷ rs) = pick (eqb n r.batch) r.last (last_in n rs)

-- 02, U2: "each update's record number, which the desk then gives as the batch's last record": the desk after the call. No other call feeds one.
unfoldable pub fed_request : Request → Desk → ℕ
fed_request begin d = 0
fed_request (ask q) d = 0
fed_request (insert n k v) d = last_in n d.rows
fed_request (delete n k) d = last_in n d.rows
fed_request (commit n) d = 0
fed_request (abort n) d = 0
fed_request (return_to n mark) d = 0
fed_request (write_out p) d = 0

unfoldable pub fed : Call → Desk → ℕ
fed (start s) d = 0
fed restart d = 0
fed (request q) d = fed_request q d

unfoldable pub book_after : (passed : Bool) → Call → Answer → Desk → Book → Book
book_after true c a d b = book_call c a (fed c d) b
book_after false c a d b = b

unfoldable pub end_call : Call → World → World
end_call c w =
    let r = result c w in
    record {
      lent = lent_after (length r.stores) r w.lent;
      desk = r.desk;
      book = book_after (passed r.answer) c r.answer r.desk w.book;
      since_cut = w.since_cut && not (passed r.answer);
    }

-- Its commit record is a commit's last store.
abbrev pub all_stored : ℕ → Result → Bool
all_stored budget r = passed r.answer && leb (length r.stores) budget

unfoldable pub cut_call : Call → ℕ → Rubble → World → World
cut_call c budget left w =
    let r = result c w in
    let s = lent_after budget r w.lent in
    record {
      lent = record { work_pages = left.work_pages; stable_pages = s.stable_pages; work_log = left.work_log; stable_log = s.stable_log };
      desk = left.desk;
      book = book_cut c (all_stored budget r) w.book;
      since_cut = true;
    }

unfoldable pub grow : (work_pages stable_pages work_log stable_log : ℕ) → World → World
grow a b c d w =
    record {
      lent =
          record {
            work_pages = w.lent.work_pages ++ zeros a;
            stable_pages = w.lent.stable_pages ++ zeros b;
            work_log = w.lent.work_log ++ zeros c;
            stable_log = w.lent.stable_log ++ zeros d;
          };
      desk = w.desk;
      book = w.book;
      since_cut = w.since_cut;
    }

unfoldable pub happen : Event → World → World
happen (ended c) w = end_call c w
happen (cut c budget left) w = cut_call c budget left w
happen (grown a b c d) w = grow a b c d w

unfoldable pub happen_all : List Event → World → World
happen_all [] w = w
happen_all (e ∷ es) w = happen_all es (happen e w)

-- ---- what the customer grants

-- 02, U3: "a loading counts as a formatting".
unfoldable pub is_format : Call → Bool
is_format (start s) = true
is_format restart = false
is_format (request q) = false

unfoldable pub is_restart : Call → Bool
is_restart (start s) = false
is_restart restart = true
is_restart (request q) = false

-- 01: "Keys and values are 32-bit", and so is every number that a call is given.
abbrev pub fits_32 : ℕ → Bool
fits_32 n = leb n top

unfoldable pub start_32 : Start → Bool
start_32 format = true
start_32 (load ks vs) = every fits_32 ks && every fits_32 vs

unfoldable pub question_32 : Question → Bool
question_32 (fetch n k) = fits_32 n && fits_32 k
question_32 (next n k) = fits_32 n && fits_32 k
question_32 (previous n k) = fits_32 n && fits_32 k
question_32 (take_mark n) = fits_32 n

unfoldable pub request_32 : Request → Bool
request_32 (ask q) = question_32 q
request_32 begin = true
request_32 (insert n k v) = fits_32 n && (fits_32 k && fits_32 v)
request_32 (delete n k) = fits_32 n && fits_32 k
request_32 (commit n) = fits_32 n
request_32 (abort n) = fits_32 n
request_32 (return_to n m) = fits_32 n && fits_32 m
request_32 (write_out p) = fits_32 p

unfoldable pub of_32_bits : Call → Bool
of_32_bits (start s) = start_32 s
of_32_bits restart = true
of_32_bits (request q) = request_32 q

-- "since the last finished formatting": a formatting or loading among the calls is a refused one. "the first call after a cut to pass its checks is a
-- restart, itself cut or not".
pub record Granted (c : Call) (w : World) : Type 0 where
  pub numbers : of_32_bits c ≡ true
  pub no_format : is_format c ≡ true → passes c w ≡ false
  pub restart_first : w.since_cut ≡ true → passes c w ≡ true → is_restart c ≡ true

unfoldable pub Allowed : Event → World → Type 0
Allowed (ended c) w = Granted c w
Allowed (cut c budget left) w = Granted c w
Allowed (grown a b c d) w = Unit {0}

unfoldable pub AllAllowed : List Event → World → Type 0
AllAllowed [] w = Unit {0}
AllAllowed (e ∷ es) w = Allowed e w × AllAllowed es (happen e w)

-- What a register holds at first: a formatted one nothing, a loaded one the columns.
unfoldable pub first_slides : Start → List Entry
first_slides format = []
first_slides (load ks vs) = columns ks vs

-- The register right after a finished formatting or loading of these areas.
unfoldable pub started : Start → Lent → Desk → World
started s l d = let r = call (start s) l d in record { lent = lent_after (length r.stores) r l; desk = r.desk; book = new_book (first_slides s); since_cut = false }

abbrev pub formatted : Lent → Desk → World
formatted l d = started format l d
