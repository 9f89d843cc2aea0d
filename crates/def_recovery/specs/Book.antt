-- 01: the plain book of demand 3. "it has slides, each a key and a value, at first none, and a sheet for each open case."
use Rattle.std.specs.Prelude.{ℕ, Bool, List, [], ◌∷◌, ◌++◌, eqb, ltb}
use Rattle.std.proofs.Math.Option.{Option, none, some}
use Rattle.def_base.specs.Tests.{pick}
use Rattle.def_layout.specs.declared.Entry.{Entry}
use Rattle.def_layout.specs.Entries.{insert_sorted, remove_key}
use Rattle.def_model.specs.declared.Answer.{Answer}
use Rattle.def_model.specs.Answers.{answer_numbers}
use Rattle.def_model.specs.OnBytes.{Call, start, restart, request, Request, ask, begin, insert, delete, commit, abort, write_out, return_to}

-- A line on a sheet: a slide filed, or a key struck out.
pub data BookLine : Type 0 where
  file : ℕ → ℕ → BookLine
  strike : ℕ → BookLine

-- 02, U2: the book "is also fed each update's record number .. and notes it with the line on the sheet".
pub record Noted : Type 0 where
  pub number : ℕ
  pub line : BookLine

-- A case's sheet, its lines in order. (A case is a batch.)
pub record Sheet : Type 0 where
  pub batch : ℕ
  pub lines : List Noted

-- The slides stand by rising key.
pub record Book : Type 0 where
  pub slides : List Entry
  pub sheets : List Sheet

-- 02, U3: after a loading "the book starts with the columns".
abbrev pub new_book : List Entry → Book
new_book es = record { slides = es; sheets = [] }

-- ---- sheets

unfoldable pub lines_of : ℕ → List Sheet → List Noted
lines_of n [] = []
lines_of n (s ∷ ss) = pick (eqb n s.batch) s.lines (lines_of n ss)

unfoldable pub add_line : ℕ → Noted → List Sheet → List Sheet
add_line n l [] = []
add_line n l (s ∷ ss) = pick (eqb n s.batch) (record { batch = s.batch; lines = s.lines ++ l ∷ [] } ∷ ss) (s ∷ add_line n l ss)

unfoldable pub drop_sheet : ℕ → List Sheet → List Sheet
drop_sheet n [] = []
drop_sheet n (s ∷ ss) = pick (eqb n s.batch) ss (s ∷ drop_sheet n ss)

-- "carries out its sheet on the slides, in order"
unfoldable pub carry_line : BookLine → List Entry → List Entry
carry_line (file k v) es = insert_sorted k v es
carry_line (strike k) es = remove_key k es

unfoldable pub carry_out : List Noted → List Entry → List Entry
carry_out [] es = es
carry_out (l ∷ ls) es = carry_out ls (carry_line l.line es)

-- 02, U2: "a return strikes the lines with a number above its mark".
unfoldable pub up_to : (mark : ℕ) → List Noted → List Noted
up_to mark [] = []
up_to mark (l ∷ ls) = pick (ltb mark l.number) (up_to mark ls) (l ∷ up_to mark ls)

unfoldable pub strike_above : ℕ → (mark : ℕ) → List Sheet → List Sheet
strike_above n mark [] = []
strike_above n mark (s ∷ ss) = pick (eqb n s.batch) (record { batch = s.batch; lines = up_to mark s.lines } ∷ ss) (s ∷ strike_above n mark ss)

-- ---- what is done to the book

-- "Begin opens one under its answer"
unfoldable pub open_sheet : ℕ → Book → Book
open_sheet n b = record { slides = b.slides; sheets = b.sheets ++ record { batch = n; lines = [] } ∷ [] }

-- "an insert or delete goes on its case's"
unfoldable pub write_line : ℕ → (number : ℕ) → BookLine → Book → Book
write_line n number l b = record { slides = b.slides; sheets = add_line n (record { number = number; line = l }) b.sheets }

-- "A commit .. carries out its sheet on the slides, in order; it and abort drop the sheet, a finished restart all."
unfoldable pub commit_sheet : ℕ → Book → Book
commit_sheet n b = record { slides = carry_out (lines_of n b.sheets) b.slides; sheets = drop_sheet n b.sheets }

unfoldable pub abort_sheet : ℕ → Book → Book
abort_sheet n b = record { slides = b.slides; sheets = drop_sheet n b.sheets }

unfoldable pub return_sheet : ℕ → (mark : ℕ) → Book → Book
return_sheet n mark b = record { slides = b.slides; sheets = strike_above n mark b.sheets }

unfoldable pub abort_sheets : Book → Book
abort_sheets b = record { slides = b.slides; sheets = [] }

-- A call that was not refused, its answer, and for an update the number of its record. "All else changes nothing".
unfoldable pub book_request : Request → Answer → (number : ℕ) → Book → Book
book_request begin a m b = open_sheet (answer_numbers a).first b
book_request (ask q) a m b = b
book_request (insert n k v) a m b = write_line n m (file k v) b
book_request (delete n k) a m b = write_line n m (strike k) b
book_request (commit n) a m b = commit_sheet n b
book_request (abort n) a m b = abort_sheet n b
book_request (return_to n mark) a m b = return_sheet n mark b
book_request (write_out p) a m b = b

unfoldable pub book_call : Call → Answer → (number : ℕ) → Book → Book
book_call (start s) a m b = b
book_call restart a m b = abort_sheets b
book_call (request q) a m b = book_request q a m b

-- The batch that a call commits.
unfoldable pub commits_request : Request → Option ℕ
commits_request begin = none
commits_request (ask q) = none
commits_request (insert n k v) = none
commits_request (delete n k) = none
commits_request (commit n) = some n
commits_request (abort n) = none
commits_request (return_to n mark) = none
commits_request (write_out p) = none

unfoldable pub commits : Call → Option ℕ
commits (start s) = none
commits restart = none
commits (request q) = commits_request q

-- A call that was cut: "of a cut commit, whether its commit record was stored".
unfoldable pub book_cut_by : Option ℕ → (stored : Bool) → Book → Book
book_cut_by none stored b = b
book_cut_by (some n) stored b = pick stored (commit_sheet n b) b

unfoldable pub book_cut : Call → (stored : Bool) → Book → Book
book_cut c stored b = book_cut_by (commits c) stored b
