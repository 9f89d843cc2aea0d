-- The plain book that a log tells: its slides, and a sheet for each open batch.
use Rattle.std.specs.Prelude.{ℕ, suc, ◌≤◌, ◌≡◌, refl, Bool, true, false, List, [], ◌∷◌, ◌++◌, eqb, ltb}
use Rattle.std.proofs.Common.{ap, ◌∙◌, append-nil, arith}
use Rattle.std.proofs.Math.Option.{some}
use Rattle.def_base.specs.Tests.{pick, Case, yes!, no!, case, none_some, some_inj, false_lt, lt_false}
use Rattle.def_layout.specs.declared.Entry.{Entry}
use Rattle.def_layout.specs.Records.{Rec}
use Rattle.def_model.specs.Batches.{Line, Batch, find_batch, change_batch, drop_batch, written, open_batches}
use Rattle.def_recovery.specs.Book.{BookLine, file, strike, Noted, Sheet, Book, lines_of, add_line, drop_sheet, carry_line, carry_out, up_to, strike_above}
use Rattle.theory_ledger.specs.Runs.{carry_lines, apply_by}
use Rattle.theory_ledger.specs.Batching.{Falls}
use Rattle.theory_ledger.specs.Marks.{kept, left_with}
use Rattle.theory_history.specs.Origin.{Origin}
use Rattle.theory_history.specs.Start.{slides_after}

unfoldable pub line_by : Bool → ℕ → ℕ → BookLine
line_by true k v = file k v
line_by false k v = strike k

-- With the number of its record.
abbrev pub noted : Line → Noted
noted l = record { number = l.number; line = line_by l.adds l.key l.value }

-- The newest line stands last on the sheet.
unfoldable pub sheet_lines : List Line → List Noted
sheet_lines [] = []
sheet_lines (l ∷ ls) = sheet_lines ls ++ noted l ∷ []

unfoldable pub sheet_of : Batch → Sheet
sheet_of b = record { batch = b.number; lines = sheet_lines b.lines }

unfoldable pub sheets_of : List Batch → List Sheet
sheets_of [] = []
sheets_of (b ∷ bs) = sheet_of b ∷ sheets_of bs

-- THE STORY OF A LOG, from the origin's slides on.
unfoldable pub story : Origin → List Rec → Book
story o log = record { slides = slides_after o log; sheets = sheets_of (open_batches log) }

-- ---- sheets and batches change alike

pub sheets_end : (bs : List Batch) (n : ℕ) (m : ℕ) → sheets_of bs ++ record { batch = n; lines = [] } ∷ [] ≡ sheets_of (bs ++ record { number = n; last = m; marked = false; lines = [] } ∷ [])
unfolding sheets_of sheet_of sheet_lines
sheets_end [] n m = refl
sheets_end (b ∷ bs) n m = ap (sheet_of b ∷◌) (sheets_end bs n m)

pub sheets_write : (n m : ℕ) (l : Line) (bs : List Batch) → add_line n (noted l) (sheets_of bs) ≡ sheets_of (change_batch n (written m l) bs)
unfolding sheets_of sheet_of sheet_lines add_line change_batch written
sheets_write n m l [] = refl
sheets_write n m l (b ∷ bs) = go (eqb n b.number) (sheets_write n m l bs)
  where
    go : (t : Bool) → add_line n (noted l) (sheets_of bs) ≡ sheets_of (change_batch n (written m l) bs)
        → pick t (record { batch = b.number; lines = sheet_lines b.lines ++ noted l ∷ [] } ∷ sheets_of bs) (sheet_of b ∷ add_line n (noted l) (sheets_of bs)) ≡ sheets_of (pick t (written m l b ∷ bs) (b ∷ change_batch n (written m l) bs))
    go true i = refl
    go false i = ap (sheet_of b ∷◌) i

pub sheets_drop : (n : ℕ) (bs : List Batch) → drop_sheet n (sheets_of bs) ≡ sheets_of (drop_batch n bs)
unfolding sheets_of sheet_of drop_sheet drop_batch
sheets_drop n [] = refl
sheets_drop n (b ∷ bs) = go (eqb n b.number) (sheets_drop n bs)
  where
    go : (t : Bool) → drop_sheet n (sheets_of bs) ≡ sheets_of (drop_batch n bs) → pick t (sheets_of bs) (sheet_of b ∷ drop_sheet n (sheets_of bs)) ≡ sheets_of (pick t bs (b ∷ drop_batch n bs))
    go true i = refl
    go false i = ap (sheet_of b ∷◌) i

pub sheets_lines : (n : ℕ) (bs : List Batch) (b : Batch) → find_batch n bs ≡ some b → lines_of n (sheets_of bs) ≡ sheet_lines b.lines
unfolding sheets_of sheet_of lines_of find_batch
sheets_lines n [] b e = none_some e
sheets_lines n (a ∷ bs) b e = go (case (eqb n a.number)) (sheets_lines n bs b)
  where
    go : Case (eqb n a.number) → (find_batch n bs ≡ some b → lines_of n (sheets_of bs) ≡ sheet_lines b.lines) → pick (eqb n a.number) (sheet_lines a.lines) (lines_of n (sheets_of bs)) ≡ sheet_lines b.lines
    go (yes! t) i = rw t (ap (λ y. sheet_lines y.lines) (some_inj (rw t at e)))
    go (no! t) i = rw t (i (rw t at e))

-- ---- a return

up_to_last : (mark : ℕ) (ls : List Noted) (x : Noted) → up_to mark (ls ++ x ∷ []) ≡ up_to mark ls ++ up_to mark (x ∷ [])
unfolding up_to
up_to_last mark [] x = refl
up_to_last mark (y ∷ ls) x = go (ltb mark y.number) (up_to_last mark ls x)
  where
    go : (b : Bool) → up_to mark (ls ++ x ∷ []) ≡ up_to mark ls ++ up_to mark (x ∷ [])
        → pick b (up_to mark (ls ++ x ∷ [])) (y ∷ up_to mark (ls ++ x ∷ [])) ≡ pick b (up_to mark ls) (y ∷ up_to mark ls) ++ up_to mark (x ∷ [])
    go true i = i
    go false i = ap (y ∷◌) i

-- Lines that are all up to the mark stay.
up_to_all : (mark n : ℕ) (ls : List Line) → n ≤ suc mark → Falls n ls → up_to mark (sheet_lines ls) ≡ sheet_lines ls
unfolding up_to sheet_lines Falls
up_to_all mark n [] h f = refl
up_to_all mark n (l ∷ ls) h f =
    let a = f.1 in
    up_to_last mark (sheet_lines ls) (noted l)
    ∙ ap (◌++ up_to mark (noted l ∷ [])) (up_to_all mark l.number ls (omega arith) f.2)
    ∙ ap (λ b. sheet_lines ls ++ pick b [] (noted l ∷ [])) (lt_false mark l.number (omega arith))

-- A sheet up to the mark is that of the lines that the mark keeps.
up_to_kept : (mark n : ℕ) (ls : List Line) → Falls n ls → up_to mark (sheet_lines ls) ≡ sheet_lines (kept mark ls)
unfolding up_to sheet_lines kept Falls
up_to_kept mark n [] f = refl
up_to_kept mark n (l ∷ ls) f = up_to_last mark (sheet_lines ls) (noted l) ∙ go (case (ltb mark l.number)) (up_to_kept mark l.number ls f.2)
  where
    go : Case (ltb mark l.number) → up_to mark (sheet_lines ls) ≡ sheet_lines (kept mark ls) → up_to mark (sheet_lines ls) ++ pick (ltb mark l.number) [] (noted l ∷ []) ≡ sheet_lines (pick (ltb mark l.number) (kept mark ls) (l ∷ ls))
    go (yes! t) i = rw t (append-nil (up_to mark (sheet_lines ls)) ∙ i)
    go (no! t) i = let a = false_lt mark l.number t in rw t (ap (◌++ noted l ∷ []) (up_to_all mark l.number ls (omega arith) f.2))

pub sheets_return : (n mark last m : ℕ) (bs : List Batch) (b : Batch) → find_batch n bs ≡ some b → Falls m b.lines → strike_above n mark (sheets_of bs) ≡ sheets_of (change_batch n (left_with last (kept mark b.lines)) bs)
unfolding sheets_of sheet_of strike_above find_batch change_batch left_with
sheets_return n mark last m [] b e f = refl
sheets_return n mark last m (a ∷ bs) b e f = go (case (eqb n a.number)) (sheets_return n mark last m bs b)
  where
    new : Batch → Batch
    new x = record { number = x.number; last = last; marked = x.marked; lines = kept mark b.lines }

    go : Case (eqb n a.number) → (find_batch n bs ≡ some b → Falls m b.lines → strike_above n mark (sheets_of bs) ≡ sheets_of (change_batch n (left_with last (kept mark b.lines)) bs))
        → pick (eqb n a.number) (record { batch = a.number; lines = up_to mark (sheet_lines a.lines) } ∷ sheets_of bs) (sheet_of a ∷ strike_above n mark (sheets_of bs)) ≡ sheets_of (pick (eqb n a.number) (new a ∷ bs) (a ∷ change_batch n (left_with last (kept mark b.lines)) bs))
    go (yes! t) i =
        let q : a ≡ b = some_inj (rw t at e) in
        rw t (λ j. record { batch = a.number; lines = (ap (λ x. up_to mark (sheet_lines x.lines)) q ∙ up_to_kept mark m b.lines f) j } ∷ sheets_of bs)
    go (no! t) i = rw t (ap (sheet_of a ∷◌) (i (rw t at e) f))

-- ---- carrying out

carry_last : (ls : List Noted) (x : Noted) (es : List Entry) → carry_out (ls ++ x ∷ []) es ≡ carry_line x.line (carry_out ls es)
unfolding carry_out
carry_last [] x es = refl
carry_last (y ∷ ls) x es = carry_last ls x (carry_line y.line es)

line_carried : (a : Bool) (k v : ℕ) (es : List Entry) → carry_line (line_by a k v) es ≡ apply_by a k v es
unfolding carry_line line_by apply_by
line_carried true k v es = refl
line_carried false k v es = refl

pub sheet_carried : (ls : List Line) (es : List Entry) → carry_out (sheet_lines ls) es ≡ carry_lines ls es
unfolding sheet_lines carry_lines carry_out
sheet_carried [] es = refl
sheet_carried (l ∷ ls) es =
    carry_last (sheet_lines ls) (noted l) es ∙ line_carried l.adds l.key l.value (carry_out (sheet_lines ls) es) ∙ ap (apply_by l.adds l.key l.value) (sheet_carried ls es)
