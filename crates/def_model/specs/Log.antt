-- The log in its slots: which record stands where. That record n stands in slot n is said here, and by `Update: logged`, which adds a record at the
-- end; all else asks `slot_of` and `log_area`.
use Rattle.std.specs.Prelude.{ℕ, zero, suc, ◌-◌, Bool, true, false, ◌&&◌, List, [], ◌∷◌, ◌++◌, length, replicate, get_or, eqb}
use Rattle.def_layout.specs.Rows.{row, names_pages}
use Rattle.def_layout.specs.Records.{Rec, begin, batch_row}
use Rattle.def_layout.specs.RecordBytes.{Slot, empty, full, other}
use Rattle.def_base.specs.Tests.{every}

-- The log number of the last record, and the slots in use.
abbrev pub last_number : List Rec → ℕ
last_number log = length log

abbrev pub slots_used : List Rec → ℕ
slots_used log = length log

-- Record number n of a log; number 0, and those past the last, are none: a begin of no batch.
abbrev pub no_record : Rec
no_record = batch_row begin 0 0

unfoldable pub record_at : List Rec → ℕ → Rec
record_at log zero = no_record
record_at log (suc n) = get_or log n no_record

-- Record number n has place `slot_of n` in the log area.
abbrev pub slot_of : ℕ → ℕ
slot_of n = n - 1

unfoldable pub is_empty : Slot → Bool
is_empty empty = true
is_empty (full n r) = false
is_empty (other b) = false

-- The records of a log area: those before the first slot that is not full.
unfoldable pub records_of : List Slot → List Rec
records_of [] = []
records_of (empty ∷ s) = []
records_of (full n r ∷ s) = r ∷ records_of s
records_of (other b ∷ s) = []

-- The records from number n on, each in its slot.
unfoldable pub slots_from : ℕ → List Rec → List Slot
slots_from n [] = []
slots_from n (r ∷ l) = full n r ∷ slots_from (suc n) l

-- A log in an area of so many slots, the others empty.
unfoldable pub log_area : ℕ → List Rec → List Slot
log_area slots log = slots_from 1 log ++ replicate (slots - length log) empty

-- Refusal 4, slot by slot. 01: "a slot breaks its row, number .. or names an A, B or C not below the page count .. a full slot follows an
-- empty one".
unfoldable pub slots_ok : ℕ → ℕ → List Slot → Bool
slots_ok pages n [] = true
slots_ok pages n (empty ∷ s) = every is_empty s
slots_ok pages n (full m r ∷ s) = eqb m n && (row n r && (names_pages pages r && slots_ok pages (suc n) s))
slots_ok pages n (other b ∷ s) = false
