-- Answers and refusals, and what a call leaves.
use Rattle.std.specs.Prelude.{ℕ, Bool, true, false, List, [], ◌∷◌}
use Rattle.std.proofs.Math.Option.{Option, none, some}
use Rattle.def_base.specs.Tests.{pick}
use Rattle.def_layout.specs.declared.Desk.{Desk}
use Rattle.def_model.specs.declared.Refusal.{Refusal}
use Rattle.def_model.specs.declared.Refusal.TheVariants.{Lengths, PageNumber, Layout, Log, Redo, Rules, ZeroKey, ColumnsDiffer, NotRising, Unsound, NoBatch, EightOpen, Held, Present, Absent, SlotsShort, PagesShort, AbortStopped, NoMark}
use Rattle.def_model.specs.declared.Answer.{Answer}
use Rattle.def_model.specs.declared.Answer.TheVariants.{Done, Number, Pair, Refused}
use Rattle.def_model.specs.Areas.{Side, Areas, Store}

-- 01's numbers. 1 area lengths wrong or unequal. 2 page number not below the page count. 3 a page breaks the layout. 4 a slot breaks its row,
-- number or batch chain .. 5 a change to be redone meets a page .. 6 the redone pages break the tree rules or the pending rule. 11 the
-- working areas or desk are not sound. 12 no such open batch. 13 eight are open. 14 held by another batch. 15 key present. 16 key absent, or
-- none above. 17 log slots short. 18 pages short. 19 abort ran out of either. 02's, U1: "7, the key of an insert is 0". U2: "20, the mark is
-- not the number of a record of that batch .. 19 also covers this undo". U3: "8, the columns differ in length .. 9, keys do not rise strictly ..
-- 18, too few pages". U5: "16 also means none below".
unfoldable pub refusal_number : Refusal → ℕ
refusal_number Lengths = 1
refusal_number PageNumber = 2
refusal_number Layout = 3
refusal_number Log = 4
refusal_number Redo = 5
refusal_number Rules = 6
refusal_number ZeroKey = 7
refusal_number ColumnsDiffer = 8
refusal_number NotRising = 9
refusal_number Unsound = 11
refusal_number NoBatch = 12
refusal_number EightOpen = 13
refusal_number Held = 14
refusal_number Present = 15
refusal_number Absent = 16
refusal_number SlotsShort = 17
refusal_number PagesShort = 18
refusal_number AbortStopped = 19
refusal_number NoMark = 20

-- An answer as numbers: 0 or the refusal, then two values. 01: "A refusal gives zeros for other answers".
pub record Numbers : Type 0 where
  pub reason : ℕ
  pub first : ℕ
  pub second : ℕ

unfoldable pub answer_numbers : Answer → Numbers
answer_numbers Done = record { reason = 0; first = 0; second = 0 }
answer_numbers (Number n) = record { reason = 0; first = n; second = 0 }
answer_numbers (Pair n m) = record { reason = 0; first = n; second = m }
answer_numbers (Refused r) = record { reason = refusal_number r; first = 0; second = 0 }

unfoldable pub passed : Answer → Bool
passed Done = true
passed (Number n) = true
passed (Pair n m) = true
passed (Refused r) = false

-- ---- checks

-- A check: whether it is broken, and what is then answered.
pub record Check : Type 0 where
  pub broken : Bool
  pub says : Refusal

abbrev pub check : Bool → Refusal → Check
check b r = record { broken = b; says = r }

-- 01: "Checks go in number order".
unfoldable pub first_broken : List Check → Option Refusal
first_broken [] = none
first_broken (c ∷ cs) = pick c.broken (some c.says) (first_broken cs)

-- ---- outcomes

-- What a call answers and leaves: the working areas, the desk, and its list of stores.
pub record Outcome : Type 0 where
  pub answer : Answer
  pub work : Side
  pub desk : Desk
  pub stores : List Store

-- 01: "A refusal .. changes nothing".
abbrev pub refuse : Refusal → Areas → Desk → Outcome
refuse r a d = record { answer = Refused r; work = a.work; desk = d; stores = [] }
