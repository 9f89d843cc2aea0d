-- THE NUMBERS OF REFUSALS: 01's list, read by number. Each reason has its own number, and 0 is of none.
use Rattle.std.specs.Prelude.{ℕ, ◌≡◌, refl, false, List, [], ◌∷◌, get_or, eqb}
use Rattle.std.proofs.Common.{sym, ap, ◌∙◌}
use Rattle.std.proofs.Math.Option.{Option, none, some}
use Rattle.def_base.specs.Tests.{none_some, some_inj, neq_false}
use Rattle.def_model.specs.declared.Refusal.{Refusal}
use Rattle.def_model.specs.declared.Refusal.TheVariants.{Lengths, PageNumber, Layout, Log, Redo, Rules, ZeroKey, ColumnsDiffer, NotRising, Unsound, NoBatch, EightOpen, Held, Present, Absent, SlotsShort, PagesShort, AbortStopped, NoMark}
use Rattle.def_model.specs.declared.Answer.{Answer}
use Rattle.def_model.specs.declared.Answer.TheVariants.{Done, Number, Pair, Refused}
use Rattle.def_model.specs.Answers.{refusal_number, answer_numbers, passed}

-- 1 to 9 come from the input, 11 to 20 from the state.
abbrev pub reasons : List (Option Refusal)
reasons =
    none ∷ some Lengths ∷ some PageNumber ∷ some Layout ∷ some Log ∷ some Redo ∷ some Rules ∷ some ZeroKey ∷ some ColumnsDiffer ∷ some NotRising ∷ none
    ∷ some Unsound ∷ some NoBatch ∷ some EightOpen ∷ some Held ∷ some Present ∷ some Absent ∷ some SlotsShort ∷ some PagesShort ∷ some AbortStopped ∷ some NoMark ∷ []

unfoldable pub numbered : ℕ → Option Refusal
numbered n = get_or reasons n none

-- The number that is answered is the reason's in the list.
pub number_tells : (r : Refusal) → numbered (refusal_number r) ≡ some r
unfolding numbered refusal_number
number_tells Lengths = refl
number_tells PageNumber = refl
number_tells Layout = refl
number_tells Log = refl
number_tells Redo = refl
number_tells Rules = refl
number_tells ZeroKey = refl
number_tells ColumnsDiffer = refl
number_tells NotRising = refl
number_tells Unsound = refl
number_tells NoBatch = refl
number_tells EightOpen = refl
number_tells Held = refl
number_tells Present = refl
number_tells Absent = refl
number_tells SlotsShort = refl
number_tells PagesShort = refl
number_tells AbortStopped = refl
number_tells NoMark = refl

pub numbers_apart : (r q : Refusal) → refusal_number r ≡ refusal_number q → r ≡ q
numbers_apart r q e = some_inj (sym (number_tells r) ∙ ap numbered e ∙ number_tells q)

pub number_not_zero : (r : Refusal) → eqb (refusal_number r) 0 ≡ false
unfolding numbered
number_not_zero r = neq_false {a = refusal_number r} {b = 0} λ e. none_some (sym (ap numbered e) ∙ number_tells r)

-- 01: "prints .. 0 or the refusal": 0 is answered exactly by a call that was not refused.
pub zero_if_passed : (x : Answer) → eqb (answer_numbers x).reason 0 ≡ passed x
unfolding answer_numbers passed
zero_if_passed Done = refl
zero_if_passed (Number n) = refl
zero_if_passed (Pair n m) = refl
zero_if_passed (Refused r) = number_not_zero r
