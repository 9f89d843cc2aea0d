-- 01's example of the console, as text: "Input `B`, `I 1 500 7`, .. prints `B 0 1`, `I 0`, ..". That the calls give these answers is the row
-- `console` of the worked sessions.
use Rattle.std.specs.Prelude.{◌≡◌, refl, ℕ, List, [], ◌∷◌, ◌++◌, map}
use Rattle.def_model.specs.declared.Answer.{Answer}
use Rattle.def_model.specs.declared.Answer.TheVariants.{Done, Number, Pair, Refused}
use Rattle.def_model.specs.declared.Refusal.TheVariants.{Absent}
use Rattle.def_model.specs.Answers.{refusal_number}
use Rattle.face_command.specs.declared.Command.{Command}
use Rattle.face_command.specs.declared.Command.TheVariants.{Begin, Insert, Delete, Fetch, Next, Commit, Abort, WriteOut, Cut, Other}
use Rattle.face_command.specs.Lines.{letter_step, digit_of, grown, first_digit, more_digit, read_step, spaced_step, step, read_on}
use Rattle.face_command.specs.Commands.{alone, with_one, with_two, with_three, by_numbers, command, command_text}
use Rattle.face_text.specs.Decimal.{digits_of, decimal}
use Rattle.face_text.specs.Input.{lines_from, lines}
use Rattle.face_text.specs.Texts.{letter, number_text, answer_text, line_text}

-- The last line has no end.
abbrev input : List ℕ
input =
    66 ∷ 10 ∷ 73 ∷ 32 ∷ 49 ∷ 32 ∷ 53 ∷ 48 ∷ 48 ∷ 32 ∷ 55 ∷ 10 ∷ 67 ∷ 32 ∷ 49 ∷ 10 ∷ 66 ∷ 10 ∷ 68 ∷ 32 ∷ 52 ∷ 32
    ∷ 53 ∷ 48 ∷ 48 ∷ 10 ∷ 87 ∷ 32 ∷ 49 ∷ 10 ∷ 88 ∷ 10 ∷ 66 ∷ 10 ∷ 70 ∷ 32 ∷ 57 ∷ 32 ∷ 53 ∷ 48 ∷ 48 ∷ []

abbrev output : List ℕ
output =
    66 ∷ 32 ∷ 48 ∷ 32 ∷ 49 ∷ 10 ∷ 73 ∷ 32 ∷ 48 ∷ 10 ∷ 67 ∷ 32 ∷ 48 ∷ 10 ∷ 66 ∷ 32 ∷ 48 ∷ 32 ∷ 52 ∷ 10 ∷ 68 ∷ 32 ∷ 48 ∷ 10 ∷ 87 ∷ 32
    ∷ 48 ∷ 10 ∷ 88 ∷ 32 ∷ 48 ∷ 32 ∷ 49 ∷ 32 ∷ 48 ∷ 10 ∷ 66 ∷ 32 ∷ 48 ∷ 32 ∷ 57 ∷ 10 ∷ 70 ∷ 32 ∷ 48 ∷ 32 ∷ 55 ∷ 10 ∷ []

abbrev commands : List Command
commands = Begin ∷ Insert 1 500 7 ∷ Commit 1 ∷ Begin ∷ Delete 4 500 ∷ WriteOut 1 ∷ Cut ∷ Begin ∷ Fetch 9 500 ∷ []

abbrev answers : List Answer
answers = Number 1 ∷ Done ∷ Done ∷ Number 4 ∷ Done ∷ Done ∷ Pair 1 0 ∷ Number 9 ∷ Number 7 ∷ []

-- The lines of some commands with their answers.
unfoldable pub all_lines : List Command → List Answer → List ℕ
all_lines [] answered = []
all_lines (c ∷ more) [] = []
all_lines (c ∷ more) (a ∷ answered) = line_text c a ++ all_lines more answered

pub example_read : map command_text (lines input) ≡ commands
unfolding lines_from letter_step digit_of grown first_digit more_digit read_step spaced_step step read_on alone with_one with_two with_three by_numbers command command_text
example_read = refl

pub example_printed : all_lines commands answers ≡ output
unfolding all_lines letter digits_of decimal number_text answer_text line_text
example_printed = refl

-- What the example leaves free: next and abort, a refusal, two values and the largest, the empty line, and `?`.
pub next_printed : line_text (Next 1 2) (Pair 3 4294967295) ≡ 78 ∷ 32 ∷ 48 ∷ 32 ∷ 51 ∷ 32 ∷ 52 ∷ 50 ∷ 57 ∷ 52 ∷ 57 ∷ 54 ∷ 55 ∷ 50 ∷ 57 ∷ 53 ∷ 10 ∷ []
unfolding letter digits_of decimal number_text answer_text line_text
next_printed = refl

pub refusal_printed : line_text (Abort 5) (Refused Absent) ≡ 65 ∷ 32 ∷ 49 ∷ 54 ∷ 10 ∷ []
unfolding letter digits_of decimal number_text answer_text line_text refusal_number
refusal_printed = refl

pub other_printed : line_text Other Done ≡ 63 ∷ 10 ∷ []
unfolding letter line_text
other_printed = refl

-- `B`, an empty line, and a line without end.
pub lines_read : lines (66 ∷ 10 ∷ 10 ∷ 88 ∷ []) ≡ (66 ∷ []) ∷ [] ∷ (88 ∷ []) ∷ []
unfolding lines_from
lines_read = refl
