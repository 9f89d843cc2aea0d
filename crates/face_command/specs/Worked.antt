-- LINES of the console and the commands that they are, by computation: every letter with its numbers, and lines that are no command.
use Rattle.std.specs.Prelude.{◌≡◌, refl, ℕ, List, [], ◌∷◌, map}
use Prim.Native.Char.{code}
use Prim.Native.String.{String, [] as []ˢ, ◌∷◌ as ◌∷ˢ◌}
use Rattle.face_command.specs.declared.Command.{Command}
use Rattle.face_command.specs.declared.Command.TheVariants.{Begin, Insert, Delete, Fetch, Next, Commit, Abort, WriteOut, Cut, Other}
use Rattle.face_command.specs.Lines.{letter_step, digit_of, grown, first_digit, more_digit, read_step, spaced_step, step, read_on}
use Rattle.face_command.specs.Commands.{alone, with_one, with_two, with_three, by_numbers, command, command_text}

-- The bytes of a line in ASCII.
unfoldable pub ascii : String → List ℕ
ascii []ˢ = []
ascii (x ∷ˢ line) = code x ∷ ascii line

abbrev pub read : String → Command
read line = command_text (ascii line)

-- Each letter, with numbers that differ.
pub letters_read : map read ("B" ∷ "I 1 2 3" ∷ "D 4 5" ∷ "F 6 7" ∷ "N 8 9" ∷ "C 10" ∷ "A 11" ∷ "W 12" ∷ "X" ∷ [])
    ≡ Begin ∷ Insert 1 2 3 ∷ Delete 4 5 ∷ Fetch 6 7 ∷ Next 8 9 ∷ Commit 10 ∷ Abort 11 ∷ WriteOut 12 ∷ Cut ∷ []
unfolding ascii letter_step digit_of grown first_digit more_digit read_step spaced_step step read_on alone with_one with_two with_three by_numbers command command_text
letters_read = refl

-- All digits, the least and the largest number, and zeros before one.
pub numbers_read : map read ("C 0" ∷ "F 1234567890 4294967295" ∷ "I 4294967295 0 4294967295" ∷ "C 00004294967295" ∷ [])
    ≡ Commit 0 ∷ Fetch 1234567890 4294967295 ∷ Insert 4294967295 0 4294967295 ∷ Commit 4294967295 ∷ []
unfolding ascii letter_step digit_of grown first_digit more_digit read_step spaced_step step read_on alone with_one with_two with_three by_numbers command command_text
numbers_read = refl

-- ---- lines that are no command

-- Small letters, letters of calls that the console does not have, and other signs.
abbrev unknown : List String
unknown = "b" ∷ "x" ∷ "Q" ∷ "?" ∷ "1" ∷ "c 1" ∷ "a 1" ∷ "w 1" ∷ "M 1" ∷ "d 1 2" ∷ "f 1 2" ∷ "n 1 2" ∷ "P 1 2" ∷ "R 1 2" ∷ "i 1 2 3" ∷ "L 1 2 3" ∷ []

abbrev too_few : List String
too_few = "I" ∷ "I 1" ∷ "I 1 2" ∷ "D" ∷ "D 1" ∷ "F" ∷ "F 1" ∷ "N" ∷ "N 1" ∷ "C" ∷ "A" ∷ "W" ∷ []

abbrev too_many : List String
too_many = "B 1" ∷ "X 1" ∷ "C 1 2" ∷ "A 1 2" ∷ "W 1 2" ∷ "D 1 2 3" ∷ "F 1 2 3" ∷ "N 1 2 3" ∷ "I 1 2 3 4" ∷ "B 1 2 3 4" ∷ "C 1 2 3 4 5" ∷ []

-- The last of these would be 1 in 64 bits.
abbrev too_large : List String
too_large = "C 4294967296" ∷ "C 4294967300" ∷ "C 42949672950" ∷ "F 1 4294967296" ∷ "F 4294967296 1" ∷ "I 1 2 4294967296" ∷ "I 4294967296 1 2" ∷ "C 18446744073709551617" ∷ []

-- Signs, other notations, and the bytes beside the digits.
abbrev not_decimal : List String
not_decimal = "C -1" ∷ "C +1" ∷ "F 1 -2" ∷ "I 1 +2 3" ∷ "D 1 0x1" ∷ "C 1e1" ∷ "C 1.0" ∷ "C 1,000" ∷ "C /" ∷ "C :" ∷ "C 1/" ∷ "C 1:" ∷ []

-- The empty line; a space too many, missing, or at an end; and a tab.
abbrev misspaced : List String
misspaced = "" ∷ " " ∷ " B" ∷ "B " ∷ "C1" ∷ "C  1" ∷ " C 1" ∷ "C 1 " ∷ "F 1  2" ∷ "F 1 2 " ∷ "I 1 2 3 " ∷ "C\t1" ∷ []

-- Text after a command; a carriage return is text.
abbrev followed : List String
followed = "BB" ∷ "B x" ∷ "Begin" ∷ "XX" ∷ "C 1x" ∷ "C 1 x" ∷ "F 1 2 x" ∷ "I 1 2 3 x" ∷ "I 1 2 3;" ∷ "B\r" ∷ "C 1\r" ∷ []

abbrev NoCommands : List String → Type 0
NoCommands ls = map read ls ≡ map (λ (l : String). Other) ls

-- "Any other line prints `?`."
pub others_read : NoCommands unknown × NoCommands too_few × NoCommands too_many × NoCommands too_large × NoCommands not_decimal × NoCommands misspaced × NoCommands followed
unfolding ascii letter_step digit_of grown first_digit more_digit read_step spaced_step step read_on alone with_one with_two with_three by_numbers command command_text
others_read = (refl, refl, refl, refl, refl, refl, refl)
