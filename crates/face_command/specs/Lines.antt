-- A line, byte by byte: a letter and its numbers, one space between, digits only, each number at most 4,294,967,295.
use Rattle.std.specs.Prelude.{ℕ, Bool, true, false, ◌+◌, ◌-◌, ◌*◌, List, [], ◌∷◌, Option, Some, None, ltb, leb, eqb}
use Rattle.def_base.specs.Tests.{pick}
use Rattle.face_command.specs.declared.Arguments.{Arguments}
use Rattle.face_command.specs.declared.Arguments.TheVariants.{Zero, One, Two, Three}
use Rattle.face_command.specs.declared.Line.{Line}
use Rattle.face_command.specs.declared.Line.TheVariants.{Start, Read, Spaced, Broken}

-- Nothing read.
abbrev pub start : Line
start = Start

-- Whether nothing of it has been read.
abbrev pub unread : Line → Bool
unread Start = true
unread (Read letter numbers) = false
unread (Spaced letter numbers) = false
unread Broken = false

unfoldable pub letter_step : ℕ → Line
letter_step x = pick (eqb x 32) Broken (Read x Zero)

-- A digit's value.
unfoldable pub digit_of : ℕ → Option ℕ
digit_of x = pick (ltb x 48) None (pick (ltb 57 x) None (Some (x - 48)))

-- A number with a digit more.
unfoldable pub grown : ℕ → ℕ → Option ℕ
grown c d = pick (leb (10 * c + d) 4294967295) (Some (10 * c + d)) None

-- A number begins. No command has more than three.
unfoldable pub first_digit : ℕ → Arguments → ℕ → Line
first_digit letter Zero d = Read letter (One d)
first_digit letter (One c) d = Read letter (Two c d)
first_digit letter (Two b c) d = Read letter (Three b c d)
first_digit letter (Three a b c) d = Broken

abbrev pub read_if : ℕ → Option Arguments → Line
read_if letter (Some numbers) = Read letter numbers
read_if letter None = Broken

abbrev pub map_some : {A B : Type 0} → (A → B) → Option A → Option B
map_some f (Some x) = Some (f x)
map_some f None = None

-- The last number goes on.
unfoldable pub more_digit : ℕ → Arguments → ℕ → Line
more_digit letter Zero d = Broken
more_digit letter (One c) d = read_if letter (map_some One (grown c d))
more_digit letter (Two b c) d = read_if letter (map_some (Two b) (grown c d))
more_digit letter (Three a b c) d = read_if letter (map_some (Three a b) (grown c d))

-- After the letter or a number: a space, or a digit of that number.
unfoldable pub read_step : ℕ → Arguments → ℕ → Option ℕ → Line
read_step letter numbers x (Some d) = more_digit letter numbers d
read_step letter numbers x None = pick (eqb x 32) (Spaced letter numbers) Broken

-- After a space: a number's first digit.
unfoldable pub spaced_step : ℕ → Arguments → Option ℕ → Line
spaced_step letter numbers (Some d) = first_digit letter numbers d
spaced_step letter numbers None = Broken

-- ONE BYTE MORE.
unfoldable pub step : Line → ℕ → Line
step Start x = letter_step x
step (Read letter numbers) x = read_step letter numbers x (digit_of x)
step (Spaced letter numbers) x = spaced_step letter numbers (digit_of x)
step Broken x = Broken

-- A LINE of these bytes.
unfoldable pub read_on : Line → List ℕ → Line
read_on l [] = l
read_on l (x ∷ xs) = read_on (step l x) xs
