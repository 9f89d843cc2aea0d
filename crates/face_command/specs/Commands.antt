-- What a line that has been read to its end says: a command of the console, or none.
use Rattle.std.specs.Prelude.{ℕ, List, eqb}
use Rattle.def_base.specs.Tests.{pick}
use Rattle.face_command.specs.declared.Arguments.{Arguments}
use Rattle.face_command.specs.declared.Arguments.TheVariants.{Zero, One, Two, Three}
use Rattle.face_command.specs.declared.Line.{Line}
use Rattle.face_command.specs.declared.Line.TheVariants.{Start, Read, Spaced, Broken}
use Rattle.face_command.specs.declared.Command.{Command}
use Rattle.face_command.specs.declared.Command.TheVariants.{Begin, Insert, Delete, Fetch, Next, Commit, Abort, WriteOut, Cut, Other}
use Rattle.face_command.specs.Lines.{start, read_on}

-- 01's letters: B and X; C, A and W; D, F and N; I.
unfoldable pub alone : ℕ → Command
alone letter = pick (eqb letter 66) Begin (pick (eqb letter 88) Cut Other)

unfoldable pub with_one : ℕ → ℕ → Command
with_one letter c = pick (eqb letter 67) (Commit c) (pick (eqb letter 65) (Abort c) (pick (eqb letter 87) (WriteOut c) Other))

unfoldable pub with_two : ℕ → ℕ → ℕ → Command
with_two letter b c = pick (eqb letter 68) (Delete b c) (pick (eqb letter 70) (Fetch b c) (pick (eqb letter 78) (Next b c) Other))

unfoldable pub with_three : ℕ → ℕ → ℕ → ℕ → Command
with_three letter a b c = pick (eqb letter 73) (Insert a b c) Other

unfoldable pub by_numbers : ℕ → Arguments → Command
by_numbers letter Zero = alone letter
by_numbers letter (One c) = with_one letter c
by_numbers letter (Two b c) = with_two letter b c
by_numbers letter (Three a b c) = with_three letter a b c

-- It ends after its letter or in a number.
unfoldable pub command : Line → Command
command Start = Other
command (Read letter numbers) = by_numbers letter numbers
command (Spaced letter numbers) = Other
command Broken = Other

-- THE COMMAND that a line's bytes are.
unfoldable pub command_text : List ℕ → Command
command_text bytes = command (read_on start bytes)
