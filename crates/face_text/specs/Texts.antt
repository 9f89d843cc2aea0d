-- THE LINE that the console prints for a command and its answer.
use Rattle.std.specs.Prelude.{ℕ, List, [], ◌∷◌, ◌++◌, eqb}
use Rattle.def_base.specs.Tests.{pick}
use Rattle.def_model.specs.declared.Answer.{Answer}
use Rattle.def_model.specs.declared.Answer.TheVariants.{Done, Number, Pair, Refused}
use Rattle.def_model.specs.Answers.{refusal_number}
use Rattle.face_command.specs.declared.Command.{Command}
use Rattle.face_command.specs.declared.Command.TheVariants.{Begin, Insert, Delete, Fetch, Next, Commit, Abort, WriteOut, Cut, Other}
use Rattle.face_text.specs.Decimal.{decimal}

-- 01's letters, in ASCII: B, I, D, F, N, C, A, W, X. "Any other line prints `?`."
unfoldable pub letter : Command → ℕ
letter Begin = 66
letter (Insert b k v) = 73
letter (Delete b k) = 68
letter (Fetch b k) = 70
letter (Next b k) = 78
letter (Commit b) = 67
letter (Abort b) = 65
letter (WriteOut p) = 87
letter Cut = 88
letter Other = 63

-- A number comes after a space.
unfoldable pub number_text : ℕ → List ℕ
number_text n = 32 ∷ decimal n

-- "0 or the refusal, then after a 0 any answers".
unfoldable pub answer_text : Answer → List ℕ
answer_text Done = number_text 0
answer_text (Number n) = number_text 0 ++ number_text n
answer_text (Pair n m) = number_text 0 ++ (number_text n ++ number_text m)
answer_text (Refused r) = number_text (refusal_number r)

-- After `?` comes nothing; a byte 10 ends the line.
unfoldable pub line_text : Command → Answer → List ℕ
line_text c a = letter c ∷ pick (eqb (letter c) 63) [] (answer_text a) ++ (10 ∷ [])
