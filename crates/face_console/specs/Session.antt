-- THE CONSOLE'S SESSION: from the bytes that it reads to the bytes that it prints.
use Rattle.std.specs.Prelude.{ℕ, ◌*◌, List, [], ◌∷◌, ◌++◌}
use Rattle.def_layout.specs.Desks.{empty_desk}
use Rattle.def_layout.specs.Numbers.{zeros}
use Rattle.def_layout.specs.Sizes.{page_size, slot_size}
use Rattle.def_model.specs.OnBytes.{Lent}
use Rattle.def_model.specs.CallNames.{format}
use Rattle.area_lengths.specs.Lent.{lent}
use Rattle.face_command.specs.Commands.{command_text}
use Rattle.face_text.specs.Input.{lines}
use Rattle.face_text.specs.Texts.{line_text}
use Rattle.face_console.specs.Obeyed.{World, world, made, obey}

-- What is printed, and what is left after it.
pub record Out (S : Type 0) : Type 0 where
  pub text : List ℕ
  pub left : S

abbrev pub out : {S : Type 0} → List ℕ → S → Out S
out t s = record { text = t; left = s }

-- One thing after another.
abbrev pub and_then : {S T : Type 0} → Out S → (S → Out T) → Out T
and_then o f = out (o.text ++ (f o.left).text) (f o.left).left

-- A line is obeyed as the command that it is, and answered.
unfoldable pub answered : List ℕ → World → Out World
answered line w =
    let t = obey (command_text line) w in
    out (line_text (command_text line) t.answer) t.after

unfoldable pub session : List (List ℕ) → World → Out World
session [] w = out [] w
session (line ∷ more) w = and_then (answered line w) (session more)

-- 01: "The console program (64 pages, 160 slots) formats, then reads one command a line".
abbrev pub new_areas : Lent
new_areas = lent (zeros (64 * page_size)) (zeros (64 * page_size)) (zeros (160 * slot_size)) (zeros (160 * slot_size))

unfoldable pub formatted : Lent → World
formatted l = (made format (world l empty_desk)).after

-- THE CONSOLE: what it prints for all that it reads.
unfoldable pub console : List ℕ → List ℕ
console text = (session (lines text) (formatted new_areas)).text
