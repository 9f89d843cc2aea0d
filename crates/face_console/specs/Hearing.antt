-- The session byte by byte, as the code hears it; and that it is the session.
use Rattle.std.specs.Prelude.{◌≡◌, refl, ℕ, ◌+◌, ◌*◌, ◌<◌, Bool, true, false, List, [], ◌∷◌, ◌++◌, length, take, get_or, eqb, Option, Some, None}
use Rattle.std.proofs.Common.{ap, sym, ◌∙◌, add-one, append_assoc, append-nil, take-suc}
use Rattle.def_base.specs.Tests.{pick, Case, yes!, no!, case}
use Rattle.face_command.specs.declared.Line.{Line}
use Rattle.face_command.specs.declared.Arguments.{Arguments}
use Rattle.face_command.specs.declared.Arguments.TheVariants.{Zero, One, Two, Three}
use Rattle.face_command.specs.declared.Line.TheVariants.{Start, Read, Spaced, Broken}
use Rattle.face_command.specs.Lines.{start, unread, step, read_on, letter_step, digit_of, grown, first_digit, more_digit, read_if, map_some, read_step, spaced_step}
use Rattle.face_command.specs.Commands.{command, command_text}
use Rattle.face_text.specs.Input.{last_line, lines_from}
use Rattle.face_text.specs.Texts.{line_text}
use Rattle.face_console.specs.Obeyed.{World, obey}
use Rattle.face_console.specs.Session.{Out, out, and_then, answered, session}

-- Between two bytes: the world, and what has been read of a line.
pub record Listening : Type 0 where
  pub world : World
  pub line : Line

abbrev pub listening : World → Line → Listening
listening w l = record { world = w; line = l }

-- A line's end.
unfoldable pub hear_line : Listening → Out Listening
hear_line s =
    let t = obey (command s.line) s.world in
    out (line_text (command s.line) t.answer) (listening t.after start)

unfoldable pub hear_byte : ℕ → Listening → Out Listening
hear_byte x s = elim (eqb x 10) [ true ↦ hear_line s | false ↦ out [] (listening s.world (step s.line x)) ]

unfoldable pub hear : List ℕ → Listening → Out Listening
hear [] s = out [] s
hear (x ∷ text) s = and_then (hear_byte x s) (hear text)

-- There is no more to read.
unfoldable pub hear_end : Listening → Out Listening
hear_end s = elim (unread s.line) [ true ↦ out [] s | false ↦ hear_line s ]

-- ---- one byte more

pub hear_snoc : (text : List ℕ) (x : ℕ) (s : Listening) → hear (text ++ (x ∷ [])) s ≡ and_then (hear text s) (hear_byte x)
unfolding hear
hear_snoc [] x s = ap (λ (t : List ℕ). out t (hear_byte x s).left) (append-nil (hear_byte x s).text)
hear_snoc (y ∷ text) x s =
    let o = hear_byte y s in
    ap (λ (p : Out Listening). out (o.text ++ p.text) p.left) (hear_snoc text x o.left)
    ∙ ap (λ (t : List ℕ). out t (hear_byte x (hear text o.left).left).left) (sym (append_assoc o.text (hear text o.left).text (hear_byte x (hear text o.left).left).text))

pub hear_next : (text : List ℕ) (i : ℕ) (s : Listening) → i < length text → hear (take (i + 1) text) s ≡ and_then (hear (take i text) s) (hear_byte (get_or text i 0))
hear_next text i s h =
    ap (λ (k : ℕ). hear (take k text) s) (add-one i) ∙ ap (λ (t : List ℕ). hear t s) (take-suc text i 0 h) ∙ hear_snoc (take i text) (get_or text i 0) s

pub byte_end : (x : ℕ) (s : Listening) → eqb x 10 ≡ true → hear_byte x s ≡ hear_line s
unfolding hear_byte
byte_end x s e = rw (hear_byte, e)

pub byte_on : (x : ℕ) (s : Listening) → eqb x 10 ≡ false → hear_byte x s ≡ out [] (listening s.world (step s.line x))
unfolding hear_byte
byte_on x s e = rw (hear_byte, e)

-- ---- a line has been begun once a byte of it is read

either : (P : Line → Type 0) (b : Bool) (l k : Line) → P l → P k → P (pick b l k)
either P true l k p q = p
either P false l k p q = q

abbrev Begun : Line → Type 0
Begun l = unread l ≡ false

if_begun : (letter : ℕ) (numbers : Option Arguments) → Begun (read_if letter numbers)
if_begun letter (Some numbers) = refl
if_begun letter None = refl

read_begun : (letter : ℕ) (numbers : Arguments) (x : ℕ) (d : Option ℕ) → Begun (read_step letter numbers x d)
unfolding read_step more_digit
read_begun letter Zero x (Some d) = refl
read_begun letter (One c) x (Some d) = if_begun letter (map_some One (grown c d))
read_begun letter (Two b c) x (Some d) = if_begun letter (map_some (Two b) (grown c d))
read_begun letter (Three a b c) x (Some d) = if_begun letter (map_some (Three a b) (grown c d))
read_begun letter numbers x None = either Begun (eqb x 32) _ _ refl refl

spaced_begun : (letter : ℕ) (numbers : Arguments) (d : Option ℕ) → Begun (spaced_step letter numbers d)
unfolding spaced_step first_digit
spaced_begun letter Zero (Some d) = refl
spaced_begun letter (One c) (Some d) = refl
spaced_begun letter (Two b c) (Some d) = refl
spaced_begun letter (Three a b c) (Some d) = refl
spaced_begun letter numbers None = refl

begun_step : (l : Line) (x : ℕ) → Begun (step l x)
unfolding step letter_step
begun_step Start x = either Begun (eqb x 32) _ _ refl refl
begun_step (Read letter numbers) x = read_begun letter numbers x (digit_of x)
begun_step (Spaced letter numbers) x = spaced_begun letter numbers (digit_of x)
begun_step Broken x = refl

begun_read : (l : Line) (text : List ℕ) → Begun l → Begun (read_on l text)
unfolding read_on
begun_read l [] b = b
begun_read l (x ∷ text) b = begun_read (step l x) text (begun_step l x)

read_snoc : (l : Line) (text : List ℕ) (x : ℕ) → read_on l (text ++ (x ∷ [])) ≡ step (read_on l text) x
unfolding read_on
read_snoc l [] x = refl
read_snoc l (y ∷ text) x = read_snoc (step l y) text x

-- ---- the session

-- All that is read, and the end.
unfoldable pub heard : List ℕ → Listening → Out World
heard text s =
    let o = and_then (hear text s) hear_end in
    out o.text o.left.world

heard_next : (x : ℕ) (text : List ℕ) (s : Listening) → heard (x ∷ text) s ≡ and_then (hear_byte x s) (heard text)
unfolding heard hear
heard_next x text s =
    let o = hear_byte x s in
    let p = hear text o.left in
    ap (λ (t : List ℕ). out t (hear_end p.left).left.world) (append_assoc o.text p.text (hear_end p.left).text)

end_begun : (s : Listening) → Begun s.line → hear_end s ≡ hear_line s
unfolding hear_end
end_begun s b = rw (hear_end, b)

heard_none : (line : List ℕ) (w : World) → heard [] (listening w (read_on start line)) ≡ session (last_line line) w
unfolding heard hear hear_end hear_line read_on session answered command_text
heard_none [] w = refl
heard_none (x ∷ line) w =
    ap (λ (o : Out Listening). out o.text o.left.world) (end_begun (listening w (read_on start (x ∷ line))) (begun_read (step start x) line (begun_step start x)))
    ∙ ap (λ (t : List ℕ). out t (answered (x ∷ line) w).left) (sym (append-nil (answered (x ∷ line) w).text))

lines_end : (x : ℕ) (text line : List ℕ) → eqb x 10 ≡ true → lines_from line (x ∷ text) ≡ line ∷ lines_from [] text
unfolding lines_from
lines_end x text line e = rw (lines_from, e)

lines_on : (x : ℕ) (text line : List ℕ) → eqb x 10 ≡ false → lines_from line (x ∷ text) ≡ lines_from (line ++ (x ∷ [])) text
unfolding lines_from
lines_on x text line e = rw (lines_from, e)

-- By the byte that comes next, where what follows it is known.
heard_by : (x : ℕ) (text line : List ℕ) (w : World) → Case (eqb x 10) → ((v : World) → heard text (listening v (read_on start [])) ≡ session (lines_from [] text) v)
    → heard text (listening w (read_on start (line ++ (x ∷ [])))) ≡ session (lines_from (line ++ (x ∷ [])) text) w
    → and_then (hear_byte x (listening w (read_on start line))) (heard text) ≡ session (lines_from line (x ∷ text)) w
unfolding hear_line session answered command_text read_on
heard_by x text line w (yes! e) ended more =
    let s = listening w (read_on start line) in
    ap (λ (o : Out Listening). and_then o (heard text)) (byte_end x s e)
    ∙ ap (λ (o : Out World). out ((answered line w).text ++ o.text) o.left) (ended (answered line w).left)
    ∙ ap (λ (ls : List (List ℕ)). session ls w) (sym (lines_end x text line e))
heard_by x text line w (no! e) ended more =
    ap (λ (o : Out Listening). and_then o (heard text)) (byte_on x (listening w (read_on start line)) e)
    ∙ ap (λ (l : Line). heard text (listening w l)) (sym (read_snoc start line x))
    ∙ more ∙ ap (λ (ls : List (List ℕ)). session ls w) (sym (lines_on x text line e))

-- WHAT IS HEARD byte by byte IS THE SESSION of the lines.
pub heard_session : (text line : List ℕ) (w : World) → heard text (listening w (read_on start line)) ≡ session (lines_from line text) w
unfolding lines_from
heard_session [] line w = heard_none line w
heard_session (x ∷ text) line w =
    heard_next x text (listening w (read_on start line)) ∙ heard_by x text line w (case (eqb x 10)) (λ v. heard_session text [] v) (heard_session text (line ++ (x ∷ [])) w)
