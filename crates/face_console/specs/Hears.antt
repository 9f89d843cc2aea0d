-- What the code that hears leaves: the areas, the desk and the line; and, in bytes lent to it, what is to be printed.
use Rattle.std.specs.Prelude.{◌≡◌, refl, ◌≢◌, ℕ, false, ◌+◌, ◌≤◌, ◌<◌, List, [], ◌++◌, length, take, get_or}
use Rattle.std.proofs.Common.{ap, sym, subst, ◌∙◌, append-nil, take_all, length-take-le}
use Rattle.io.specs.Counts.{IsPrefixLen}
use Rattle.def_base.specs.Tests.{eq_true, neq_false}
use Rattle.def_layout.specs.declared.Desk.{Desk}
use Rattle.def_layout.specs.Desks.{empty_desk}
use Rattle.def_model.specs.OnBytes.{Lent}
use Rattle.def_model.specs.CallNames.{format}
use Rattle.call_reply.specs.declared.Reply.{Reply}
use Rattle.call_reply.specs.Replies.{RepliesWhole}
use Rattle.face_command.specs.declared.Line.{Line}
use Rattle.face_command.specs.declared.Command.{Command}
use Rattle.face_command.specs.declared.Line.TheVariants.{Start, Read, Spaced, Broken}
use Rattle.face_command.specs.Lines.{start, unread, step}
use Rattle.face_command.specs.Commands.{command}
use Rattle.face_text.specs.Texts.{line_text}
use Rattle.face_text.specs.Puts.{Puts, puts_then}
use Rattle.face_console.specs.declared.Heard.{Heard}
use Rattle.face_console.specs.Obeyed.{world, Turn, turn, made, obey, Obeyed, replied}
use Rattle.face_console.specs.Session.{Out, out, formatted}
use Rattle.face_console.specs.Hearing.{Listening, listening, hear_line, hear_byte, hear, hear_end, hear_next, byte_end, byte_on}

-- Where the console stands.
abbrev pub stands : Lent → Heard → Listening
stands l h = listening (world l h.desk) h.line

-- It left what o leaves, and put o's text after the first n bytes of b: these are the first bytes of a.
abbrev pub Hears : Out Listening → Lent → Heard → List ℕ → ℕ → List ℕ → Type 0
Hears o l h b n a = (stands l h ≡ o.left) × Puts b n a h.said o.text

-- ---- for the code

hears_as : (o p : Out Listening) (l : Lent) (h : Heard) (b : List ℕ) (n : ℕ) (a : List ℕ) → p ≡ o → Hears o l h b n a → Hears p l h b n a
hears_as o p l h b n a e q = subst (λ (x : Out Listening). Hears x l h b n a) (sym e) q

pub counted : (n : ℕ) (b : List ℕ) → n ≤ length b → IsPrefixLen n b
counted n b h = (h, sym (length-take-le n b h))

-- A new register.
pub new_heard : (l after : Lent) (d : Desk) (y : Reply) (r : Heard) → d ≡ empty_desk → RepliesWhole format l d y after → r.line ≡ start → r.desk ≡ y.desk
    → stands after r ≡ listening (formatted l) start
unfolding formatted
new_heard l after d y r e m el ed =
    ap (λ (x : Desk). listening (world after x) r.line) ed ∙ ap (λ (x : Line). listening (world after y.desk) x) el
    ∙ ap (λ (t : Turn). listening t.after start) (replied m ∙ ap (λ (x : Desk). made format (world l x)) e)

-- A line's end: obeyed, and answered.
pub line_heard : (l after : Lent) (h r : Heard) (b a : List ℕ) (c : Command) (y : Reply) → c ≡ command h.line → Obeyed c l h.desk y after → r.line ≡ start → r.desk ≡ y.desk
    → Puts b h.said a r.said (line_text c y.answer) → Hears (hear_line (stands l h)) after r b h.said a
unfolding hear_line
line_heard l after h r b a c y e o el ed p =
    let t : turn y.answer (world after y.desk) ≡ obey (command h.line) (world l h.desk) = o ∙ ap (λ (x : Command). obey x (world l h.desk)) e in (
      ap (λ (x : Desk). listening (world after x) r.line) ed ∙ ap (λ (x : Line). listening (world after y.desk) x) el ∙ ap (λ (x : Turn). listening x.after start) t,
      p ∙ ap (λ (x : Command). take h.said b ++ line_text x y.answer) e ∙ ap (λ (x : Turn). take h.said b ++ line_text (command h.line) x.answer) t,
    )

-- One byte.
pub byte_ended : (x : ℕ) (s : Listening) (l : Lent) (r : Heard) (b : List ℕ) (n : ℕ) (a : List ℕ) → x ≡ 10 → Hears (hear_line s) l r b n a → Hears (hear_byte x s) l r b n a
byte_ended x s l r b n a e q = hears_as (hear_line s) (hear_byte x s) l r b n a (byte_end x s (eq_true x 10 e)) q

pub byte_heard : (x : ℕ) (l : Lent) (h r : Heard) (b : List ℕ) → x ≢ 10 → r.line ≡ step h.line x → r.desk ≡ h.desk → r.said ≡ h.said
    → Hears (hear_byte x (stands l h)) l r b h.said b
byte_heard x l h r b ne el ed es =
    hears_as (out [] (listening (world l h.desk) (step h.line x))) (hear_byte x (stands l h)) l r b h.said b (byte_on x (stands l h) (neq_false ne))
    (ap (λ (d : Desk). listening (world l d) r.line) ed ∙ ap (λ (k : Line). listening (world l h.desk) k) el, ap (λ (n : ℕ). take n b) es ∙ sym (append-nil (take h.said b)))

-- Many bytes: none yet, one more, all.
pub none_heard : (text : List ℕ) (l : Lent) (h : Heard) (b : List ℕ) → h.said ≡ 0 → Hears (hear (take 0 text) (stands l h)) l h b 0 b
unfolding hear
none_heard text l h b e = (refl, ap (λ (n : ℕ). take n b) e)

pub more_heard : (text : List ℕ) (i : ℕ) (s : Listening) (l after : Lent) (h r : Heard) (b a c : List ℕ) → i < length text → Hears (hear (take i text) s) l h b 0 a
    → Hears (hear_byte (get_or text i 0) (stands l h)) after r a h.said c → Hears (hear (take (i + 1) text) s) after r b 0 c
more_heard text i s l after h r b a c lt p q =
    let o = hear (take i text) s in
    let f : Out Listening = hear_byte (get_or text i 0) o.left in
    let w : Hears f after r a h.said c = subst (λ (x : Listening). Hears (hear_byte (get_or text i 0) x) after r a h.said c) p.0 q in
    hears_as (out (o.text ++ f.text) f.left) (hear (take (i + 1) text) s) after r b 0 c (hear_next text i s lt)
    (w.0, puts_then b 0 a h.said c r.said o.text f.text (o.text ++ f.text) p.1 w.1 refl)

pub all_heard : (text : List ℕ) (i : ℕ) (s : Listening) (l : Lent) (h : Heard) (b a : List ℕ) → length text ≤ i → Hears (hear (take i text) s) l h b 0 a → Hears (hear text s) l h b 0 a
all_heard text i s l h b a e p = subst (λ (t : List ℕ). Hears (hear t s) l h b 0 a) (take_all i text e) p

-- The end of what is read.
pub nothing_left : (l : Lent) (h r : Heard) (b : List ℕ) → h.line ≡ Start → r.line ≡ h.line → r.desk ≡ h.desk → r.said ≡ 0 → Hears (hear_end (stands l h)) l r b 0 b
unfolding hear_end
nothing_left l h r b e el ed es =
    hears_as (out [] (stands l h)) (hear_end (stands l h)) l r b 0 b (rw (hear_end, ap unread e))
    (ap (λ (d : Desk). listening (world l d) r.line) ed ∙ ap (λ (k : Line). listening (world l h.desk) k) el, ap (λ (n : ℕ). take n b) es)

some_read : (l : Line) → l ≢ Start → unread l ≡ false
some_read Start e = absurd (e refl)
some_read (Read letter numbers) e = refl
some_read (Spaced letter numbers) e = refl
some_read Broken e = refl

pub line_left : (l after : Lent) (h last r : Heard) (b a : List ℕ) → last.line ≢ Start → last.line ≡ h.line → last.desk ≡ h.desk → last.said ≡ 0
    → Hears (hear_line (stands l last)) after r b last.said a → Hears (hear_end (stands l h)) after r b 0 a
unfolding hear_end
line_left l after h last r b a e el ed es q =
    let at : stands l last ≡ stands l h = ap (λ (d : Desk). listening (world l d) last.line) ed ∙ ap (λ (k : Line). listening (world l h.desk) k) el in
    let o : Hears (hear_end (stands l last)) after r b last.said a = hears_as (hear_line (stands l last)) (hear_end (stands l last)) after r b last.said a (rw (hear_end, some_read last.line e)) q in
    subst (λ (n : ℕ). Hears (hear_end (stands l h)) after r b n a) es (subst (λ (s : Listening). Hears (hear_end s) after r b last.said a) at o)
