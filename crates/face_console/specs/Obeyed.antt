-- What the console does for a command: a call with all its stores, or a cut and a restart.
use Rattle.std.specs.Prelude.{◌≡◌, ℕ, List, length}
use Rattle.std.proofs.Common.{sym, subst, ◌∙◌}
use Rattle.def_layout.specs.declared.Desk.{Desk}
use Rattle.def_layout.specs.Desks.{empty_desk}
use Rattle.def_layout.specs.Numbers.{zeros}
use Rattle.def_model.specs.declared.Answer.{Answer}
use Rattle.def_model.specs.declared.Answer.TheVariants.{Done}
use Rattle.def_model.specs.OnBytes.{Lent, Call, call, lent_after}
use Rattle.def_model.specs.CallNames.{begin, insert, delete, fetch, next, commit, abort, write_out, restart}
use Rattle.area_lengths.specs.Lent.{lent}
use Rattle.call_reply.specs.declared.Reply.{Reply}
use Rattle.call_reply.specs.Replies.{RepliesWhole}
use Rattle.face_command.specs.declared.Command.{Command}
use Rattle.face_command.specs.declared.Command.TheVariants.{Begin, Insert, Delete, Fetch, Next, Commit, Abort, WriteOut, Cut, Other}

-- What the console holds: the four areas and the desk.
pub record World : Type 0 where
  pub areas : Lent
  pub desk : Desk

abbrev pub world : Lent → Desk → World
world l d = record { areas = l; desk = d }

-- What a command answers, and the world after it.
pub record Turn : Type 0 where
  pub answer : Answer
  pub after : World

abbrev pub turn : Answer → World → Turn
turn a w = record { answer = a; after = w }

-- A call, all of whose stores are carried out.
unfoldable pub made : Call → World → Turn
made c w =
    let r = call c w.areas w.desk in
    turn r.answer (world (lent_after (length r.stores) r w.areas) r.desk)

-- The power fails: the working areas and the desk are lost, here as zeros.
abbrev pub after_cut : World → World
after_cut w =
    world (lent (zeros (length w.areas.work_pages)) w.areas.stable_pages (zeros (length w.areas.work_log)) w.areas.stable_log) empty_desk

-- 01's letters, as calls. Any other line changes nothing.
abbrev pub obey : Command → World → Turn
obey Begin w = made begin w
obey (Insert b k v) w = made (insert b k v) w
obey (Delete b k) w = made (delete b k) w
obey (Fetch b k) w = made (fetch b k) w
obey (Next b k) w = made (next b k) w
obey (Commit b) w = made (commit b) w
obey (Abort b) w = made (abort b) w
obey (WriteOut p) w = made (write_out p) w
obey Cut w = made restart (after_cut w)
obey Other w = turn Done w

-- ---- for the code

-- A command, obeyed on the areas l and the desk d, gives this reply and leaves these areas.
abbrev pub Obeyed : Command → Lent → Desk → Reply → Lent → Type 0
Obeyed c l d r after = turn r.answer (world after r.desk) ≡ obey c (world l d)

pub obeyed_as : {c c' : Command} (l : Lent) (d : Desk) (r : Reply) (after : Lent) → c ≡ c' → Obeyed c' l d r after → Obeyed c l d r after
obeyed_as l d r after e o = subst (λ (x : Command). Obeyed x l d r after) (sym e) o

pub replied : {c : Call} {l : Lent} {d : Desk} {r : Reply} {after : Lent} → RepliesWhole c l d r after → turn r.answer (world after r.desk) ≡ made c (world l d)
unfolding made
replied h = rw (h.answer, h.desk, h.areas)

pub restarted : (wp wl sp sl wp' wl' : List ℕ) (d d' : Desk) (r : Reply) (after : Lent) → wp' ≡ zeros (length wp) → wl' ≡ zeros (length wl) → d' ≡ empty_desk
    → RepliesWhole restart (lent wp' sp wl' sl) d' r after → Obeyed Cut (lent wp sp wl sl) d r after
restarted wp wl sp sl wp' wl' d d' r after ep el ed m = replied m ∙ rw (ep, el, ed)
