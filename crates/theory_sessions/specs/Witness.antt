-- WHAT DEMAND 3 GRANTS CAN HAPPEN: a list of events with cuts inside restarts and growth, after which there are slides in the leaves.
use Rattle.std.specs.Prelude.{ℕ, ◌*◌, ◌≤◌, ◌≡◌, true, List, [], ◌∷◌, ◌++◌, replicate}
use Rattle.std.proofs.Math.Path.{refl}
use Rattle.std.proofs.Common.{sym, subst, lit≤}
use Rattle.std.proofs.lemmas.List.{length-replicate}
use Rattle.def_base.specs.Tests.{clash}
use Rattle.def_layout.specs.declared.Entry.{Entry}
use Rattle.def_layout.specs.declared.Desk.{Desk}
use Rattle.def_layout.specs.Desks.{empty_desk}
use Rattle.def_layout.specs.Entries.{entry}
use Rattle.def_layout.specs.Sizes.{page_size, slot_size}
use Rattle.def_model.specs.Areas.{pages_of}
use Rattle.def_model.specs.Answers.{answer_numbers}
use Rattle.def_model.specs.TreeRules.{leaf_records}
use Rattle.def_model.specs.OnBytes.{Lent}
use Rattle.def_model.specs.CallNames.{begin, restart, previous, insert, delete, commit, write_out}
use Rattle.def_recovery.specs.Events
use Rattle.def_recovery.specs.Events.{World, Rubble, Event, AllAllowed, happen_all, formatted, is_restart, question_32, request_32}
use Rattle.def_sessions.specs.Play.{Step, ask, cut, Machine, play, new}
use Rattle.def_sessions.specs.Compute.{computed}
use Rattle.def_sessions.specs.OnBytes.{Leaves, AllLeave, restart_next, events}
use Rattle.law_areas.specs.Lengths.{Lengths}
use Rattle.theory_sessions.specs.Tie.{Tied}
use Rattle.theory_sessions.specs.Starting.{formatted_tied}
use Rattle.theory_sessions.specs.Playing.{Played, askable, step_askable, all_askable, whole, plays}
use Rattle.theory_sessions.specs.Growing.{areas_grown, world_grown, grown_tied}
use Rattle.theory_sessions.specs.InARow.{Leads, in_a_row, grows}
use Rattle.theory_sessions.specs.Finding.{Found, further, finds_slides}

-- Case 1 looks for the slide before another, and is committed. Case 4 is open at a cut, its slide written out with its page; the restart is cut after each of its first two stores.
pub first_steps : List Step
first_steps =
    ask begin ∷ ask (insert 1 5 6) ∷ ask (previous 1 6) ∷ ask (commit 1) ∷ ask begin ∷ ask (insert 4 7 7) ∷ ask (write_out 1)
    ∷ cut 0 begin ∷ cut 1 restart ∷ cut 1 restart ∷ ask restart ∷ []

-- The areas have grown. Case 9 is committed; the commit of case 12 is cut with its record stored; that of case 15 is cut before it.
pub later_steps : List Step
later_steps =
    ask begin ∷ ask (insert 9 8 8) ∷ ask (commit 9) ∷ ask begin ∷ ask (delete 12 5) ∷ cut 3 (commit 12) ∷ ask restart
    ∷ ask begin ∷ ask (insert 15 3 3) ∷ cut 2 (commit 15) ∷ cut 1 restart ∷ ask restart ∷ []

-- One page and four slots more.
unfoldable pub happenings : (ℕ → Rubble) → (ℕ → Rubble) → List Event
happenings before after = events before first_steps ++ Events.grown (page_size * 1) (page_size * 1) (slot_size * 4) (slot_size * 4) ∷ events after later_steps

-- The slides of the committed cases, which a further restart finds.
pub committed : List Entry
committed = entry 8 8 ∷ []

-- ---- typed

half : Machine
half = play first_steps (new 16 80)

grown_half : Machine
grown_half = record { areas = areas_grown 1 4 half.areas; desk = half.desk; answers = [] }

end : Machine
end = play later_steps grown_half

further_reason : (answer_numbers (further end).answer).reason ≡ 0
unfolding further end grown_half half first_steps later_steps computed
further_reason = refl

further_leaves : leaf_records (pages_of (further end).work.pages) ≡ committed
unfolding further end grown_half half first_steps later_steps committed computed
further_leaves = refl

first_askable : all_askable first_steps (new 16 80) ≡ true
unfolding all_askable step_askable askable request_32 question_32 first_steps
first_askable = refl

later_askable : all_askable later_steps grown_half ≡ true
unfolding all_askable step_askable askable request_32 later_steps
later_askable = refl

-- ---- on bytes

module _ (l : Lent) (d : Desk) (before after : ℕ → Rubble) (z : Lengths l 16 80) (p : AllLeave 16 80 first_steps before) (q : AllLeave 17 84 later_steps after) where
  played : Played 16 80 before first_steps (formatted l d) (new 16 80)
  played = plays 16 80 before first_steps (formatted l d) (new 16 80) first_askable p (whole (formatted_tied 16 80 l d z))

  middle : World
  middle = happen_all (events before first_steps) (formatted l d)

  replayed : Played 17 84 after later_steps (world_grown 1 4 middle) grown_half
  unfolding middle grown_half half
  replayed = plays 17 84 after later_steps (world_grown 1 4 middle) grown_half later_askable q (whole (grown_tied 16 80 1 4 middle half.areas half.desk played.tied (lit≤ tt) (lit≤ tt)))

  last : World
  last = happen_all (events after later_steps) (world_grown 1 4 middle)

  leads : Leads (happenings before after) (formatted l d) last
  unfolding happenings middle last
  leads =
      in_a_row (events before first_steps) _ (formatted l d) middle last (record { allowed = played.allowed; ends = refl })
      (in_a_row (Events.grown (page_size * 1) (page_size * 1) (slot_size * 4) (slot_size * 4) ∷ []) (events after later_steps) middle (world_grown 1 4 middle) last (grows _ _ _ _ middle) (record { allowed = replayed.allowed; ends = refl }))

  -- It may happen.
  pub may_happen : AllAllowed (happenings before after) (formatted l d)
  may_happen = leads.allowed

  tied : Tied 17 84 last end.areas end.desk
  unfolding last end
  tied = replayed.tied

  pub found : Found committed (happen_all (happenings before after) (formatted l d))
  found = subst (Found committed) (sym leads.ends) (finds_slides 17 84 last end tied committed further_reason further_leaves)

-- ---- one such list

-- Every byte lent is 7, and every byte that a cut leaves is 255.
unfoldable pub sevens : ℕ → ℕ → Lent
sevens n m = record { work_pages = replicate (page_size * n) 7; stable_pages = replicate (page_size * n) 7; work_log = replicate (slot_size * m) 7; stable_log = replicate (slot_size * m) 7 }

unfoldable pub rubble : ℕ → ℕ → ℕ → Rubble
rubble n m steps = record { work_pages = replicate (page_size * n) 255; work_log = replicate (slot_size * m) 255; desk = empty_desk }

pub leaves_rubble : (n m steps : ℕ) → Leaves n m true (rubble n m steps)
unfolding rubble
leaves_rubble n m steps = record { pages_length = length-replicate {A = ℕ} (page_size * n) 255; log_length = length-replicate {A = ℕ} (slot_size * m) 255; zeroed = λ e. clash e }

pub sevens_lengths : (n m : ℕ) → 16 ≤ n → n ≤ 896 → 64 ≤ m → m ≤ 16384 → Lengths (sevens n m) n m
unfolding sevens
sevens_lengths n m a b c d =
    record {
      work_pages = length-replicate {A = ℕ} (page_size * n) 7;
      stable_pages = length-replicate {A = ℕ} (page_size * n) 7;
      work_log = length-replicate {A = ℕ} (slot_size * m) 7;
      stable_log = length-replicate {A = ℕ} (slot_size * m) 7;
      least_pages = a;
      most_pages = b;
      least_slots = c;
      most_slots = d;
    }

pub first_leave : AllLeave 16 80 first_steps (rubble 16 80)
unfolding AllLeave restart_next is_restart first_steps
first_leave = (leaves_rubble 16 80 3, (leaves_rubble 16 80 2, (leaves_rubble 16 80 1, tt)))

pub later_leave : AllLeave 17 84 later_steps (rubble 17 84)
unfolding AllLeave restart_next is_restart later_steps
later_leave = (leaves_rubble 17 84 6, (leaves_rubble 17 84 2, (leaves_rubble 17 84 1, tt)))

-- THE WITNESS: granted, and not about an empty book.
pub witness : AllAllowed (happenings (rubble 16 80) (rubble 17 84)) (formatted (sevens 16 80) empty_desk) × Found committed (happen_all (happenings (rubble 16 80) (rubble 17 84)) (formatted (sevens 16 80) empty_desk))
witness =
    let z = sevens_lengths 16 80 (lit≤ tt) (lit≤ tt) (lit≤ tt) (lit≤ tt) in
    (may_happen (sevens 16 80) empty_desk (rubble 16 80) (rubble 17 84) z first_leave later_leave, found (sevens 16 80) empty_desk (rubble 16 80) (rubble 17 84) z first_leave later_leave)
