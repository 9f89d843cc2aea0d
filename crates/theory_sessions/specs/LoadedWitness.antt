-- EVERY KIND OF EVENT, FROM A LOADED START: what demand 3 grants of a loading, of refused starts and of uneven growth can happen, and slides are found after it.
use Rattle.std.specs.Prelude.{ℕ, ◌≡◌, true, List, [], ◌∷◌, ◌++◌}
use Rattle.std.proofs.Math.Path.{refl}
use Rattle.std.proofs.Common.{sym, subst, lit≤}
use Rattle.def_base.specs.Tests.{every}
use Rattle.def_layout.specs.declared.Entry.{Entry}
use Rattle.def_layout.specs.declared.Desk.{Desk}
use Rattle.def_layout.specs.Desks.{empty_desk}
use Rattle.def_layout.specs.Entries.{entry, top}
use Rattle.def_model.specs.Areas.{pages_of}
use Rattle.def_model.specs.Answers.{answer_numbers, passed}
use Rattle.def_model.specs.TreeRules.{leaf_records}
use Rattle.def_model.specs.OnBytes as groups
use Rattle.def_model.specs.OnBytes.{Start, start, Lent, outcome, call}
use Rattle.def_model.specs.CallNames.{load, restart, begin, fetch, next, previous, take_mark, insert, delete, commit, abort, return_to, write_out}
use Rattle.def_recovery.specs.Events.{World, Rubble, Event, AllAllowed, happen_all, started, formatted, is_restart, start_32, question_32, request_32, of_32_bits}
use Rattle.def_sessions.specs.Play.{Step, ask, cut, Machine, play_step, play, new}
use Rattle.def_sessions.specs.Compute.{computed}
use Rattle.def_sessions.specs.OnBytes.{AllLeave, restart_next, events}
use Rattle.law_areas.specs.Lengths.{Lengths}
use Rattle.theory_recovery.specs.ByC.{with_desk}
use Rattle.theory_sessions.specs.Tie.{Tied}
use Rattle.theory_sessions.specs.Starting.{formatted_tied, load_passes, loaded_tied}
use Rattle.theory_sessions.specs.Playing.{Played, askable, step_askable, all_askable, whole, plays}
use Rattle.theory_sessions.specs.Growing.{areas_grown, world_grown}
use Rattle.theory_sessions.specs.InARow.{Leads, in_a_row}
use Rattle.theory_sessions.specs.Uneven.{uneven, uneven_leads, uneven_tied}
use Rattle.theory_sessions.specs.Finding.{Found, further, finds_slides}
use Rattle.theory_sessions.specs.Witness.{sevens, rubble, leaves_rubble, sevens_lengths}

-- ---- the list

-- Keys and values up to top.
unfoldable pub columns_loaded : Start
columns_loaded = groups.load (5 ∷ 9 ∷ top ∷ []) (top ∷ 0 ∷ 1 ∷ [])

-- Case 1 takes a mark, returns to it, asks and is committed; case 7 is aborted; case 12 is open, its slide written out. Loadings are refused by 8, 7 and 9, and one that would be
-- refused by 7 is cut; so is the restart.
pub first_steps : List Step
first_steps =
    ask begin ∷ ask (insert 1 7 top) ∷ ask (take_mark 1) ∷ ask (insert 1 8 8) ∷ ask (return_to 1 2) ∷ ask (fetch 1 7) ∷ ask (next 1 9) ∷ ask (previous 1 7) ∷ ask (delete 1 5) ∷ ask (commit 1)
    ∷ ask begin ∷ ask (insert 7 6 6) ∷ ask (abort 7) ∷ ask begin ∷ ask (insert 12 3 3) ∷ ask (write_out 1)
    ∷ ask (load (0 ∷ []) []) ∷ ask (load (0 ∷ []) (1 ∷ [])) ∷ ask (load (6 ∷ 6 ∷ []) (1 ∷ 2 ∷ [])) ∷ ask begin ∷ cut 5 (load (0 ∷ []) (1 ∷ [])) ∷ cut 1 restart ∷ ask restart ∷ []

-- The areas have grown unevenly, and formattings, loadings and restarts were refused.
pub later_steps : List Step
later_steps = ask begin ∷ ask restart ∷ ask begin ∷ ask (insert 17 6 6) ∷ ask (commit 17) ∷ ask begin ∷ ask (delete 20 7) ∷ cut 2 (commit 20) ∷ cut 0 restart ∷ ask restart ∷ []

unfoldable pub happenings : (ℕ → Rubble) → (ℕ → Rubble) → List Event
happenings before after = events before first_steps ++ (uneven ++ events after later_steps)

-- The slides that a further restart finds.
pub committed : List Entry
committed = entry 6 6 ∷ entry 7 top ∷ entry 9 0 ∷ entry top 1 ∷ []

-- ---- typed

unfoldable pub begun : Machine
begun = play_step (ask (start columns_loaded)) (new 32 160)

half : Machine
half = play first_steps begun

grown_half : Machine
grown_half = record { areas = areas_grown 1 2 half.areas; desk = empty_desk; answers = [] }

end : Machine
end = play later_steps grown_half

-- What is answered: each call passes, but for the three loadings and the begins on the empty desk that these and a refused formatting leave.
abbrev done : List ℕ
done = 0 ∷ 0 ∷ 0 ∷ []

abbrev refused : ℕ → List ℕ
refused r = r ∷ 0 ∷ 0 ∷ []

first_answers : half.answers
    ≡ done ∷ (0 ∷ 1 ∷ 0 ∷ []) ∷ done ∷ (0 ∷ 2 ∷ 0 ∷ []) ∷ done ∷ done ∷ (0 ∷ top ∷ 0 ∷ []) ∷ (0 ∷ top ∷ 1 ∷ []) ∷ (0 ∷ 5 ∷ top ∷ []) ∷ done ∷ done ∷ (0 ∷ 7 ∷ 0 ∷ []) ∷ done ∷ done ∷ (0 ∷ 12 ∷ 0 ∷ []) ∷ done ∷ done ∷ refused 8 ∷ refused 7
    ∷ refused 9 ∷ refused 11 ∷ (0 ∷ 1 ∷ 0 ∷ []) ∷ []
unfolding computed half begun first_steps columns_loaded
first_answers = refl

later_answers : end.answers ≡ refused 11 ∷ (0 ∷ 0 ∷ 1 ∷ []) ∷ (0 ∷ 17 ∷ 0 ∷ []) ∷ done ∷ done ∷ (0 ∷ 20 ∷ 0 ∷ []) ∷ done ∷ (0 ∷ 1 ∷ 3 ∷ []) ∷ []
unfolding computed half begun first_steps columns_loaded grown_half end later_steps
later_answers = refl

further_reason : (answer_numbers (further end).answer).reason ≡ 0
unfolding further computed half begun first_steps columns_loaded grown_half end later_steps
further_reason = refl

further_leaves : leaf_records (pages_of (further end).work.pages) ≡ committed
unfolding further computed half begun first_steps columns_loaded grown_half end later_steps committed
further_leaves = refl

pub small : of_32_bits (start columns_loaded) ≡ true
unfolding of_32_bits start_32 every columns_loaded
small = refl

load_done : passed (outcome (start columns_loaded) (new 32 160).areas (new 32 160).desk).answer ≡ true
unfolding computed passed columns_loaded
load_done = refl

first_askable : all_askable first_steps begun ≡ true
unfolding computed passed all_askable step_askable askable start_32 request_32 question_32 begun first_steps columns_loaded
first_askable = refl

later_askable : all_askable later_steps grown_half ≡ true
unfolding all_askable step_askable askable request_32 later_steps
later_askable = refl

-- ---- on bytes

module _ (l : Lent) (d : Desk) (z : Lengths l 32 160) where
  abbrev loaded : World
  loaded = started columns_loaded l d

  tied_new : Tied 32 160 (formatted l d) (new 32 160).areas (new 32 160).desk
  tied_new = formatted_tied 32 160 l d z

  pub done_first : passed (call (start columns_loaded) l d).answer ≡ true
  unfolding columns_loaded
  done_first = load_passes _ _ small 32 160 (formatted l d) (new 32 160) tied_new load_done l d z

  pub tied_first : Tied 32 160 loaded begun.areas begun.desk
  unfolding columns_loaded begun
  tied_first = loaded_tied _ _ small 32 160 (formatted l d) (new 32 160) tied_new load_done l d z

  module _ (before after : ℕ → Rubble) (p : AllLeave 32 160 first_steps before) (q : AllLeave 33 162 later_steps after) where
    played : Played 32 160 before first_steps loaded begun
    played = plays 32 160 before first_steps loaded begun first_askable p (whole tied_first)

    middle : World
    middle = happen_all (events before first_steps) loaded

    tied_half : Tied 32 160 middle half.areas half.desk
    unfolding middle half
    tied_half = played.tied

    grown_world : World
    grown_world = with_desk empty_desk (world_grown 1 2 middle)

    replayed : Played 33 162 after later_steps grown_world grown_half
    unfolding grown_world grown_half
    replayed = plays 33 162 after later_steps grown_world grown_half later_askable q (whole (uneven_tied 32 160 middle half.areas half.desk tied_half (lit≤ tt) (lit≤ tt)))

    last : World
    last = happen_all (events after later_steps) grown_world

    leads : Leads (happenings before after) loaded last
    unfolding happenings middle grown_world last
    leads =
        in_a_row (events before first_steps) _ loaded middle last (record { allowed = played.allowed; ends = refl })
        (in_a_row uneven (events after later_steps) middle grown_world last (uneven_leads 32 160 middle half.areas half.desk tied_half) (record { allowed = replayed.allowed; ends = refl }))

    -- It may happen.
    pub may_happen : AllAllowed (happenings before after) loaded
    may_happen = leads.allowed

    tied_last : Tied 33 162 last end.areas end.desk
    unfolding last end
    tied_last = replayed.tied

    pub found : Found committed (happen_all (happenings before after) loaded)
    found = subst (Found committed) (sym leads.ends) (finds_slides 33 162 last end tied_last committed further_reason further_leaves)

-- ---- one such list

pub first_leave : AllLeave 32 160 first_steps (rubble 32 160)
unfolding AllLeave restart_next is_restart first_steps
first_leave = (leaves_rubble 32 160 2, (leaves_rubble 32 160 1, tt))

pub later_leave : AllLeave 33 162 later_steps (rubble 33 162)
unfolding AllLeave restart_next is_restart later_steps
later_leave = (leaves_rubble 33 162 2, (leaves_rubble 33 162 1, tt))

-- All that demand 3 asks for is met.
pub loaded_witness : (of_32_bits (start columns_loaded) ≡ true) × (passed (call (start columns_loaded) (sevens 32 160) empty_desk).answer ≡ true)
    × AllAllowed (happenings (rubble 32 160) (rubble 33 162)) (started columns_loaded (sevens 32 160) empty_desk)
    × Found committed (happen_all (happenings (rubble 32 160) (rubble 33 162)) (started columns_loaded (sevens 32 160) empty_desk))
loaded_witness =
    let z = sevens_lengths 32 160 (lit≤ tt) (lit≤ tt) (lit≤ tt) (lit≤ tt) in
    let l = sevens 32 160 in
    let b = rubble 32 160 in
    let a = rubble 33 162 in
    (small, done_first l empty_desk z, may_happen l empty_desk z b a first_leave later_leave, found l empty_desk z b a first_leave later_leave)
