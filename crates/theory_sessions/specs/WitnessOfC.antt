-- WHAT DEMAND 3 GRANTS OF THE C FUNCTIONS CAN HAPPEN: both witnesses, carried over to C's bytes.
use Rattle.std.specs.Prelude.{ℕ, ◌≡◌, true, List, [], ◌∷◌, ◌++◌, map, length}
use Rattle.std.proofs.Math.Path.{refl, ap}
use Rattle.std.proofs.Common.{sym, ◌∙◌, subst, lit≤}
use Rattle.def_layout.specs.declared.Entry.{Entry}
use Rattle.def_layout.specs.declared.Desk.{Desk}
use Rattle.def_layout.specs.Desks.{read_desk}
use Rattle.def_layout.specs.Sizes.{desk_size}
use Rattle.def_model.specs.Answers.{passed, first_broken}
use Rattle.def_model.specs.OnBytes as groups
use Rattle.def_model.specs.Calls.{format_areas}
use Rattle.def_model.specs.OnBytes.{Call, Start, start, Lent, checks, start_checks, does, start_does, outcome_by, outcome, lengths_ok, call_by, call}
use Rattle.def_recovery.specs.Events as typed
use Rattle.def_recovery.specs.Events.{Rubble, Event, AllAllowed, happen_all, started, start_32, of_32_bits}
use Rattle.def_sessions.specs.Play.{Step, ask, cut, forge_page, forge_slot, forge_work_page, forge_work_slot, forge_desk, forge_low_bits}
use Rattle.def_sessions.specs.OnBytes.{events}
use Rattle.def_c.specs.FromC.{values_size, c_call}
use Rattle.def_c.specs.EventsOfC.{as_world, CEvent, c_happen_all, CAllAllowed, c_started}
use Rattle.law_bytes.specs.Words.{Bytes}
use Rattle.law_bytes.specs.DeskBytes.{Fits}
use Rattle.law_areas.specs.Lengths.{lengths_enough}
use Rattle.theory_recovery.specs.DeskNumbers.{read_fits, empty_fits}
use Rattle.theory_recovery.specs.ByC.{in_bytes, HoldsDesk, AllHold, run_alike, allowed_alike, started_alike, started_0}
use Rattle.theory_sessions.specs.Uneven.{first_refused, then_refused, uneven}
use Rattle.theory_sessions.specs.Finding.{Found}
use Rattle.theory_sessions.specs.Witness as first
use Rattle.theory_sessions.specs.Witness.{sevens, rubble, sevens_lengths}
use Rattle.theory_sessions.specs.LoadedWitness as loaded

-- All that demand 3 over C asks for is met, and the further restart finds these slides.
pub record CMet (s : Start) (l : Lent) (desk values : List ℕ) (es : List CEvent) (slides : List Entry) : Type 0 where
  pub numbers : of_32_bits (start s) ≡ true
  pub done : (c_call (start s) l desk values).reason ≡ 0
  pub allowed : CAllAllowed es (c_started s l desk values)
  pub found : Found slides (as_world (c_happen_all es (c_started s l desk values)))

-- ---- what cuts leave in the desk, 136 bytes hold

holds_append : (es fs : List Event) → AllHold es → AllHold fs → AllHold (es ++ fs)
unfolding AllHold
holds_append [] fs a b = b
holds_append (e ∷ es) fs a b = (a.0, holds_append es fs a.1 b)

holds_ended : (cs : List Call) → AllHold (map typed.ended cs)
unfolding AllHold HoldsDesk
holds_ended [] = tt
holds_ended (c ∷ cs) = (tt, holds_ended cs)

holds_events : (left : ℕ → Rubble) → ((k : ℕ) → Fits (left k).desk) → (ss : List Step) → AllHold (events left ss)
unfolding AllHold HoldsDesk events
holds_events left f [] = tt
holds_events left f (ask c ∷ ss) = (tt, holds_events left f ss)
holds_events left f (cut j c ∷ ss) = (f (length ss), holds_events left f ss)
holds_events left f (forge_page p x ∷ ss) = holds_events left f ss
holds_events left f (forge_slot p x ∷ ss) = holds_events left f ss
holds_events left f (forge_low_bits p x ∷ ss) = holds_events left f ss
holds_events left f (forge_work_page p x ∷ ss) = holds_events left f ss
holds_events left f (forge_work_slot p x ∷ ss) = holds_events left f ss
holds_events left f (forge_desk x ∷ ss) = holds_events left f ss

holds_uneven : AllHold uneven
unfolding uneven AllHold HoldsDesk
holds_uneven = (tt, holds_append (map typed.ended first_refused) _ (holds_ended first_refused) (tt, holds_append (map typed.ended then_refused) _ (holds_ended then_refused) (tt, tt)))

rubble_fits : (n m k : ℕ) → Fits (rubble n m k).desk
unfolding rubble
rubble_fits n m k = empty_fits

first_holds : AllHold (first.happenings (rubble 16 80) (rubble 17 84))
unfolding first.happenings AllHold HoldsDesk
first_holds = holds_append (events (rubble 16 80) first.first_steps) _ (holds_events (rubble 16 80) (rubble_fits 16 80) first.first_steps) (tt, holds_events (rubble 17 84) (rubble_fits 17 84) first.later_steps)

loaded_holds : AllHold (loaded.happenings (rubble 32 160) (rubble 33 162))
unfolding loaded.happenings
loaded_holds = holds_append (events (rubble 32 160) loaded.first_steps) _ (holds_events (rubble 32 160) (rubble_fits 32 160) loaded.first_steps) (holds_append uneven _ holds_uneven (holds_events (rubble 33 162) (rubble_fits 33 162) loaded.later_steps))

-- ---- the witnesses carried over

-- Any 136 bytes as the desk, and any 8 for the values.
module _ (desk values : List ℕ) (size : length desk ≡ desk_size) (bytes : Bytes desk) (room : length values ≡ values_size) where
  abbrev d : Desk
  d = read_desk desk

  -- Any list that demand 3 allows after a start.
  carried : (s : Start) (l : Lent) (es : List Event) (slides : List Entry) → of_32_bits (start s) ≡ true → passed (call (start s) l d).answer ≡ true → AllHold es → AllAllowed es (started s l d) → Found slides (happen_all es (started s l d))
      → CMet s l desk values (map (in_bytes values) es) slides
  carried s l es slides k p h a f =
      let (is, stands) = started_alike values room s l desk size (read_fits desk bytes) in
      record {
        numbers = k;
        done = started_0 values room s l desk size p;
        allowed = allowed_alike values room es h (c_started s l desk values) stands (subst (AllAllowed es) (sym is) a);
        found = subst (Found slides) (sym (run_alike values room es h (c_started s l desk values) stands ∙ ap (happen_all es) is)) f;
      }

  format_passes : (l : Lent) → lengths_ok l ≡ true → passed (call (start groups.format) l d).answer ≡ true
  unfolding call call_by passed outcome outcome_by checks start_checks first_broken does start_does format_areas
  format_passes l e = ap (λ b. passed (call_by b (start groups.format) l d).answer) e

  pub formatted_by_c : CMet groups.format (sevens 16 80) desk values (map (in_bytes values) (first.happenings (rubble 16 80) (rubble 17 84))) first.committed
  unfolding of_32_bits start_32
  formatted_by_c =
      let z = sevens_lengths 16 80 (lit≤ tt) (lit≤ tt) (lit≤ tt) (lit≤ tt) in
      let l = sevens 16 80 in
      let b = rubble 16 80 in
      let a = rubble 17 84 in
      carried groups.format l (first.happenings b a) first.committed refl (format_passes l (lengths_enough l 16 80 z)) first_holds (first.may_happen l d b a z first.first_leave first.later_leave) (first.found l d b a z first.first_leave first.later_leave)

  pub loaded_by_c : CMet loaded.columns_loaded (sevens 32 160) desk values (map (in_bytes values) (loaded.happenings (rubble 32 160) (rubble 33 162))) loaded.committed
  loaded_by_c =
      let z = sevens_lengths 32 160 (lit≤ tt) (lit≤ tt) (lit≤ tt) (lit≤ tt) in
      let l = sevens 32 160 in
      let b = rubble 32 160 in
      let a = rubble 33 162 in
      carried loaded.columns_loaded l (loaded.happenings b a) loaded.committed loaded.small (loaded.done_first l d z) loaded_holds (loaded.may_happen l d z b a loaded.first_leave loaded.later_leave) (loaded.found l d z b a loaded.first_leave loaded.later_leave)
