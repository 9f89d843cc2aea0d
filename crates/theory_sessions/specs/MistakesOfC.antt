-- WHAT ONLY C CAN DO WRONG CAN HAPPEN under demand 3: a call that is lent a wrong desk, a wrong desk that a cut leaves, and values of a wrong length.
use Rattle.std.specs.Prelude.{ℕ, ◌*◌, ◌≡◌, false, length}
use Rattle.std.proofs.Math.Path.{refl, ap}
use Rattle.std.proofs.Common.{sym, ◌∙◌, subst, lit≤}
use Rattle.std.proofs.Math.Bool.{true}
use mathlib.Core.List.{List, [], ◌∷◌, ◌++◌, map}
use Rattle.std.proofs.Math.ListN.{replicate}
use Rattle.def_base.specs.Tests.{clash}
use Rattle.def_layout.specs.declared.Entry.{Entry}
use Rattle.def_layout.specs.Desks.{empty_desk, read_desk}
use Rattle.def_layout.specs.Entries.{entry, top}
use Rattle.def_layout.specs.Sizes.{page_size, slot_size, desk_size}
use Rattle.def_model.specs.Answers.{answer_numbers}
use Rattle.def_model.specs.Areas.{pages_of}
use Rattle.def_model.specs.TreeRules.{leaf_records}
use Rattle.def_model.specs.CallNames.{restart, begin, insert, commit}
use Rattle.def_model.specs.OnBytes.{store_all_bytes, lent_after, refused_desk}
use Rattle.def_recovery.specs.Book.{book_cut, book_cut_by, commits, commits_request}
use Rattle.def_recovery.specs.Events.{World, Event, AllAllowed, happen, happen_all, started, cut_call, book_after, is_format, is_restart, request_32, of_32_bits}
use Rattle.def_sessions.specs.Play as play
use Rattle.def_sessions.specs.Play.{Step, Machine}
use Rattle.def_sessions.specs.Compute.{computed}
use Rattle.def_sessions.specs.OnBytes.{AllLeave, restart_next, events}
use Rattle.def_c.specs.FromC.{values_size, sizes_ok, refused_desk_bytes, returned_by, c_call, c_stores_by, c_stores}
use Rattle.def_c.specs.EventsOfC.{CWorld, as_world, CRubble, CEvent, ended, mislent, cut, after_return, cut_c_call, c_happen, c_happen_all, CGranted, CAllowed, CAllAllowed, c_started}
use Rattle.law_bytes.specs.Words.{Bytes}
use Rattle.law_bytes.specs.DeskBytes.{read_desk_back}
use Rattle.law_areas.specs.Lengths.{Lengths}
use Rattle.theory_recovery.specs.DeskNumbers.{read_fits, empty_fits}
use Rattle.theory_recovery.specs.Steps.{still}
use Rattle.theory_recovery.specs.ByC.{in_bytes, AllHold, HoldsDesk, DeskStands, stands_by, run_alike, allowed_alike, started_alike, started_0}
use Rattle.theory_sessions.specs.Playing.{Played, askable, step_askable, all_askable, whole, plays}
use Rattle.theory_sessions.specs.Finding.{Found, further, finds_slides}
use Rattle.theory_sessions.specs.Witness.{sevens, sevens_lengths, rubble, leaves_rubble}
use Rattle.theory_sessions.specs.LoadedWitness.{columns_loaded, small, begun, done_first, tied_first}
use Rattle.theory_sessions.specs.WitnessOfC.{CMet}

-- ---- the mistakes

-- What a cut leaves, with these bytes as the desk.
abbrev pub left_with : (desk : List ℕ) → CRubble
left_with desk = record { work_pages = replicate (page_size * 32) 255; work_log = replicate (slot_size * 160) 255; desk = desk }

-- A begin that is lent no desk; a begin that is cut, and leaves three bytes as the desk, so that restart is refused; a cut restart that leaves 136; a restart that is lent no values.
unfoldable pub mistakes : (values : List ℕ) → List CEvent
mistakes values =
    mislent begin [] values ∷ cut begin values 0 (left_with (1 ∷ 2 ∷ 3 ∷ [])) ∷ ended restart values ∷ cut restart values 0 (left_with (replicate desk_size 255)) ∷ ended restart [] ∷ []

-- Of those only the cut changes a register; then a restart, and a case that is committed.
steps_after : List Step
steps_after = play.ask restart ∷ play.ask begin ∷ play.ask (insert 1 7 7) ∷ play.ask (commit 1) ∷ []

pub events_after : List Event
events_after = events (rubble 32 160) steps_after

pub slides_after : List Entry
slides_after = entry 5 top ∷ entry 7 7 ∷ entry 9 0 ∷ entry top 1 ∷ []

restart_granted : (values : List ℕ) (w : CWorld) → CGranted restart values w
unfolding of_32_bits is_format is_restart
restart_granted values w = record { numbers = refl; no_format = λ f. clash (sym f); restart_first = λ s q. refl }

module _ (values : List ℕ) (room : length values ≡ values_size) (w : CWorld) (calm : w.since_cut ≡ false) where
  begin_granted : CGranted begin values (c_happen (mislent begin [] values) w)
  unfolding of_32_bits request_32 is_format c_happen after_return c_call returned_by sizes_ok
  begin_granted = record { numbers = refl; no_format = λ f. clash (sym f); restart_first = λ s q. clash (sym s ∙ still w.since_cut ∙ calm) }

  mistakes_allowed : (es : List CEvent) → CAllAllowed es (c_happen_all (mistakes values) w) → CAllAllowed (mistakes values ++ es) w
  unfolding CAllAllowed CAllowed c_happen_all mistakes
  mistakes_allowed es a = (refl, (begin_granted, (restart_granted values _, (restart_granted values _, (restart_granted [] _, a)))))

  -- The world that they leave: that of the cut begin.
  mistakes_end : as_world (c_happen_all (mistakes values) w) ≡ cut_call begin 0 (rubble 32 160 4) (as_world w)
  unfolding c_happen_all mistakes c_happen after_return cut_c_call c_call returned_by sizes_ok refused_desk_bytes refused_desk c_stores c_stores_by store_all_bytes book_after book_cut book_cut_by commits commits_request cut_call lent_after rubble
  mistakes_end = ap (λ d. record { lent = record { work_pages = replicate (page_size * 32) 255; stable_pages = w.lent.stable_pages; work_log = replicate (slot_size * 160) 255; stable_log = w.lent.stable_log }; desk = d; book = w.book; since_cut = true }) (read_desk_back empty_desk empty_fits)

  mistakes_stand : DeskStands (c_happen_all (mistakes values) w)
  unfolding c_happen_all mistakes c_happen after_return cut_c_call c_call returned_by sizes_ok refused_desk_bytes refused_desk
  mistakes_stand = stands_by values room _ empty_desk empty_fits refl

-- ---- typed

all_steps : List Step
all_steps = play.cut 0 begin ∷ steps_after

end : Machine
end = play.play all_steps begun

askable_after : all_askable all_steps begun ≡ true
unfolding all_askable step_askable askable request_32 all_steps steps_after
askable_after = refl

left_after : AllLeave 32 160 all_steps (rubble 32 160)
unfolding AllLeave restart_next is_restart all_steps steps_after
left_after = (leaves_rubble 32 160 4, tt)

further_reason : (answer_numbers (further end).answer).reason ≡ 0
unfolding further computed end all_steps steps_after begun columns_loaded
further_reason = refl

further_leaves : leaf_records (pages_of (further end).work.pages) ≡ slides_after
unfolding further computed end all_steps steps_after begun columns_loaded slides_after
further_leaves = refl

holds_after : AllHold events_after
unfolding AllHold HoldsDesk events events_after steps_after
holds_after = (tt, (tt, (tt, (tt, tt))))

-- ---- on C's bytes

-- Any 136 bytes as the desk, and any 8 for the values.
module _ (desk values : List ℕ) (size : length desk ≡ desk_size) (bytes : Bytes desk) (room : length values ≡ values_size) where
  abbrev w : CWorld
  w = c_started columns_loaded (sevens 32 160) desk values

  z : Lengths (sevens 32 160) 32 160
  z = sevens_lengths 32 160 (lit≤ tt) (lit≤ tt) (lit≤ tt) (lit≤ tt)

  loaded : World
  loaded = started columns_loaded (sevens 32 160) (read_desk desk)

  played : Played 32 160 (rubble 32 160) all_steps loaded begun
  unfolding loaded
  played = plays 32 160 (rubble 32 160) all_steps loaded begun askable_after left_after (whole (tied_first (sevens 32 160) (read_desk desk) z))

  cut_first : World
  cut_first = cut_call begin 0 (rubble 32 160 4) loaded

  allowed_after : AllAllowed events_after cut_first
  unfolding AllAllowed happen events events_after all_steps steps_after cut_first
  allowed_after = played.allowed.1

  found_after : Found slides_after (happen_all events_after cut_first)
  unfolding happen_all happen events events_after all_steps steps_after cut_first end
  found_after = finds_slides 32 160 _ end played.tied slides_after further_reason further_leaves

  calm : w.since_cut ≡ false
  unfolding c_started
  calm = refl

  is : as_world (c_happen_all (mistakes values) w) ≡ cut_first
  unfolding cut_first loaded
  is = mistakes_end values room w calm ∙ ap (cut_call begin 0 (rubble 32 160 4)) (started_alike values room columns_loaded (sevens 32 160) desk size (read_fits desk bytes)).0

  stands : DeskStands (c_happen_all (mistakes values) w)
  stands = mistakes_stand values room w calm

  ends : c_happen_all (mistakes values ++ map (in_bytes values) events_after) w ≡ c_happen_all (map (in_bytes values) events_after) (c_happen_all (mistakes values) w)
  unfolding c_happen_all mistakes
  ends = refl

  pub mistaken : CMet columns_loaded (sevens 32 160) desk values (mistakes values ++ map (in_bytes values) events_after) slides_after
  mistaken =
      record {
        numbers = small;
        done = started_0 values room columns_loaded (sevens 32 160) desk size (done_first (sevens 32 160) (read_desk desk) z);
        allowed = mistakes_allowed values room w calm (map (in_bytes values) events_after) (allowed_alike values room events_after holds_after (c_happen_all (mistakes values) w) stands (subst (AllAllowed events_after) (sym is) allowed_after));
        found = subst (Found slides_after) (sym (ap (λ x. as_world x) ends ∙ run_alike values room events_after holds_after (c_happen_all (mistakes values) w) stands ∙ ap (happen_all events_after) is)) found_after;
      }
