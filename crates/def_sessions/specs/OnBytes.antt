-- A session on bytes: its steps as events of demand 3, on lent areas in which anything stands, with anything left by its cuts.
use Rattle.std.specs.Prelude.{ℕ, ◌*◌, ◌≡◌, Bool, true, false, List, [], ◌∷◌, ◌++◌, length}
use Rattle.def_layout.specs.declared.Desk.{Desk}
use Rattle.def_layout.specs.Desks.{empty_desk}
use Rattle.def_layout.specs.Numbers.{zeros}
use Rattle.def_layout.specs.Sizes.{page_size, slot_size}
use Rattle.def_model.specs.Answers.{answer_numbers}
use Rattle.def_model.specs.OnBytes.{Lent, read_areas}
use Rattle.def_recovery.specs.Events
use Rattle.def_recovery.specs.Events.{Rubble, Event, World, result, happen, happen_all, is_restart, formatted}
use Rattle.def_sessions.specs.Play.{Step, ask, cut, forge_page, forge_slot, forge_work_page, forge_work_slot, forge_desk, forge_low_bits, Machine, numbers, Session, shows}

-- What is lent: areas of these lengths.
pub record LentFor (pages slots : ℕ) (l : Lent) : Type 0 where
  pub work_pages : length l.work_pages ≡ page_size * pages
  pub stable_pages : length l.stable_pages ≡ page_size * pages
  pub work_log : length l.work_log ≡ slot_size * slots
  pub stable_log : length l.stable_log ≡ slot_size * slots

-- ---- cuts

-- Whether the next step is a restart, itself cut or not.
unfoldable pub restart_next : List Step → Bool
restart_next [] = false
restart_next (ask c ∷ ss) = is_restart c
restart_next (cut j c ∷ ss) = is_restart c
restart_next (forge_page p x ∷ ss) = false
restart_next (forge_slot n x ∷ ss) = false
restart_next (forge_low_bits p w ∷ ss) = false
restart_next (forge_work_page p x ∷ ss) = false
restart_next (forge_work_slot n x ∷ ss) = false
restart_next (forge_desk d ∷ ss) = false

-- What a cut leaves: working areas of the same lengths. Before a restart their bytes and the desk are any; before another call, zeros and empty.
pub record Leaves (pages slots : ℕ) (restarts : Bool) (left : Rubble) : Type 0 where
  pub pages_length : length left.work_pages ≡ page_size * pages
  pub log_length : length left.work_log ≡ slot_size * slots
  pub zeroed : restarts ≡ false
      → (left.work_pages ≡ zeros (page_size * pages)) × (left.work_log ≡ zeros (slot_size * slots)) × (left.desk ≡ empty_desk)

-- Every cut leaves such; `left` has what each leaves, by the number of steps after it.
unfoldable pub AllLeave : (pages slots : ℕ) → List Step → (ℕ → Rubble) → Type 0
AllLeave pages slots [] left = Unit {0}
AllLeave pages slots (ask c ∷ ss) left = AllLeave pages slots ss left
AllLeave pages slots (cut j c ∷ ss) left = Leaves pages slots (restart_next ss) (left (length ss)) × AllLeave pages slots ss left
AllLeave pages slots (forge_page p x ∷ ss) left = AllLeave pages slots ss left
AllLeave pages slots (forge_slot n x ∷ ss) left = AllLeave pages slots ss left
AllLeave pages slots (forge_low_bits p w ∷ ss) left = AllLeave pages slots ss left
AllLeave pages slots (forge_work_page p x ∷ ss) left = AllLeave pages slots ss left
AllLeave pages slots (forge_work_slot n x ∷ ss) left = AllLeave pages slots ss left
AllLeave pages slots (forge_desk d ∷ ss) left = AllLeave pages slots ss left

-- ---- the session

-- (No event forges: a session that does is not played on bytes.)
unfoldable pub events : (ℕ → Rubble) → List Step → List Event
events left [] = []
events left (ask c ∷ ss) = Events.ended c ∷ events left ss
events left (cut j c ∷ ss) = Events.cut c j (left (length ss)) ∷ events left ss
events left (forge_page p x ∷ ss) = events left ss
events left (forge_slot n x ∷ ss) = events left ss
events left (forge_low_bits p w ∷ ss) = events left ss
events left (forge_work_page p x ∷ ss) = events left ss
events left (forge_work_slot n x ∷ ss) = events left ss
events left (forge_desk d ∷ ss) = events left ss

-- The answers of the calls that ended.
unfoldable pub answered : Event → World → List (List ℕ)
answered (Events.ended c) w = numbers (answer_numbers (result c w).answer) ∷ []
answered (Events.cut c j left) w = []
answered (Events.grown a b c d) w = []

unfoldable pub all_answered : List Event → World → List (List ℕ)
all_answered [] w = []
all_answered (e ∷ es) w = answered e w ++ all_answered es (happen e w)

-- What the bytes show after these events.
unfoldable pub machine_after : List Event → World → Machine
machine_after es w =
    let v = happen_all es w in
    record { areas = read_areas v.lent; desk = v.desk; answers = all_answered es w }

-- THE ROW HOLDS ON BYTES: whatever stood in the lent areas and the desk before the formatting, and whatever the cuts leave.
unfoldable pub HoldsOnBytes : Session → Type 0
HoldsOnBytes s =
    (l : Lent) (d : Desk) (left : ℕ → Rubble) → LentFor s.pages s.slots l → AllLeave s.pages s.slots s.steps left
    → shows s (machine_after (events left s.steps) (formatted l d)) ≡ true
