-- THE ONE CLAIM over the table of worked sessions, and that over the registers imported, on bytes: `OnBytes: call`, refusal 1 and all stores carried out.
use Rattle.std.specs.Prelude.{ℕ, zero, suc, ◌≡◌, refl, true, ◌&&◌, List, [], ◌∷◌, take, leb}
use Rattle.std.proofs.Common.{ap, ◌∙◌}
use Rattle.std.proofs.Math.Bool.{Bool}
use Rattle.def_base.specs.Tests.{every, and_true, and_both, true_le}
use Rattle.def_layout.specs.declared.Desk.{Desk}
use Rattle.def_layout.specs.Numbers.{tab}
use Rattle.def_model.specs.OnBytes.{Lent}
use Rattle.def_recovery.specs.Events.{Rubble, fits_32, start_32, question_32, request_32, formatted}
use Rattle.def_sessions.specs.Play.{Session, shows, comes_true, new, play}
use Rattle.def_sessions.specs.OnBytes.{LentFor, AllLeave, events, machine_after, HoldsOnBytes}
use Rattle.def_sessions.specs.Table.{any_key, rows, table}
use Rattle.def_sessions.specs.Claim.{sessions_hold}
use Rattle.def_sessions.specs.Imports.{imports}
use Rattle.def_sessions.specs.ClaimImports.{imports_hold}
use Rattle.law_bytes.specs.Pieces.{All}
use Rattle.law_areas.specs.Lengths.{Lengths}
use Rattle.theory_sessions.specs.Starting.{formatted_tied}
use Rattle.theory_sessions.specs.Playing.{askable}
use Rattle.theory_sessions.specs.Showing.{showable, step_showable, all_showable, machine_shown}

-- What a row must keep to be played on bytes: pages and slots within 01's limits, and calls that a session may ask for.
unfoldable pub playable : Session → Bool
playable s = leb 16 s.pages && (leb s.pages 896 && (leb 64 s.slots && (leb s.slots 16384 && all_showable s.steps (new s.pages s.slots))))

module _ (s : Session) (l : Lent) (z : LentFor s.pages s.slots l) (k : playable s ≡ true) where
  limits : Lengths l s.pages s.slots × (all_showable s.steps (new s.pages s.slots) ≡ true)
  unfolding playable
  limits =
      let steps : Bool = all_showable s.steps (new s.pages s.slots) in
      let (a, bcd) = and_true (leb 16 s.pages) (leb s.pages 896 && (leb 64 s.slots && (leb s.slots 16384 && steps))) k in
      let (b, cd) = and_true (leb s.pages 896) (leb 64 s.slots && (leb s.slots 16384 && steps)) bcd in
      let (c, de) = and_true (leb 64 s.slots) (leb s.slots 16384 && steps) cd in
      let (d, e) = and_true (leb s.slots 16384) steps de in (
        record {
          work_pages = z.work_pages;
          stable_pages = z.stable_pages;
          work_log = z.work_log;
          stable_log = z.stable_log;
          least_pages = true_le 16 s.pages a;
          most_pages = true_le s.pages 896 b;
          least_slots = true_le 64 s.slots c;
          most_slots = true_le s.slots 16384 d;
        },
        e,
      )

-- THE TIE: such a row, played on bytes, shows the machine that it shows on typed areas.
pub machine_same : (s : Session) → playable s ≡ true → (l : Lent) (d : Desk) (left : ℕ → Rubble) → LentFor s.pages s.slots l → AllLeave s.pages s.slots s.steps left
    → machine_after (events left s.steps) (formatted l d) ≡ play s.steps (new s.pages s.slots)
unfolding machine_after new
machine_same s k l d left z h =
    let (y, e) = limits s l z k in
    let (p, q, r) = machine_shown s.pages s.slots left s.steps (formatted l d) (new s.pages s.slots) e h (formatted_tied s.pages s.slots l d y) in
    λ i. record { areas = p i; desk = q i; answers = r i }

pub holds_on_bytes : (s : Session) → playable s ≡ true → comes_true s ≡ true → HoldsOnBytes s
unfolding HoldsOnBytes comes_true
holds_on_bytes s k c l d left z h = ap (shows s) (machine_same s k l d left z h) ∙ c

all_hold : (ss : List Session) → every playable ss ≡ true → every comes_true ss ≡ true → All HoldsOnBytes ss
unfolding every All
all_hold [] k c = tt
all_hold (s ∷ ss) k c =
    let (a, b) = and_true (playable s) (every playable ss) k in
    let (p, q) = and_true (comes_true s) (every comes_true ss) c in
    (holds_on_bytes s a p, all_hold ss b q)

-- ---- the table

rows_playable : every playable rows ≡ true
unfolding every playable all_showable step_showable showable askable request_32 question_32
rows_playable = refl

key_playable : (k : ℕ) → fits_32 k ≡ true → playable (any_key k) ≡ true
unfolding every playable all_showable step_showable showable askable request_32 question_32
key_playable k h = rw h

-- Every row, the first for every key of 32 bits; for any bytes lent, any desk, and anything left by the cuts.
pub sessions_hold_on_bytes : (k : ℕ) → fits_32 k ≡ true → All HoldsOnBytes (table k)
unfolding every
sessions_hold_on_bytes k h = all_hold (table k) (and_both (key_playable k h) rows_playable) (sessions_hold k)

-- ---- registers imported

-- All but the last row, whose loading is cut halfway: no event that demand 3 grants.
abbrev pub whole_imports : List Session
whole_imports = take 13 imports

imports_playable : every playable whole_imports ≡ true
unfolding every playable all_showable step_showable showable askable start_32 request_32 question_32 tab
imports_playable = refl

every_first : {A : Type 0} (f : A → Bool) (j : ℕ) (xs : List A) → every f xs ≡ true → every f (take j xs) ≡ true
unfolding every
every_first f zero xs h = refl
every_first f (suc j) [] h = refl
every_first f (suc j) (x ∷ xs) h = let (a, b) = and_true (f x) (every f xs) h in and_both a (every_first f j xs b)

pub imports_hold_on_bytes : All HoldsOnBytes whole_imports
imports_hold_on_bytes = all_hold whole_imports imports_playable (every_first comes_true 13 imports imports_hold)
