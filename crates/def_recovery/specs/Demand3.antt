-- DEMAND 3, as one type. "Assume each store whole or absent, none there without all those before it, a finished call's all there": a call's
-- stores are a list, of which a cut leaves a first part. Everything named here stands in 01's own definitions, in Events or in Book.
use Rattle.std.specs.Prelude.{ℕ, ◌-◌, ◌*◌, ◌≤◌, ◌<◌, ◌≡◌, ◌≢◌, ◌⊎◌, Bool, true, ◌&&◌, List, ◌∷◌, ◌++◌, length, eqb}
use Rattle.def_base.specs.Tests.{any}
use Rattle.def_layout.specs.declared.Desk.{Desk}
use Rattle.def_layout.specs.Records.{Rec, commit, kind_number}
use Rattle.def_model.specs.Answers.{answer_numbers, passed}
use Rattle.def_model.specs.Log.{slots_used}
use Rattle.def_model.specs.TreeRules.{tree_ok, leaf_records, free_pages}
use Rattle.def_model.specs.Update.{Run}
use Rattle.def_model.specs.Batches.{Batch, open_batches, pending_count}
use Rattle.def_model.specs.Sound.{reserve, reserves_ok}
use Rattle.def_model.specs.Areas.{Areas, pages_of}
use Rattle.def_model.specs.Restart.{stable_log, stable_slots, redone, redone_pages, settle}
use Rattle.def_model.specs.CallNames
use Rattle.def_model.specs.OnBytes.{Start, start, call, Lent, restart, lengths_ok, read_areas, read_work}
use Rattle.def_recovery.specs.Events.{World, Event, ended, result, passes, happen_all, of_32_bits, AllAllowed, started}

-- ---- the further restart, "given right lengths and not cut"

abbrev pub stored : World → Areas
stored w = read_areas w.lent

-- What it answers: 0, or the refusal.
abbrev pub reason : World → ℕ
reason w = (answer_numbers (result restart w).answer).reason

-- "finishes or stops for want of places (17, 18) and never calls the stored image damaged (3 to 6)"
abbrev pub FinishesOrWants : World → Type 0
FinishesOrWants w = (reason w ≡ 0) ⊎ ((reason w ≡ 17) ⊎ (reason w ≡ 18))

-- "redo alone gives a tree balanced by the tree rules"
abbrev pub RedoBalances : World → Type 0
RedoBalances w = tree_ok (redone_pages (stored w)) ≡ true

-- "where it finishes, the records in the leaves are exactly the plain book's slides (01), keys and values"
abbrev pub LeavesAreSlides : World → Type 0
LeavesAreSlides w = reason w ≡ 0 → leaf_records (pages_of (read_work (result restart w).work_pages)) ≡ w.book.slides

-- ---- reported commits

-- A commit record of batch n is stored.
unfoldable pub is_commit_of : ℕ → Rec → Bool
is_commit_of n r = eqb (kind_number r.kind) (kind_number commit) && eqb r.batch n

abbrev pub commit_stored : ℕ → World → Bool
commit_stored n w = any (is_commit_of n) (stable_log (stored w))

-- "those left by the cases whose commit record was stored. A case whose commit was reported is always among them."
abbrev pub ReportedIsStored : List Event → World → Type 0
ReportedIsStored es w =
    (before later : List Event) (n : ℕ) → es ≡ before ++ ended (CallNames.commit n) ∷ later → passes (CallNames.commit n) (happen_all before w) ≡ true
    → commit_stored n (happen_all es w) ≡ true

-- ---- want of places

-- The same restart, had it room for so many records.
abbrev pub with_room : ℕ → Run → Run
with_room n s = record { pages = s.pages; lefts = s.lefts; log = s.log; due = s.due; room = n; stop = s.stop }

abbrev pub settled : ℕ → World → Run
settled n w = settle (with_room n (redone (stored w)))

-- How many records that settling writes.
abbrev pub written : ℕ → World → ℕ
written n w = length (settled n w).log - length (stable_log (stored w))

-- The slots that are free.
abbrev pub room_lent : World → ℕ
room_lent w = stable_slots (stored w) - slots_used (stable_log (stored w))

-- "Restart stops for want of places exactly when its written rules need more than were lent." Given room for n records, so much that room
-- is not short, its rules write the last `written n` records of `settled n`, and either end there or come to a split or raise with no free
-- page (18). It finishes exactly where those records fit the room lent; it answers 18 exactly where they and the one due then fit, else 17.
pub record WantsExactly (w : World) : Type 0 where
  pub finishes : (n : ℕ) → (settled n w).stop ≡ 0 → written n w ≤ room_lent w → reason w ≡ 0
  pub wants_room : (n : ℕ) → (settled n w).stop ≡ 0 → room_lent w < written n w → reason w ≡ 17
  pub wants_pages : (n : ℕ) → (settled n w).stop ≡ 18 → written n w < room_lent w → reason w ≡ 18
  pub wants_room_first : (n : ℕ) → (settled n w).stop ≡ 18 → room_lent w ≤ written n w → reason w ≡ 17
  pub some_room_does : (n : ℕ) × ((settled n w).stop ≢ 17)

-- ---- enough places

-- The batches that the stored log leaves open.
abbrev pub left_open : World → List Batch
left_open w = open_batches (stable_log (stored w))

-- 01's reserves, of what is stored, with its pages redone: "u + 32p + 2b at most the slots and at least 7p free pages".
abbrev pub reserved : World → Bool
reserved w = reserves_ok (stable_slots (stored w)) (redone_pages (stored w)) (stable_log (stored w)) (left_open w)

-- ENOUGH IS ENOUGH, of slots and of pages alike. With the reserves restart finishes; with the pages of the reserves its rules end within the
-- slots of the reserves; and whatever the room, it stops only where its next record (17) or page (18) does not exist.
pub record Suffices (w : World) : Type 0 where
  pub finishes : reserved w ≡ true → reason w ≡ 0
  pub ends : 7 * pending_count (left_open w) ≤ free_pages (redone_pages (stored w)) → (settled (reserve (pending_count (left_open w)) (length (left_open w))) w).stop ≡ 0
  pub no_room_left : (n : ℕ) → (settled n w).stop ≡ 17 → (settled n w).room ≡ 0
  pub no_page_left : (n : ℕ) → (settled n w).stop ≡ 18 → free_pages (settled n w).pages ≡ 0

-- ---- the whole

pub record Recovers (es : List Event) (w : World) : Type 0 where
  pub answers : lengths_ok (happen_all es w).lent ≡ true → FinishesOrWants (happen_all es w)
  pub balances : lengths_ok (happen_all es w).lent ≡ true → RedoBalances (happen_all es w)
  pub leaves : lengths_ok (happen_all es w).lent ≡ true → LeavesAreSlides (happen_all es w)
  pub reported : lengths_ok (happen_all es w).lent ≡ true → ReportedIsStored es w
  pub wants : lengths_ok (happen_all es w).lent ≡ true → WantsExactly (happen_all es w)
  pub suffices : lengths_ok (happen_all es w).lent ≡ true → Suffices (happen_all es w)

-- For any list of calls, cuts and growth since the last finished formatting. 02, U3: "starts from a loaded register as well as from an empty one".
unfoldable pub Demand3 : Type 0
Demand3 =
    (s : Start) (l : Lent) (d : Desk) → of_32_bits (start s) ≡ true → passed (call (start s) l d).answer ≡ true → (es : List Event) → AllAllowed es (started s l d) → Recovers es (started s l d)
