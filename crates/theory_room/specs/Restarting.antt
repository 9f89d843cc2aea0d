-- A restart in the room lent, and the same restart had it another room.
use Rattle.std.specs.Prelude.{ℕ, zero, suc, ◌+◌, ◌-◌, ◌/◌, ◌≤◌, ◌<◌, ◌≡◌, ◌≢◌, ◌⊎◌, Bool, true, false, List, [], ◌∷◌, map, length}
use Rattle.std.proofs.Math.Path.{refl}
use native.Mathlib.Omega.{arith}
use Rattle.def_layout.specs.PageBytes.{page_fields, block_by, read_block}
use Rattle.def_layout.specs.Sizes.{page_size}
use Rattle.def_layout.specs.RecordBytes.{Slot, empty, full, other}
use Rattle.def_model.specs.Log.{records_of}
use Rattle.def_model.specs.Areas.{Areas, page_in, pages_of}
use Rattle.def_model.specs.Restart.{stable_pages, stable_log, stable_slots, redone_pages, redone, settle, restarted}
use Rattle.def_model.specs.OnBytes.{Lent, parts, read_pages, read_areas}
use Rattle.def_recovery.specs.Demand3.{with_room}
use Rattle.theory_room.specs.LowLevels.{Low, low_replay}
use Rattle.theory_room.specs.Reasons
use Rattle.theory_room.specs.Wants
use Rattle.theory_room.specs.Enough

-- ---- redo alone is where it starts

pub redone_going : (a : Areas) → (redone a).stop ≡ 0
unfolding redone
redone_going a = refl

pub length_records_of : (l : List Slot) → length (records_of l) ≤ length l
unfolding records_of
length_records_of [] = omega arith
length_records_of (empty ∷ l) = omega arith
length_records_of (full n r ∷ l) = let h = length_records_of l in omega arith
length_records_of (other b ∷ l) = omega arith

redone_within : (a : Areas) → length (redone a).log + (redone a).room ≤ stable_slots a
unfolding redone
redone_within a = let l = length_records_of a.stable.log in omega arith

pub redone_low : (a : Areas) → Low (stable_pages a) → Low (redone a).pages
unfolding redone redone_pages
redone_low a h = low_replay 1 (stable_log a) (stable_pages a) h

-- ---- why it stops

module _ (a : Areas) where
  pub restarted_cases : ((restarted a).stop ≡ 0) ⊎ (((restarted a).stop ≡ 17) ⊎ ((restarted a).stop ≡ 18))
  unfolding restarted
  restarted_cases = Reasons.stop_cases (redone a) (redone_going a)

  pub restarted_within : length (restarted a).log ≤ length a.stable.log
  unfolding restarted
  restarted_within = let w = Reasons.settle_within _ (redone a) refl in let h = redone_within a in omega arith

  -- ---- "exactly when its written rules need more than were lent"

  pub restarted_finishes : (n : ℕ) → (settle (with_room n (redone a))).stop ≡ 0 → length (settle (with_room n (redone a))).log - length (stable_log a) ≤ (redone a).room → (restarted a).stop ≡ 0
  unfolding restarted redone
  restarted_finishes = Wants.finishes (redone a) (redone_going a)

  pub restarted_wants_room : (n : ℕ) → (settle (with_room n (redone a))).stop ≡ 0 → (redone a).room < length (settle (with_room n (redone a))).log - length (stable_log a) → (restarted a).stop ≡ 17
  unfolding restarted redone
  restarted_wants_room = Wants.wants_room (redone a) (redone_going a)

  pub restarted_wants_pages : (n : ℕ) → (settle (with_room n (redone a))).stop ≡ 18 → length (settle (with_room n (redone a))).log - length (stable_log a) < (redone a).room → (restarted a).stop ≡ 18
  unfolding restarted redone
  restarted_wants_pages = Wants.wants_pages (redone a) (redone_going a)

  pub restarted_wants_room_first : (n : ℕ) → (settle (with_room n (redone a))).stop ≡ 18 → (redone a).room ≤ length (settle (with_room n (redone a))).log - length (stable_log a) → (restarted a).stop ≡ 17
  unfolding restarted redone
  restarted_wants_room_first = Wants.wants_room_first (redone a) (redone_going a)

  pub redone_some_room_does : Low (stable_pages a) → (n : ℕ) × ((settle (with_room n (redone a))).stop ≢ 17)
  redone_some_room_does h = Enough.some_room_does (redone a) (redone_going a) (redone_low a h)

  -- With 17 there is no room.
  pub redone_no_room : (n : ℕ) → (settle (with_room n (redone a))).stop ≡ 17 → (settle (with_room n (redone a))).room ≡ 0
  redone_no_room n e = by_reason (Reasons.settle_reason (with_room n (redone a)) (redone_going a))
    where
      by_reason : Reasons.Reason (settle (with_room n (redone a))) → (settle (with_room n (redone a))).room ≡ 0
      by_reason (Reasons.goes_on r) = absurd (omega arith)
      by_reason (Reasons.room_short r d) = d
      by_reason (Reasons.page_short r d) = absurd (omega arith)

-- ---- bytes: a page that is read has a level below 16, for it has four bits

low_fields : (b : List ℕ) → (page_fields b).level < 16
unfolding page_fields
low_fields b = omega arith

low_block_by : (t : Bool) (b : List ℕ) → (page_in (block_by t b)).level < 16
unfolding block_by page_in
low_block_by true b = low_fields b
low_block_by false b = omega arith

low_block : (b : List ℕ) → (page_in (read_block b)).level < 16
unfolding read_block
low_block b = low_block_by _ b

pub low_read_blocks : (bs : List (List ℕ)) → Low (pages_of (map read_block bs))
low_read_blocks [] p = omega arith
low_read_blocks (b ∷ bs) zero = low_block b
low_read_blocks (b ∷ bs) (suc p) = low_read_blocks bs p

pub low_read_pages : (b : List ℕ) → Low (pages_of (read_pages b))
unfolding read_pages
low_read_pages b = low_read_blocks (parts (length b / page_size) page_size b)

pub low_stable : (l : Lent) → Low (stable_pages (read_areas l))
unfolding read_areas
low_stable l = low_read_pages l.stable_pages

pub some_room_does : (l : Lent) → (n : ℕ) × ((settle (with_room n (redone (read_areas l)))).stop ≢ 17)
some_room_does l = redone_some_room_does (read_areas l) (low_stable l)
