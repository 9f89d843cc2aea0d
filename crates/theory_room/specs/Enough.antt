-- Some room is enough for a restart's work: its records can be counted beforehand.
use Rattle.std.specs.Prelude.{ℕ, suc, ◌+◌, ◌≤◌, ◌<◌, ◌≡◌, refl, ◌≢◌, [], ◌∷◌, length}
use Rattle.std.proofs.Common.{arith}
use Rattle.std.proofs.Math.ListN.{length-append}
use Rattle.def_layout.specs.Pages.{at}
use Rattle.def_layout.specs.Records.{Kind, Rec}
use Rattle.def_model.specs.Update.{Run, stopped, logged, emit, emit_taking, raise_root, put_record, remove_record}
use Rattle.def_model.specs.Batches.{open_batches, pending_count}
use Rattle.def_model.specs.Undo.{mark_all, end_idle}
use Rattle.def_model.specs.Restart.{settle}
use Rattle.def_recovery.specs.Demand3.{with_room}
use Rattle.theory_room.specs.Counted.{Counted, count_raise, count_put, count_remove}
use Rattle.theory_room.specs.CountedUndo.{Updates, rounds, count_mark_all, count_end_idle, count_undo_all}
use Rattle.theory_room.specs.Emitting.{emit_cases, taking_cases}
use Rattle.theory_room.specs.Reasons.{Reason, goes_on, room_short, page_short, settle_reason}
use Rattle.theory_room.specs.LowLevels.{Low, low_redo_record}
use Rattle.theory_room.specs.OpenFew.{length_open_batches}

-- A run that has written at most n records since it had a log of `first` records and room for `lent` more.
pub record Near (first lent n : ℕ) (s : Run) : Type 0 where
  pub logged : length s.log ≤ first + n
  pub near : lent ≤ s.room + n
  pub low : Low s.pages

-- No update writes more: 7 records in each of 15 levels, a raise and the update's own.
abbrev pub most_records : ℕ
most_records = 107

module _ (first lent : ℕ) where
  near_more : (n m : ℕ) (s : Run) → n ≤ m → Near first lent n s → Near first lent m s
  near_more n m s h k = let l = k.logged in let e = k.near in record { logged = omega arith; near = omega arith; low = k.low }

  near_logged : (n : ℕ) (r : Rec) (s : Run) → Near first lent n s → Near first lent (suc n) (logged r s)
  unfolding logged
  near_logged n r s k =
      let e = length-append s.log (r ∷ []) in
      let d = k.logged in
      let h = k.near in
      record { logged = omega arith; near = omega arith; low = low_redo_record s.due r s.pages k.low }

  near_stopped : (n m : ℕ) (s : Run) → Near first lent n s → Near first lent n (stopped m s)
  near_stopped n m s k = record { logged = k.logged; near = k.near; low = k.low }

  near_later : (n : ℕ) (s : Run) → Near first lent n s → Near first lent (suc n) s
  near_later n s k = near_more n (suc n) s (omega arith) k

  near_emit : (n : ℕ) (r : Rec) (s : Run) → Near first lent n s → Near first lent (suc n) (emit r s)
  near_emit n r s k =
      emit_cases (Near first lent (suc n)) r s (λ z. near_later n s k) (λ z d. near_logged n r s k) (λ z d. near_stopped (suc n) 17 s (near_later n s k))

  near_taking : (n : ℕ) (f : ℕ → Rec) (p : ℕ) (s : Run) → Near first lent n s → Near first lent (suc n) (emit_taking f p s)
  near_taking n f p s k = taking_cases (Near first lent (suc n)) f p s (near_emit n _ s k) (λ z d. near_stopped (suc n) 18 s (near_later n s k))

  near_records : Counted (Near first lent)
  near_records = record { emits = near_emit; takes = near_taking; later = near_later }

  near_level : (n : ℕ) (s : Run) → Near first lent n s → (at (raise_root s).pages 1).level < 16
  near_level n s k = (count_raise (Near first lent) near_records n s k).low 1

  near_put : (n : ℕ) (kind : Kind) (batch previous key v : ℕ) (s : Run) → Near first lent n s → Near first lent (most_records + n) (put_record kind batch previous key v s)
  near_put n kind batch previous key v s k =
      let l = near_level n s k in
      near_more _ (most_records + n) _ (omega arith) (count_put (Near first lent) near_records n kind batch previous key v s k)

  near_remove : (n : ℕ) (kind : Kind) (batch previous key v : ℕ) (s : Run) → Near first lent n s → Near first lent (most_records + n) (remove_record kind batch previous key v s)
  near_remove n kind batch previous key v s k =
      let l = near_level n s k in
      near_more _ (most_records + n) _ (omega arith) (count_remove (Near first lent) near_records n kind batch previous key v s k)

  near_updates : Updates (Near first lent) most_records
  near_updates = record { records = near_records; puts = near_put; removes = near_remove }

-- ---- a restart's work

-- So much room is enough: for a mark for each open batch, an end for each batch open after that (no more than there are records), an undo
-- and an end for each pending update, and one more. The room itself has no part in it.
unfoldable pub room_enough : Run → ℕ
room_enough s = let opened = length (open_batches s.log) in suc (rounds (pending_count (open_batches s.log)) most_records (length s.log + opened + opened))

pub settle_near : (s : Run) → Low s.pages → s.room < (settle s).room + room_enough s
unfolding settle room_enough
settle_near s h =
    let first = length s.log in
    let lent = s.room in
    let opened = length (open_batches s.log) in
    let start : Near first lent 0 s = record { logged = omega arith; near = omega arith; low = h } in
    let t = mark_all (open_batches s.log) s in
    let u = end_idle (open_batches t.log) t in
    let marked : Near first lent (opened + 0) t = count_mark_all (Near first lent) most_records (near_updates first lent) (open_batches s.log) 0 s start in
    let few = length_open_batches t.log in
    let g = marked.logged in
    let idle = count_end_idle (Near first lent) most_records (near_updates first lent) (open_batches t.log) (opened + 0) t marked in
    let ready : Near first lent (first + opened + opened) u = near_more first lent _ (first + opened + opened) u (omega arith) idle in
    let undone = (count_undo_all (Near first lent) most_records (near_updates first lent) (pending_count (open_batches s.log)) (open_batches u.log) (first + opened + opened) u ready).near in
    omega arith

enough_with_room : (n : ℕ) (s : Run) → room_enough (with_room n s) ≡ room_enough s
unfolding room_enough
enough_with_room n s = refl

-- With so much room it never meets 17.
pub some_room_does : (s : Run) → s.stop ≡ 0 → Low s.pages → (n : ℕ) × ((settle (with_room n s)).stop ≢ 17)
some_room_does s z h = (room_enough s, λ e. by_reason e (settle_reason t z))
  where
    t : Run
    t = with_room (room_enough s) s

    by_reason : (settle t).stop ≡ 17 → Reason (settle t) → ⊥
    by_reason e (goes_on r) = omega arith
    by_reason e (room_short r l) =
        let k = settle_near t h in
        let c = enough_with_room (room_enough s) s in
        omega arith
    by_reason e (page_short r l) = omega arith
