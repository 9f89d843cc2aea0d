-- Why a run stops: it goes on (0), or there is no room for its next record (17), or there is and the page that it takes does not exist (18).
-- What it logs is taken off its room.
use Rattle.std.specs.Prelude.{ℕ, ◌+◌, ◌≤◌, ◌<◌, ◌≡◌, refl, ◌⊎◌, [], ◌∷◌, length}
use Rattle.std.proofs.Common.{inl, inr}
use native.Mathlib.Omega.{arith}
use Rattle.std.proofs.Math.ListN.{length-append}
use Rattle.def_layout.specs.Records.{Rec}
use Rattle.def_model.specs.Update.{Run, logged, emit, emit_taking}
use Rattle.def_model.specs.Restart.{settle}
use Rattle.theory_room.specs.Emitting.{emit_cases, taking_cases}
use Rattle.theory_room.specs.CountedUndo.{keep_settle}

-- ---- the reason

pub data Reason (s : Run) : Type 0 where
  goes_on : s.stop ≡ 0 → Reason s
  room_short : s.stop ≡ 17 → s.room ≡ 0 → Reason s
  page_short : s.stop ≡ 18 → 0 < s.room → Reason s

pub reason_emit : (r : Rec) (s : Run) → Reason s → Reason (emit r s)
unfolding logged
reason_emit r s h = emit_cases Reason r s (λ z. h) (λ z d. goes_on refl) (λ z d. room_short refl d)

pub reason_taking : (f : ℕ → Rec) (near : ℕ) (s : Run) → Reason s → Reason (emit_taking f near s)
reason_taking f near s h = taking_cases Reason f near s (reason_emit _ s h) (λ z d. page_short refl d)

pub settle_reason : (s : Run) → s.stop ≡ 0 → Reason (settle s)
settle_reason s z = keep_settle Reason reason_emit reason_taking s (goes_on z)

-- A restart's work ends with no reason to stop, or with one of the two.
pub stop_cases : (s : Run) → s.stop ≡ 0 → ((settle s).stop ≡ 0) ⊎ (((settle s).stop ≡ 17) ⊎ ((settle s).stop ≡ 18))
stop_cases s z = by_reason (settle_reason s z)
  where
    by_reason : Reason (settle s) → ((settle s).stop ≡ 0) ⊎ (((settle s).stop ≡ 17) ⊎ ((settle s).stop ≡ 18))
    by_reason (goes_on e) = inl e
    by_reason (room_short e d) = inr (inl e)
    by_reason (page_short e d) = inr (inr e)

-- ---- room

-- The log and the room left come to m records.
abbrev pub Within : ℕ → Run → Type 0
Within m s = length s.log + s.room ≡ m

module _ (m : ℕ) where
  logged_within : (r : Rec) (s : Run) → 0 < s.room → Within m s → Within m (logged r s)
  unfolding logged
  logged_within r s h w = let e = length-append s.log (r ∷ []) in omega arith

  pub emit_within : (r : Rec) (s : Run) → Within m s → Within m (emit r s)
  emit_within r s w = emit_cases (Within m) r s (λ z. w) (λ z h. logged_within r s h w) (λ z h. w)

  taking_within : (f : ℕ → Rec) (near : ℕ) (s : Run) → Within m s → Within m (emit_taking f near s)
  taking_within f near s w = taking_cases (Within m) f near s (emit_within _ s w) (λ z h. w)

  -- A restart's work too takes what it logs off its room.
  pub settle_within : (s : Run) → Within m s → Within m (settle s)
  settle_within s w = keep_settle (Within m) emit_within taking_within s w

-- ---- the log only grows

abbrev Longer : ℕ → Run → Type 0
Longer first s = first ≤ length s.log

module _ (first : ℕ) where
  logged_longer : (r : Rec) (s : Run) → Longer first s → Longer first (logged r s)
  unfolding logged
  logged_longer r s l = let e = length-append s.log (r ∷ []) in omega arith

  emit_longer : (r : Rec) (s : Run) → Longer first s → Longer first (emit r s)
  emit_longer r s l = emit_cases (Longer first) r s (λ z. l) (λ z h. logged_longer r s l) (λ z h. l)

  taking_longer : (f : ℕ → Rec) (near : ℕ) (s : Run) → Longer first s → Longer first (emit_taking f near s)
  taking_longer f near s l = taking_cases (Longer first) f near s (emit_longer _ s l) (λ z h. l)

pub settle_longer : (s : Run) → length s.log ≤ length (settle s).log
settle_longer s = keep_settle (Longer (length s.log)) (emit_longer _) (taking_longer _) s (omega arith)
