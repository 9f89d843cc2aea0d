-- What a restart's work comes to in the room lent, from what it comes to in any other room.
use Rattle.std.specs.Prelude.{ℕ, ◌+◌, ◌-◌, ◌≤◌, ◌<◌, ◌≡◌, refl, ◌⊎◌, length, leb}
use Rattle.std.proofs.Common.{ap, ◌∙◌, inl, inr, arith}
use Rattle.def_base.specs.Tests.{Case, yes!, no!, case, true_le, false_le}
use Rattle.def_model.specs.Update.{Run}
use Rattle.def_model.specs.Restart.{settle}
use Rattle.def_recovery.specs.Demand3.{with_room}
use Rattle.theory_room.specs.Reasons.{Reason, goes_on, room_short, page_short, settle_reason, settle_within, settle_longer}
use Rattle.theory_room.specs.Twins.{Past, Twins, same, parted}
use Rattle.theory_room.specs.TwinsSettle.{twins_settle}

-- The run s in the room lent, and the run t in another room: both come to the same, or the one with less stops with 17. (Of logs of `lent`
-- records at most, those lent to s.)
pub data Compared (lent : ℕ) (s t : Run) : Type 0 where
  agree : s.stop ≡ t.stop → s.log ≡ t.log → Compared lent s t
  too_little : t.stop ≡ 17 → Compared lent s t
  too_much : s.stop ≡ 17 → Past lent t → Compared lent s t

pub settle_compared : (n : ℕ) (s : Run) → Compared (length s.log + s.room) (settle s) (settle (with_room n s))
settle_compared n s = go (case (leb n s.room))
  where
    less : {a b : Run} → Twins (length s.log + n) a b → Compared (length s.log + s.room) b a
    less (same t a) = agree refl refl
    less (parted x y) = too_little x

    more : {a b : Run} → Twins (length s.log + s.room) a b → Compared (length s.log + s.room) a b
    more (same t a) = agree refl refl
    more (parted x y) = too_much x y

    go : Case (leb n s.room) → Compared (length s.log + s.room) (settle s) (settle (with_room n s))
    go (yes! e) = less (twins_settle n s (true_le _ _ e))
    go (no! e) = let h : s.room < n = false_le _ _ e in more (twins_settle s.room (with_room n s) (omega arith))

-- Of a run that goes on: how many records its work writes in another room, and its own room.
module _ (s : Run) (start : s.stop ≡ 0) where
  pub finishes : (n : ℕ) → (settle (with_room n s)).stop ≡ 0 → length (settle (with_room n s)).log - length s.log ≤ s.room → (settle s).stop ≡ 0
  finishes n z h = go (settle_compared n s)
    where
      never : Past (length s.log + s.room) (settle (with_room n s)) → (length s.log + s.room < length (settle (with_room n s)).log) ⊎ ((settle (with_room n s)).stop ≡ 18) → ⊥
      never p (inl l) = omega arith
      never p (inr e) = omega arith

      go : Compared (length s.log + s.room) (settle s) (settle (with_room n s)) → (settle s).stop ≡ 0
      go (agree e l) = e ∙ z
      go (too_little e) = absurd (omega arith)
      go (too_much e p) = absurd (never p p.beyond)

  pub wants_room : (n : ℕ) → (settle (with_room n s)).stop ≡ 0 → s.room < length (settle (with_room n s)).log - length s.log → (settle s).stop ≡ 17
  wants_room n z h = go (settle_compared n s)
    where
      go : Compared (length s.log + s.room) (settle s) (settle (with_room n s)) → (settle s).stop ≡ 17
      go (agree e l) = let w = settle_within _ s refl in let k = ap length l in absurd (omega arith)
      go (too_little e) = absurd (omega arith)
      go (too_much e p) = e

  pub wants_pages : (n : ℕ) → (settle (with_room n s)).stop ≡ 18 → length (settle (with_room n s)).log - length s.log < s.room → (settle s).stop ≡ 18
  wants_pages n z h = go (settle_compared n s)
    where
      go : Compared (length s.log + s.room) (settle s) (settle (with_room n s)) → (settle s).stop ≡ 18
      go (agree e l) = e ∙ z
      go (too_little e) = absurd (omega arith)
      go (too_much e p) = let r = p.reached in absurd (omega arith)

  pub wants_room_first : (n : ℕ) → (settle (with_room n s)).stop ≡ 18 → s.room ≤ length (settle (with_room n s)).log - length s.log → (settle s).stop ≡ 17
  wants_room_first n z h = go (settle_compared n s)
    where
      full : length (settle s).log ≡ length (settle (with_room n s)).log → (settle s).stop ≡ 18 → Reason (settle s) → ⊥
      full k e (goes_on r) = omega arith
      full k e (room_short r d) = omega arith
      full k e (page_short r d) = let w = settle_within _ s refl in let g = settle_longer s in omega arith

      go : Compared (length s.log + s.room) (settle s) (settle (with_room n s)) → (settle s).stop ≡ 17
      go (agree e l) = absurd (full (ap length l) (e ∙ z) (settle_reason s start))
      go (too_little e) = absurd (omega arith)
      go (too_much e p) = e
