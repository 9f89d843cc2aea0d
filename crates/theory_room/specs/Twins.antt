-- Two runs that differ in their room alone: they write the same records until the one with less has no room for its next.
use Rattle.std.specs.Prelude.{ℕ, ◌+◌, ◌-◌, ◌≤◌, ◌<◌, ◌≡◌, refl, ◌⊎◌, Bool, ◌&&◌, [], ◌∷◌, ◌++◌, ltb}
use Rattle.std.proofs.Math.Path.{subst}
use Rattle.std.proofs.Math.Logic.{inl}
use Rattle.std.proofs.Common.{inr}
use Rattle.std.proofs.Math.Bool.{true, false}
use native.Mathlib.Omega.{arith}
use Rattle.std.proofs.Math.ListN.{length, length-append}
use Rattle.std.proofs.Math.Dec.{eqb}
use Rattle.def_base.specs.Tests.{Case, yes!, no!, case, lt_true, true_lt, false_lt}
use Rattle.def_layout.specs.Records.{Rec}
use Rattle.def_model.specs.Update.{Run, At, Pair, going, stopped, logged, emit, fresh, taking_by, emit_taking}
use Rattle.def_recovery.specs.Demand3.{with_room}
use Rattle.theory_room.specs.Counted.{Counted}
use Rattle.theory_room.specs.CountedUndo.{Updates, kept_records, kept_updates}
use Rattle.theory_room.specs.Emitting.{emit_stopped, emit_cases, taking_cases}

-- ---- the run with less room has stopped

abbrev pub Short : Run → Type 0
Short s = s.stop ≡ 17

pub short_emit : (r : Rec) (s : Run) → Short s → Short (emit r s)
short_emit r s e = rw (emit_stopped r s (omega arith)) e

pub short_taking : (f : ℕ → Rec) (near : ℕ) (s : Run) → Short s → Short (emit_taking f near s)
short_taking f near s e = taking_cases Short f near s (short_emit _ s e) (λ z d. absurd (omega arith))

pub short_records : Counted (λ n s. Short s)
short_records = kept_records Short short_emit short_taking

pub short_updates : Updates (λ n s. Short s) 0
short_updates = kept_updates Short short_emit short_taking

-- ---- the other's log has all of its m records, and one more or none for want of a page

pub record Past (m : ℕ) (t : Run) : Type 0 where
  pub reached : m ≤ length t.log
  pub beyond : (m < length t.log) ⊎ (t.stop ≡ 18)

module _ (m : ℕ) where
  past_logged : (r : Rec) (t : Run) → Past m t → Past m (logged r t)
  unfolding logged
  past_logged r t h = let e = length-append t.log (r ∷ []) in record { reached = omega arith; beyond = inl (omega arith) }

  past_stopped : (n : ℕ) (t : Run) → t.stop ≡ 0 → Past m t → Past m (stopped n t)
  past_stopped n t z h = record { reached = h.reached; beyond = go h.beyond }
    where
      go : (m < length t.log) ⊎ (t.stop ≡ 18) → (m < length t.log) ⊎ (n ≡ 18)
      go (inl l) = inl l
      go (inr e) = absurd (omega arith)

  pub past_emit : (r : Rec) (t : Run) → Past m t → Past m (emit r t)
  past_emit r t h = emit_cases (Past m) r t (λ z. h) (λ z d. past_logged r t h) (λ z d. past_stopped 17 t z h)

  pub past_taking : (f : ℕ → Rec) (near : ℕ) (t : Run) → Past m t → Past m (emit_taking f near t)
  past_taking f near t h = taking_cases (Past m) f near t (past_emit _ t h) (λ z d. past_stopped 18 t z h)

  pub past_records : Counted (λ n t. Past m t)
  past_records = kept_records (Past m) past_emit past_taking

  pub past_updates : Updates (λ n t. Past m t) 0
  past_updates = kept_updates (Past m) past_emit past_taking

-- ---- both

-- A run with room for a log of m records or more.
pub record Ample (m : ℕ) (t : Run) : Type 0 where
  pub fits : length t.log ≤ m
  pub wide : m ≤ length t.log + t.room

-- The same run with room for a log of m records and no more.
abbrev pub twin : ℕ → Run → Run
twin m t = with_room (m - length t.log) t

-- The run with room for a log of m records, and the run with more.
pub data Twins (m : ℕ) : Run → Run → Type 0 where
  same : (t : Run) → Ample m t → Twins m (twin m t) t
  parted : {s t : Run} → Short s → Past m t → Twins m s t

-- With the pages that they have come to, as far as that matters.
pub data TwinsAt (m : ℕ) : At → At → Type 0 where
  same_at : (t : Run) (p : ℕ) → Ample m t → TwinsAt m (record { run = twin m t; page = p }) (record { run = t; page = p })
  parted_at : {a b : At} → Short a.run → Past m b.run → TwinsAt m a b

pub data TwinsPair (m : ℕ) : Pair → Pair → Type 0 where
  same_pair : (t : Run) (p q : ℕ) → Ample m t → TwinsPair m (record { run = twin m t; parent = p; child = q }) (record { run = t; parent = p; child = q })
  parted_pair : {a b : Pair} → Short a.run → Past m b.run → TwinsPair m a b

-- ---- one record

module _ (m : ℕ) where
  ample_logged : (r : Rec) (t : Run) → Ample m t → 0 < m - length t.log → Ample m (logged r t)
  unfolding logged
  ample_logged r t a h = let e = length-append t.log (r ∷ []) in let w = a.wide in record { fits = omega arith; wide = omega arith }

  past_full : (r : Rec) (t : Run) → m - length t.log ≡ 0 → Past m (logged r t)
  unfolding logged
  past_full r t h = let e = length-append t.log (r ∷ []) in record { reached = omega arith; beyond = inl (omega arith) }

  same_logged : (r : Rec) (t : Run) → Ample m t → 0 < m - length t.log → Twins m (logged r (twin m t)) (logged r t)
  unfolding logged
  same_logged r t a h =
      let e = length-append t.log (r ∷ []) in
      let k : m - length (t.log ++ r ∷ []) ≡ m - length t.log - 1 = omega arith in
      subst (λ x. Twins m (with_room x (logged r t)) (logged r t)) k (same (logged r t) (ample_logged r t a h))

  same_stopped : (n : ℕ) (t : Run) → Ample m t → Twins m (stopped n (twin m t)) (stopped n t)
  same_stopped n t a = same (stopped n t) (record { fits = a.fits; wide = a.wide })

  pub twins_emit : (r : Rec) (t : Run) → Ample m t → Twins m (emit r (twin m t)) (emit r t)
  twins_emit r t a =
      emit_cases (λ s. Twins m s (emit r t)) r (twin m t)
      (λ n. rw (emit_stopped r t n) (same t a))
      (λ z d. emit_cases (λ u. Twins m (logged r (twin m t)) u) r t (λ n. absurd (n z)) (λ y e. same_logged r t a d) (λ y e. let w = a.wide in absurd (omega arith)))
      (λ z d. emit_cases (λ u. Twins m (stopped 17 (twin m t)) u) r t (λ n. absurd (n z)) (λ y e. parted refl (past_full r t d)) (λ y e. same_stopped 17 t a))

  -- A record that takes a page.
  taking_same : (b : Bool) (r : Rec) (t : Run) → Ample m t → Twins m (taking_by b r (twin m t)) (taking_by b r t)
  unfolding taking_by
  taking_same true r t a = same_stopped 18 t a
  taking_same false r t a = twins_emit r t a

  taking_short : (r : Rec) (t : Run) → t.stop ≡ 0 → m - length t.log ≡ 0 → Twins m (emit r (twin m t)) (stopped 18 t)
  taking_short r t z h =
      emit_cases (λ s. Twins m s (stopped 18 t)) r (twin m t) (λ n. absurd (n z)) (λ y d. absurd (omega arith))
      (λ y d. parted refl (record { reached = omega arith; beyond = inr refl }))

  pub twins_taking : (f : ℕ → Rec) (near : ℕ) (t : Run) → Ample m t → Twins m (emit_taking f near (twin m t)) (emit_taking f near t)
  unfolding emit_taking
  twins_taking f near t a = go (case (ltb 0 (m - length t.log)))
    where
      go : Case (ltb 0 (m - length t.log)) → Twins m (emit_taking f near (twin m t)) (emit_taking f near t)
      go (yes! e) =
          let w = a.wide in
          let h : 0 < m - length t.log = true_lt _ _ e in
          rw (e, lt_true 0 t.room (omega arith)) (taking_same (going t && true && eqb (fresh t.pages near) 0) (f (fresh t.pages near)) t a)
      go (no! e) =
          let l = false_lt 0 (m - length t.log) e in
          let h : m - length t.log ≡ 0 = omega arith in
          taking_cases (λ s. Twins m s (emit_taking f near t)) f near (twin m t)
          (taking_cases (λ u. Twins m (emit (f (fresh t.pages near)) (twin m t)) u) f near t (twins_emit _ t a) (λ z d. taking_short _ t z h))
          (λ z d. absurd (omega arith))
