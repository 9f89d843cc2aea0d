-- Lawful records one after another, none of them a commit: from a run to a later one, the slides staying.
use Rattle.std.specs.Prelude.{ℕ, ◌≤◌, ◌<◌, ◌≡◌, refl, Bool, true, false, List, [], ◌∷◌, ◌++◌, ltb}
use Rattle.std.proofs.Common.{sym, ap, ◌∙◌, subst, append_assoc, append-nil, arith}
use Rattle.def_base.specs.Tests.{clash, true_eq, eq_true, true_lt}
use Rattle.def_layout.specs.declared.Entry.{Entry}
use Rattle.def_layout.specs.Pages.{map_bits}
use Rattle.def_layout.specs.Records.{Rec}
use Rattle.def_model.specs.Update.{Run, emit, emit_by, logged, going}
use Rattle.theory_update.specs.Run.Way.{written_by}
use Rattle.theory_history.specs.Core.{Core, NextRecord, core_more}

pub data Trail : Run → List Entry → Run → List Entry → Type 0 where
  stay : {s : Run} {sl : List Entry} → Trail s sl s sl
  more : {s t : Run} {sl sl₁ : List Entry} {r : Rec} → Trail s sl t sl₁ → NextRecord t sl₁ r sl₁ → Trail s sl (written_by r t) sl₁

pub trail_append : {s t u : Run} {sl sl₁ sl₂ : List Entry} → Trail s sl t sl₁ → Trail t sl₁ u sl₂ → Trail s sl u sl₂
trail_append p stay = p
trail_append p (more q x) = more (trail_append p q) x

-- What is sound stays so.
pub trail_core : {n : ℕ} {s t : Run} {sl sl₁ : List Entry} → n ≤ map_bits → Trail s sl t sl₁ → Core n s sl → Core n t sl₁
trail_core most stay c = c
trail_core {n} most (more {t = t} {sl₁ = a} {r = r} p x) c = core_more n most t a a r (trail_core most p c) x

-- The log only grows.
pub record Longer (s t : Run) : Type 0 where
  pub recs : List Rec
  pub log : t.log ≡ s.log ++ recs

pub trail_longer : {s t : Run} {sl sl₁ : List Entry} → Trail s sl t sl₁ → Longer s t
trail_longer {s} stay = record { recs = []; log = sym (append-nil s.log) }
trail_longer {s} (more {r = r} p x) =
    let l = trail_longer p in
    record { recs = l.recs ++ r ∷ []; log = ap (◌++ r ∷ []) l.log ∙ append_assoc s.log l.recs (r ∷ []) }

-- ---- a record that was logged

pub record Emitted (r : Rec) (s : Run) : Type 0 where
  pub went : s.stop ≡ 0
  pub fits : 0 < s.room
  pub is : emit r s ≡ written_by r s

-- Where the run goes on after it, it went on before, there was room, and the record is in the log.
pub unstopped_emit : (r : Rec) (s : Run) → (emit r s).stop ≡ 0 → Emitted r s
unfolding emit emit_by logged
unstopped_emit r s z = go (going s) (ltb 0 s.room) refl refl z
  where
    go : (a b : Bool) → going s ≡ a → ltb 0 s.room ≡ b → (emit r s).stop ≡ 0 → Emitted r s
    go true true e f z = record { went = true_eq s.stop 0 e; fits = true_lt 0 s.room f; is = rw (e, f) }
    go true false e f z = let w : ◌≡◌ {A = ℕ} 17 0 = rw (e, f) at z in absurd (omega (arith, w))
    go false b e f z = let w : s.stop ≡ 0 = rw e at z in clash (sym (eq_true s.stop 0 w) ∙ e)

pub trail_emit : (r : Rec) (s : Run) (sl : List Entry) → NextRecord s sl r sl → (emit r s).stop ≡ 0 → Trail s sl (emit r s) sl
trail_emit r s sl x z = subst (λ t. Trail s sl t sl) (sym (unstopped_emit r s z).is) (more stay x)
