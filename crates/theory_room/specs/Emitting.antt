-- The cases of one record: the run has stopped, or the record is logged, or room is short, or a page.
use Rattle.std.specs.Prelude.{ℕ, ◌<◌, ◌≡◌, ◌≢◌, ◌&&◌}
use Rattle.std.proofs.Common.{sym, ◌∙◌, arith}
use Rattle.std.proofs.Math.Dec.{ltb, eqb}
use Rattle.def_base.specs.Tests.{Case, yes!, no!, case, true_eq, eq_true, true_lt, false_lt, and_true, clash}
use Rattle.def_layout.specs.Records.{Rec}
use Rattle.def_model.specs.Update.{Run, going, stopped, logged, emit_by, emit, fresh, taking_by, emit_taking}

-- A run that has stopped.
pub emit_stopped : (r : Rec) (s : Run) → s.stop ≢ 0 → emit r s ≡ s
unfolding emit emit_by
emit_stopped r s n = go (case (going s))
  where
    go : Case (going s) → emit_by (going s) (ltb 0 s.room) r s ≡ s
    go (yes! e) = absurd (n (true_eq _ _ e))
    go (no! e) = rw e

module _ (P : Run → Type 0) where
  pub emit_cases : (r : Rec) (s : Run) → (s.stop ≢ 0 → P s) → (s.stop ≡ 0 → 0 < s.room → P (logged r s)) → (s.stop ≡ 0 → s.room ≡ 0 → P (stopped 17 s)) → P (emit r s)
  unfolding emit emit_by
  emit_cases r s a b c = go (case (going s)) (case (ltb 0 s.room))
    where
      go : Case (going s) → Case (ltb 0 s.room) → P (emit_by (going s) (ltb 0 s.room) r s)
      go (no! e) h = rw e (a (λ z. clash (sym (eq_true s.stop 0 z) ∙ e)))
      go (yes! e) (yes! h) = rw (e, h) (b (true_eq _ _ e) (true_lt _ _ h))
      go (yes! e) (no! h) = let l = false_lt 0 s.room h in rw (e, h) (c (true_eq _ _ e) (omega arith))

  pub taking_cases : (f : ℕ → Rec) (near : ℕ) (s : Run) → P (emit (f (fresh s.pages near)) s) → (s.stop ≡ 0 → 0 < s.room → P (stopped 18 s)) → P (emit_taking f near s)
  unfolding emit_taking taking_by
  taking_cases f near s a b = go (case (going s && ltb 0 s.room && eqb (fresh s.pages near) 0))
    where
      go : Case (going s && ltb 0 s.room && eqb (fresh s.pages near) 0) → P (taking_by (going s && ltb 0 s.room && eqb (fresh s.pages near) 0) (f (fresh s.pages near)) s)
      go (no! e) = rw e a
      go (yes! e) =
          let x = and_true (going s && ltb 0 s.room) _ e in
          let y = and_true (going s) _ x.0 in
          rw e (b (true_eq _ _ y.0) (true_lt _ _ y.1))
