-- WHAT IS GRANTED IS NO LESS THAN THE CUSTOMER GRANTS: every refused call of 32-bit numbers may occur at any moment, formattings and loadings too; every
-- other call but those two may where no cut is open or it is a restart; and any growth may.
use Rattle.std.specs.Prelude.{ℕ, ◌≡◌, refl, ◌⊎◌, true, false, List}
use Rattle.std.proofs.Common.{sym, ◌∙◌, inl, inr}
use Rattle.def_base.specs.Tests.{every, clash, and_both}
use Rattle.def_model.specs.CallNames.{load, restart}
use Rattle.def_model.specs.OnBytes.{Call}
use Rattle.def_recovery.specs.Events.{World, Rubble, ended, cut, grown, passes, is_format, is_restart, fits_32, start_32, of_32_bits, Granted, Allowed}

pub granted_if : (c : Call) (w : World) → of_32_bits c ≡ true → (passes c w ≡ false) ⊎ ((is_format c ≡ false) × ((w.since_cut ≡ false) ⊎ (is_restart c ≡ true))) → Granted c w
granted_if c w k (inl p) = record { numbers = k; no_format = λ f. p; restart_first = λ s q. clash (sym q ∙ p) }
granted_if c w k (inr (f, inl n)) = record { numbers = k; no_format = λ e. clash (sym e ∙ f); restart_first = λ s q. clash (sym s ∙ n) }
granted_if c w k (inr (f, inr r)) = record { numbers = k; no_format = λ e. clash (sym e ∙ f); restart_first = λ s q. rw (r) }

pub restart_granted : (w : World) → Granted restart w
unfolding of_32_bits is_format is_restart
restart_granted w = granted_if restart w refl (inr (refl, inr refl))

-- A call may be cut wherever it may end.
pub cut_allowed : (c : Call) (budget : ℕ) (left : Rubble) (w : World) → Granted c w → Allowed (ended c) w × Allowed (cut c budget left) w
unfolding Allowed
cut_allowed c budget left w g = (g, g)

pub growth_allowed : (a b c d : ℕ) (w : World) → Allowed (grown a b c d) w
unfolding Allowed
growth_allowed a b c d w = tt

-- A loading's numbers are of 32 bits where each is.
pub load_fits : (ks vs : List ℕ) → every fits_32 ks ≡ true → every fits_32 vs ≡ true → of_32_bits (load ks vs) ≡ true
unfolding of_32_bits start_32
load_fits ks vs a b = and_both a b
