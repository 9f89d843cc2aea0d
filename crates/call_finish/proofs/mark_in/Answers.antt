-- `mark_in`: reply by reply.
use mathlib.Core.Path.{refl}
use native.Mathlib.Omega.{arith}
use Rattle.call_finish.specs.Returns.{mark_12, mark_0}
use Rattle.call_finish.proofs.mark_in.Goals as goal

pub returns-in_default : goal.returns-in_default
returns-in_default c n m budget wp sp wl sl st g = mark_12 g _ _ refl (omega (arith, c.in_default.ensures)) budget _ c.refused.ensures

pub returns : goal.returns
returns c n m budget wp sp wl sl st g = let o = c.in-Some.ensures in mark_0 g _ _ o.0 o.1 budget _ (refl, refl)
