-- `refuse_values`: values that become zeros, and those of another length.
use Rattle.def_base.specs.Tests.{neq_false}
use mathlib.Core.Path.{sym}
use Rattle.law_c.specs.RefusedByC.{values_kept}
use Rattle.donzhikar.specs.Returned.{zero_values}
use Rattle.donzhikar.proofs.refuse_values.Goals as goal

pub returns-then-room-eq8 : goal.returns-then-room-eq8
returns-then-room-eq8 c = zero_values _ _ c.if-room-eq8.true c.zero.ensures

pub returns-else-room-eq8 : goal.returns-else-room-eq8
returns-else-room-eq8 c = sym (values_kept _ (neq_false c.if-room-eq8.false))
