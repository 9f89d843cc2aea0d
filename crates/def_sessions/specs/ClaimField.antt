-- THE ONE CLAIM over the registers from the field.
use Rattle.std.specs.Prelude.{◌≡◌, refl, true}
use Rattle.def_base.specs.Tests.{every, and_both}
use Rattle.def_sessions.specs.Play.{comes_true}
use Rattle.def_sessions.specs.Compute.{computed}
use Rattle.def_sessions.specs.Field.{field, zero_filed, zero_restored, zero_below}

zero_filed_holds : comes_true zero_filed ≡ true
unfolding computed
zero_filed_holds = refl

zero_restored_holds : comes_true zero_restored ≡ true
unfolding computed
zero_restored_holds = refl

zero_below_holds : comes_true zero_below ≡ true
unfolding computed
zero_below_holds = refl

pub field_holds : every comes_true field ≡ true
unfolding every
field_holds = and_both zero_filed_holds (and_both zero_restored_holds (and_both zero_below_holds refl))
