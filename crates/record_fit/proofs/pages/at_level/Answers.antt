-- `at_level`: the level's kind, and the level.
use mathlib.Core.Path.{refl}
use Rattle.record_fit.specs.Tests.{both_of}
use Rattle.record_fit.specs.Pages.{level_is}
use Rattle.record_fit.proofs.pages.at_level.Goals as goal

pub returns : goal.returns
returns c = let a = c.args in level_is a.x _ a.level _ c.at_level.ensures (both_of c.eq-same.ensures refl)
