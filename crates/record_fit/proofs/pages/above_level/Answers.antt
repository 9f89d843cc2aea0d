-- `above_level`: an index, and the next level.
use mathlib.Core.Path.{refl}
use Rattle.record_fit.specs.Tests.{both_of}
use Rattle.record_fit.specs.Pages.{next_level_is}
use Rattle.record_fit.proofs.pages.above_level.Goals as goal

pub returns : goal.returns
returns c = let a = c.args in next_level_is a.x a.level _ _ c.is_next.ensures (both_of c.is_index-index.ensures refl)
