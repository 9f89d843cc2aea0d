-- `is_free`: by the kind.
use mathlib.Core.Path.{◌∙◌}
use Rattle.record_fit.specs.Pages.{free_is}
use Rattle.record_fit.proofs.pages.is_free.Goals as goal

pub returns : goal.returns
returns c = c.eq.ensures ∙ free_is c.args.x
