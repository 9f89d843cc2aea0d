-- `is_leaf`: by the kind.
use mathlib.Core.Path.{◌∙◌}
use Rattle.record_fit.specs.Pages.{leaf_is}
use Rattle.record_fit.proofs.pages.is_leaf.Goals as goal

pub returns : goal.returns
returns c = c.eq.ensures ∙ leaf_is c.args.x
