-- `is_index`: by the kind.
use mathlib.Core.Path.{◌∙◌}
use Rattle.record_fit.specs.Pages.{index_is}
use Rattle.record_fit.proofs.pages.is_index.Goals as goal

pub returns : goal.returns
returns c = c.eq.ensures ∙ index_is c.args.x
