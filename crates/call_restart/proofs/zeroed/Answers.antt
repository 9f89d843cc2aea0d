-- `zeroed`: both areas are zeros, and the refusal is answered.
use mathlib.Core.Path.{◌∙◌}
use Rattle.call_restart.proofs.zeroed.Goals as goal

pub returns : goal.returns
returns c = (c.zero.ensures, c.zero-2.ensures, c.refused.ensures.0, c.refused.ensures.1 ∙ c.idle_desk.ensures)
