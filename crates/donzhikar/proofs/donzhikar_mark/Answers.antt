-- `donzhikar_mark`: refused by a length, or what the call replies.
use mathlib.Core.Path.{refl, ◌∙◌}
use Rattle.donzhikar.proofs.donzhikar_mark.Goals as goal

pub returns-in_default : goal.returns-in_default
returns-in_default c = c.refuse.ensures _ _ refl c.in_default.ensures

pub give-requires : goal.give-requires
give-requires c = c.in-Some.ensures.sizes

pub returns : goal.returns
returns c = c.give.ensures _ _ _ _ (c.mark-y.ensures _) ∙ c.in-Some.ensures.asks _ _
