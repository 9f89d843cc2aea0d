-- `refuse_zero`: the lengths, and then the key.
use borrow.Author.Tests.{not-true, not-false}
use mathlib.Core.Path.{◌∙◌, sym}
use Rattle.call_register.specs.Refusals.{zero_1, zero_7}
use Rattle.call_register.proofs.refuse_zero.Goals as goal

pub returns-then-not-lengths_ok : goal.returns-then-not-lengths_ok
returns-then-not-lengths_ok c b v budget = zero_1 _ _ _ _ _ _ b v budget (sym c.lengths_ok.ensures ∙ not-true _ c.if-not-lengths_ok.true-raw) c.refused.ensures

pub returns : goal.returns
returns c b v budget = zero_7 _ _ _ _ _ _ b v budget (sym c.lengths_ok.ensures ∙ not-false _ c.if-not-lengths_ok.false-raw) c.refused-2.ensures
