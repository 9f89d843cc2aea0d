-- `in_order`: nothing to ask, or the last of the one list against the first of the other.
use mathlib.Core.Path.{◌∙◌}
use Rattle.law_bytes.specs.EntryBytes.{used}
use Rattle.record_fit.specs.Order.{in_order_none, in_order_is}
use Rattle.record_fit.proofs.entries.in_order.Goals as goal

pub returns-then-m-eq0 : goal.returns-then-m-eq0
returns-then-m-eq0 c = let a = c.args in in_order_none (used a.n a.es) a.m a.fs c.if-m-eq0.true

pub returns : goal.returns
returns c = let a = c.args in c.ends_below.ensures ∙ in_order_is (used a.n a.es) a.m a.fs c.if-m-eq0.false
