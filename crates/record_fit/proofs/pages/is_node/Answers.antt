-- `is_node`: a leaf or an index.
use mathlib.Core.Path.{sym, ◌∙◌}
use Rattle.record_fit.proofs.pages.is_node.Goals as goal

pub returns-then-is_leaf : goal.returns-then-is_leaf
returns-then-is_leaf c = sym (rw (sym c.is_leaf.ensures ∙ c.if-is_leaf.true))

pub returns : goal.returns
returns c = c.is_index.ensures ∙ sym (rw (sym c.is_leaf.ensures ∙ c.if-is_leaf.false))
