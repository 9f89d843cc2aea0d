-- `children_in`: a leaf's entries are any.
use mathlib.Core.Path.{sym, ◌∙◌}
use Rattle.record_fit.proofs.pages.children_in.Goals as goal

pub returns-then-is_leaf : goal.returns-then-is_leaf
returns-then-is_leaf c = sym (rw (sym c.is_leaf.ensures ∙ c.if-is_leaf.true))

pub returns : goal.returns
returns c = c.children_fit.ensures ∙ sym (rw (sym c.is_leaf.ensures ∙ c.if-is_leaf.false))
