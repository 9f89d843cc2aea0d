-- `role_of`: the first part that the record has and whose page it is.
use mathlib.Core.Path.{sym, ◌∙◌}
use Rattle.record_apply.specs.Roles.{as_role, role_is}
use Rattle.record_apply.proofs.roles.role_of.Goals as goal

pub returns-then-has_part : goal.returns-then-has_part
unfolding as_role
returns-then-has_part c = let a = c.args in sym (role_is a.r a.p _ c.parts_of-parts.ensures ∙ rw (sym c.has_part.ensures ∙ c.if-has_part.true))

pub returns-then-has_part-2 : goal.returns-then-has_part-2
unfolding as_role
returns-then-has_part-2 c = let a = c.args in sym (role_is a.r a.p _ c.parts_of-parts.ensures ∙ rw (sym c.has_part.ensures ∙ c.if-has_part.false, sym c.has_part-else-has_part.ensures ∙ c.if-has_part-2.true))

pub returns-then-has_part-3 : goal.returns-then-has_part-3
unfolding as_role
returns-then-has_part-3 c = let a = c.args in sym (role_is a.r a.p _ c.parts_of-parts.ensures ∙ rw (sym c.has_part.ensures ∙ c.if-has_part.false, sym c.has_part-else-has_part.ensures ∙ c.if-has_part-2.false, sym c.has_part-else-has_part-2.ensures ∙ c.if-has_part-3.true))

pub returns-then-has_part-4 : goal.returns-then-has_part-4
unfolding as_role
returns-then-has_part-4 c = let a = c.args in sym (role_is a.r a.p _ c.parts_of-parts.ensures ∙ rw (sym c.has_part.ensures ∙ c.if-has_part.false, sym c.has_part-else-has_part.ensures ∙ c.if-has_part-2.false, sym c.has_part-else-has_part-2.ensures ∙ c.if-has_part-3.false, sym c.has_part-else-has_part-3.ensures ∙ c.if-has_part-4.true))

pub returns-else-has_part-4 : goal.returns-else-has_part-4
unfolding as_role
returns-else-has_part-4 c = let a = c.args in sym (role_is a.r a.p _ c.parts_of-parts.ensures ∙ rw (sym c.has_part.ensures ∙ c.if-has_part.false, sym c.has_part-else-has_part.ensures ∙ c.if-has_part-2.false, sym c.has_part-else-has_part-2.ensures ∙ c.if-has_part-3.false, sym c.has_part-else-has_part-3.ensures ∙ c.if-has_part-4.false))
