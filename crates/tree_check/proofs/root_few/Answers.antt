-- `root_few`: by the right link and the level.
use mathlib.Core.Path.{sym}
use Rattle.def_base.specs.Tests.{eq_true, neq_false}
use Rattle.codec_page.specs.Typed.{typed}
use Rattle.tree_check.specs.Rules.{root_few}
use Rattle.tree_check.proofs.root_few.Goals as goal

pub returns-then-x-ne0 : goal.returns-then-x-ne0
unfolding root_few typed
returns-then-x-ne0 c = sym (rw (neq_false c.if-x-ne0.true))

pub returns-then-x-eq0 : goal.returns-then-x-eq0
unfolding root_few typed
returns-then-x-eq0 c = sym (rw (eq_true _ 0 c.if-x-ne0.false, eq_true _ 0 c.if-x-eq0.true))

pub returns : goal.returns
unfolding root_few typed
returns c = sym (rw (eq_true _ 0 c.if-x-ne0.false, neq_false c.if-x-eq0.false))
