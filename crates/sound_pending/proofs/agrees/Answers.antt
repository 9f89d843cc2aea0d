-- `agrees`: by what the tree has.
use mathlib.Core.Path.{sym, ◌∙◌, ap}
use borrow.Author.Tests.{not-true, not-false}
use Rattle.law_bytes.specs.PageAreas.{pages_of}
use Rattle.sound_pending.specs.Agreeing.{agrees_with, agrees_is, absent_agrees, there_not, there_agrees}
use Rattle.sound_pending.proofs.agrees.Goals as goal

pub returns-in_default : goal.returns-in_default
returns-in_default c =
    let a = c.args in
    agrees_is (pages_of a.n a.pages.now) a.x _ (absent_agrees a.x ∙ ap (agrees_with a.x) c.in_default.ensures)

pub returns-then-not-x : goal.returns-then-not-x
returns-then-not-x c =
    let a = c.args in
    agrees_is (pages_of a.n a.pages.now) a.x _ (sym (there_not a.x _ (not-true _ c.if-not-x.true)) ∙ ap (agrees_with a.x) c.in-Some.ensures)

pub returns : goal.returns
returns c =
    let a = c.args in
    agrees_is (pages_of a.n a.pages.now) a.x _ (sym (there_agrees a.x _ (not-false _ c.if-not-x.false)) ∙ ap (agrees_with a.x) c.in-Some.ensures)
