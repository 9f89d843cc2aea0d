-- `change`: by whether the page has a part.
use mathlib.Core.Path.{ap, sym, ◌∙◌}
use Rattle.std.proofs.Common.{Option}
use Rattle.codec_page.specs.Typed.{typed}
use Rattle.def_model.specs.Change.{change, cut_to_size}
use Rattle.record_apply.specs.declared.roles.Role.{Role}
use Rattle.record_apply.specs.Pages.{rec}
use Rattle.record_apply.specs.Roles.{as_role}
use Rattle.record_apply.proofs.change.Goals as goal

pub returns-in-None : goal.returns-in-None
unfolding change as_role
returns-in-None c =
    let a = c.args in
    c.cut.ensures ∙ ap (λ (o : Option Role). cut_to_size (change (rec a.r) (as_role o) (typed a.x))) (sym c.in-None.is)

pub returns-in-Some : goal.returns-in-Some
returns-in-Some c =
    let a = c.args in
    c.change_part.ensures ∙ ap (λ (o : Option Role). cut_to_size (change (rec a.r) (as_role o) (typed a.x))) (sym c.in-Some.is)
