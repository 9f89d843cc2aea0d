-- `change_part`: by the part.
use mathlib.Core.Path.{ap, sym, ◌∙◌}
use Rattle.std.proofs.Common.{Some}
use Rattle.codec_page.specs.Typed.{typed}
use Rattle.def_model.specs.Change.{change, change_c, cut_to_size}
use Rattle.record_apply.specs.declared.roles.Role.{Role}
use Rattle.record_apply.specs.Pages.{rec}
use Rattle.record_apply.specs.Roles.{as_role}
use Rattle.record_apply.proofs.change_part.Goals as goal

pub returns-in-A : goal.returns-in-A
unfolding change change_c as_role
returns-in-A c =
    let a = c.args in
    c.change_a.ensures ∙ ap (λ (q : Role). cut_to_size (change (rec a.r) (as_role (Some q)) (typed a.x))) (sym c.in-A.is)

pub returns-in-B : goal.returns-in-B
unfolding change change_c as_role
returns-in-B c =
    let a = c.args in
    c.change_b.ensures ∙ ap (λ (q : Role). cut_to_size (change (rec a.r) (as_role (Some q)) (typed a.x))) (sym c.in-B.is)

pub returns-in-C : goal.returns-in-C
unfolding change change_c as_role
returns-in-C c =
    let a = c.args in
    c.filled.ensures ∙ ap (λ (q : Role). cut_to_size (change (rec a.r) (as_role (Some q)) (typed a.x))) (sym c.in-C.is)

pub returns-in-Map : goal.returns-in-Map
unfolding change change_c as_role
returns-in-Map c =
    let a = c.args in
    c.change_map.ensures ∙ ap (λ (q : Role). cut_to_size (change (rec a.r) (as_role (Some q)) (typed a.x))) (sym c.in-Map.is)
