-- `part_fits`: by the part.
use mathlib.Core.Path.{ap, sym, ◌∙◌}
use Rattle.std.proofs.Common.{Some}
use Rattle.codec_page.specs.Typed.{typed}
use Rattle.def_model.specs.Fit.{fits_role}
use Rattle.record_apply.specs.declared.roles.Role.{Role}
use Rattle.record_apply.specs.Pages.{rec}
use Rattle.record_apply.specs.Roles.{as_role}
use Rattle.record_fit.proofs.part_fits.Goals as goal

pub returns-in-A : goal.returns-in-A
unfolding fits_role as_role
returns-in-A c =
    let a = c.args in
    c.fits_a.ensures ∙ ap (λ (q : Role). fits_role (rec a.r) (as_role (Some q)) (typed a.x)) (sym c.in-A.is)

pub returns-in-B : goal.returns-in-B
unfolding fits_role as_role
returns-in-B c =
    let a = c.args in
    c.fits_b.ensures ∙ ap (λ (q : Role). fits_role (rec a.r) (as_role (Some q)) (typed a.x)) (sym c.in-B.is)

pub returns-in-C : goal.returns-in-C
unfolding fits_role as_role
returns-in-C c =
    let a = c.args in
    c.is_free.ensures ∙ ap (λ (q : Role). fits_role (rec a.r) (as_role (Some q)) (typed a.x)) (sym c.in-C.is)

pub returns-in-Map : goal.returns-in-Map
unfolding fits_role as_role
returns-in-Map c =
    let a = c.args in
    c.map_fits.ensures ∙ ap (λ (q : Role). fits_role (rec a.r) (as_role (Some q)) (typed a.x)) (sym c.in-Map.is)
