-- `lower_fits`: the row's tests.
use mathlib.Core.Path.{refl, sym, ap, ◌∙◌}
use Rattle.record_fit.specs.Tests.{both_of}
use lib.Dec.{eqb}
use Rattle.record_fit.specs.Pages.{lower_row}
use Rattle.record_fit.proofs.changes.lower_fits.Goals as goal

pub returns : goal.returns
returns c =
    let a = c.args in
    both_of c.above_level-level.ensures
    (both_of refl (both_of (ap (λ e. eqb e.val a.r.b) c.entry_in-child.ensures) refl))
    ∙ sym (lower_row a.r a.x a.n c.requires.0)
