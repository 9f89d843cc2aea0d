-- `raise_fits`: the row's tests.
use mathlib.Core.Path.{refl, sym, ◌∙◌}
use Rattle.record_fit.specs.Tests.{both_of}
use Rattle.record_fit.specs.Pages.{raise_row}
use Rattle.record_fit.proofs.changes.raise_fits.Goals as goal

pub returns : goal.returns
returns c =
    let a = c.args in
    both_of c.at_level-level.ensures
    (both_of c.same_list-same.ensures refl)
    ∙ sym (raise_row a.r a.x a.n c.requires.0)
