-- `split_fits`: the row's tests.
use mathlib.Core.Path.{refl, sym, ◌∙◌}
use Rattle.record_fit.specs.Tests.{both_of}
use Rattle.record_fit.specs.Pages.{split_row}
use Rattle.record_fit.proofs.changes.split_fits.Goals as goal

pub returns : goal.returns
returns c =
    let a = c.args in
    both_of c.at_level-level.ensures
    (both_of refl
    (both_of c.ends_with-ends.ensures (both_of c.last_key_is-last.ensures refl)))
    ∙ sym (split_row a.r a.x a.n c.requires.0 c.saturating_sub-k.result c.saturating_sub-k.ensures)
