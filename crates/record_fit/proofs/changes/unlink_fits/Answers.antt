-- `unlink_fits`: the row's tests.
use mathlib.Core.Path.{sym, ◌∙◌}
use Rattle.record_fit.specs.Tests.{both_of}
use Rattle.record_fit.specs.Pages.{unlink_row}
use Rattle.record_fit.proofs.changes.unlink_fits.Goals as goal

pub returns : goal.returns
returns c =
    let a = c.args in
    both_of c.is_index-index.ensures c.side_by_side.ensures ∙ sym (unlink_row a.r a.x a.n c.requires.0)
