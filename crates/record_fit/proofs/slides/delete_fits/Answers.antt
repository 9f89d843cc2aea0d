-- `delete_fits`: the row's tests.
use mathlib.Core.Path.{sym, ◌∙◌}
use Rattle.record_fit.specs.Tests.{both_of}
use Rattle.record_fit.specs.Pages.{delete_row}
use Rattle.record_fit.proofs.slides.delete_fits.Goals as goal

pub returns : goal.returns
returns c =
    let a = c.args in
    both_of c.is_leaf-leaf.ensures c.has_entry.ensures ∙ sym (delete_row a.r a.x a.n c.requires.0)
