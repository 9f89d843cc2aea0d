-- `undo_insert_fits`: the row's tests.
use mathlib.Core.Path.{sym, ◌∙◌}
use Rattle.record_fit.specs.Tests.{both_of}
use Rattle.record_fit.specs.Pages.{undo_insert_row}
use Rattle.record_fit.proofs.slides.undo_insert_fits.Goals as goal

pub returns : goal.returns
returns c =
    let a = c.args in
    both_of c.is_leaf-leaf.ensures c.has_key.ensures ∙ sym (undo_insert_row a.r a.x a.n c.requires.0)
