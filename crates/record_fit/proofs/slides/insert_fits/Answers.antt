-- `insert_fits`: the row's tests.
use mathlib.Core.Path.{sym, ◌∙◌}
use Rattle.record_fit.specs.Tests.{both_of}
use Rattle.record_fit.specs.Pages.{insert_row, undo_delete_row}
use Rattle.record_fit.proofs.slides.insert_fits.Goals as goal

pub returns : goal.returns
returns c =
    let a = c.args in
    let t = both_of c.is_leaf-leaf.ensures (both_of c.has_room-room.ensures c.nowhere-new.ensures) in
    (t ∙ sym (insert_row a.r a.x a.n c.requires.0), t ∙ sym (undo_delete_row a.r a.x a.n c.requires.0))
