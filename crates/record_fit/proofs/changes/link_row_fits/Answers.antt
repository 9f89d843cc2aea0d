-- `link_row_fits`: the row's tests.
use mathlib.Core.Path.{sym, ◌∙◌}
use Rattle.record_fit.specs.Tests.{both_of}
use Rattle.record_fit.specs.Pages.{link_row}
use Rattle.record_fit.proofs.changes.link_row_fits.Goals as goal

pub returns : goal.returns
returns c =
    let a = c.args in
    both_of c.is_index-index.ensures (both_of c.has_room-room.ensures c.link_fits-linked.ensures)
    ∙ sym (link_row a.r a.x a.n c.requires.0)
