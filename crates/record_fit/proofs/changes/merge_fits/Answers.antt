-- `merge_fits`: the row's tests.
use mathlib.Core.Path.{refl, sym, ◌∙◌}
use Rattle.record_fit.specs.Tests.{both_of}
use Rattle.record_fit.specs.Pages.{merge_row}
use Rattle.record_fit.proofs.changes.merge_fits.Goals as goal

pub returns : goal.returns
returns c =
    let a = c.args in
    both_of c.is_node-node.ensures
    (both_of c.has_room-room.ensures
    (both_of refl
    (both_of c.in_order-rising.ensures c.children_in-children.ensures)))
    ∙ sym (merge_row a.r a.x a.n c.requires.0)
