-- `share_b_fits`: by the side that the entries go to.
use mathlib.Core.Path.{sym, ◌∙◌}
use Rattle.record_fit.specs.Tests.{both_of}
use Rattle.record_fit.specs.Shares.{share_b_in_row, share_b_out_row}
use Rattle.record_fit.proofs.changes.share_b_fits.Goals as goal

pub returns-then-into_a : goal.returns-then-into_a
returns-then-into_a c =
    let a = c.args in
    c.starts_with.ensures ∙ sym (share_b_in_row a.r a.x a.n c.requires.0 (sym c.into_a.ensures ∙ c.if-into_a.true))

pub returns : goal.returns
returns c =
    let a = c.args in
    both_of c.has_room-room.ensures (both_of c.in_order-rising.ensures c.children_in.ensures)
    ∙ sym (share_b_out_row a.r a.x a.n c.requires.0 (sym c.into_a.ensures ∙ c.if-into_a.false))
