-- `redistribute_fits`: the row's tests.
use mathlib.Core.Path.{refl, sym, ◌∙◌}
use Rattle.record_fit.specs.Tests.{both_of}
use Rattle.record_fit.specs.Shares.{share_row}
use Rattle.record_fit.proofs.changes.redistribute_fits.Goals as goal

pub returns : goal.returns
returns c =
    let a = c.args in
    both_of c.is_node-node.ensures (both_of refl c.share_a_fits-shared.ensures)
    ∙ sym (share_row a.r a.x a.n c.requires.0)
