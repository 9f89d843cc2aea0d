-- `redistribute_b_fits`: the row's tests.
use mathlib.Core.Path.{sym, ◌∙◌}
use Rattle.record_fit.specs.Tests.{both_of}
use Rattle.record_fit.specs.Shares.{share_b_row}
use Rattle.record_fit.proofs.changes.redistribute_b_fits.Goals as goal

pub returns : goal.returns
returns c =
    let a = c.args in
    both_of c.is_node-node.ensures c.share_b_fits.ensures ∙ sym (share_b_row a.r a.x a.n c.requires.0)
