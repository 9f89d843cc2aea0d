-- `row_has_within`: the batch's own, or its lines.
use Rattle.sound_pending.specs.Keys.{from_to}
use Rattle.sound_pending.specs.Rows.{row_own, row_others}
use Rattle.sound_pending.proofs.row_has_within.Goals as goal

pub returns-then-n-row : goal.returns-then-n-row
returns-then-n-row c = let a = c.args in row_own (from_to a.first a.last) a.m a.log.now a.row a.n c.if-n-row.true

pub returns : goal.returns
returns c =
    let a = c.args in
    row_others (from_to a.first a.last) a.m a.log.now a.row a.n c.if-n-row.false _ c.has_within.ensures
