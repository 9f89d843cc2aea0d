-- `open_place`: batch 0 is never open; any other is found among the rows.
use Rattle.log_chain.specs.Steps.{place_zero, place_row}
use Rattle.log_chain.proofs.open_place.Goals as goal

pub returns-then-batch-eq0-clause-places : goal.returns-then-batch-eq0-clause-places
returns-then-batch-eq0-clause-places c = let a = c.args in place_zero a.batches.now.rows a.batch c.if-batch-eq0.true

pub returns-clause-places : goal.returns-clause-places
returns-clause-places c = let a = c.args in place_row a.batches.now.rows a.batch _ c.if-batch-eq0.false c.row_place.ensures
