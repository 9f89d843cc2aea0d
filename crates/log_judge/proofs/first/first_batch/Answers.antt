-- `first_batch`: a begin, a commit, or neither.
use borrow.Author.Tests.{not-false}
use Rattle.log_judge.specs.Alone.{alone_begin, alone_commit, zero_row}
use Rattle.log_judge.proofs.first.first_batch.Goals as goal

pub returns-then-t-eq1 : goal.returns-then-t-eq1
returns-then-t-eq1 c o s =
    let a = c.args in
    alone_begin a.n a.m a.log.now a.i _ a.batches.now o _ s.first c.in_ok-t.ensures c.if-t-eq1.true c.if-first-ne0.false c.new_row.ensures

pub returns : goal.returns
returns c o s =
    let a = c.args in
    let f = c.goes_on_first.ensures (not-false _ c.if-not-goes_on_first.false-raw) in
    alone_commit a.n a.m a.log.now a.i _ a.batches.now o _ s f c.in_ok-t.ensures c.if-t-ne6.false c.if-second-ne0.false (zero_row _ c.default.ensures)
