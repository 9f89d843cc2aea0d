-- `first_update`: the row is longer where the update goes on it.
use borrow.Author.Tests.{not-false}
use Rattle.log_judge.specs.Alone.{alone_update}
use Rattle.log_judge.proofs.first.first_update.Goals as goal

pub longer-requires : goal.longer-requires
longer-requires c = c.requires.2

pub returns : goal.returns
returns c o s =
    let a = c.args in
    alone_update a.n a.m a.log.now a.i _ a.batches.now o _ s (c.goes_on_first.ensures (not-false _ c.if-not-goes_on_first.false-raw)) c.in_ok-t.ensures c.longer.ensures
