-- `alone`: an update, a change of the tree, a begin or a commit.
use Rattle.log_judge.specs.Alone.{alone_change}
use Rattle.log_judge.proofs.first.alone.Goals as goal

pub returns-then-is_change : goal.returns-then-is_change
returns-then-is_change c o s = let a = c.args in alone_change a.n a.m a.log.now a.i a.batches.now o s.first (c.is_change.ensures c.if-is_change.true o)
