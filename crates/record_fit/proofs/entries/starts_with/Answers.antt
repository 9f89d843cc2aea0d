-- `starts_with`: the first m, compared.
use Rattle.record_fit.specs.Tests.{starts_are}
use Rattle.record_fit.proofs.entries.starts_with.Goals as goal

pub returns : goal.returns
returns c = let a = c.args in starts_are a.n a.m a.es a.fs c.min-k.result _ c.min-k.ensures c.same_list.ensures
