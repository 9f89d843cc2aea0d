-- `ends_with`: the entries from n - m on, compared.
use Rattle.record_fit.specs.Tests.{ends_are}
use Rattle.record_fit.proofs.entries.ends_with.Goals as goal

pub returns : goal.returns
returns c = let a = c.args in ends_are a.n a.m a.es a.fs c.saturating_sub-k.result c.upper_part-gs.result _ c.saturating_sub-k.ensures c.upper_part-gs.ensures c.same_list.ensures
