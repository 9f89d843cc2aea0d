-- `last_joined`: the last of the others, if there is one.
use mathlib.Core.Path.{◌∙◌}
use Rattle.law_bytes.specs.EntryBytes.{used}
use Rattle.record_fit.specs.Tests.{joined_none, joined_last}
use Rattle.record_fit.proofs.entries.last_joined.Goals as goal

pub returns-then-m-eq0 : goal.returns-then-m-eq0
returns-then-m-eq0 c = let a = c.args in c.last_key_is.ensures ∙ joined_none a.m a.fs (used a.n a.es) a.k c.if-m-eq0.true

pub returns : goal.returns
returns c = let a = c.args in c.last_key_is-2.ensures ∙ joined_last a.m a.fs (used a.n a.es) a.k c.if-m-eq0.false
