-- `place_of`: in the first span, or in the rest.
use mathlib.Core.Path.{sym, ◌∙◌}
use borrow.Author.Tests.{lt-ltb, le-ltb}
use Rattle.area_store.specs.Steps.{place_first, place_rest}
use Rattle.area_store.proofs.place_of.Goals as goal

pub returns-then-k-first : goal.returns-then-k-first
returns-then-k-first c = let a = c.args in c.place_in.ensures ∙ sym (place_first a.s a.k (lt-ltb _ _ c.if-k-first.true))

pub returns : goal.returns
returns c = let a = c.args in c.place_in-2.ensures ∙ sym (place_rest a.s a.k (le-ltb _ _ c.if-k-first.false))
