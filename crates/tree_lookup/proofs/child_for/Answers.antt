-- `child_for`: the covering page's entry, of which the child is the value.
use Rattle.law_bytes.specs.PageAreas.{pages_of}
use Rattle.tree_lookup.specs.Descent.{child_is}
use Rattle.tree_lookup.proofs.child_for.Goals as goal

pub returns : goal.returns
returns c =
    let a = c.args in
    child_is a.k a.p (pages_of a.n a.pages.now) _ _ c.covering.ensures.1 c.entry_for.ensures
