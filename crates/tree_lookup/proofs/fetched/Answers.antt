-- `fetched`: what the leaf has.
use Rattle.law_bytes.specs.PageAreas.{pages_of}
use Rattle.tree_lookup.specs.Descent.{fetched_is}
use Rattle.tree_lookup.proofs.fetched.Goals as goal

pub returns : goal.returns
returns c =
    let a = c.args in
    fetched_is a.k (pages_of a.n a.pages.now) _ _ c.leaf_of.ensures.1 c.look_in.ensures
