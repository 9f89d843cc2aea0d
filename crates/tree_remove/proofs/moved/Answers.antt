-- `moved`: by which page gives.
use native.Mathlib.Omega.{arith}
use Rattle.tree_remove.specs.Shares.{moved_in, moved_out}
use Rattle.tree_remove.proofs.moved.Goals as goal

pub returns-then-a-c : goal.returns-then-a-c
returns-then-a-c c = let a = c.args in
    (moved_in a.x.count a.y.count a.x.entries a.y.entries c.share-c.result c.share-c.ensures c.if-a-c.true, omega (arith, c.share-c.ensures, c.requires))

pub returns : goal.returns
returns c = let a = c.args in
    (moved_out a.x.count a.y.count a.x.entries a.y.entries c.share-c.result c.share-c.ensures _ c.if-a-c.false c.without_first.ensures.0, c.without_first.ensures.1)
