-- `half`: by the page's high key.
use native.Mathlib.Omega.{arith}
use Rattle.tree_add.specs.Rooms.{half_left, half_right}
use Rattle.tree_add.proofs.half.Goals as goal

pub returns-then-k-x : goal.returns-then-k-x
returns-then-k-x c xs ls h = let a = c.args in half_left (c.page_at-x.ensures.1 xs ls h) a.k a.p c.if-k-x.true

pub returns : goal.returns
returns c xs ls h = let a = c.args in half_right (c.page_at-x.ensures.1 xs ls h) a.k a.p (omega (arith, c.if-k-x.false))
