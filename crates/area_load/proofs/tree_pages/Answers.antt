-- `tree_pages`: what is counted and what the levels left come to is the tree's count.
use native.Mathlib.Omega.{arith}
use Rattle.area_load.specs.Counting.{counts_start, counts_more, counts_end}
use Rattle.area_load.proofs.tree_pages.Goals as goal

pub loop-left-init : goal.loop-left-init
loop-left-init c = (omega arith, counts_start _)

pub overflow_add-left : goal.overflow_add-left
overflow_add-left c = omega arith

pub overflow_add-pages : goal.overflow_add-pages
overflow_add-pages c = omega arith

pub loop-left-smaller : goal.loop-left-smaller
loop-left-smaller c = omega arith

pub loop-left-preserved : goal.loop-left-preserved
loop-left-preserved c = (omega arith, counts_more _ _ _ (omega arith) c.loop-left.invariant.1)

pub returns : goal.returns
returns c = counts_end _ _ _ (omega arith) c.loop-left.invariant.1
