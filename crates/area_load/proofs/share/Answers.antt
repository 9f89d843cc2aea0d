-- `share`: by how many are left.
use native.Mathlib.Omega.{arith}
use Rattle.theory_load.specs.Places.{share_all, share_half, share_full}
use Rattle.area_load.proofs.share.Goals as goal

pub returns-then-left-le-SHARE : goal.returns-then-left-le-SHARE
returns-then-left-le-SHARE c = share_all _ (omega arith)

pub returns-then-left-le13 : goal.returns-then-left-le13
returns-then-left-le13 c = share_half _ (omega arith) (omega arith)

pub returns : goal.returns
returns c = share_full c.args.left (omega arith)
