-- `tree_fits`: too many, or counted.
use native.Mathlib.Omega.{arith}
use Prim.Native.Nat.{suc}
use mathlib.Core.Path.{ap}
use lib.Dec.{leb}
use Rattle.area_load.specs.Counting.{too_many}
use Rattle.area_load.proofs.tree_fits.Goals as goal

pub returns-then-n-gt8960 : goal.returns-then-n-gt8960
returns-then-n-gt8960 c = too_many c.args.n c.args.pages (omega arith) (omega arith)

pub returns : goal.returns
returns c = ap (λ k. leb (suc k) c.args.pages) c.tree_pages.ensures
