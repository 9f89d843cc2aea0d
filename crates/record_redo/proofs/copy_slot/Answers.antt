-- `copy_slot`: the next 144 bytes.
use borrow.Author.Rules.{rules}
use native.Mathlib.Omega.{arith}
use Prim.Native.Nat.{◌*◌, ◌+◌}
use Rattle.record_redo.specs.Copies.{copied_on}
use Rattle.record_redo.proofs.copy_slot.Goals as goal

pub returns : goal.returns
returns c k =
    let a = c.args in
    copied_on a.log.now a.to.now _ (144 * a.i) 144 (search rules) (search rules) c.copy_part.ensures k (144 * (a.i + 1)) (omega arith)
