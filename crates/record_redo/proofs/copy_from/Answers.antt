-- `copy_from`: all the bytes that are left.
use borrow.Author.Rules.{rules}
use Prim.Native.Nat.{◌*◌, ◌-◌}
use Rattle.record_redo.specs.Copies.{copied_whole}
use Rattle.record_redo.proofs.copy_from.Goals as goal

pub returns : goal.returns
returns c k =
    let a = c.args in
    copied_whole a.log.now a.to.now _ (144 * a.i) (144 * (a.m - a.i)) (search rules) (search rules) c.copy_part.ensures k (search rules)
