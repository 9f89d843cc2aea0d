-- `group_end`: the last page takes all that is left.
use native.Mathlib.Omega.{arith}
use Prim.Native.Nat.{◌+◌, ◌-◌, ◌*◌}
use mathlib.Core.Path.{sym, ap, ◌∙◌}
use Rattle.theory_load.specs.Places.{share_fits, end_last, end_within}
use Rattle.area_load.proofs.group_end.Goals as goal

pub returns-then-j-n : goal.returns-then-j-n
returns-then-j-n c = sym (end_last _ _ (omega arith))

pub overflow_add-result : goal.overflow_add-result
overflow_add-result c = let f = share_fits (c.args.n - 10 * c.args.j) in let e = c.share.ensures in omega arith

pub returns : goal.returns
returns c = ap (λ k. 10 * c.args.j + k) c.share.ensures ∙ sym (end_within c.args.n c.args.j (omega arith))
