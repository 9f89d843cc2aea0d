-- `put_number`: a space, and the digits that `decimal` found.
use borrow.Author.Rules.{rules}
use Prim.Native.Nat.{◌≤◌}
use native.Mathlib.Omega.{arith}
use Rattle.face_text.specs.Decimal.{fewest_ten}
use Rattle.face_text.specs.Puts.{puts_number}
use Rattle.face_text.proofs.put_number.Goals as goal

pub copy_part-requires : goal.copy_part-requires
copy_part-requires c =
    let t : c.decimal-k.result ≤ 10 = fewest_ten c.args.x c.decimal-k.result (search rules) c.decimal-k.ensures.len in
    (omega (arith, t), omega (arith, c.decimal-k.ensures.in_bounds.1))

pub overflow_add-result : goal.overflow_add-result
overflow_add-result c =
    let t : c.decimal-k.result ≤ 10 = fewest_ten c.args.x c.decimal-k.result (search rules) c.decimal-k.ensures.len in
    record { fits = omega (arith, t) }

pub returns : goal.returns
returns c =
    let a = c.args in
    let t : c.decimal-k.result ≤ 10 = fewest_ten a.x c.decimal-k.result (search rules) c.decimal-k.ensures.len in
    (omega (arith, t), puts_number a.out.now a.n c.put-m.new.out c.put-m.result c.copy_part.new.dst _ c.decimal-k.result a.x c.put-m.ensures.1 c.copy_part.ensures (omega (arith, t)) c.decimal-k.ensures.in_bounds.1 c.decimal-k.ensures.len c.decimal-k.ensures.digits)
