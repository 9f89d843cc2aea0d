-- `same_part`: the two lent parts are compared.
use Prim.Native.Nat.{◌+◌, ◌-◌}
use native.Mathlib.Nat.{add-sub_cancel_left}
use mathlib.Core.Path.{◌≡◌}
use Rattle.codec_bytes.proofs.same_part.Goals as goal

pub returns : goal.returns
returns c =
    let a = c.args in
    let k : a.a + a.n - a.a ≡ a.n = add-sub_cancel_left a.a a.n in
    let j : a.b + a.n - a.b ≡ a.n = add-sub_cancel_left a.b a.n in
    rw (k, j) at c.same.ensures
