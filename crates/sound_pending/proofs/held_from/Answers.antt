-- `held_from`: up to the key before the last.
use mathlib.Core.Path.{◌≡◌}
use Prim.Native.Nat.{◌+◌, ◌-◌}
use native.Mathlib.Omega.{arith}
use Rattle.sound_pending.specs.Rows.{held_from_none, held_from_is}
use Rattle.sound_pending.proofs.held_from.Goals as goal

pub returns-then-high-eq0 : goal.returns-then-high-eq0
returns-then-high-eq0 c = let a = c.args in held_from_none a.m a.log.now a.d.rows a.n a.low a.high c.if-high-eq0.true

pub returns : goal.returns
returns c =
    let a = c.args in
    let e : a.high ≡ a.high - 1 + 1 = omega (arith, c.if-high-eq0.false) in
    held_from_is a.m a.log.now a.d.rows a.n _ a.low a.high (a.high - 1) e c.held_within.ensures
