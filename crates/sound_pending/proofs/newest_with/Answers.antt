-- `newest_with`: no line so far has such a key, so the newest is that of the rest.
use Prim.Native.Nat.{◌-◌}
use native.Mathlib.Omega.{arith}
use mathlib.Core.Path.{sym, ◌∙◌}
use Rattle.sound_pending.specs.Walks.{none_passed, one_passed}
use Rattle.sound_pending.specs.Keys.{FirstLeft, first_start, first_none, first_hit, first_further}
use Rattle.sound_pending.proofs.newest_with.Goals as goal

pub loop-passed-init : goal.loop-passed-init
loop-passed-init g c t p = let a = c.args in none_passed (FirstLeft t a.m a.log.now a.from a.count a.from) a.count (first_start t a.m a.log.now a.from a.count)

pub returns-then-test : goal.returns-then-test
returns-then-test g c t p =
    let a = c.args in
    let l = c.loop-passed in
    first_hit t a.m a.log.now a.from a.count l.at (a.count - l.passed) (l.invariant t p) (λ z. omega (arith, z, c.loop-passed-test.true)) _ c.line_at-x.ensures (sym (p _ _ c.test.ensures) ∙ c.if-test.true)

pub loop-passed-preserved : goal.loop-passed-preserved
loop-passed-preserved g c t p =
    let a = c.args in
    let l = c.loop-passed in
    one_passed (FirstLeft t a.m a.log.now a.from a.count c.line_at-x.result.below) a.count l.passed
    (first_further t a.m a.log.now a.from a.count l.at (a.count - l.passed) (l.invariant t p) (λ z. omega (arith, z, c.loop-passed-test.true)) _ c.line_at-x.ensures (sym (p _ _ c.test.ensures) ∙ c.if-test.false))

pub returns : goal.returns
returns g c t p =
    let a = c.args in
    let l = c.loop-passed in
    first_none t a.m a.log.now a.from a.count l.at (a.count - l.passed) (l.invariant t p) (omega (arith, c.loop-passed-test.false))
