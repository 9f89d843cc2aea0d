-- `lines_alternate`: so far each alternates with the newest below it.
use Prim.Native.Nat.{◌-◌}
use native.Mathlib.Omega.{arith}
use borrow.Author.Tests.{not-true, not-false}
use Rattle.sound_pending.specs.Walks.{none_passed, one_passed}
use Rattle.sound_pending.specs.Alternating.{AlternateLeft, alternate_start, alternate_end, alternate_off, alternate_on}
use Rattle.sound_pending.proofs.lines_alternate.Goals as goal

pub loop-passed-init : goal.loop-passed-init
loop-passed-init c = let a = c.args in none_passed (AlternateLeft a.m a.log.now a.from a.count a.from) a.count (alternate_start a.m a.log.now a.from a.count)

pub returns-then-not-alternates : goal.returns-then-not-alternates
returns-then-not-alternates c =
    let a = c.args in
    let l = c.loop-passed in
    alternate_off a.m a.log.now a.from a.count l.at (a.count - l.passed) l.invariant (λ z. omega (arith, z, c.loop-passed-test.true)) _ c.line_at-x.ensures _ c.newest_on-older.ensures _ c.alternates.ensures (not-true _ c.if-not-alternates.true-raw)

pub loop-passed-preserved : goal.loop-passed-preserved
loop-passed-preserved c =
    let a = c.args in
    let l = c.loop-passed in
    one_passed (AlternateLeft a.m a.log.now a.from a.count c.line_at-x.result.below) a.count l.passed
    (alternate_on a.m a.log.now a.from a.count l.at (a.count - l.passed) l.invariant (λ z. omega (arith, z, c.loop-passed-test.true)) _ c.line_at-x.ensures _ c.newest_on-older.ensures _ c.alternates.ensures (not-false _ c.if-not-alternates.false-raw))

pub returns : goal.returns
returns c =
    let a = c.args in
    let l = c.loop-passed in
    alternate_end a.m a.log.now a.from a.count l.at (a.count - l.passed) l.invariant (omega (arith, c.loop-passed-test.false))
