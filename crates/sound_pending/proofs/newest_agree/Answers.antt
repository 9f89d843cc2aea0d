-- `newest_agree`: so far each that is the newest on its key agrees.
use Prim.Native.Nat.{ℕ, ◌-◌}
use native.Mathlib.Omega.{arith}
use borrow.Author.Tests.{not-true, not-false}
use Rattle.law_bytes.specs.PageAreas.{pages_of}
use Rattle.sound_pending.specs.Walks.{none_passed, one_passed, passed_of}
use Rattle.sound_pending.specs.Agreeing.{LineAgrees, AgreeLeft, agree_start, agree_end, agree_off, agree_on}
use Rattle.sound_pending.proofs.newest_agree.Goals as goal

pub loop-passed-init : goal.loop-passed-init
loop-passed-init c = let a = c.args in none_passed (AgreeLeft (pages_of a.n a.pages.now) a.m a.log.now a.from a.count a.from) a.count (agree_start (pages_of a.n a.pages.now) a.m a.log.now a.from a.count)

pub returns-then-not-line_agrees : goal.returns-then-not-line_agrees
returns-then-not-line_agrees c =
    let a = c.args in
    let l = c.loop-passed in
    agree_off (pages_of a.n a.pages.now) a.m a.log.now a.from a.count l.at (a.count - l.passed) l.invariant (λ z. omega (arith, z, c.loop-passed-test.true)) _ c.line_at-x.ensures _ (passed_of (λ (k : ℕ). LineAgrees (pages_of a.n a.pages.now) a.m a.log.now a.from k c.line_at-x.result c.line_agrees.result) a.count l.passed c.loop-passed-test.true c.line_agrees.ensures) (not-true _ c.if-not-line_agrees.true-raw)

pub loop-passed-preserved : goal.loop-passed-preserved
loop-passed-preserved c =
    let a = c.args in
    let l = c.loop-passed in
    one_passed (AgreeLeft (pages_of a.n a.pages.now) a.m a.log.now a.from a.count c.line_at-x.result.below) a.count l.passed
    (agree_on (pages_of a.n a.pages.now) a.m a.log.now a.from a.count l.at (a.count - l.passed) l.invariant (λ z. omega (arith, z, c.loop-passed-test.true)) _ c.line_at-x.ensures _ (passed_of (λ (k : ℕ). LineAgrees (pages_of a.n a.pages.now) a.m a.log.now a.from k c.line_at-x.result c.line_agrees.result) a.count l.passed c.loop-passed-test.true c.line_agrees.ensures) (not-false _ c.if-not-line_agrees.false-raw))

pub returns : goal.returns
returns c =
    let a = c.args in
    let l = c.loop-passed in
    agree_end (pages_of a.n a.pages.now) a.m a.log.now a.from a.count l.at (a.count - l.passed) l.invariant (omega (arith, c.loop-passed-test.false))
