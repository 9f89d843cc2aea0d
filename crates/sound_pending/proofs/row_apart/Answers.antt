-- `row_apart`: so far every later batch is apart.
use borrow.Author.Tests.{not-true, not-false}
use Rattle.sound_pending.specs.Apart.{apart_start, apart_end, apart_off, apart_on}
use Rattle.sound_pending.proofs.row_apart.Goals as goal

pub loop-j-init : goal.loop-j-init
loop-j-init c = let a = c.args in apart_start a.m a.log.now a.rows a.i

pub returns-then-not-lines_free : goal.returns-then-not-lines_free
returns-then-not-lines_free c =
    let a = c.args in
    let l = c.loop-j in
    apart_off a.m a.log.now a.rows a.i l.j l.invariant c.requires.1 c.loop-j-test.true _ c.lines_free.ensures (not-true _ c.if-not-lines_free.true-raw)

pub loop-j-preserved : goal.loop-j-preserved
loop-j-preserved c =
    let a = c.args in
    let l = c.loop-j in
    apart_on a.m a.log.now a.rows a.i l.j l.invariant c.requires.1 c.loop-j-test.true _ c.lines_free.ensures (not-false _ c.if-not-lines_free.false-raw)

pub returns : goal.returns
returns c =
    let a = c.args in
    let l = c.loop-j in
    apart_end a.m a.log.now a.rows a.i l.j l.invariant c.loop-j-test.false
