-- `pending_ok`: so far every batch is in order.
use borrow.Author.Tests.{not-true, not-false}
use Rattle.law_bytes.specs.PageAreas.{pages_of}
use Rattle.sound_pending.specs.Rule.{rule_start, rule_end, rule_off, rule_on}
use Rattle.sound_pending.proofs.pending_ok.Goals as goal

pub loop-i-init : goal.loop-i-init
loop-i-init c = let a = c.args in rule_start (pages_of a.n a.pages.now) a.m a.log.now a.rows

pub returns-then-not-batch_ok : goal.returns-then-not-batch_ok
returns-then-not-batch_ok c =
    let a = c.args in
    let l = c.loop-i in
    rule_off (pages_of a.n a.pages.now) a.m a.log.now a.rows l.i l.invariant _ c.batch_ok.ensures (not-true _ c.if-not-batch_ok.true-raw)

pub loop-i-preserved : goal.loop-i-preserved
loop-i-preserved c =
    let a = c.args in
    let l = c.loop-i in
    rule_on (pages_of a.n a.pages.now) a.m a.log.now a.rows l.i l.invariant _ c.batch_ok.ensures (not-false _ c.if-not-batch_ok.false-raw)

pub returns : goal.returns
returns c =
    let a = c.args in
    let l = c.loop-i in
    rule_end (pages_of a.n a.pages.now) a.m a.log.now a.rows l.i l.invariant c.loop-i-test.false
