-- `batch_ok`: by the three tests.
use borrow.Author.Tests.{not-true, not-false}
use Rattle.law_bytes.specs.PageAreas.{pages_of}
use Rattle.sound_pending.specs.Rule.{batch_alternates_not, batch_agrees_not, batch_apart}
use Rattle.sound_pending.proofs.batch_ok.Goals as goal

pub returns-then-not-lines_alternate : goal.returns-then-not-lines_alternate
returns-then-not-lines_alternate c =
    let a = c.args in
    batch_alternates_not (pages_of a.n a.pages.now) a.m a.log.now a.rows a.i c.requires.1 _ c.lines_alternate.ensures (not-true _ c.if-not-lines_alternate.true-raw)

pub returns-then-not-newest_agree : goal.returns-then-not-newest_agree
returns-then-not-newest_agree c =
    let a = c.args in
    batch_agrees_not (pages_of a.n a.pages.now) a.m a.log.now a.rows a.i c.requires.1 _ c.lines_alternate.ensures (not-false _ c.if-not-lines_alternate.false-raw) _ c.newest_agree.ensures (not-true _ c.if-not-newest_agree.true-raw)

pub returns : goal.returns
returns c =
    let a = c.args in
    batch_apart (pages_of a.n a.pages.now) a.m a.log.now a.rows a.i c.requires.1 _ c.lines_alternate.ensures (not-false _ c.if-not-lines_alternate.false-raw) _ c.newest_agree.ensures (not-false _ c.if-not-newest_agree.false-raw) _ c.row_apart.ensures
