-- `update_at`: no update, or the words of one.
use borrow.Author.Tests.{not-false}
use Rattle.log_judge.specs.Updates.{tells_so}
use Rattle.log_judge.proofs.slots.update_at.Goals as goal

pub returns : goal.returns
returns c =
    let a = c.args in
    tells_so a.n a.m a.log.now a.i _ c.told_at.ensures (c.is_update.ensures (not-false _ c.if-not-is_update.false-raw))
