-- `within`: by the two tests.
use borrow.Author.Tests.{lt-leb, le-leb}
use Rattle.sound_pending.proofs.within.Goals as goal

pub returns-then-key-first : goal.returns-then-key-first
returns-then-key-first c = simp (lt-leb _ _ c.if-key-first.true)

pub returns : goal.returns
returns c = simp (le-leb _ _ c.if-key-first.false)
