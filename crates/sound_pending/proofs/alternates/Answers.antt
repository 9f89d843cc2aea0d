-- `alternates`: by the tests in turn.
use borrow.Author.Tests.{not-true, not-false}
use Rattle.sound_pending.specs.Alternating.{alternates_none, alternates_insert, alternates_two, alternates_delete}
use Rattle.sound_pending.proofs.alternates.Goals as goal

pub returns-in_default : goal.returns-in_default
returns-in_default c = let a = c.args in rw c.in_default.is (alternates_none a.x)

pub returns-then-x : goal.returns-then-x
returns-then-x c = let a = c.args in rw c.in-Some.is (alternates_insert a.x c.in-Some.older c.if-x.true)

pub returns-then-not-older : goal.returns-then-not-older
returns-then-not-older c =
    let a = c.args in
    rw c.in-Some.is (alternates_two a.x c.in-Some.older c.if-x.false (not-true _ c.if-not-older.true))

pub returns : goal.returns
returns c =
    let a = c.args in
    rw c.in-Some.is (alternates_delete a.x c.in-Some.older c.if-x.false (not-false _ c.if-not-older.false))
