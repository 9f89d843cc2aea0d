-- `lines_free`: none is found that has a key of the row's lines.
use borrow.Author.Rules.{rules}
use lib.Dec.{eqb}
use Prim.Native.Nat.{ℕ}
use Rattle.def_base.specs.Tests.{any}
use Rattle.sound_pending.specs.Apart.{own_says, free_says}
use Rattle.sound_pending.proofs.lines_free.Goals as goal

pub returns : goal.returns
returns c =
    let a = c.args in
    free_says a.m a.log.now a.row a.from a.count _
    (λ own l q e. c.newest_with.ensures (λ (key : ℕ). any (λ y. eqb key y.key) own) (λ key r p. own_says a.m a.log.now a.row own l q e key r (search rules)))
    _ c.is_none.ensures
