-- `newest_on`: the newest with that key.
use borrow.Author.Rules.{rules}
use lib.Dec.{eqb}
use Prim.Native.Nat.{ℕ}
use Rattle.sound_pending.specs.Keys.{newest_says}
use Rattle.sound_pending.proofs.newest_on.Goals as goal

pub returns : goal.returns
returns c =
    let a = c.args in
    newest_says a.k a.m a.log.now a.from a.count _ (c.newest_with.ensures (λ (key : ℕ). eqb a.k key) (λ key r q. search rules))
