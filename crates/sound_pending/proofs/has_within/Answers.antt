-- `has_within`: the newest with such a key, if there is one.
use borrow.Author.Rules.{rules}
use mathlib.Core.Path.{sym, subst}
use mathlib.Core.Bool.{Bool}
use Rattle.sound_pending.specs.Keys.{from_to, KeysSay, keys_say}
use Rattle.sound_pending.proofs.has_within.Goals as goal

pub returns : goal.returns
returns c =
    let a = c.args in
    subst (λ (r : Bool). KeysSay (from_to a.first a.last) a.m a.log.now a.from a.count r) (sym c.is_some.ensures)
    (keys_say (from_to a.first a.last) a.m a.log.now a.from a.count _ (c.newest_with.ensures (from_to a.first a.last) (λ key r q. search rules)))
