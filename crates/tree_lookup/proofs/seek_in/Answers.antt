-- `seek_in`: the search in the entries that there are ends at an entry or past them.
use borrow.Author.Rules.{rules}
use mathlib.Core.Path.{◌≡◌}
use lib.ListN.{length}
use Rattle.tree_lookup.specs.Searched.{seek_at, seek_none}
use Rattle.tree_lookup.proofs.seek_in.Goals as goal

pub returns-then-i-n : goal.returns-then-i-n
returns-then-i-n c =
    let a = c.args in
    let h : length a.x.entries ≡ 14 = search rules in
    seek_at a.x a.k h _ _ c.searched-n.ensures.0 c.find-i.ensures.0 c.if-i-n.true

pub returns-else-i-n : goal.returns-else-i-n
returns-else-i-n c =
    let a = c.args in
    let h : length a.x.entries ≡ 14 = search rules in
    seek_none a.x a.k h _ _ c.searched-n.ensures.0 c.find-i.ensures.0 c.if-i-n.false
