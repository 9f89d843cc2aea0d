-- `restock`: the next child, or the left neighbour.
use borrow.Author.Rules.{rules}
use mathlib.Core.Path.{subst, refl}
use Prim.Native.Nat.{◌+◌}
use native.Mathlib.Omega.{arith}
use Rattle.def_layout.specs.declared.Entry.{Entry}
use Rattle.def_layout.specs.Entries.{entry_at}
use Rattle.def_model.specs.Update.{link_after}
use Rattle.tree_write.specs.Shows.{Shows}
use Rattle.tree_remove.specs.Joins.{restock_next, restock_last}
use Rattle.tree_remove.specs.Shares.{before_is}
use Rattle.tree_remove.proofs.restock.Goals as goal

pub returns-then-i-count : goal.returns-then-i-count
returns-then-i-count c s h =
    let a = c.args in
    let x = c.page_at-x in
    let i = c.find-i in
    let f : Entry = entry_at x.result.entries (i.result + 1) in
    subst (Shows a.n a.m _ _ _) (restock_next s a.k a.q a.p x.result (x.ensures.1 s.pages s.lefts h.pages) i.result f i.ensures.0 c.if-i-count.true refl)
    (c.unlink_join.ensures (link_after a.p f.val f.key s) (c.link_after-u.ensures s h))

pub returns : goal.returns
returns c s h =
    let a = c.args in
    let x = c.page_at-x in
    let i = c.find-i in
    let d = c.unwrap_or_default-d in
    let f : Entry = d.result in
    let is = before_is x.result.count i.result x.result.entries c.before-2.result f _ (λ y z. search rules) c.before-2.ensures d.ensures i.ensures.1 in
    subst (Shows a.n a.m _ _ _) (restock_last s a.k a.q a.p x.result (x.ensures.1 s.pages s.lefts h.pages) i.result f i.ensures.0 (omega (arith, c.if-i-count.false)) is)
    (c.join_left.ensures (link_after a.p f.val f.key s) (c.link_after-u-2.ensures s h))
