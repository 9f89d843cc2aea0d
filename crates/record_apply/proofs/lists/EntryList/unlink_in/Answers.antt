-- `unlink_in`: nothing after u's place, or the entry after it set anew and the one there taken out.
use borrow.Author.Rules.{rules}
use native.Mathlib.Omega.{arith}
use Prim.Native.Nat.{◌≤◌}
use lib.ListN.{length}
use Rattle.record_apply.specs.Lists.{unlink_none, unlinked}
use Rattle.record_apply.proofs.lists.EntryList.unlink_in.Goals as goal

pub returns-then-i-self : goal.returns-then-i-self
returns-then-i-self c =
    let a = c.args in
    (unlink_none a.self.count a.self.entries c.requires a.b a.u a.w _ c.place-i.ensures.0 c.if-i-self.true, c.requires)

pub returns : goal.returns
returns c =
    let a = c.args in
    let h : a.self.count ≤ length a.self.entries = search rules in
    (unlinked a.self.count a.self.entries c.requires a.b a.u a.w _ c.remove_at.result c.place-i.ensures.0 c.if-i-self.false h c.remove_at.ensures, omega arith)
