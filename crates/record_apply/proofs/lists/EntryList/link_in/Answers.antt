-- `link_in`: nothing at w's place, or the entry there set anew with one before it.
use borrow.Author.Rules.{rules}
use mathlib.Core.Path.{◌∙◌, ap}
use Rattle.law_bytes.specs.EntryBytes.{used}
use Prim.Native.Nat.{◌≤◌}
use lib.ListN.{length}
use Rattle.record_apply.specs.Lists.{link_none, linked}
use Rattle.record_apply.proofs.lists.EntryList.link_in.Goals as goal

pub returns-then-i-self : goal.returns-then-i-self
returns-then-i-self c =
    let a = c.args in
    (link_none a.self.count a.self.entries c.requires a.b a.u a.c a.w _ c.place-i.ensures.0 c.if-i-self.true, c.requires)

pub returns : goal.returns
returns c =
    let a = c.args in
    let h : a.self.count ≤ length a.self.entries = search rules in
    (ap (λ m. used m c.insert_at.result) c.min.ensures ∙ linked a.self.count a.self.entries c.requires a.b a.u a.c a.w _ _ c.place-i.ensures.0 c.if-i-self.false h c.insert_at.ensures, search rules)
