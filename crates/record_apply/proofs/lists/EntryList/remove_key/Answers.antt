-- `remove_key`: no key not below k, another key at its place, or k's entry, which goes.
use native.Mathlib.Omega.{arith}
use Rattle.record_apply.specs.Lists.{key_past, key_other, removed_key}
use Rattle.record_apply.proofs.lists.EntryList.remove_key.Goals.{then-i-self-via-then-i-self, then-i-self-via-else-i-self+then-self-i}
use Rattle.record_apply.proofs.lists.EntryList.remove_key.Goals as goal

pub returns-then-i-self : goal.returns-then-i-self
returns-then-i-self c =
    let l = c.args.self in
    let k = c.args.k in
    let p = c.place-i.ensures.0 in
    elim c.then-i-self.branch [
      | then-i-self-via-then-i-self w ↦ (key_past l.count l.entries c.requires k _ p w.if-i-self.true, c.requires)
      | then-i-self-via-else-i-self+then-self-i w ↦ (key_other l.count l.entries c.requires k _ p w.if-i-self.false w.if-self-i.true, c.requires)
    ]

pub returns : goal.returns
returns c =
    let l = c.args.self in
    (removed_key l.count l.entries c.requires c.args.k _ c.remove_at.result c.place-i.ensures.0 c.if-i-self.false c.if-self-i.false c.remove_at.ensures, omega arith)
