-- `shared_key`: by whose entry is the last of the half.
use mathlib.Core.Path.{ap}
use Rattle.def_layout.specs.declared.Entry.{Entry}
use Rattle.tree_remove.specs.Shares.{key_own, key_got}
use Rattle.tree_remove.proofs.shared_key.Goals as goal

pub returns-then-i-a : goal.returns-then-i-a
returns-then-i-a c = let a = c.args in
    key_own a.x.count a.y.count a.x.entries a.y.entries c.share-i.result c.share-i.ensures _ c.if-i-a.true (ap (λ (e : Entry). e.key) c.entry_in.ensures)

pub returns : goal.returns
returns c = let a = c.args in
    key_got a.x.count a.y.count a.x.entries a.y.entries c.share-i.result c.share-i.ensures _ c.if-i-a.false (ap (λ (e : Entry). e.key) c.entry_in-2.ensures)
