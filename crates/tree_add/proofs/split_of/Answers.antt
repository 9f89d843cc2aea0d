-- `split_of`: the seventh key, and what stands after it.
use mathlib.Core.Path.{◌∙◌, ap, ap₂}
use Prim.Native.Nat.{ℕ}
use mathlib.Core.List.{List}
use Rattle.def_layout.specs.declared.Entry.{Entry}
use Rattle.def_layout.specs.Records.{split_row}
use Rattle.tree_add.proofs.split_of.Goals as goal

pub returns : goal.returns
returns c =
    let a = c.args in (
      c.split_row.ensures.0
          ∙ ap₂ (λ (k : ℕ) (es : List Entry). split_row a.x.level a.p a.b k a.x.high a.x.right es) (ap (λ (e : Entry). e.key) c.entry_in-key.ensures) c.without_first-moved.ensures.0,
      c.split_row.ensures.1,
    )
