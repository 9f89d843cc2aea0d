-- `filled`: the level's kind, and the record's entries.
use mathlib.Core.Path.{ap₂, ◌∙◌}
use Rattle.def_layout.specs.declared.page.PageKind.{PageKind}
use mathlib.Core.List.{List}
use Rattle.def_layout.specs.declared.Entry.{Entry}
use Rattle.record_apply.specs.Pages.{node_of}
use Rattle.record_apply.specs.Changes.{filled}
use Rattle.record_apply.proofs.filled.Goals as goal

pub returns : goal.returns
returns c =
    let a = c.args in
    filled a.r.level a.own a.right a.high a.r.count a.r.entries _ c.requires
    (c.node.ensures ∙ ap₂ (λ (k : PageKind) (l : List Entry). node_of k a.r.level a.own a.right a.high l) c.at_level.ensures c.carried.ensures.0)
