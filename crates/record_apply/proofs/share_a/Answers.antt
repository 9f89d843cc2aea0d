-- `share_a`: by the side that the entries go to.
use mathlib.Core.Path.{ap, sym, ◌∙◌}
use mathlib.Core.List.{List, ◌++◌}
use lib.ListN.{take}
use Rattle.def_layout.specs.declared.Entry.{Entry}
use Rattle.record_apply.specs.Lists.{listed}
use Rattle.record_apply.specs.Pages.{share_a_in, share_a_out}
use Rattle.record_apply.proofs.share_a.Goals as goal

pub returns-then-into_a : goal.returns-then-into_a
returns-then-into_a c =
    let a = c.args in (
      share_a_in a.r a.es.count a.es.entries c.requires.0 _ (sym c.into_a.ensures ∙ c.if-into_a.true)
          (c.join.ensures.0 ∙ ap (λ (l : List Entry). take 14 (listed a.es ++ l)) c.carried.ensures.0),
      c.join.ensures.1,
    )

pub returns-else-into_a : goal.returns-else-into_a
returns-else-into_a c =
    let a = c.args in
    (share_a_out a.r a.es.count a.es.entries c.requires.0 c.without_last.result.count c.without_last.result.entries (sym c.into_a.ensures ∙ c.if-into_a.false) c.without_last.ensures.1 c.without_last.ensures.0, c.without_last.ensures.1)
