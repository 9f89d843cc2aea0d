-- `linked_ok`: the rules, then the links.
use mathlib.Core.Path.{sym, ap, ◌∙◌}
use mathlib.Core.Bool.{Bool, ◌&&◌}
use borrow.Author.Tests.{not-true, not-false}
use Rattle.def_model.specs.Links.{lefts_ok}
use Rattle.law_bytes.specs.PageAreas.{pages_of, lefts_of}
use Rattle.sound_register.proofs.linked_ok.Goals as goal

pub returns-then-not-tree_ok : goal.returns-then-not-tree_ok
returns-then-not-tree_ok c =
    let a = c.args in
    sym (ap (λ (t : Bool). t && lefts_ok (pages_of a.n a.wp.now) (lefts_of a.n a.wp.now)) (sym c.tree_ok.ensures ∙ not-true _ c.if-not-tree_ok.true-raw))

pub returns : goal.returns
returns c =
    let a = c.args in
    c.lefts_ok.ensures ∙ sym (ap (λ (t : Bool). t && lefts_ok (pages_of a.n a.wp.now) (lefts_of a.n a.wp.now)) (sym c.tree_ok.ensures ∙ not-false _ c.if-not-tree_ok.false-raw))
