-- `page_ok`: whether the page may be reached, and its own rules.
use mathlib.Core.Path.{sym, ◌∙◌}
use borrow.Author.Tests.{not-true, not-false}
use Rattle.codec_page.specs.Typed.{typed}
use Rattle.codec_map.specs.Turns.{marks}
use Rattle.tree_check.specs.Nodes.{fits_not, fits_by}
use Rattle.tree_check.proofs.page_ok.Goals as goal

pub returns-then-not-reached : goal.returns-then-not-reached
returns-then-not-reached c =
    let a = c.args in
    fits_not a.n (marks a.map) a.level a.p (typed a.x) a.few a.from (sym c.reached.ensures ∙ not-true _ c.if-not-reached.true-raw)

pub returns : goal.returns
returns c =
    let a = c.args in
    c.node_ok.ensures
    ∙ fits_by a.n (marks a.map) a.level a.p (typed a.x) a.few a.from (sym c.reached.ensures ∙ not-false _ c.if-not-reached.false-raw)
