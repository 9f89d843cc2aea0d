-- `reached`: test by test, and the page's mark.
use mathlib.Core.Path.{sym, ◌∙◌}
use native.Mathlib.Omega.{arith}
use borrow.Author.Tests.{not-true, not-false}
use Rattle.codec_page.specs.Typed.{typed}
use Rattle.codec_map.specs.Turns.{marks}
use Rattle.tree_check.specs.Nodes.{off_zero, off_area, off_kind, off_level, by_mark, mark_of}
use Rattle.tree_check.proofs.reached.Goals as goal

pub returns-then-p-eq0 : goal.returns-then-p-eq0
returns-then-p-eq0 c = let a = c.args in off_zero a.n (marks a.map) a.level a.p (typed a.x) c.if-p-eq0.true

pub returns-then-p-n : goal.returns-then-p-n
returns-then-p-n c = let a = c.args in off_area a.n (marks a.map) a.level a.p (typed a.x) c.if-p-n.true

pub returns-then-not-kind_ok : goal.returns-then-not-kind_ok
returns-then-not-kind_ok c = let a = c.args in off_kind a.n (marks a.map) a.level a.p (typed a.x) (sym c.kind_ok.ensures ∙ not-true _ c.if-not-kind_ok.true-raw)

pub returns-then-x-level : goal.returns-then-x-level
unfolding typed
returns-then-x-level c = let a = c.args in off_level a.n (marks a.map) a.level a.p (typed a.x) c.if-x-level.true

pub returns : goal.returns
unfolding typed
returns c =
    let a = c.args in
    c.marked.ensures ∙ mark_of a.map a.p (omega arith)
    ∙ by_mark a.n (marks a.map) a.level a.p (typed a.x) c.if-p-eq0.false c.if-p-n.false
    (sym c.kind_ok.ensures ∙ not-false _ c.if-not-kind_ok.false-raw) c.if-x-level.false
