-- `node_ok`: test by test.
use mathlib.Core.Path.{sym, ◌∙◌}
use borrow.Author.Tests.{not-true, not-false}
use Rattle.tree_check.specs.Nodes.{many_entries, few_entries, low_high, keys_off, ends_leaf, ends_index}
use Rattle.tree_check.proofs.node_ok.Goals as goal

pub returns-then-m-gt-ROOM : goal.returns-then-m-gt-ROOM
returns-then-m-gt-ROOM c =
    let a = c.args in
    many_entries a.x a.level a.few a.from _ c.size_of-m.ensures.0 c.if-m-gt-ROOM.true

pub returns-then-m-few : goal.returns-then-m-few
returns-then-m-few c =
    let a = c.args in
    few_entries a.x a.level a.few a.from _ c.size_of-m.ensures.0 c.if-m-few.true

pub returns-then-high-from : goal.returns-then-high-from
returns-then-high-from c =
    let a = c.args in
    low_high a.x a.level a.few a.from _ c.size_of-m.ensures.0 c.if-high-from.true

pub returns-then-not-rises : goal.returns-then-not-rises
returns-then-not-rises c =
    let a = c.args in
    keys_off a.x a.level a.few a.from _ c.size_of-m.ensures.0 (sym c.rises.ensures ∙ not-true _ c.if-not-rises.true-raw)

pub returns-then-level-eq0 : goal.returns-then-level-eq0
returns-then-level-eq0 c =
    let a = c.args in
    ends_leaf a.x a.level a.few a.from _ c.size_of-m.ensures.0 c.if-m-gt-ROOM.false c.if-m-few.false c.if-high-from.false
    (sym c.rises.ensures ∙ not-false _ c.if-not-rises.false-raw) _ c.after-end.ensures c.if-level-eq0.true

pub returns : goal.returns
returns c =
    let a = c.args in
    ends_index a.x a.level a.few a.from _ c.size_of-m.ensures.0 c.if-m-gt-ROOM.false c.if-m-few.false c.if-high-from.false
    (sym c.rises.ensures ∙ not-false _ c.if-not-rises.false-raw) _ c.after-end.ensures c.if-level-eq0.false
