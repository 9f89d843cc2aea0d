-- `mark`: a page without marks, a page number past the marks, or the mark set.
use Rattle.record_apply.specs.Pages.{mark_node, mark_typed, same_marks}
use Rattle.record_apply.proofs.pages.mark.Goals as goal

pub returns-then-q-lt-MOST_PAGES : goal.returns-then-q-lt-MOST_PAGES
returns-then-q-lt-MOST_PAGES c = let a = c.args in mark_typed a.x a.q a.on c.with_mark.result c.in-Map.is c.with_mark.ensures

pub returns-else-q-lt-MOST_PAGES : goal.returns-else-q-lt-MOST_PAGES
returns-else-q-lt-MOST_PAGES c = let a = c.args in mark_typed a.x a.q a.on a.x.entries c.in-Map.is (same_marks a.x a.q a.on c.if-q-lt-MOST_PAGES.false)

pub returns-in_default : goal.returns-in_default
returns-in_default c = let a = c.args in mark_node a.x a.q a.on c.requires _ c.in_default.not-Map c.cut.ensures
