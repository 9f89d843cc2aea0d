-- `bit_fits`: a page number past the marks, or the mark.
use Rattle.record_fit.specs.Rows.{mark_past, mark_taken, mark_freed}
use Rattle.record_fit.proofs.bit_fits.Goals as goal

pub returns-then-q-ge-MOST_PAGES : goal.returns-then-q-ge-MOST_PAGES
returns-then-q-ge-MOST_PAGES c = let a = c.args in mark_past a.es a.q a.taken c.if-q-ge-MOST_PAGES.true

pub returns-then-taken : goal.returns-then-taken
returns-then-taken c = let a = c.args in mark_taken a.es a.q a.taken c.if-q-ge-MOST_PAGES.false c.if-taken.true c.marked-used.result c.marked-used.ensures

pub returns-else-taken : goal.returns-else-taken
returns-else-taken c = let a = c.args in mark_freed a.es a.q a.taken c.if-q-ge-MOST_PAGES.false c.if-taken.false c.marked-used.result c.marked-used.ensures
