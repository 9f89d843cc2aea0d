-- `index_ok`: test by test.
use mathlib.Core.Path.{◌∙◌}
use Rattle.law_bytes.specs.Ranges.{zero_ltb, pos_ltb}
use borrow.Author.Tests.{eq-eqb, ne_eqb, lt-leb, le-leb}
use Rattle.codec_page.specs.Layouts.{index_layout}
use Rattle.codec_page.proofs.index_ok.Goals as goal

pub returns-then-p-eq0 : goal.returns-then-p-eq0
unfolding index_layout
returns-then-p-eq0 c = rw (index_layout, zero_ltb _ c.if-p-eq0.true)

pub returns-then-x-p : goal.returns-then-x-p
unfolding index_layout
returns-then-x-p c = rw (index_layout, pos_ltb _ c.if-p-eq0.false, ne_eqb _ _ c.if-x-p.true)

pub returns-then-x-eq0 : goal.returns-then-x-eq0
unfolding index_layout
returns-then-x-eq0 c = rw (index_layout, pos_ltb _ c.if-p-eq0.false, eq-eqb _ _ c.if-x-p.false, zero_ltb _ c.if-x-eq0.true)

pub returns-then-x-gt-MOST_ENTRIES : goal.returns-then-x-gt-MOST_ENTRIES
unfolding index_layout
returns-then-x-gt-MOST_ENTRIES c = rw (index_layout, pos_ltb _ c.if-p-eq0.false, eq-eqb _ _ c.if-x-p.false, pos_ltb _ c.if-x-eq0.false, lt-leb _ _ c.if-x-gt-MOST_ENTRIES.true)

pub returns : goal.returns
unfolding index_layout
returns c = c.children_fit.ensures ∙ rw (index_layout, pos_ltb _ c.if-p-eq0.false, eq-eqb _ _ c.if-x-p.false, pos_ltb _ c.if-x-eq0.false, le-leb _ _ c.if-x-gt-MOST_ENTRIES.false)
