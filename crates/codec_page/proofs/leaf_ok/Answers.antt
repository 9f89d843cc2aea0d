-- `leaf_ok`: test by test.
use Rattle.law_bytes.specs.Ranges.{zero_ltb, pos_ltb}
use borrow.Author.Tests.{eq-eqb, ne_eqb}
use Rattle.codec_page.specs.Layouts.{leaf_layout}
use Rattle.codec_page.proofs.leaf_ok.Goals as goal

pub returns-then-p-eq0 : goal.returns-then-p-eq0
unfolding leaf_layout
returns-then-p-eq0 c = rw (leaf_layout, zero_ltb _ c.if-p-eq0.true)

pub returns-then-x-p : goal.returns-then-x-p
unfolding leaf_layout
returns-then-x-p c = rw (leaf_layout, pos_ltb _ c.if-p-eq0.false, ne_eqb _ _ c.if-x-p.true)

pub returns-then-x-ne0 : goal.returns-then-x-ne0
unfolding leaf_layout
returns-then-x-ne0 c = rw (leaf_layout, pos_ltb _ c.if-p-eq0.false, eq-eqb _ _ c.if-x-p.false, ne_eqb _ _ c.if-x-ne0.true)

pub returns : goal.returns
unfolding leaf_layout
returns c = rw (leaf_layout, pos_ltb _ c.if-p-eq0.false, eq-eqb _ _ c.if-x-p.false, eq-eqb _ _ c.if-x-ne0.false)
