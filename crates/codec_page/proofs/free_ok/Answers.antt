-- `free_ok`: test by test.
use mathlib.Core.Path.{sym, ◌∙◌}
use Rattle.law_bytes.specs.Ranges.{zero_ltb, pos_ltb}
use borrow.Author.Tests.{not-true, not-false, eq-eqb, ne_eqb}
use Rattle.codec_page.specs.Layouts.{free_layout}
use Rattle.codec_page.proofs.free_ok.Goals as goal

pub returns-then-p-eq0 : goal.returns-then-p-eq0
unfolding free_layout
returns-then-p-eq0 c = rw (free_layout, zero_ltb _ c.if-p-eq0.true)

pub returns-then-not-is_bare : goal.returns-then-not-is_bare
unfolding free_layout
returns-then-not-is_bare c = rw (free_layout, pos_ltb _ c.if-p-eq0.false, sym c.is_bare.ensures ∙ not-true _ c.if-not-is_bare.true-raw)

pub returns-then-x-p : goal.returns-then-x-p
unfolding free_layout
returns-then-x-p c = rw (free_layout, pos_ltb _ c.if-p-eq0.false, sym c.is_bare.ensures ∙ not-false _ c.if-not-is_bare.false-raw, eq-eqb _ _ c.if-x-p.true)

pub returns-then-x-ne0 : goal.returns-then-x-ne0
unfolding free_layout
returns-then-x-ne0 c = rw (free_layout, pos_ltb _ c.if-p-eq0.false, sym c.is_bare.ensures ∙ not-false _ c.if-not-is_bare.false-raw, ne_eqb _ _ c.if-x-p.false, ne_eqb _ _ c.if-x-ne0.true)

pub returns : goal.returns
unfolding free_layout
returns c = rw (free_layout, pos_ltb _ c.if-p-eq0.false, sym c.is_bare.ensures ∙ not-false _ c.if-not-is_bare.false-raw, ne_eqb _ _ c.if-x-p.false, eq-eqb _ _ c.if-x-ne0.false)
