-- `map_ok`: test by test.
use mathlib.Core.Path.{sym, ◌∙◌}
use borrow.Author.Tests.{not-true, not-false, eq-eqb, ne_eqb}
use Rattle.codec_page.specs.Layouts.{map_layout}
use Rattle.codec_page.proofs.map_ok.Goals as goal

pub returns-then-p-ne0 : goal.returns-then-p-ne0
unfolding map_layout
returns-then-p-ne0 c = rw (map_layout, ne_eqb _ _ c.if-p-ne0.true)

pub returns-then-x-p : goal.returns-then-x-p
unfolding map_layout
returns-then-x-p c = rw (map_layout, eq-eqb _ _ c.if-p-ne0.false, ne_eqb _ _ c.if-x-p.true)

pub returns-then-not-is_bare : goal.returns-then-not-is_bare
unfolding map_layout
returns-then-not-is_bare c = rw (map_layout, eq-eqb _ _ c.if-p-ne0.false, eq-eqb _ _ c.if-x-p.false, sym c.is_bare.ensures ∙ not-true _ c.if-not-is_bare.true-raw)

pub returns : goal.returns
unfolding map_layout
returns c = c.unmarked_from.ensures ∙ rw (map_layout, eq-eqb _ _ c.if-p-ne0.false, eq-eqb _ _ c.if-x-p.false, sym c.is_bare.ensures ∙ not-false _ c.if-not-is_bare.false-raw)
