-- `lengths_ok`: test by test, a measure being the three tests of `measured`.
use mathlib.Core.Path.{sym, ◌∙◌}
use borrow.Author.Tests.{not-true, not-false, eq-eqb, ne_eqb}
use Rattle.def_model.specs.OnBytes.{measures, lengths_ok}
use Rattle.area_lengths.proofs.lengths_ok.Goals as goal

pub returns-then-not-measured : goal.returns-then-not-measured
unfolding lengths_ok measures
returns-then-not-measured c = rw (lengths_ok, sym c.measured.ensures ∙ not-true _ c.if-not-measured.true-raw)

pub returns-then-sp-wp : goal.returns-then-sp-wp
unfolding lengths_ok measures
returns-then-sp-wp c = rw (lengths_ok, sym c.measured.ensures ∙ not-false _ c.if-not-measured.false-raw, ne_eqb _ _ c.if-sp-wp.true)

pub returns-then-not-measured-2 : goal.returns-then-not-measured-2
unfolding lengths_ok measures
returns-then-not-measured-2 c = rw (lengths_ok, sym c.measured.ensures ∙ not-false _ c.if-not-measured.false-raw, eq-eqb _ _ c.if-sp-wp.false, sym c.measured-2.ensures ∙ not-true _ c.if-not-measured-2.true-raw)

pub returns : goal.returns
unfolding lengths_ok measures
returns c = rw (lengths_ok, sym c.measured.ensures ∙ not-false _ c.if-not-measured.false-raw, eq-eqb _ _ c.if-sp-wp.false, sym c.measured-2.ensures ∙ not-false _ c.if-not-measured-2.false-raw)
