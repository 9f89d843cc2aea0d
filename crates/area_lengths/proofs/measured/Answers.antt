-- `measured`: test by test.
use borrow.Author.Tests.{eq-eqb, ne_eqb, lt-leb, le-leb}
use Rattle.area_lengths.proofs.measured.Goals as goal

pub returns-then-bytes-size-ne0 : goal.returns-then-bytes-size-ne0
returns-then-bytes-size-ne0 c = rw (ne_eqb _ _ c.if-bytes-size-ne0.true)

pub returns-then-bytes-least : goal.returns-then-bytes-least
returns-then-bytes-least c = rw (eq-eqb _ _ c.if-bytes-size-ne0.false, lt-leb _ _ c.if-bytes-least.true)

pub returns : goal.returns
returns c = rw (eq-eqb _ _ c.if-bytes-size-ne0.false, le-leb _ _ c.if-bytes-least.false)
