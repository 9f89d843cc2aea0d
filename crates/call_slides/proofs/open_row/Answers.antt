-- `open_row`: batch 0 has none.
use Rattle.def_base.specs.Tests.{eq_true, neq_false}
use Rattle.call_slides.proofs.open_row.Goals as goal

pub returns-then-b-eq0 : goal.returns-then-b-eq0
returns-then-b-eq0 c = rw (eq_true c.args.b 0 c.if-b-eq0.true)

pub returns : goal.returns
returns c = rw (neq_false c.if-b-eq0.false) c.row_place.ensures
