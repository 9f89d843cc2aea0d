-- `data_row`: the row's fields, and no entries.
use Rattle.def_layout.specs.Numbers.{tab}
use Rattle.record_make.proofs.data_row.Goals as goal

pub returns : goal.returns
unfolding tab
returns c = (rw (c.of_kind-r.ensures.fields, c.default.ensures.0), c.of_kind-r.ensures.few)
