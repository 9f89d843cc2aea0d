-- `link_row`: the row's fields, and no entries.
use Rattle.def_layout.specs.Numbers.{tab}
use Rattle.def_layout.specs.Records.{kind_of}
use Rattle.record_make.proofs.link_row.Goals as goal

pub returns : goal.returns
unfolding tab kind_of
returns c = (rw (c.of_kind-r.ensures.fields, c.default.ensures.0), c.of_kind-r.ensures.few)
