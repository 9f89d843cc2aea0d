-- `raise_row`: the row's fields.
use Rattle.def_layout.specs.Records.{kind_of}
use Rattle.record_make.proofs.raise_row.Goals as goal

pub returns : goal.returns
unfolding kind_of
returns c = (rw c.of_kind-r.ensures.fields, c.of_kind-r.ensures.few)
