-- `dropped`: the row and the mark go.
use mathlib.Core.Path.{ap₂}
use mathlib.Core.Bool.{Bool}
use mathlib.Core.List.{List}
use Rattle.def_layout.specs.declared.Row.{Row}
use Rattle.log_chain.specs.Shown.{batches_of}
use Rattle.log_chain.proofs.dropped.Goals as goal

pub returns : goal.returns
returns c = ap₂ (λ (rs : List Row) (ms : List Bool). batches_of rs ms) c.closed.ensures c.closed_up.ensures
