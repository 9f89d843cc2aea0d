-- `look_in`: the first entry not below k has the key, or none has.
use Rattle.tree_lookup.specs.Descent.{look_none, look_is, look_off}
use Rattle.tree_lookup.proofs.look_in.Goals as goal

pub returns-in_err-e : goal.returns-in_err-e
returns-in_err-e c = rw c.from_residual.ensures (look_none c.args.k _ c.in_err-e.ensures)

pub returns-then-e-k : goal.returns-then-e-k
returns-then-e-k c = look_is c.args.k _ c.in_ok-e.e c.in_ok-e.ensures c.if-e-k.true

pub returns-else-e-k : goal.returns-else-e-k
returns-else-e-k c = look_off c.args.k _ c.in_ok-e.e c.in_ok-e.ensures c.if-e-k.false
