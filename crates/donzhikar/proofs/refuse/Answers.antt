-- `refuse`: the desk, and then the values.
use Rattle.donzhikar.specs.Returned.{refuses}
use Rattle.donzhikar.proofs.refuse.Goals as goal

pub returns : goal.returns
returns c = refuses _ _ _ _ _ c.refuse_desk.ensures c.refuse_values.ensures
