-- `entry_for`: the first entry not below k, or none.
use Rattle.tree_lookup.specs.Descent.{leads_none, leads_to}
use Rattle.tree_lookup.proofs.entry_for.Goals as goal

pub returns-in-Some : goal.returns-in-Some
returns-in-Some c = leads_to _ _ _ c.in-Some.ensures

pub returns-in-None : goal.returns-in-None
returns-in-None c = leads_none _ _ c.in-None.ensures
