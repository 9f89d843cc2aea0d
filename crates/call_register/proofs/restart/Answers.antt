-- `restart`: with a budget that is never spent.
use Rattle.area_lengths.specs.Lent.{lent}
use Rattle.call_register.specs.Whole.{whole, restart_few}
use Rattle.call_register.proofs.restart.Goals as goal

pub returns : goal.returns
returns c = let a = c.args in whole (restart_few (lent a.wp.now a.sp.now a.wl.now a.sl.now) a.d) c.restart_within.ensures
