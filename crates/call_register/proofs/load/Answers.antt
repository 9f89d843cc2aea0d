-- `load`: with a budget that is never spent.
use Rattle.area_lengths.specs.Lent.{lent}
use Rattle.call_register.specs.Whole.{whole, load_few}
use Rattle.call_register.proofs.load.Goals as goal

pub returns : goal.returns
returns c = let a = c.args in whole (load_few a.keys.now a.values.now (lent a.wp.now a.sp.now a.wl.now a.sl.now) a.d) c.load_within.ensures
