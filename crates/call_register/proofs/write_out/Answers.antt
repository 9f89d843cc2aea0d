-- `write_out`: with a budget that is never spent.
use Rattle.area_lengths.specs.Lent.{lent}
use Rattle.call_register.specs.Whole.{whole, write_out_few}
use Rattle.call_register.proofs.write_out.Goals as goal

pub returns : goal.returns
returns c = let a = c.args in whole (write_out_few a.p (lent a.wp.now a.sp.now a.wl.now a.sl.now) a.d) c.write_out_within.ensures
