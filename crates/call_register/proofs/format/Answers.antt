-- `format`: with a budget that is never spent.
use Rattle.area_lengths.specs.Lent.{lent}
use Rattle.call_register.specs.Whole.{whole, format_few}
use Rattle.call_register.proofs.format.Goals as goal

pub returns : goal.returns
returns c = let a = c.args in whole (format_few (lent a.wp.now a.sp.now a.wl.now a.sl.now) a.d) c.format_within.ensures
