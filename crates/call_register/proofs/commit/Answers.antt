-- `commit`: with a budget that is never spent.
use Rattle.area_lengths.specs.Lent.{lent}
use Rattle.call_register.specs.Whole.{whole, commit_few}
use Rattle.call_register.proofs.commit.Goals as goal

pub returns : goal.returns
returns c = let a = c.args in whole (commit_few a.b (lent a.wp.now a.sp.now a.wl.now a.sl.now) a.d) c.commit_within.ensures
