-- `map_fits`: which page's mark, and whether it is to be taken.
use Rattle.std.proofs.Common.{arith}
use Rattle.record_fit.specs.Rows.{map_split, map_raise, map_other}
use Rattle.record_fit.proofs.map_fits.Goals as goal

pub returns-in-9 : goal.returns-in-9
returns-in-9 c = let a = c.args in map_split a.r a.x _ c.in-9.is c.mark_fits.ensures

pub returns-in-14 : goal.returns-in-14
returns-in-14 c = let a = c.args in map_raise a.r a.x _ c.in-14.is c.mark_fits-in-14.ensures

pub returns-in_default : goal.returns-in_default
returns-in_default c =
    let a = c.args in
    map_other a.r a.x _ (omega arith) (omega arith) c.mark_fits-in_default.ensures
