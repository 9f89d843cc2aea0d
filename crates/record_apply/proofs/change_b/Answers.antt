-- `change_b`: arm by arm.
use Rattle.std.proofs.Common.{arith}
use Rattle.record_apply.specs.Changes.{b_split, b_merge, b_share, b_lower, b_other}
use Rattle.record_apply.proofs.change_b.Goals as goal

pub returns-in-9 : goal.returns-in-9
returns-in-9 c = let a = c.args in b_split a.r a.x _ c.in-9.is c.filled.ensures

pub returns-in-12 : goal.returns-in-12
returns-in-12 c = let a = c.args in b_merge a.r a.x _ c.in-12.is c.free_page.ensures

pub returns-in-13 : goal.returns-in-13
returns-in-13 c =
    let a = c.args in
    b_share a.r a.x _ _ c.in-13.is c.share_b.ensures.0 c.with_list.ensures

pub returns-in-15 : goal.returns-in-15
returns-in-15 c = let a = c.args in b_lower a.r a.x _ c.in-15.is c.free_page-in-15.ensures

pub returns-in_default : goal.returns-in_default
returns-in_default c = let a = c.args in b_other a.r a.x _ (omega arith) (omega arith) (omega arith) (omega arith) c.cut.ensures
