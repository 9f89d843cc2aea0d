-- `free_pages`: page 0 marks nothing, or its marks are counted.
use borrow.Author.Rules.{rules}
use native.Mathlib.Omega.{arith}
use Rattle.sound_parts.specs.Reserves.{free_all, free_rest, used_le}
use Rattle.sound_parts.proofs.free_pages.Goals as goal

pub overflow_sub-result : goal.overflow_sub-result
overflow_sub-result c = used_le _ _ _ c.count_used.ensures

pub returns-in-Map : goal.returns-in-Map
returns-in-Map c =
    let a = c.args in
    (free_rest a.n a.pages.now _ c.nth_page-x.ensures _ (search rules) c.count_used.ensures, omega arith)

pub returns-in_default : goal.returns-in_default
returns-in_default c =
    let a = c.args in
    (free_all a.n a.pages.now _ c.nth_page-x.ensures (search rules), omega arith)
