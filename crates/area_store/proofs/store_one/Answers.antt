-- `store_one`: the part of one place is copied, a page's or a slot's, and that is the k-th store.
use borrow.Author.Rules.{rules}
use native.Mathlib.Omega.{arith}
use Rattle.area_store.specs.Steps.{within_at, page_made, slot_made}
use Rattle.area_store.proofs.store_one.Goals as goal

pub place_of-at-requires : goal.place_of-at-requires
place_of-at-requires c = search rules

pub overflow_mul-a : goal.overflow_mul-a
overflow_mul-a c =
    let a = c.args in
    let p = c.requires in
    omega (arith, (within_at a.wp.now a.sp.now a.wl.now a.sl.now a.s a.k p.0 p.1 _ _ c.place_of-at.ensures c.in-Page.is).0)

pub store_at-requires : goal.store_at-requires
store_at-requires c =
    let a = c.args in
    let p = c.requires in
    within_at a.wp.now a.sp.now a.wl.now a.sl.now a.s a.k p.0 p.1 _ _ c.place_of-at.ensures c.in-Page.is

pub overflow_mul-a-in-Slot : goal.overflow_mul-a-in-Slot
overflow_mul-a-in-Slot c =
    let a = c.args in
    let p = c.requires in
    omega (arith, (within_at a.wp.now a.sp.now a.wl.now a.sl.now a.s a.k p.0 p.1 _ _ c.place_of-at.ensures c.in-Slot.is).0)

pub copy_part-requires : goal.copy_part-requires
copy_part-requires c =
    let a = c.args in
    let p = c.requires in
    within_at a.wp.now a.sp.now a.wl.now a.sl.now a.s a.k p.0 p.1 _ _ c.place_of-at.ensures c.in-Slot.is

pub returns-in-Page : goal.returns-in-Page
returns-in-Page c ts l =
    let a = c.args in
    page_made a.wp.now a.sp.now a.wl.now a.sl.now a.s a.k c.requires.0 _ c.place_of-at.ensures ts l _ _ c.in-Page.is c.store_at.ensures

pub returns-in-Slot : goal.returns-in-Slot
returns-in-Slot c ts l =
    let a = c.args in
    slot_made a.wp.now a.sp.now a.wl.now a.sl.now a.s a.k c.requires.0 _ c.place_of-at.ensures ts l _ _ c.in-Slot.is c.copy_part.ensures
