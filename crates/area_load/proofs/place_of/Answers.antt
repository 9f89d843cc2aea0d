-- `place_of`: the levels from the leaves up, until the page is on one of them.
use mathlib.Core.Path.{◌≡◌, refl, sym, ap, subst}
use Prim.Native.Nat.{suc, ◌+◌, ◌-◌, ◌/◌}
use native.Mathlib.Omega.{arith}
use lib.Dec.{eqb}
use Rattle.def_model.specs.Loading.{loaded_count}
use Rattle.theory_load.specs.Places.{end_fits}
use Rattle.area_load.specs.Placed.{Rungs, rungs_start, rungs_below, rungs_up, page_placed, root_placed}
use Rattle.area_load.specs.Counting.{count_most}
use Rattle.area_load.proofs.place_of.Goals as goal

pub tree_pages-end-requires : goal.tree_pages-end-requires
tree_pages-end-requires c = omega arith

pub overflow_add-end : goal.overflow_add-end
overflow_add-end c = let e = c.tree_pages-end.ensures in let m = count_most c.args.n c.args.n in omega arith

pub loop-count-init : goal.loop-count-init
loop-count-init c =
    let e = c.tree_pages-end.ensures in
    let q : c.tree_pages-end.result + 1 ≡ suc (loaded_count c.args.n) = omega arith in
    (omega arith, omega arith, subst (λ k. Rungs c.args.n 0 c.args.n k) (sym q) (rungs_start c.args.n))

pub overflow_add-pages : goal.overflow_add-pages
overflow_add-pages c = let r = c.loop-count.invariant.2.low in omega arith

pub overflow_sub-first : goal.overflow_sub-first
overflow_sub-first c = let l = c.loop-count in let b = rungs_below c.args.n l.height l.count l.end (omega arith) l.invariant.2 in omega arith

pub group_start-from-requires : goal.group_start-from-requires
group_start-from-requires c =
    let l = c.loop-count in
    let b = rungs_below c.args.n l.height l.count l.end (omega arith) l.invariant.2 in
    let r = l.invariant.2.low in
    (omega arith, omega arith)

pub group_end-requires : goal.group_end-requires
group_end-requires c =
    let l = c.loop-count in
    let b = rungs_below c.args.n l.height l.count l.end (omega arith) l.invariant.2 in
    let r = l.invariant.2.low in
    (omega arith, omega arith)

pub overflow_sub-size : goal.overflow_sub-size
overflow_sub-size c =
    let l = c.loop-count in
    let b = rungs_below c.args.n l.height l.count l.end (omega arith) l.invariant.2 in
    let (s, t, u) = end_fits l.count (c.args.p - (l.end - (l.count + 9) / 10)) (omega arith) in
    let e = c.group_end.ensures in
    let f = c.group_start-from.ensures in
    omega arith

pub overflow_add-result : goal.overflow_add-result
overflow_add-result c = omega arith

pub returns-then-p-first : goal.returns-then-p-first
returns-then-p-first c =
    let l = c.loop-count in
    let one : c.args.p - (l.end - (l.count + 9) / 10) + 1 ≡ suc (c.args.p - (l.end - (l.count + 9) / 10)) = omega arith in
    page_placed c.args.n l.height l.count l.end c.args.p (l.end - (l.count + 9) / 10) c.group_start-from.result (c.group_end.result - c.group_start-from.result) _ (omega arith) l.invariant.2 refl (omega arith) l.invariant.1
    c.group_start-from.ensures (ap (λ k. k - c.group_start-from.result) c.group_end.ensures) (ap (λ k. eqb k ((c.loop-count.count + 9) / 10)) one)

pub overflow_add-height : goal.overflow_add-height
overflow_add-height c = let r = c.loop-count.invariant.2.low in omega arith

pub loop-count-smaller : goal.loop-count-smaller
loop-count-smaller c = omega arith

pub loop-count-preserved : goal.loop-count-preserved
loop-count-preserved c =
    let l = c.loop-count in
    (omega arith, omega arith, rungs_up c.args.n l.height l.count l.end (omega arith) l.invariant.2)

pub returns : goal.returns
returns c =
    let l = c.loop-count in
    root_placed c.args.n l.height l.count l.end c.args.p (omega arith) l.invariant.2 (omega arith) l.invariant.1
