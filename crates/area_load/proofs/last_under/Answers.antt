-- `last_under`: the record is the same a height further down.
use mathlib.Core.Path.{refl, sym, ◌∙◌}
use Prim.Native.Nat.{◌-◌}
use native.Mathlib.Omega.{arith}
use Rattle.area_load.specs.Under.{count_few, group_inside, group_some, down_ends, down, under_none}
use Rattle.area_load.proofs.last_under.Goals as goal

pub loop-h-init : goal.loop-h-init
loop-h-init c = (omega arith, c.requires.1, refl)

pub level_count-count-requires : goal.level_count-count-requires
level_count-count-requires c = omega arith

pub overflow_add-j : goal.overflow_add-j
overflow_add-j c = let l = c.loop-h in let i = group_inside c.args.n l.h l.j c.level_count-count.result (omega arith) l.invariant.1 c.level_count-count.ensures in let f = count_few (c.loop-h.h - 1) c.args.n in let e = c.level_count-count.ensures in omega arith

pub overflow_add-count : goal.overflow_add-count
overflow_add-count c = let f = count_few (c.loop-h.h - 1) c.args.n in let e = c.level_count-count.ensures in omega arith

pub returns-then-j-count : goal.returns-then-j-count
returns-then-j-count c = let l = c.loop-h in down_ends c.args.n l.h l.j c.level_count-count.result (omega arith) l.invariant.1 c.level_count-count.ensures (omega arith) ∙ sym l.invariant.2

pub group_end-j-requires : goal.group_end-j-requires
group_end-j-requires c = let l = c.loop-h in let f = count_few (l.h - 1) c.args.n in let e = c.level_count-count.ensures in (omega arith, group_inside c.args.n l.h l.j c.level_count-count.result (omega arith) l.invariant.1 e)

pub overflow_sub-j : goal.overflow_sub-j
overflow_sub-j c = let l = c.loop-h in let g = group_some c.args.n l.h l.j c.level_count-count.result (omega arith) l.invariant.1 c.level_count-count.ensures in let e = c.group_end-j.ensures in omega arith

pub loop-h-preserved : goal.loop-h-preserved
loop-h-preserved c =
    let l = c.loop-h in
    let (a, b) = down c.args.n l.h l.j c.level_count-count.result (omega arith) l.invariant.1 c.level_count-count.ensures (λ e. omega arith) in
    let e = c.group_end-j.ensures in
    (omega arith, rw e a, rw e (l.invariant.2 ∙ b))

pub returns : goal.returns
returns c = let l = c.loop-h in sym (l.invariant.2 ∙ under_none c.args.n l.h l.j (omega arith))
