-- `store_first`: after k turns the first k stores are made.
use native.Mathlib.Omega.{arith}
use mathlib.Core.Path.{refl, ◌∙◌}
use Rattle.area_lengths.specs.Lent.{lent}
use Rattle.area_store.specs.Steps.{fits_still, none_made, one_more, all_made}
use Rattle.area_store.proofs.store_first.Goals as goal

pub loop-k-init : goal.loop-k-init
loop-k-init c = (refl, refl, λ ts h. none_made ts _)

pub store_one-requires : goal.store_one-requires
store_one-requires c =
    let a = c.args in
    let l = c.loop-k in (
      omega arith,
      fits_still a.s a.wp.now a.sp.now a.wl.now a.sl.now l.sp l.sl l.invariant.0 l.invariant.1 c.requires,
      record { start = lent a.wp.now a.sp.now a.wl.now a.sl.now; leads = l.invariant.2 },
    )

pub loop-k-preserved : goal.loop-k-preserved
loop-k-preserved c =
    let a = c.args in
    let l = c.loop-k in
    let o = c.store_one in (
      o.auto.sp ∙ l.invariant.0,
      o.auto.sl ∙ l.invariant.1,
      λ ts h. one_more a.s l.k a.wp.now a.wl.now ts h (omega arith) _ _ _ (l.invariant.2 ts h) (o.ensures ts h),
    )

pub returns : goal.returns
returns c ts h =
    let a = c.args in
    let l = c.loop-k in
    all_made a.s a.wp.now a.wl.now ts h a.budget l.k l.k (omega arith) (omega arith) (omega arith) _ _ (l.invariant.2 ts h)
