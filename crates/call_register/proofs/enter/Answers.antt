-- `enter`: the lengths, the page, then sound.
use borrow.Author.Tests.{not-true, not-false}
use mathlib.Core.Path.{◌∙◌, sym, refl}
use native.Mathlib.Omega.{arith}
use Rattle.area_lengths.specs.Lent.{lengths_numbers}
use Rattle.call_register.specs.Entered.{barred_1, barred_2, barred_11, entered}
use Rattle.call_register.proofs.enter.Goals as goal

pub returns-then-not-lengths_ok : goal.returns-then-not-lengths_ok
returns-then-not-lengths_ok c = barred_1 _ _ _ _ _ _ (sym c.lengths_ok.ensures ∙ not-true _ c.if-not-lengths_ok.true-raw)

pub returns-then-p-pages : goal.returns-then-p-pages
returns-then-p-pages c = barred_2 _ _ _ _ _ _ (sym c.lengths_ok.ensures ∙ not-false _ c.if-not-lengths_ok.false-raw) c.if-p-pages.true

pub standing_of-requires : goal.standing_of-requires
standing_of-requires c =
    let a = c.args in
    let z = lengths_numbers a.wp.now a.sp.now a.wl.now a.sl.now (sym c.lengths_ok.ensures ∙ not-false _ c.if-not-lengths_ok.false-raw) in
    ((z.0, z.2, z.4, z.6), (omega (arith, z.7, z.4), z.6))

pub returns-in_default : goal.returns-in_default
returns-in_default c =
    let a = c.args in
    barred_11 a.wp.now a.sp.now a.wl.now a.sl.now a.d a.p (sym c.lengths_ok.ensures ∙ not-false _ c.if-not-lengths_ok.false-raw) (omega (arith, c.if-p-pages.false)) (c.in_default.ensures a.sp.now)

pub returns : goal.returns
returns c =
    let a = c.args in
    entered a.wp.now a.sp.now a.wl.now a.sl.now a.d a.p (sym c.lengths_ok.ensures ∙ not-false _ c.if-not-lengths_ok.false-raw) (omega (arith, c.if-p-pages.false)) _ refl refl
    (c.in-Some.ensures.0 a.sp.now) c.in-Some.ensures.1
