-- `fits_b`: arm by arm.
use Rattle.std.proofs.Common.{arith}
use mathlib.Core.Path.{refl}
use Rattle.def_layout.specs.Records.{kind_of}
use Rattle.def_model.specs.Fit.{fits_b}
use Rattle.record_fit.specs.Rows.{b_at, b_quiet}
use Rattle.record_fit.proofs.fits_b.Goals as goal

pub returns-in-9 : goal.returns-in-9
unfolding kind_of fits_b
returns-in-9 c = let a = c.args in b_at a.r a.x _ 9 c.in-9.is c.is_free.ensures

pub returns-in-12 : goal.returns-in-12
unfolding kind_of
returns-in-12 c = let a = c.args in b_at a.r a.x _ 12 c.in-12.is c.merge_b_fits.ensures

pub returns-in-13 : goal.returns-in-13
unfolding kind_of
returns-in-13 c = let a = c.args in b_at a.r a.x _ 13 c.in-13.is c.redistribute_b_fits.ensures

pub returns-in-15 : goal.returns-in-15
unfolding kind_of
returns-in-15 c = let a = c.args in b_at a.r a.x _ 15 c.in-15.is c.lower_b_fits.ensures

pub returns-in_default : goal.returns-in_default
returns-in_default c =
    let a = c.args in
    b_quiet a.r a.x _ refl (omega arith) (omega arith) (omega arith) (omega arith)
