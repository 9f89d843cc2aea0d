-- `fits_a`: arm by arm.
use Rattle.std.proofs.Common.{arith}
use mathlib.Core.Path.{refl}
use Rattle.def_layout.specs.Records.{kind_of}
use Rattle.record_fit.specs.Rows.{a_at, a_quiet}
use Rattle.record_fit.proofs.fits_a.Goals as goal

pub returns-in-2 : goal.returns-in-2
unfolding kind_of
returns-in-2 c = let a = c.args in a_at a.r a.x _ 2 c.in-2.is c.insert_fits.ensures.0

pub returns-in-3 : goal.returns-in-3
unfolding kind_of
returns-in-3 c = let a = c.args in a_at a.r a.x _ 3 c.in-3.is c.delete_fits.ensures

pub returns-in-4 : goal.returns-in-4
unfolding kind_of
returns-in-4 c = let a = c.args in a_at a.r a.x _ 4 c.in-4.is c.undo_insert_fits.ensures

pub returns-in-5 : goal.returns-in-5
unfolding kind_of
returns-in-5 c = let a = c.args in a_at a.r a.x _ 5 c.in-5.is c.insert_fits-in-5.ensures.1

pub returns-in-9 : goal.returns-in-9
unfolding kind_of
returns-in-9 c = let a = c.args in a_at a.r a.x _ 9 c.in-9.is c.split_fits.ensures

pub returns-in-10 : goal.returns-in-10
unfolding kind_of
returns-in-10 c = let a = c.args in a_at a.r a.x _ 10 c.in-10.is c.link_row_fits.ensures

pub returns-in-11 : goal.returns-in-11
unfolding kind_of
returns-in-11 c = let a = c.args in a_at a.r a.x _ 11 c.in-11.is c.unlink_fits.ensures

pub returns-in-12 : goal.returns-in-12
unfolding kind_of
returns-in-12 c = let a = c.args in a_at a.r a.x _ 12 c.in-12.is c.merge_fits.ensures

pub returns-in-13 : goal.returns-in-13
unfolding kind_of
returns-in-13 c = let a = c.args in a_at a.r a.x _ 13 c.in-13.is c.redistribute_fits.ensures

pub returns-in-14 : goal.returns-in-14
unfolding kind_of
returns-in-14 c = let a = c.args in a_at a.r a.x _ 14 c.in-14.is c.raise_fits.ensures

pub returns-in-15 : goal.returns-in-15
unfolding kind_of
returns-in-15 c = let a = c.args in a_at a.r a.x _ 15 c.in-15.is c.lower_fits.ensures

pub returns-in_default : goal.returns-in_default
returns-in_default c =
    let a = c.args in
    a_quiet a.r a.x _ refl (omega arith) (omega arith) (omega arith) (omega arith)
    (omega arith) (omega arith) (omega arith) (omega arith) (omega arith) (omega arith) (omega arith)
