-- `hear_byte`: a line's end, or one byte more.
use mathlib.Core.Path.{refl}
use native.Mathlib.Omega.{arith}
use Rattle.area_lengths.specs.Lent.{lent}
use Rattle.face_console.specs.Hears.{stands, byte_ended, byte_heard}
use Rattle.face_console.proofs.hear_byte.Goals as goal

pub returns-then-x-eq10 : goal.returns-then-x-eq10
returns-then-x-eq10 c =
    let a = c.args in
    let l = c.hear_line in
    (l.ensures.0, byte_ended a.x (stands (lent a.wp.now a.sp.now a.wl.now a.sl.now) a.h) (lent l.new.wp l.new.sp l.new.wl l.new.sl) l.result a.out.now a.h.said l.new.out c.if-x-eq10.true l.ensures.1)

pub returns : goal.returns
returns c =
    let a = c.args in
    (omega arith, byte_heard a.x (lent a.wp.now a.sp.now a.wl.now a.sl.now) a.h (record { line = c.step.result; desk = a.h.desk; said = a.h.said }) a.out.now c.if-x-eq10.false c.step.ensures refl refl)
