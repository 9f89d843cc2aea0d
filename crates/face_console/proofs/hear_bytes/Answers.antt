-- `hear_bytes`: so far, what is heard of the first bytes.
use mathlib.Core.Path.{refl}
use native.Mathlib.Omega.{arith}
use Rattle.area_lengths.specs.Lent.{lent}
use Rattle.face_console.specs.Hears.{stands, counted, none_heard, more_heard, all_heard}
use Rattle.face_console.proofs.hear_bytes.Goals as goal

pub loop-x-init : goal.loop-x-init
loop-x-init c =
    let a = c.args in
    (omega arith, none_heard a.text.now (lent a.wp.now a.sp.now a.wl.now a.sl.now) (record { line = a.h.line; desk = a.h.desk; said = 0 }) a.out.now refl)

pub loop-x-preserved : goal.loop-x-preserved
loop-x-preserved c =
    let a = c.args in
    let l = c.loop-x in
    let b = c.hear_byte-now in (
      omega (arith, l.invariant.0, b.ensures.0),
      more_heard a.text.now l.x-index (stands (lent a.wp.now a.sp.now a.wl.now a.sl.now) a.h) (lent l.wp l.sp l.wl l.sl) (lent b.new.wp b.new.sp b.new.wl b.new.sl) l.now b.result a.out.now l.out b.new.out (omega arith) l.invariant.1 b.ensures.1,
    )

pub returns : goal.returns
returns c =
    let a = c.args in
    let l = c.loop-x in
    (counted l.now.said l.out (omega arith), all_heard a.text.now l.x-index (stands (lent a.wp.now a.sp.now a.wl.now a.sl.now) a.h) (lent l.wp l.sp l.wl l.sl) l.now a.out.now l.out (omega arith) l.invariant.1)
