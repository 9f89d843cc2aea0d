-- `begun`: what format leaves, and no line yet.
use mathlib.Core.Path.{refl}
use Rattle.area_lengths.specs.Lent.{lent}
use Rattle.face_console.specs.Hears.{new_heard}
use Rattle.face_console.proofs.begun.Goals as goal

pub returns : goal.returns
returns c =
    let a = c.args in
    let f = c.format-y in
    new_heard (lent a.wp.now a.sp.now a.wl.now a.sl.now) (lent f.new.wp f.new.sp f.new.wl f.new.sl) c.idle_desk.result f.result (record { line = c.new_line.result; desk = f.result.desk; said = 0 }) c.idle_desk.ensures f.ensures c.new_line.ensures refl
