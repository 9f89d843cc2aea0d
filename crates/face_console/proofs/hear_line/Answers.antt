-- `hear_line`: the command obeyed, its answer put.
use mathlib.Core.Path.{refl}
use Rattle.area_lengths.specs.Lent.{lent}
use Rattle.face_console.specs.Hears.{line_heard}
use Rattle.face_console.proofs.hear_line.Goals as goal

pub returns : goal.returns
returns c =
    let a = c.args in
    let o = c.obey-y in
    let p = c.put_line-said in
    (p.ensures.0, line_heard (lent a.wp.now a.sp.now a.wl.now a.sl.now) (lent o.new.wp o.new.sp o.new.wl o.new.sl) a.h (record { line = c.new_line.result; desk = o.result.desk; said = p.result }) a.out.now p.new.out c.command_of-c.result o.result c.command_of-c.ensures o.ensures c.new_line.ensures refl p.ensures.1)
