-- `cut_and_restart`: what restart finds are zeros and the stable areas.
use Rattle.def_layout.specs.Desks.{empty_desk}
use Rattle.face_console.specs.Obeyed.{restarted}
use Rattle.face_console.proofs.cut_and_restart.Goals as goal

pub returns : goal.returns
returns c =
    let a = c.args in
    restarted a.wp.now a.wl.now a.sp.now a.sl.now _ _ empty_desk _ _ _ c.zero.ensures c.zero-2.ensures c.idle_desk.ensures c.restart.ensures
