-- `obey`: each command's own call.
use Rattle.area_lengths.specs.Lent.{lent}
use Rattle.face_console.specs.Obeyed.{obeyed_as, replied}
use mathlib.Core.Path.{refl}
use Rattle.face_console.proofs.obey.Goals as goal

pub returns-in-Cut : goal.returns-in-Cut
returns-in-Cut c =
    let a = c.args in
    obeyed_as (lent a.wp.now a.sp.now a.wl.now a.sl.now) a.d _ _ c.in-Cut.is c.cut_and_restart.ensures

pub returns-in-Other : goal.returns-in-Other
returns-in-Other c =
    let a = c.args in
    obeyed_as (lent a.wp.now a.sp.now a.wl.now a.sl.now) a.d _ _ c.in-Other.is refl

pub returns-in-Begin : goal.returns-in-Begin
returns-in-Begin c = obeyed_as _ _ _ _ c.in-Begin.is (replied (c.begin.ensures _))

pub returns-in-Insert : goal.returns-in-Insert
returns-in-Insert c = obeyed_as _ _ _ _ c.in-Insert.is (replied (c.insert.ensures _))

pub returns-in-Delete : goal.returns-in-Delete
returns-in-Delete c = obeyed_as _ _ _ _ c.in-Delete.is (replied (c.delete.ensures _))

pub returns-in-Fetch : goal.returns-in-Fetch
returns-in-Fetch c = obeyed_as _ _ _ _ c.in-Fetch.is (replied (c.fetch.ensures _))

pub returns-in-Next : goal.returns-in-Next
returns-in-Next c = obeyed_as _ _ _ _ c.in-Next.is (replied (c.next.ensures _))

pub returns-in-Commit : goal.returns-in-Commit
returns-in-Commit c = obeyed_as _ _ _ _ c.in-Commit.is (replied c.commit.ensures)

pub returns-in-Abort : goal.returns-in-Abort
returns-in-Abort c = obeyed_as _ _ _ _ c.in-Abort.is (replied (c.abort.ensures _))

pub returns-in-WriteOut : goal.returns-in-WriteOut
returns-in-WriteOut c = obeyed_as _ _ _ _ c.in-WriteOut.is (replied c.write_out.ensures)
