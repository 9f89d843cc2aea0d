-- `hear_bytes`: so far, what is heard of the first bytes.
use Prim.Native.Nat.{◌*◌, ◌≤◌}
use lib.ListN.{take}
use Rattle.area_lengths.specs.Lent.{lent}
use Rattle.face_console.specs.Hearing.{hear}
use Rattle.face_console.specs.Hears.{stands, Hears}
use Rattle.face_console.proofs.hear_bytes.Given as goal

abbrev pub invariant-loop-x : goal.invariant-loop-x
invariant-loop-x l =
    (l.now.said ≤ 35 * l.x-index)
    × Hears (hear (take l.x-index l.text) (stands (lent l.initial.wp l.initial.sp l.initial.wl l.initial.sl) l.initial.now)) (lent l.wp l.sp l.wl l.sl) l.now l.initial.out 0 l.out
