-- A sound desk is the desk that the log says.
use Rattle.std.specs.Prelude.{◌≡◌, true}
use Rattle.def_layout.specs.declared.Desk.{Desk}
use Rattle.def_model.specs.Areas.{Areas}
use Rattle.def_model.specs.Batches.{desk_of}
use Rattle.def_model.specs.Sound.{work_log, desk_ok}
use Rattle.law_bytes.specs.DeskSame.{desk_same}

pub desk_said : (a : Areas) (d : Desk) → desk_ok a d ≡ true → d ≡ desk_of (work_log a) d.stored
unfolding desk_ok
desk_said a d h = desk_same d (desk_of (work_log a) d.stored) h
