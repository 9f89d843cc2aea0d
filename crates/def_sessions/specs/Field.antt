-- REGISTERS FROM THE FIELD: what earlier versions stored, restarted and used.
use Rattle.std.specs.Prelude.{List, [], ◌∷◌}
use Rattle.def_layout.specs.Records
use Rattle.def_layout.specs.Records.{insert, undo_delete, commit, abort_mark, batch_row, data_row}
use Rattle.def_model.specs.CallNames
use Rattle.def_model.specs.CallNames.{restart, begin, fetch, next, previous, delete, abort}
use Rattle.def_sessions.specs.Play.{Session, ask}
use Rattle.def_sessions.specs.Table.{answers, refused, of_size, done}
use Rattle.def_sessions.specs.Damage.{begins, logs}

-- 02, U1: "Entries already filed under 0 can still be fetched and deleted, and undoing their deletion puts them back." Next never finds them,
-- and once deleted such an entry cannot be filed again.
abbrev pub zero_filed : Session
zero_filed =
    of_size 16 128
    (begins 1 ∷ logs 2 (data_row insert 1 1 1 0 6) ∷ logs 3 (batch_row commit 1 2) ∷ ask restart ∷ ask begin ∷ ask (fetch 4 0) ∷ ask (next 4 0) ∷ ask (CallNames.insert 4 0 6)
    ∷ ask (delete 4 0) ∷ ask (fetch 4 0) ∷ ask (CallNames.insert 4 0 6) ∷ ask (abort 4) ∷ ask begin ∷ ask (fetch 9 0) ∷ [])
    ((0 ∷ 0 ∷ 1 ∷ []) ∷ answers 4 ∷ answers 6 ∷ refused 16 ∷ refused 7 ∷ done ∷ refused 16 ∷ refused 7 ∷ done ∷ answers 9 ∷ answers 6 ∷ []) []

-- Such an entry was deleted, and the deletion undone, when the power failed: restart redoes all three.
abbrev pub zero_restored : Session
zero_restored =
    of_size 16 128
    (begins 1 ∷ logs 2 (data_row insert 1 1 1 0 6) ∷ logs 3 (batch_row commit 1 2) ∷ begins 4 ∷ logs 5 (data_row Records.delete 4 4 1 0 6) ∷ logs 6 (batch_row abort_mark 4 5)
    ∷ logs 7 (data_row undo_delete 4 0 1 0 6) ∷ ask restart ∷ ask begin ∷ ask (fetch 9 0) ∷ [])
    ((0 ∷ 1 ∷ 3 ∷ []) ∷ answers 9 ∷ answers 6 ∷ []) []

-- 02, U5: previous finds such an entry. Nothing is below 0: whoever holds key 0, that is 16.
abbrev pub zero_below : Session
zero_below =
    of_size 16 128
    (begins 1 ∷ logs 2 (data_row insert 1 1 1 0 6) ∷ logs 3 (batch_row commit 1 2) ∷ ask restart ∷ ask begin ∷ ask begin ∷ ask (previous 4 1) ∷ ask (previous 4 0)
    ∷ ask (delete 4 0) ∷ ask (previous 5 1) ∷ ask (previous 5 0) ∷ ask (previous 4 1) ∷ [])
    ((0 ∷ 0 ∷ 1 ∷ []) ∷ answers 4 ∷ answers 5 ∷ (0 ∷ 0 ∷ 6 ∷ []) ∷ refused 16 ∷ done ∷ refused 14 ∷ refused 16 ∷ refused 16 ∷ []) []

abbrev pub field : List Session
field = zero_filed ∷ zero_restored ∷ zero_below ∷ []
