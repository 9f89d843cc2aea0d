-- FORGED LOGS, restarted: rows and chains for which restart answers 4, each beside a twin that differs in the one thing told and finishes.
use Rattle.std.specs.Prelude.{ℕ, true, false, List, [], ◌∷◌, ◌++◌, map, replicate}
use Rattle.def_layout.specs.declared.Entry.{Entry}
use Rattle.def_layout.specs.Entries.{entry, top}
use Rattle.def_layout.specs.Pages.{node_at, map_page}
use Rattle.def_layout.specs.Records.{Rec, insert, delete, undo_insert, undo_delete, commit, abort_mark, end, batch_row, data_row, split_row, redistribute_row, raise_row, lower_row}
use Rattle.def_sessions.specs.Play.{Session, Step}
use Rattle.def_sessions.specs.Damage.{beside, stands, logs, begins, insert_and, undoes, undoes_delete, full_root, splits, sevens}

-- ---- rows

-- A record of a tree change is of no batch.
abbrev pub of_batch : ℕ → Rec → Rec
of_batch b r =
    record { kind = r.kind; level = r.level; batch = b; previous = r.previous; pageA = r.pageA; pageB = r.pageB; pageC = r.pageC; key = r.key; second = r.second; right = r.right; entries = r.entries }

abbrev pub split_batch : List Session
split_batch = beside (full_root ∷ logs 1 (of_batch 1 (split_row 0 1 15 7 top 0 sevens)) ∷ []) 4 (full_root ∷ splits 0 ∷ []) 0 3

-- "A root": a raise and a lowering name page 1.
abbrev pub at_page : ℕ → Rec → Rec
at_page a r =
    record { kind = r.kind; level = r.level; batch = r.batch; previous = r.previous; pageA = a; pageB = r.pageB; pageC = r.pageC; key = r.key; second = r.second; right = r.right; entries = r.entries }

abbrev pub fours : List Entry
fours = entry 1 1 ∷ entry 2 2 ∷ entry 3 3 ∷ entry 4 4 ∷ []

-- So many pages are used, of 16.
abbrev pub used : (pages others : ℕ) → Step
used n m = stands 0 (map_page (replicate n true ++ replicate m false))

-- A root leaf with a page to its right, raised; and a root with one child, lowered.
abbrev pub raises : ℕ → List Step
raises a = used 3 13 ∷ stands 1 (node_at 1 0 2 4 fours) ∷ stands 2 (node_at 2 0 0 top sevens) ∷ logs 1 (at_page a (raise_row 0 2 3 4 fours)) ∷ []

abbrev pub raise_root : List Session
raise_root = beside (raises 2) 4 (raises 1) 0 3

abbrev pub lowers : ℕ → List Step
lowers a = used 3 13 ∷ stands 1 (node_at 1 1 0 top (entry top 2 ∷ [])) ∷ stands 2 (node_at 2 0 0 top sevens) ∷ logs 1 (at_page a (lower_row 0 2 sevens)) ∷ []

abbrev pub lower_root : List Session
lower_root = beside (lowers 2) 4 (lowers 1) 0 3

-- A redistribution between pages 2 and 3: "into A if not above key, else into B", and at most 14 entries.
abbrev pub threes : List Entry
threes = entry 5 5 ∷ entry 6 6 ∷ entry 7 7 ∷ []

abbrev pub shares : List Entry → List Step
shares es =
    used 4 12 ∷ stands 1 (node_at 1 1 0 top (entry top 2 ∷ [])) ∷ stands 2 (node_at 2 0 3 4 fours) ∷ stands 3 (node_at 3 0 0 top (threes ++ sevens)) ∷ logs 1 (redistribute_row 2 3 7 es) ∷ []

abbrev pub both_sides : List Session
both_sides = beside (shares (threes ++ entry 8 8 ∷ [])) 4 (shares threes) 0 2

abbrev pub fifteen_moved : List Session
fifteen_moved = beside (shares (replicate 15 (entry 5 5))) 4 (shares threes) 0 2

-- ---- chains

-- "2, 3, 6 and a second 7 never follow its 7": the same record after the 7, and after the insert.
abbrev pub marked_then : Rec → List Step
marked_then r = insert_and abort_mark ++ logs 4 r ∷ []

abbrev pub inserted_then : Rec → List Step
inserted_then r = begins 1 ∷ logs 2 (data_row insert 1 1 1 5 6) ∷ logs 3 r ∷ []

abbrev pub delete_after_mark : List Session
delete_after_mark = beside (marked_then (data_row delete 1 3 1 5 6)) 4 (inserted_then (data_row delete 1 2 1 5 6)) 1 2

abbrev pub commit_after_mark : List Session
commit_after_mark = beside (marked_then (batch_row commit 1 3)) 4 (inserted_then (batch_row commit 1 2)) 0 1

abbrev pub second_mark : List Session
second_mark = beside (marked_then (batch_row abort_mark 1 3)) 4 (inserted_then (batch_row abort_mark 1 2)) 1 1

-- A deletion is undone by a 5 that has its value.
abbrev pub undo_of_delete : List Session
undo_of_delete = beside (undoes [] (data_row delete 1 1 1 5 6) (data_row undo_insert 1 0 1 5 0)) 4 (undoes_delete []) 1 1

abbrev pub undo_other_value : List Session
undo_other_value = beside (undoes [] (data_row delete 1 1 1 5 6) (data_row undo_delete 1 0 1 5 7)) 4 (undoes_delete []) 1 1

-- An 8 names its batch's last record.
abbrev pub ends_after : ℕ → List Step
ends_after previous = insert_and abort_mark ++ logs 4 (data_row undo_insert 1 0 1 5 0) ∷ logs 5 (batch_row end 1 previous) ∷ []

abbrev pub end_of_other : List Session
end_of_other = beside (ends_after 3) 4 (ends_after 4) 0 2

-- "more than eight batches are open": at any moment, though fewer are open at the end.
abbrev pub ninth_closed : List Session
ninth_closed =
    beside (map begins (1 ∷ 2 ∷ 3 ∷ 4 ∷ 5 ∷ 6 ∷ 7 ∷ 8 ∷ 9 ∷ []) ++ logs 10 (batch_row commit 1 1) ∷ []) 4
    (map begins (1 ∷ 2 ∷ 3 ∷ 4 ∷ 5 ∷ 6 ∷ 7 ∷ 8 ∷ []) ++ logs 9 (batch_row commit 1 1) ∷ []) 7 0

-- ---- the table

abbrev pub forged_logs : List (List Session)
forged_logs =
    split_batch ∷ raise_root ∷ lower_root ∷ both_sides ∷ fifteen_moved ∷ delete_after_mark ∷ commit_after_mark ∷ second_mark ∷ undo_of_delete ∷ undo_other_value
    ∷ end_of_other ∷ ninth_closed ∷ []
