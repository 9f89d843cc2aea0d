-- UNSOUND REGISTERS: for each part of soundness a working page, a working slot or a desk that breaks it and is answered 11, beside a twin that differs in the one thing told and
-- is sound. (Left links: `Backwards: links_forged`, `links_spare`.)
use Rattle.std.specs.Prelude.{ℕ, List, [], ◌∷◌, ◌++◌, replicate}
use Rattle.def_layout.specs.declared.Entry.{Entry}
use Rattle.def_layout.specs.declared.Desk.{Desk}
use Rattle.def_layout.specs.Entries.{entry, top}
use Rattle.def_layout.specs.Pages.{node_at, freed}
use Rattle.def_layout.specs.PageBytes.{page}
use Rattle.def_layout.specs.PageBytes as pages
use Rattle.def_layout.specs.Records.{Rec, data_row}
use Rattle.def_layout.specs.Records as records
use Rattle.def_layout.specs.RecordBytes.{full}
use Rattle.def_layout.specs.Desks.{no_row}
use Rattle.def_model.specs.Change.{with_lsn}
use Rattle.def_model.specs.CallNames.{begin, fetch, insert, write_out}
use Rattle.def_sessions.specs.Play.{Session, Step, ask, forge_work_page, forge_work_slot, forge_desk}
use Rattle.def_sessions.specs.Table.{answers, refused, of_size, done}
use Rattle.def_sessions.specs.Damage.{logs}

-- Batch 1 has filed slide 5. Then something is forged, and the batch fetches the slide.
abbrev pub fetches : (pages slots : ℕ) → List Step → List ℕ → Session
fetches n m forging answer = of_size n m (ask begin ∷ ask (insert 1 5 6) ∷ forging ++ ask (fetch 1 5) ∷ []) (answers 1 ∷ done ∷ answer ∷ []) []

-- A forged part and its twin.
abbrev pub judged : List Step → List Step → List Session
judged broken twin = fetches 16 128 broken (refused 11) ∷ fetches 16 128 twin (answers 6) ∷ []

-- ---- "restart's 3 and 4 find nothing in the working areas"

abbrev pub work_layout : List Session
work_layout = judged (forge_work_page 2 (pages.other []) ∷ []) (forge_work_page 2 (page (freed 2)) ∷ [])

abbrev pub second_record : ℕ → Rec → List Step
second_record n r = forge_work_slot 2 (full n r) ∷ []

abbrev pub work_number : List Session
work_number = judged (second_record 3 (data_row records.insert 1 1 1 5 6)) (second_record 2 (data_row records.insert 1 1 1 5 6))

abbrev pub work_row : List Session
work_row = judged (second_record 2 (record { kind = records.insert; level = 0; batch = 1; previous = 1; pageA = 1; pageB = 0; pageC = 0; key = 5; second = 6; right = 1; entries = [] })) (second_record 2 (data_row records.insert 1 1 1 5 6))

abbrev pub work_chain : List Session
work_chain = judged (second_record 2 (data_row records.insert 1 0 1 5 6)) (second_record 2 (data_row records.insert 1 1 1 5 6))

-- A page's log number exceeds the last record's.
abbrev pub free_at : ℕ → List Step
free_at n = forge_work_page 2 (page (with_lsn n (freed 2))) ∷ []

abbrev pub work_ahead : List Session
work_ahead = judged (free_at 3) (free_at 2)

-- ---- "tree rules and pending rule hold"

abbrev pub root_leaf : ℕ → ℕ → List Entry → Step
root_leaf n high es = forge_work_page 1 (page (with_lsn n (node_at 1 0 0 high es)))

abbrev pub work_tree : List Session
work_tree = judged (root_leaf 2 9 (entry 5 6 ∷ []) ∷ []) (root_leaf 2 top (entry 5 6 ∷ []) ∷ [])

abbrev pub work_pending : List Session
work_pending = judged (root_leaf 2 top (entry 5 7 ∷ []) ∷ []) (root_leaf 2 top (entry 5 6 ∷ []) ∷ [])

-- ---- "the desk is what the working log says"

-- The desk of batch 1 alone.
abbrev pub desk_of : (last undo pending logged stored : ℕ) → Desk
desk_of last undo pending logged stored = record { rows = record { batch = 1; last = last; undo = undo; pending = pending } ∷ replicate 7 no_row; logged = logged; stored = stored }

abbrev pub desks : Desk → List Session
desks d = judged (forge_desk d ∷ []) (forge_desk (desk_of 2 2 1 2 0) ∷ [])

abbrev pub desk_last : List Session
desk_last = desks (desk_of 1 2 1 2 0)

abbrev pub desk_undo : List Session
desk_undo = desks (desk_of 2 1 1 2 0)

abbrev pub desk_pending : List Session
desk_pending = desks (desk_of 2 2 2 2 0)

abbrev pub desk_logged : List Session
desk_logged = desks (desk_of 2 2 1 1 0)

-- ---- "the stored count is the number of full stable slots, and these equal the working ones"

abbrev pub desk_stored : List Session
desk_stored = desks (desk_of 2 2 1 2 1)

abbrev pub stored_record : ℕ → List Step
stored_record v = ask (write_out 1) ∷ logs 2 (data_row records.insert 1 1 1 5 v) ∷ []

abbrev pub fetches_stored : ℕ → List ℕ → Session
fetches_stored v answer =
    of_size 16 128 (ask begin ∷ ask (insert 1 5 6) ∷ stored_record v ++ ask (fetch 1 5) ∷ []) (answers 1 ∷ done ∷ done ∷ answer ∷ []) []

abbrev pub stored_other : List Session
stored_other = fetches_stored 7 (refused 11) ∷ fetches_stored 6 (answers 6) ∷ []

-- ---- "the reserves below hold": 3 records, 2 pending updates of one batch ask for 69 slots; 3 pending updates for 21 free pages

abbrev pub two_pending : List Step
two_pending =
    forge_work_slot 3 (full 3 (data_row records.insert 1 2 1 7 7)) ∷ root_leaf 3 top (entry 5 6 ∷ entry 7 7 ∷ []) ∷ forge_desk (desk_of 3 3 2 3 0) ∷ []

abbrev pub reserve_slots : List Session
reserve_slots = fetches 16 68 two_pending (refused 11) ∷ fetches 16 69 two_pending (answers 6) ∷ []

abbrev pub three_pending : List Step
three_pending =
    two_pending ++ forge_work_slot 4 (full 4 (data_row records.insert 1 3 1 8 8)) ∷ root_leaf 4 top (entry 5 6 ∷ entry 7 7 ∷ entry 8 8 ∷ []) ∷ forge_desk (desk_of 4 4 3 4 0) ∷ []

abbrev pub reserve_pages : List Session
reserve_pages = fetches 22 128 three_pending (refused 11) ∷ fetches 23 128 three_pending (answers 6) ∷ []

-- ---- the table

abbrev pub unsound : List (List Session)
unsound =
    work_layout ∷ work_number ∷ work_row ∷ work_chain ∷ work_ahead ∷ work_tree ∷ work_pending ∷ desk_last ∷ desk_undo ∷ desk_pending ∷ desk_logged ∷ desk_stored ∷ stored_other
    ∷ reserve_slots ∷ reserve_pages ∷ []
