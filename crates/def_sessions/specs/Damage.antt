-- FORGED IMAGES, restarted: 3 to 6, each row beside a twin that differs in the one thing told and is sound.
use Rattle.std.specs.Prelude.{ℕ, Bool, true, false, List, [], ◌∷◌, ◌++◌, map, replicate}
use Rattle.def_layout.specs.declared.Entry.{Entry}
use Rattle.def_layout.specs.Entries.{entry, top}
use Rattle.def_layout.specs.Pages.{Page, node_at, freed, map_page}
use Rattle.def_layout.specs.declared.page.PageKind.{PageKind}
use Rattle.def_layout.specs.declared.page.PageKind.TheVariants.{Free, Leaf, Index, Map}
use Rattle.def_layout.specs.PageBytes.{page, other, page_bytes, read_block, with_left}
use Rattle.def_layout.specs.Records.{Rec, Kind, begin, insert, delete, undo_insert, undo_delete, commit, abort_mark, end, batch_row, data_row, split_row}
use Rattle.def_layout.specs.RecordBytes.{full}
use Rattle.def_model.specs.Change.{with_lsn, with_chain}
use Rattle.def_model.specs.OnBytes
use Rattle.def_sessions.specs.Play.{Session, Step, ask, forge_page, forge_slot}
use Rattle.def_sessions.specs.Table.{refused, of_size}

-- ---- images of 16 pages and 64 slots

-- A restart of a new register's stable areas, in which something else stands; and what it answers.
abbrev pub restarts : List Step → List ℕ → Session
restarts image answer = of_size 16 64 (image ++ ask OnBytes.restart ∷ []) (answer ∷ []) []

-- A forged image and its refusal, beside a twin that finishes: so many batches ended, so many page changes redone.
abbrev pub beside : List Step → ℕ → List Step → ℕ → ℕ → List Session
beside image n twin ended changes = restarts image (refused n) ∷ restarts twin (0 ∷ ended ∷ changes ∷ []) ∷ []

abbrev pub stands : ℕ → Page → Step
stands p x = forge_page p (page x)

-- Record n in its slot.
abbrev pub logs : ℕ → Rec → Step
logs n r = forge_slot n (full n r)

abbrev pub begins : ℕ → Step
begins n = logs n (batch_row begin n 0)

-- The root, a leaf, after record n.
abbrev pub root_leaf : ℕ → List Entry → Step
root_leaf n es = stands 1 (with_lsn n (node_at 1 0 0 top es))

-- ---- "3 a page breaks the layout"

-- Bytes that are no page's.
abbrev pub no_page : List Session
no_page = beside (forge_page 2 (other []) ∷ []) 3 (stands 2 (freed 2) ∷ []) 0 0

-- "own numbers are the pages' places".
abbrev pub own_number : List Session
own_number = beside (stands 2 (freed 3) ∷ []) 3 (stands 2 (freed 2) ∷ []) 0 0

-- "Kind 3 is page 0's alone, a count is at most 14, an index's level is not 0": page 2, of a kind and level, and zero but for its number.
abbrev pub page_two : PageKind → ℕ → Step
page_two kind level = stands 2 (record { kind = kind; level = level; right = 0; high = 0; lsn = 0; own = 2; entries = []; marks = [] })

abbrev pub second_map : List Session
second_map = beside (page_two Map 0 ∷ []) 3 (page_two Free 0 ∷ []) 0 0

abbrev pub index_level : List Session
index_level = beside (page_two Index 0 ∷ []) 3 (page_two Index 1 ∷ []) 0 0

-- A leaf's level is 0.
abbrev pub leaf_level : List Session
leaf_level = beside (page_two Leaf 3 ∷ []) 3 (page_two Leaf 0 ∷ []) 0 0

-- Only a page that was never used has own number 0: it has no log number.
abbrev pub free_number : ℕ → List Step
free_number own = begins 1 ∷ stands 2 (with_lsn 1 (freed own)) ∷ []

abbrev pub used_number : List Session
used_number = beside (free_number 0) 3 (free_number 2) 1 0

abbrev pub sevens : List Entry
sevens = entry 8 8 ∷ entry 9 9 ∷ entry 10 10 ∷ entry 11 11 ∷ entry 12 12 ∷ entry 13 13 ∷ entry 14 14 ∷ []

abbrev pub fourteen : List Entry
fourteen = entry 1 1 ∷ entry 2 2 ∷ entry 3 3 ∷ entry 4 4 ∷ entry 5 5 ∷ entry 6 6 ∷ entry 7 7 ∷ sevens

abbrev pub leaf_count : List Session
leaf_count = beside (root_leaf 0 (entry 0 0 ∷ fourteen) ∷ []) 3 (root_leaf 0 fourteen ∷ []) 0 0

-- An index's "spare 22 and child 10".
abbrev pub index_to : ℕ → Step
index_to child = stands 2 (node_at 2 1 0 5 (entry 5 child ∷ []))

abbrev pub index_child : List Session
index_child = beside (index_to 1024 ∷ []) 3 (index_to 1023 ∷ []) 0 0

-- "A free page is zero but for log number and own number".
abbrev pub free_to : ℕ → Step
free_to right = stands 2 (with_chain right 0 [] (freed 2))

abbrev pub free_link : List Session
free_link = beside (free_to 3 ∷ []) 3 (free_to 0 ∷ []) 0 0

-- 02, U5: a left link "in working pages only". A leaf's bytes, with a link and without.
abbrev pub leaf_linked : ℕ → Step
leaf_linked left = forge_page 2 (read_block (with_left left (page_bytes (node_at 2 0 0 5 (entry 5 5 ∷ [])))))

abbrev pub stored_left : List Session
stored_left = beside (leaf_linked 1 ∷ []) 3 (leaf_linked 0 ∷ []) 0 0

-- Bits of pages that are not there are spare. The map: pages 0 and 1 are used, so many others not, and perhaps the one after them.
abbrev pub map_then : ℕ → Bool → Step
map_then n b = stands 0 (map_page (true ∷ true ∷ replicate n false ++ b ∷ []))

abbrev pub spare_bit : List Session
spare_bit = beside (map_then 14 true ∷ []) 3 (map_then 14 false ∷ []) 0 0

-- ---- "4 a slot breaks its row, number or batch chain ..": a commit in slot 2

abbrev pub slot_two : ℕ → Rec → List Step
slot_two n r = begins 1 ∷ forge_slot 2 (full n r) ∷ []

abbrev pub slot_number : List Session
slot_number = beside (slot_two 3 (batch_row commit 1 1)) 4 (slot_two 2 (batch_row commit 1 1)) 0 0

-- A key in a commit.
abbrev pub slot_row : List Session
slot_row = beside (slot_two 2 (data_row commit 1 1 0 5 0)) 4 (slot_two 2 (data_row commit 1 1 0 0 0)) 0 0

-- Its previous record is not the batch's last.
abbrev pub slot_chain : List Session
slot_chain = beside (slot_two 2 (batch_row commit 1 0)) 4 (slot_two 2 (batch_row commit 1 1)) 0 0

-- "2, 3, 6 and a second 7 never follow its 7 .. nothing follows a 6 or 8": the same two records, the other way round.
abbrev pub insert_and : Kind → List Step
insert_and kind = begins 1 ∷ logs 2 (data_row insert 1 1 1 5 6) ∷ logs 3 (batch_row kind 1 2) ∷ []

abbrev pub insert_after : Kind → List Step
insert_after kind = begins 1 ∷ logs 2 (batch_row kind 1 1) ∷ logs 3 (data_row insert 1 2 1 5 6) ∷ []

abbrev pub after_mark : List Session
after_mark = beside (insert_after abort_mark) 4 (insert_and abort_mark) 1 1

abbrev pub after_commit : List Session
after_commit = beside (insert_after commit) 4 (insert_and commit) 0 1

-- "an 8 has nothing pending".
abbrev pub end_pending : List Session
end_pending =
    beside (insert_and abort_mark ++ logs 4 (batch_row end 1 3) ∷ []) 4
    (insert_and abort_mark ++ logs 4 (data_row undo_insert 1 0 1 5 0) ∷ logs 5 (batch_row end 1 4) ∷ []) 0 2

-- "a 4 or 5 undoes its newest pending update": that of 7, not that of 5.
abbrev pub undoes_key : ℕ → List Step
undoes_key k =
    begins 1 ∷ logs 2 (data_row insert 1 1 1 5 6) ∷ logs 3 (data_row insert 1 2 1 7 8) ∷ logs 4 (batch_row abort_mark 1 3) ∷ logs 5 (data_row undo_insert 1 2 1 k 0) ∷ []

abbrev pub undo_older : List Session
undo_older = beside (undoes_key 5) 4 (undoes_key 7) 1 3

-- "or names an A, B or C not below the page count".
abbrev pub slot_page : List Session
slot_page = beside (slot_two 2 (data_row insert 1 1 16 5 6)) 4 (slot_two 2 (data_row insert 1 1 1 5 6)) 1 1

-- "more than eight batches are open".
abbrev pub ninth_open : List Session
ninth_open =
    beside (map begins (1 ∷ 2 ∷ 3 ∷ 4 ∷ 5 ∷ 6 ∷ 7 ∷ 8 ∷ 9 ∷ [])) 4 (map begins (1 ∷ 2 ∷ 3 ∷ 4 ∷ 5 ∷ 6 ∷ 7 ∷ 8 ∷ [])) 8 0

-- "a full slot follows an empty one".
abbrev pub after_empty : List Session
after_empty = beside (begins 1 ∷ begins 3 ∷ []) 4 (begins 1 ∷ begins 2 ∷ []) 2 0

-- "or a page's log number exceeds the last record's".
abbrev pub page_ahead : List Session
page_ahead = beside (begins 1 ∷ root_leaf 2 [] ∷ []) 4 (begins 1 ∷ root_leaf 1 [] ∷ []) 1 0

-- ---- "5 a change to be redone meets a page ..": record 2 of batch 1 meets a leaf with 5

abbrev pub meets : Rec → List Step
meets r = root_leaf 0 (entry 5 6 ∷ []) ∷ slot_two 2 r

-- An insert of a key that stands there; a delete of one that does not, or not with that value.
abbrev pub insert_there : List Session
insert_there = beside (meets (data_row insert 1 1 1 5 7)) 5 (meets (data_row insert 1 1 1 7 7)) 1 1

abbrev pub delete_absent : List Session
delete_absent = beside (meets (data_row delete 1 1 1 7 6)) 5 (meets (data_row delete 1 1 1 5 6)) 1 1

abbrev pub delete_other : List Session
delete_other = beside (meets (data_row delete 1 1 1 5 7)) 5 (meets (data_row delete 1 1 1 5 6)) 1 1

-- Record 2, which stands in the root, is undone by record 4.
abbrev pub undoes : List Entry → Rec → Rec → List Step
undoes es r u = root_leaf 2 es ∷ slot_two 2 r ++ logs 3 (batch_row abort_mark 1 2) ∷ logs 4 u ∷ []

abbrev pub undoes_insert : List Entry → List Step
undoes_insert es = undoes es (data_row insert 1 1 1 5 6) (data_row undo_insert 1 0 1 5 0)

abbrev pub undo_absent : List Session
undo_absent = beside (undoes_insert []) 5 (undoes_insert (entry 5 6 ∷ [])) 1 1

abbrev pub undoes_delete : List Entry → List Step
undoes_delete es = undoes es (data_row delete 1 1 1 5 6) (data_row undo_delete 1 0 1 5 6)

abbrev pub undo_there : List Session
undo_there = beside (undoes_delete (entry 5 6 ∷ [])) 5 (undoes_delete []) 1 1

-- A split of a full root into page 15, which carries the root's right link, and finds page 15 free in the map.
abbrev pub full_root : Step
full_root = root_leaf 0 fourteen

abbrev pub splits : ℕ → Step
splits right = logs 1 (split_row 0 1 15 7 top right sevens)

abbrev pub split_link : List Session
split_link = beside (full_root ∷ splits 2 ∷ []) 5 (full_root ∷ splits 0 ∷ []) 0 3

abbrev pub page_taken : List Session
page_taken = beside (map_then 13 true ∷ full_root ∷ splits 0 ∷ []) 5 (map_then 13 false ∷ full_root ∷ splits 0 ∷ []) 0 3

-- ---- "6 the redone pages break the tree rules or the pending rule"

-- The last high key is top.
abbrev pub root_to : ℕ → Step
root_to high = stands 1 (node_at 1 0 0 high (entry 5 6 ∷ []))

abbrev pub no_tree : List Session
no_tree = beside (root_to 9 ∷ []) 6 (root_to top ∷ []) 0 0

-- The root has the pending insert's value.
abbrev pub root_has : ℕ → List Step
root_has v = root_leaf 2 (entry 5 v ∷ []) ∷ slot_two 2 (data_row insert 1 1 1 5 6)

abbrev pub pending_value : List Session
pending_value = beside (root_has 7) 6 (root_has 6) 1 0

-- Two pending inserts, which the root has: of two batches, or of one, on one key or on two. "pending records on a key are of one batch, alternate".
abbrev pub both_inserted : Rec → List Step
both_inserted r = root_leaf 4 (entry 5 6 ∷ entry 7 6 ∷ []) ∷ begins 1 ∷ begins 2 ∷ logs 3 (data_row insert 1 1 1 5 6) ∷ logs 4 r ∷ []

abbrev pub pending_batches : List Session
pending_batches = beside (both_inserted (data_row insert 2 2 1 5 6)) 6 (both_inserted (data_row insert 2 2 1 7 6)) 2 0

abbrev pub pending_twice : List Session
pending_twice = beside (both_inserted (data_row insert 1 3 1 5 6)) 6 (both_inserted (data_row insert 1 3 1 7 6)) 2 0

-- "a delete after an insert has its value".
abbrev pub then_deleted : ℕ → List Step
then_deleted v = root_leaf 3 [] ∷ slot_two 2 (data_row insert 1 1 1 5 6) ++ logs 3 (data_row delete 1 2 1 5 v) ∷ []

abbrev pub pending_deleted : List Session
pending_deleted = beside (then_deleted 7) 6 (then_deleted 6) 1 0

-- ---- the table

abbrev pub damage : List (List Session)
damage =
    no_page ∷ own_number ∷ used_number ∷ second_map ∷ index_level ∷ leaf_level ∷ leaf_count ∷ index_child ∷ free_link ∷ stored_left ∷ spare_bit
    ∷ slot_number ∷ slot_row ∷ slot_chain ∷ after_mark ∷ after_commit ∷ end_pending ∷ undo_older ∷ slot_page ∷ ninth_open ∷ after_empty ∷ page_ahead
    ∷ insert_there ∷ delete_absent ∷ delete_other ∷ undo_absent ∷ undo_there ∷ split_link ∷ page_taken
    ∷ no_tree ∷ pending_value ∷ pending_batches ∷ pending_twice ∷ pending_deleted ∷ []
