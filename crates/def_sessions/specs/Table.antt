-- THE WORKED SESSIONS. Those that document 01 marks P come first; the others pin what its sessions leave unpinned.
use Rattle.std.specs.Prelude.{ℕ, List, [], ◌∷◌, ◌++◌, map, replicate}
use Rattle.def_layout.specs.Entries.{entry, top}
use Rattle.def_model.specs.CallNames.{begin, restart, fetch, next, previous, insert, delete, commit, abort, write_out, take_mark, return_to}
use Rattle.def_sessions.specs.Play.{Session, Step, ask, cut, See, page_keys, page_entries, page_right, page_left, page_kind_is, page_count, page_bytes_from, kinds_from, previous_from, batches_from, slot_bytes_from, desk_row, slides}

-- ---- answers: 0 or the refusal, and two values

abbrev pub done : List ℕ
done = 0 ∷ 0 ∷ 0 ∷ []

abbrev pub answers : ℕ → List ℕ
answers n = 0 ∷ n ∷ 0 ∷ []

abbrev pub refused : ℕ → List ℕ
refused n = n ∷ 0 ∷ 0 ∷ []

-- ---- steps

-- Batch b inserts these keys, each with itself as value; or deletes them.
abbrev pub inserts : ℕ → List ℕ → List Step
inserts b ks = map (λ k. ask (insert b k k)) ks

abbrev pub deletes : ℕ → List ℕ → List Step
deletes b ks = map (λ k. ask (delete b k)) ks

-- The power fails between two calls.
abbrev pub power_cut : Step
power_cut = cut 0 begin

-- 01: "256 pages and 1,024 slots unless said."
abbrev pub usual : List Step → List (List ℕ) → List See → Session
usual steps answers sees = record { pages = 256; slots = 1024; steps = steps; answers = answers; sees = sees }

abbrev pub of_size : ℕ → ℕ → List Step → List (List ℕ) → List See → Session
of_size pages slots steps answers sees = record { pages = pages; slots = slots; steps = steps; answers = answers; sees = sees }

-- ---- marked P

-- "a batch begun in a new register fetches any key: 16. Its next above top: 16."
abbrev pub any_key : ℕ → Session
any_key k = usual (ask begin ∷ ask (fetch 1 k) ∷ ask (next 1 top) ∷ []) (answers 1 ∷ refused 16 ∷ refused 16 ∷ []) []

abbrev pub fifteen : List ℕ
fifteen = 10 ∷ 20 ∷ 30 ∷ 40 ∷ 50 ∷ 60 ∷ 70 ∷ 80 ∷ 90 ∷ 100 ∷ 110 ∷ 120 ∷ 130 ∷ 140 ∷ 150 ∷ []

abbrev pub to_150 : List Step
to_150 = ask begin ∷ inserts 1 fifteen

-- The bytes of record 16, a split of page 1 into page 255: kind 9, 7 entries, level 0; own number; no batch, no previous record; A, B and C; key 70, second top, right link 0; the
-- first entry.
abbrev pub split_bytes : List ℕ
split_bytes =
    151 ∷ 0 ∷ 0 ∷ 0 ∷ 0 ∷ 0 ∷ 0 ∷ 16 ∷ replicate 8 0 ++ 0 ∷ 79 ∷ 240 ∷ 0 ∷ 0 ∷ 0 ∷ 0 ∷ 70 ∷ 255 ∷ 255 ∷ 255 ∷ 255 ∷ 0 ∷ 0 ∷ 0 ∷ 0 ∷ 0 ∷ 0 ∷ 0 ∷ 80 ∷ 0 ∷ 0 ∷ 0 ∷ 80 ∷ []

-- "one batch inserts 10, 20 up to 150: the root keeps 10 to 70 with right link 255; page 255 holds 80 to 150; record 16 is the split, 17 the
-- insert." And the map has bits 0, 1 and 255.
abbrev pub a_split : Session
a_split =
    usual to_150 (answers 1 ∷ replicate 15 done)
    (page_keys 1 (10 ∷ 20 ∷ 30 ∷ 40 ∷ 50 ∷ 60 ∷ 70 ∷ []) ∷ page_right 1 255 ∷ page_keys 255 (80 ∷ 90 ∷ 100 ∷ 110 ∷ 120 ∷ 130 ∷ 140 ∷ 150 ∷ [])
    ∷ kinds_from 16 (9 ∷ 2 ∷ []) ∷ slot_bytes_from 16 0 split_bytes ∷ page_bytes_from 0 16 (192 ∷ replicate 30 0 ++ 1 ∷ 0 ∷ []) ∷ [])

-- "then 160: record 18 raises, root entries (70, page 254) and (top, page 255)."
abbrev pub a_raise : Session
a_raise =
    usual (to_150 ++ inserts 1 (160 ∷ [])) (answers 1 ∷ replicate 16 done)
    (kinds_from 18 (14 ∷ 2 ∷ []) ∷ page_entries 1 (entry 70 254 ∷ entry top 255 ∷ []) ∷ [])

-- "then delete 10, 20, 30, 40: the last writes unlink, merge, delete; page 255 is free, page 254 holds 12."
abbrev pub a_merge : Session
a_merge =
    usual (to_150 ++ inserts 1 (160 ∷ []) ++ deletes 1 (10 ∷ 20 ∷ 30 ∷ 40 ∷ [])) (answers 1 ∷ replicate 20 done)
    (kinds_from 23 (11 ∷ 12 ∷ 3 ∷ []) ∷ page_kind_is 255 0 ∷ page_count 254 12 ∷ [])

-- "batch 1 inserts 5, another fetches 5: 14."
abbrev pub a_held_key : Session
a_held_key = usual (ask begin ∷ ask (insert 1 5 6) ∷ ask begin ∷ ask (fetch 3 5) ∷ []) (answers 1 ∷ done ∷ answers 3 ∷ refused 14 ∷ []) []

-- "a ninth begin: 13."
abbrev pub a_ninth : Session
a_ninth =
    usual (replicate 9 (ask begin))
    (answers 1 ∷ answers 2 ∷ answers 3 ∷ answers 4 ∷ answers 5 ∷ answers 6 ∷ answers 7 ∷ answers 8 ∷ refused 13 ∷ []) []

-- "67 slots, begin, insert: done. 66 slots: 17."
abbrev pub enough_slots : Session
enough_slots = of_size 256 67 (ask begin ∷ ask (insert 1 5 6) ∷ []) (answers 1 ∷ done ∷ []) []

abbrev pub too_few_slots : Session
too_few_slots = of_size 256 66 (ask begin ∷ ask (insert 1 5 6) ∷ []) (answers 1 ∷ refused 17 ∷ []) []

-- "16 pages: first insert done, second in the same batch 18."
abbrev pub too_few_pages : Session
too_few_pages = of_size 16 1024 (ask begin ∷ ask (insert 1 5 6) ∷ ask (insert 1 6 7) ∷ []) (answers 1 ∷ done ∷ refused 18 ∷ []) []

-- "begin, insert, cut: restart finds an empty register."
abbrev pub a_cut : Session
a_cut = usual (ask begin ∷ ask (insert 1 5 6) ∷ power_cut ∷ ask restart ∷ []) (answers 1 ∷ done ∷ done ∷ []) (slides [] ∷ kinds_from 1 [] ∷ [])

-- ---- more

-- After the merge the root has one link: the next delete lowers it.
abbrev pub a_lower : Session
a_lower =
    usual (to_150 ++ inserts 1 (160 ∷ []) ++ deletes 1 (10 ∷ 20 ∷ 30 ∷ 40 ∷ 50 ∷ [])) (answers 1 ∷ replicate 21 done)
    (kinds_from 26 (15 ∷ 3 ∷ []) ∷ page_kind_is 254 0 ∷ page_keys 1 (60 ∷ 70 ∷ 80 ∷ 90 ∷ 100 ∷ 110 ∷ 120 ∷ 130 ∷ 140 ∷ 150 ∷ 160 ∷ []) ∷ [])

-- The bytes of record 28, a link: kind 10; A the parent, B the page and C the new one after it; key and second their high keys.
abbrev pub link_bytes : List ℕ
link_bytes = 160 ∷ 0 ∷ 0 ∷ 0 ∷ 0 ∷ 0 ∷ 0 ∷ 28 ∷ replicate 8 0 ++ 0 ∷ 79 ∷ 227 ∷ 252 ∷ 0 ∷ 0 ∷ 0 ∷ 110 ∷ 255 ∷ 255 ∷ 255 ∷ 255 ∷ replicate 4 0

-- 4 and 12 entries are shared out as 8 and 8, from the right page into the left.
abbrev pub shared_left : Session
shared_left =
    usual (to_150 ++ inserts 1 (160 ∷ 170 ∷ 180 ∷ 190 ∷ []) ++ deletes 1 (10 ∷ 20 ∷ 30 ∷ 40 ∷ [])) (answers 1 ∷ replicate 23 done)
    (kinds_from 26 (11 ∷ 13 ∷ 10 ∷ 3 ∷ []) ∷ slot_bytes_from 28 0 link_bytes ∷ page_keys 254 (50 ∷ 60 ∷ 70 ∷ 80 ∷ 90 ∷ 100 ∷ 110 ∷ [])
    ∷ page_keys 255 (120 ∷ 130 ∷ 140 ∷ 150 ∷ 160 ∷ 170 ∷ 180 ∷ 190 ∷ []) ∷ page_entries 1 (entry 110 254 ∷ entry top 255 ∷ []) ∷ [])

-- 12 and 4 entries, from the left page into the right, which is the last child.
abbrev pub shared_right : Session
shared_right =
    usual (to_150 ++ inserts 1 (160 ∷ 11 ∷ 12 ∷ 13 ∷ 14 ∷ 15 ∷ []) ++ deletes 1 (80 ∷ 90 ∷ 100 ∷ 110 ∷ 120 ∷ 130 ∷ [])) (answers 1 ∷ replicate 27 done)
    (kinds_from 30 (11 ∷ 13 ∷ 10 ∷ 3 ∷ []) ∷ page_keys 254 (10 ∷ 11 ∷ 12 ∷ 13 ∷ 14 ∷ 15 ∷ 20 ∷ 30 ∷ [])
    ∷ page_keys 255 (40 ∷ 50 ∷ 60 ∷ 70 ∷ 140 ∷ 150 ∷ 160 ∷ []) ∷ page_entries 1 (entry 30 254 ∷ entry top 255 ∷ []) ∷ [])

-- The bytes of record 25, which undoes batch 17's insert of 150 on page 255: kind 4; its batch; nothing is left to undo.
abbrev pub undo_bytes : List ℕ
undo_bytes = 64 ∷ 0 ∷ 0 ∷ 0 ∷ 0 ∷ 0 ∷ 0 ∷ 25 ∷ 0 ∷ 0 ∷ 0 ∷ 17 ∷ 0 ∷ 0 ∷ 0 ∷ 0 ∷ 63 ∷ 192 ∷ 0 ∷ 0 ∷ 0 ∷ 0 ∷ 0 ∷ 150 ∷ replicate 8 0

-- A batch that caused a split is aborted: its slide goes, the split stays, and so does the other batch's slide on the new page.
abbrev pub an_abort : Session
an_abort =
    usual
    (ask begin ∷ inserts 1 (10 ∷ 20 ∷ 30 ∷ 40 ∷ 50 ∷ 60 ∷ 70 ∷ 80 ∷ 90 ∷ 100 ∷ 110 ∷ 120 ∷ 130 ∷ 140 ∷ []) ++ ask (commit 1)
    ∷ ask begin ∷ ask (insert 17 150 150) ∷ ask begin ∷ ask (insert 20 85 85) ∷ ask (commit 20) ∷ ask (abort 17) ∷ [])
    (answers 1 ∷ replicate 14 done ++ done ∷ answers 17 ∷ done ∷ answers 20 ∷ done ∷ done ∷ done ∷ [])
    (kinds_from 17 (1 ∷ 9 ∷ 2 ∷ 1 ∷ 14 ∷ 2 ∷ 6 ∷ 7 ∷ 4 ∷ 8 ∷ []) ∷ slot_bytes_from 25 0 undo_bytes ∷ page_keys 255 (80 ∷ 85 ∷ 90 ∷ 100 ∷ 110 ∷ 120 ∷ 130 ∷ 140 ∷ []) ∷ [])

-- Nothing was written out: the three inserts, two of the committed batch and one of the open one, are redone on page 1; then the open batch is ended.
abbrev pub a_redo : Session
a_redo =
    usual
    (ask begin ∷ ask (insert 1 5 6) ∷ ask begin ∷ ask (insert 3 9 9) ∷ ask (insert 1 7 8) ∷ ask (commit 1) ∷ power_cut ∷ ask restart ∷ ask begin ∷ ask (next 10 5) ∷ [])
    (answers 1 ∷ done ∷ answers 3 ∷ done ∷ done ∷ done ∷ (0 ∷ 1 ∷ 3 ∷ []) ∷ answers 10 ∷ (0 ∷ 7 ∷ 8 ∷ []) ∷ [])
    (slides (entry 5 6 ∷ entry 7 8 ∷ []) ∷ kinds_from 7 (7 ∷ 4 ∷ 8 ∷ 1 ∷ []) ∷ [])

-- A commit cut before its last store, its own record, is as if not asked for; cut after it, it counts.
abbrev pub cut_commit : ℕ → List (List ℕ) → List See → Session
cut_commit j after sees = usual (ask begin ∷ ask (insert 1 5 6) ∷ cut j (commit 1) ∷ ask restart ∷ []) (answers 1 ∷ done ∷ after) sees

abbrev pub unstored_commit : Session
unstored_commit = cut_commit 2 ((0 ∷ 1 ∷ 1 ∷ []) ∷ []) (slides [] ∷ [])

abbrev pub stored_commit : Session
stored_commit = cut_commit 3 ((0 ∷ 0 ∷ 1 ∷ []) ∷ []) (slides (entry 5 6 ∷ []) ∷ [])

-- The console's example in 01, on its 64 pages and 160 slots.
abbrev pub console : Session
console =
    of_size 64 160
    (ask begin ∷ ask (insert 1 500 7) ∷ ask (commit 1) ∷ ask begin ∷ ask (delete 4 500) ∷ ask (write_out 1) ∷ power_cut ∷ ask restart ∷ ask begin ∷ ask (fetch 9 500) ∷ [])
    (answers 1 ∷ done ∷ done ∷ answers 4 ∷ done ∷ done ∷ answers 1 ∷ answers 9 ∷ answers 7 ∷ []) []

-- "A fetch, insert or delete answers 14 if another batch holds its key; a next, if another holds any key above the asked one up to the found
-- one, or to top if none." The found key is held; the asked one is, which is not above itself; and one's own keys are not held against one.
abbrev pub next_held : Session
next_held =
    usual (ask begin ∷ ask (insert 1 5 6) ∷ ask begin ∷ ask (next 3 4) ∷ ask (next 3 5) ∷ ask (next 1 4) ∷ [])
    (answers 1 ∷ done ∷ answers 3 ∷ refused 14 ∷ refused 16 ∷ (0 ∷ 5 ∷ 6 ∷ []) ∷ []) []

-- A key below the found one is held, whose deletion is pending; then one where none is found.
abbrev pub next_held_between : Session
next_held_between =
    usual
    (ask begin ∷ ask (insert 1 5 6) ∷ ask (insert 1 9 9) ∷ ask (commit 1) ∷ ask begin ∷ ask (delete 5 5) ∷ ask begin ∷ ask (next 7 4) ∷ ask (next 7 5)
    ∷ ask (delete 5 9) ∷ ask (next 7 5) ∷ ask (next 7 9) ∷ ask (fetch 7 5) ∷ ask (insert 7 5 1) ∷ ask (delete 7 5) ∷ ask (next 5 4) ∷ [])
    (answers 1 ∷ done ∷ done ∷ done ∷ answers 5 ∷ done ∷ answers 7 ∷ refused 14 ∷ (0 ∷ 9 ∷ 9 ∷ []) ∷ done ∷ refused 14 ∷ refused 16 ∷ refused 14 ∷ refused 14
    ∷ refused 14 ∷ refused 16 ∷ [])
    []

-- 12, 15, 16 and 2, each of every call that answers it; after a cut 11 of each, but a page number past the pages is told first.
abbrev pub each_refusal : Session
each_refusal =
    usual
    (ask begin ∷ ask (fetch 2 5) ∷ ask (next 2 5) ∷ ask (insert 2 5 5) ∷ ask (delete 2 5) ∷ ask (commit 2) ∷ ask (abort 2) ∷ ask (insert 1 5 6) ∷ ask (insert 1 5 7)
    ∷ ask (delete 1 6) ∷ ask (fetch 1 6) ∷ ask (next 1 5) ∷ ask (write_out 256) ∷ ask (write_out 255) ∷ power_cut ∷ ask begin ∷ ask (fetch 1 5) ∷ ask (next 1 5)
    ∷ ask (insert 1 6 6) ∷ ask (delete 1 5) ∷ ask (commit 1) ∷ ask (abort 1) ∷ ask (write_out 3) ∷ ask (write_out 256) ∷ ask restart ∷ [])
    (answers 1 ∷ refused 12 ∷ refused 12 ∷ refused 12 ∷ refused 12 ∷ refused 12 ∷ refused 12 ∷ done ∷ refused 15 ∷ refused 16 ∷ refused 16 ∷ refused 16 ∷ refused 2
    ∷ done ∷ replicate 8 (refused 11) ++ refused 2 ∷ (0 ∷ 1 ∷ 1 ∷ []) ∷ [])
    []

-- 02, U1: 7 for key 0 in any batch, open or not; no other key, and no other call, is refused for it.
abbrev pub zero_key : Session
zero_key =
    usual (ask begin ∷ ask (insert 1 0 5) ∷ ask (insert 9 0 5) ∷ ask (insert 1 1 5) ∷ ask (fetch 1 0) ∷ ask (next 1 0) ∷ ask (delete 1 0) ∷ [])
    (answers 1 ∷ refused 7 ∷ refused 7 ∷ done ∷ refused 16 ∷ (0 ∷ 1 ∷ 5 ∷ []) ∷ refused 16 ∷ []) (slides (entry 1 5 ∷ []) ∷ [])

-- 02, U2: a case of three trays, of which the third is taken back. Each undo's previous is what is next to undo, the last one's the newest update
-- kept. The case goes on and commits with what it kept; another case files a slide of the third tray, and is ended by the restart.
abbrev pub three_trays : Session
three_trays =
    usual
    (ask begin ∷ inserts 1 (10 ∷ 11 ∷ []) ++ ask (take_mark 1) ∷ inserts 1 (20 ∷ 21 ∷ []) ++ ask (take_mark 1) ∷ inserts 1 (30 ∷ 31 ∷ []) ++ ask (return_to 1 5) ∷ ask (take_mark 1)
    ∷ ask begin ∷ ask (insert 10 30 7) ∷ ask (fetch 1 30) ∷ ask (fetch 10 21) ∷ ask (commit 1) ∷ power_cut ∷ ask restart ∷ [])
    (answers 1 ∷ done ∷ done ∷ answers 3 ∷ done ∷ done ∷ answers 5 ∷ done ∷ done ∷ done ∷ answers 9 ∷ answers 10 ∷ done ∷ refused 14 ∷ refused 14 ∷ done ∷ (0 ∷ 1 ∷ 9 ∷ []) ∷ [])
    (kinds_from 6 (2 ∷ 2 ∷ 4 ∷ 4 ∷ 1 ∷ 2 ∷ 6 ∷ 7 ∷ 4 ∷ 8 ∷ []) ∷ previous_from 6 (5 ∷ 6 ∷ 6 ∷ 5 ∷ 0 ∷ 10 ∷ 9 ∷ 11 ∷ 0 ∷ 14 ∷ [])
    ∷ slides (entry 10 10 ∷ entry 11 11 ∷ entry 20 20 ∷ entry 21 21 ∷ []) ∷ [])

-- 02, U2: a mark is any record of that batch, also its begin, an update taken back, or an undo; the update that is the mark is kept. 20 for 0, for
-- another batch's records and for numbers past the last; 12 before that. A return with nothing above its mark writes nothing.
abbrev pub marks : Session
marks =
    usual
    (ask begin ∷ ask begin ∷ ask (insert 1 5 5) ∷ ask (insert 2 6 6) ∷ ask (return_to 1 0) ∷ ask (return_to 1 2) ∷ ask (return_to 1 4) ∷ ask (return_to 1 5) ∷ ask (return_to 9 3) ∷ ask (take_mark 9)
    ∷ ask (return_to 1 3) ∷ ask (take_mark 1) ∷ ask (fetch 1 5) ∷ ask (delete 1 5) ∷ ask (return_to 1 3) ∷ ask (return_to 1 5) ∷ ask (return_to 1 6) ∷ ask (fetch 1 5) ∷ ask (return_to 1 1) ∷ ask (fetch 1 5)
    ∷ ask (take_mark 1) ∷ ask (insert 1 5 9) ∷ ask (commit 1) ∷ [])
    (answers 1 ∷ answers 2 ∷ done ∷ done ∷ refused 20 ∷ refused 20 ∷ refused 20 ∷ refused 20 ∷ refused 12 ∷ refused 12
    ∷ done ∷ answers 3 ∷ answers 5 ∷ done ∷ done ∷ done ∷ done ∷ answers 5 ∷ done ∷ refused 16
    ∷ answers 7 ∷ done ∷ done ∷ [])
    (kinds_from 1 (1 ∷ 1 ∷ 2 ∷ 2 ∷ 3 ∷ 5 ∷ 4 ∷ 2 ∷ 6 ∷ []) ∷ previous_from 1 (0 ∷ 0 ∷ 1 ∷ 2 ∷ 3 ∷ 3 ∷ 0 ∷ 7 ∷ 8 ∷ []) ∷ slides (entry 5 9 ∷ entry 6 6 ∷ []) ∷ [])

-- A record of a tree change is of no batch, and is not taken back: record 16 is the split, 18 the raise on the undo's way.
abbrev pub split_stays : Session
split_stays =
    usual (to_150 ++ ask (return_to 1 16) ∷ ask (return_to 1 15) ∷ []) (answers 1 ∷ replicate 15 done ++ refused 20 ∷ done ∷ [])
    (kinds_from 16 (9 ∷ 2 ∷ 14 ∷ 4 ∷ []) ∷ page_keys 255 (80 ∷ 90 ∷ 100 ∷ 110 ∷ 120 ∷ 130 ∷ 140 ∷ []) ∷ [])

-- A case that was partly taken back is open at a cut: restart undoes the rest of it. Another is aborted: so does abort.
abbrev pub partly_back : Session
partly_back =
    usual
    (ask begin ∷ inserts 1 (5 ∷ 6 ∷ []) ++ ask (return_to 1 2) ∷ ask begin ∷ ask (commit 5) ∷ power_cut ∷ ask restart ∷ ask begin ∷ inserts 10 (5 ∷ 6 ∷ []) ++ ask (return_to 10 11) ∷ ask (abort 10) ∷ [])
    (answers 1 ∷ done ∷ done ∷ done ∷ answers 5 ∷ done ∷ (0 ∷ 1 ∷ 3 ∷ []) ∷ answers 10 ∷ replicate 4 done)
    (kinds_from 4 (4 ∷ 1 ∷ 6 ∷ 7 ∷ 4 ∷ 8 ∷ 1 ∷ 2 ∷ 2 ∷ 4 ∷ 7 ∷ 4 ∷ 8 ∷ []) ∷ previous_from 4 (2 ∷ 0 ∷ 5 ∷ 4 ∷ 0 ∷ 8 ∷ 0 ∷ 10 ∷ 11 ∷ 11 ∷ 13 ∷ 0 ∷ 15 ∷ []) ∷ slides [] ∷ [])

-- Two cases are open at a cut, with updates in turns: "undoes always the largest log number due, with an 8 right after a batch's last".
abbrev pub two_open : Session
two_open =
    usual
    (ask begin ∷ ask begin ∷ ask (insert 1 5 6) ∷ ask (insert 2 7 8) ∷ ask (insert 1 9 9) ∷ ask (insert 2 3 3) ∷ ask begin ∷ ask (commit 7) ∷ power_cut ∷ ask restart ∷ [])
    (answers 1 ∷ answers 2 ∷ replicate 4 done ++ answers 7 ∷ done ∷ (0 ∷ 2 ∷ 4 ∷ []) ∷ [])
    (slides [] ∷ kinds_from 9 (7 ∷ 7 ∷ 4 ∷ 4 ∷ 4 ∷ 8 ∷ 4 ∷ 8 ∷ []) ∷ [])

-- Three cases are open at a cut, the second with nothing pending: three are ended, two page changes redone.
abbrev pub three_open : Session
three_open =
    usual
    (ask begin ∷ ask begin ∷ ask begin ∷ ask (insert 1 5 6) ∷ ask (insert 3 7 7) ∷ ask begin ∷ ask (commit 6) ∷ power_cut ∷ ask restart ∷ [])
    (answers 1 ∷ answers 2 ∷ answers 3 ∷ done ∷ done ∷ answers 6 ∷ done ∷ (0 ∷ 3 ∷ 2 ∷ []) ∷ [])
    (slides [] ∷ kinds_from 8 (7 ∷ 7 ∷ 7 ∷ 8 ∷ 4 ∷ 8 ∷ 4 ∷ 8 ∷ []) ∷ [])

-- Splits, a raise and a merge are redone, map changes counted.
abbrev pub redo_of_changes : Session
redo_of_changes =
    usual (to_150 ++ inserts 1 (160 ∷ []) ++ deletes 1 (10 ∷ 20 ∷ 30 ∷ 40 ∷ []) ++ ask (commit 1) ∷ power_cut ∷ ask restart ∷ [])
    (answers 1 ∷ replicate 21 done ++ (0 ∷ 0 ∷ 30 ∷ []) ∷ []) (page_kind_is 255 0 ∷ page_count 254 12 ∷ [])

-- "An update needs u + 32 + 32(p + 1) + 2b at most the slots, else 17": with one pending, 100 slots, and not 99. "and 7 + 7(p + 1) free pages,
-- else 18": with one pending 21 free ones, of 23 pages, and not of 22.
abbrev pub two_inserts : ℕ → ℕ → List ℕ → Session
two_inserts pages slots last = of_size pages slots (ask begin ∷ ask (insert 1 5 6) ∷ ask (insert 1 6 7) ∷ []) (answers 1 ∷ done ∷ last ∷ []) []

-- "Begin needs u + 1 + 32p + 2(b + 1) at most the slots": with one pending and 67 slots a second batch begins after record 30, and not after 31.
abbrev pub pairs : ℕ → List Step
pairs n = ask begin ∷ ask (commit n) ∷ []

abbrev pub first_pairs : List Step
first_pairs =
    pairs 3 ++ pairs 5 ++ pairs 7 ++ pairs 9 ++ pairs 11 ++ pairs 13 ++ pairs 15 ++ pairs 17 ++ pairs 19 ++ pairs 21 ++ pairs 23 ++ pairs 25 ++ pairs 27

abbrev pub begun_pairs : List (List ℕ)
begun_pairs =
    answers 3 ∷ done ∷ answers 5 ∷ done ∷ answers 7 ∷ done ∷ answers 9 ∷ done ∷ answers 11 ∷ done ∷ answers 13 ∷ done ∷ answers 15 ∷ done ∷ answers 17 ∷ done
    ∷ answers 19 ∷ done ∷ answers 21 ∷ done ∷ answers 23 ∷ done ∷ answers 25 ∷ done ∷ answers 27 ∷ done ∷ []

abbrev pub begin_fits : Session
begin_fits =
    of_size 256 67 (ask begin ∷ ask (insert 1 5 6) ∷ first_pairs ++ pairs 29 ++ ask begin ∷ [])
    (answers 1 ∷ done ∷ begun_pairs ++ answers 29 ∷ done ∷ answers 31 ∷ []) []

abbrev pub begin_short : Session
begin_short =
    of_size 256 67 (ask begin ∷ ask (insert 1 5 6) ∷ first_pairs ++ ask begin ∷ ask (abort 29) ∷ ask begin ∷ ask (fetch 1 5) ∷ [])
    (answers 1 ∷ done ∷ begun_pairs ++ answers 29 ∷ done ∷ refused 17 ∷ answers 6 ∷ []) []

-- 02, U5: previous in a leaf, from its first slide to the leaf to the left, below all and above all; and its rule on held keys.
abbrev pub steps_back : Session
steps_back =
    usual
    (to_150 ++ ask (previous 1 0) ∷ ask (previous 1 10) ∷ ask (previous 1 11) ∷ ask (previous 1 80) ∷ ask (previous 1 81) ∷ ask (previous 1 top) ∷ ask (commit 1)
    ∷ ask begin ∷ ask begin ∷ ask (delete 19 80) ∷ ask (previous 20 80) ∷ ask (previous 20 90) ∷ ask (previous 20 91) ∷ ask (previous 19 90) ∷ ask (previous 18 90) ∷ [])
    (answers 1 ∷ replicate 15 done ++ refused 16 ∷ refused 16 ∷ (0 ∷ 10 ∷ 10 ∷ []) ∷ (0 ∷ 70 ∷ 70 ∷ []) ∷ (0 ∷ 80 ∷ 80 ∷ []) ∷ (0 ∷ 150 ∷ 150 ∷ []) ∷ done
    ∷ answers 19 ∷ answers 20 ∷ done ∷ (0 ∷ 70 ∷ 70 ∷ []) ∷ refused 14 ∷ (0 ∷ 90 ∷ 90 ∷ []) ∷ (0 ∷ 70 ∷ 70 ∷ []) ∷ refused 12 ∷ [])
    (page_left 1 0 ∷ page_left 254 0 ∷ page_left 255 254 ∷ [])

-- "Restart .. by batch number": four cases are open at a cut, two of them idle.
abbrev pub restart_order : Session
restart_order =
    usual
    (ask begin ∷ ask begin ∷ ask begin ∷ ask begin ∷ ask (insert 1 5 6) ∷ ask (insert 3 7 7) ∷ ask begin ∷ ask (commit 7) ∷ power_cut ∷ ask restart ∷ [])
    (answers 1 ∷ answers 2 ∷ answers 3 ∷ answers 4 ∷ done ∷ done ∷ answers 7 ∷ done ∷ (0 ∷ 4 ∷ 2 ∷ []) ∷ [])
    (kinds_from 9 (7 ∷ 7 ∷ 7 ∷ 7 ∷ 8 ∷ 8 ∷ 4 ∷ 8 ∷ 4 ∷ 8 ∷ []) ∷ batches_from 9 (1 ∷ 2 ∷ 3 ∷ 4 ∷ 2 ∷ 4 ∷ 3 ∷ 3 ∷ 1 ∷ 1 ∷ []) ∷ previous_from 9 (5 ∷ 2 ∷ 6 ∷ 4 ∷ 10 ∷ 12 ∷ 0 ∷ 15 ∷ 0 ∷ 17 ∷ []) ∷ [])

-- The desk: "batch, its last record, the next to undo, how many are pending", a row an open batch.
abbrev pub desk_rows : Session
desk_rows =
    usual (ask begin ∷ inserts 1 (5 ∷ 6 ∷ []) ++ ask begin ∷ ask (insert 4 7 7) ∷ ask (return_to 4 4) ∷ []) (answers 1 ∷ done ∷ done ∷ answers 4 ∷ done ∷ done ∷ [])
    (desk_row 0 (record { batch = 1; last = 3; undo = 3; pending = 2 }) ∷ desk_row 1 (record { batch = 4; last = 6; undo = 0; pending = 0 }) ∷ desk_row 2 (record { batch = 0; last = 0; undo = 0; pending = 0 }) ∷ [])

-- ---- the table

abbrev pub rows : List Session
rows =
    a_split ∷ a_raise ∷ a_merge ∷ a_held_key ∷ a_ninth ∷ enough_slots ∷ too_few_slots ∷ too_few_pages ∷ a_cut
    ∷ a_lower ∷ shared_left ∷ shared_right ∷ an_abort ∷ a_redo ∷ unstored_commit ∷ stored_commit ∷ console
    ∷ next_held ∷ next_held_between ∷ steps_back ∷ each_refusal ∷ zero_key ∷ three_trays ∷ marks ∷ split_stays ∷ partly_back ∷ two_open ∷ three_open ∷ restart_order ∷ desk_rows ∷ redo_of_changes ∷ two_inserts 256 100 done ∷ two_inserts 256 99 (refused 17) ∷ two_inserts 23 1024 done
    ∷ two_inserts 22 1024 (refused 18) ∷ begin_fits ∷ begin_short ∷ []

abbrev pub table : ℕ → List Session
table k = any_key k ∷ rows
