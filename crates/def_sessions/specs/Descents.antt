-- SESSIONS ON THE WAY DOWN: 01's "Going down to change key k", a row a branch, each one update of a tree that was there before the log.
use Rattle.std.specs.Prelude.{ℕ, suc, ◌-◌, ◌*◌, true, false, List, [], ◌∷◌, ◌++◌, map, replicate}
use Rattle.def_layout.specs.declared.Entry.{Entry}
use Rattle.def_layout.specs.Entries.{entry, top}
use Rattle.def_layout.specs.Pages.{node_at, map_page}
use Rattle.def_layout.specs.PageBytes.{page}
use Rattle.def_model.specs.OnBytes.{Call}
use Rattle.def_model.specs.CallNames.{begin, restart, insert, delete}
use Rattle.def_sessions.specs.Play.{Session, Step, ask, forge_page, See, page_keys, page_entries, page_right, page_kind_is, page_count, kinds_from}
use Rattle.def_sessions.specs.Table.{answers, done, of_size}

-- ---- trees of 32 pages

-- The map: the first so many pages are used.
abbrev pub used : ℕ → Step
used n = forge_page 0 (page (map_page (replicate n true ++ replicate (32 - n) false)))

-- A leaf of keys, each with itself as value; an index page; and the root, where it is one.
abbrev pub leaf : ℕ → ℕ → ℕ → List ℕ → Step
leaf p right high ks = forge_page p (page (node_at p 0 right high (map (λ k. entry k k) ks)))

abbrev pub index : ℕ → ℕ → ℕ → ℕ → List Entry → Step
index p level right high es = forge_page p (page (node_at p level right high es))

abbrev pub root : ℕ → List Entry → Step
root level es = index 1 level 0 top es

-- Page p, the leaf of keys up to 40 (p - 1), with 4 of them; and its entry.
abbrev pub four : ℕ → List ℕ
four high = (high - 30) ∷ (high - 20) ∷ (high - 10) ∷ high ∷ []

abbrev pub leaf_of_4 : ℕ → Step
leaf_of_4 p = let high = 40 * (p - 1) in leaf p (suc p) high (four high)

abbrev pub entry_of_4 : ℕ → Entry
entry_of_4 p = entry (40 * (p - 1)) p

-- The tree is restarted, a batch begins (record 1), and the one update writes records of these kinds.
abbrev pub goes_down : List Step → Call → List ℕ → List See → Session
goes_down tree c kinds sees = of_size 32 68 (tree ++ ask restart ∷ ask begin ∷ ask c ∷ []) (done ∷ answers 1 ∷ done ∷ []) (kinds_from 2 kinds ∷ sees)

-- ---- 1 and 2

-- "If the root has a right sibling: raise", for a removal too.
abbrev pub raised : Session
raised =
    goes_down (used 3 ∷ leaf 1 2 50 (10 ∷ 20 ∷ 30 ∷ 40 ∷ 50 ∷ []) ∷ leaf 2 0 top (60 ∷ 70 ∷ 80 ∷ 90 ∷ []) ∷ []) (delete 1 10) (14 ∷ 3 ∷ [])
    (page_entries 1 (entry 50 31 ∷ entry top 2 ∷ []) ∷ page_keys 31 (20 ∷ 30 ∷ 40 ∷ 50 ∷ []) ∷ [])

-- The root's one link leads to page 2, and to page 3 after it, which is indirect.
abbrev pub one_link : List Step
one_link = used 4 ∷ root 1 (entry top 2 ∷ []) ∷ leaf 2 3 50 (10 ∷ 20 ∷ 30 ∷ 40 ∷ 50 ∷ []) ∷ leaf 3 0 top (60 ∷ 70 ∷ 80 ∷ 90 ∷ 100 ∷ []) ∷ []

abbrev pub now_two : See
now_two = page_entries 1 (entry 50 2 ∷ entry top 3 ∷ [])

-- "If Q's high key is below that entry: .. link; Q becomes the half covering k": the right one, or the left one. And a root that has two
-- links by then is not lowered.
abbrev pub linked_right : Session
linked_right = goes_down one_link (insert 1 65 65) (10 ∷ 2 ∷ []) (now_two ∷ page_keys 3 (60 ∷ 65 ∷ 70 ∷ 80 ∷ 90 ∷ 100 ∷ []) ∷ [])

abbrev pub linked_left : Session
linked_left = goes_down one_link (insert 1 15 15) (10 ∷ 2 ∷ []) (now_two ∷ page_keys 2 (10 ∷ 15 ∷ 20 ∷ 30 ∷ 40 ∷ 50 ∷ []) ∷ [])

abbrev pub linked_removing : Session
linked_removing = goes_down one_link (delete 1 60) (10 ∷ 3 ∷ []) (now_two ∷ page_keys 3 (70 ∷ 80 ∷ 90 ∷ 100 ∷ []) ∷ [])

-- The root has 14 links, from pages 2 to 15.
abbrev pub thirteen : List ℕ
thirteen = 2 ∷ 3 ∷ 4 ∷ 5 ∷ 6 ∷ 7 ∷ 8 ∷ 9 ∷ 10 ∷ 11 ∷ 12 ∷ 13 ∷ 14 ∷ []

abbrev pub full_root : Step
full_root = root 1 (map entry_of_4 thirteen ++ entry top 15 ∷ [])

-- "split P if it has 14 entries and go on in the half covering k": page 16 after the last link is indirect; the right half, page 31, links it.
abbrev pub split_to_link : Session
split_to_link =
    goes_down (used 17 ∷ full_root ∷ map leaf_of_4 thirteen ++ leaf_of_4 15 ∷ leaf 16 0 top (four 600) ∷ []) (insert 1 575 575) (9 ∷ 10 ∷ 2 ∷ [])
    (page_entries 1 (map entry_of_4 (2 ∷ 3 ∷ 4 ∷ 5 ∷ 6 ∷ 7 ∷ 8 ∷ [])) ∷ page_right 1 31
    ∷ page_entries 31 (map entry_of_4 (9 ∷ 10 ∷ 11 ∷ 12 ∷ 13 ∷ 14 ∷ 15 ∷ []) ++ entry top 16 ∷ []) ∷ page_count 16 5 ∷ [])

-- A full P that needs no link, and whose Q has more than 4 entries, stays: Q is page 8, of keys above 240.
abbrev pub fourteen_leaves : List Step
fourteen_leaves = used 16 ∷ full_root ∷ map leaf_of_4 thirteen ++ leaf 15 0 top (four 560) ∷ []

abbrev pub one_of_5 : List Step
one_of_5 = fourteen_leaves ++ leaf 8 9 280 (245 ∷ four 280) ∷ []

abbrev pub full_adding : Session
full_adding = goes_down one_of_5 (insert 1 255 255) (2 ∷ []) (page_count 1 14 ∷ page_count 8 6 ∷ [])

abbrev pub full_removing : Session
full_removing = goes_down one_of_5 (delete 1 245) (3 ∷ []) (page_count 1 14 ∷ page_keys 8 (four 280) ∷ [])

-- ---- 3, when removing

-- "if P is the root with one link, lower it and repeat from there": at 2, as page 7 after the last link is indirect.
abbrev pub lowered_linked : Session
lowered_linked =
    goes_down
    (used 8 ∷ root 2 (entry top 2 ∷ []) ∷ index 2 1 0 top (map entry_of_4 (3 ∷ 4 ∷ 5 ∷ []) ++ entry top 6 ∷ []) ∷ map leaf_of_4 (3 ∷ 4 ∷ 5 ∷ 6 ∷ [])
    ++ leaf 7 0 top (210 ∷ 220 ∷ 230 ∷ 240 ∷ 250 ∷ []) ∷ [])
    (delete 1 210) (15 ∷ 10 ∷ 3 ∷ [])
    (page_entries 1 (map entry_of_4 (3 ∷ 4 ∷ 5 ∷ 6 ∷ []) ++ entry top 7 ∷ []) ∷ page_kind_is 2 0 ∷ page_keys 7 (220 ∷ 230 ∷ 240 ∷ 250 ∷ []) ∷ [])

-- "if Q has 4 entries: split P if full": page 8 is then the left half's last child, and is joined with page 7.
abbrev pub split_to_join : Session
split_to_join =
    goes_down fourteen_leaves (delete 1 250) (9 ∷ 11 ∷ 12 ∷ 3 ∷ [])
    (page_entries 1 (map entry_of_4 (2 ∷ 3 ∷ 4 ∷ 5 ∷ 6 ∷ []) ++ entry 280 7 ∷ []) ∷ page_right 1 31 ∷ page_count 31 7
    ∷ page_keys 7 (210 ∷ 220 ∷ 230 ∷ 240 ∷ 260 ∷ 270 ∷ 280 ∷ []) ∷ page_kind_is 8 0 ∷ [])

-- Four leaves of 4, of which one is indirect.
abbrev pub four_leaves : List Entry → List Step
four_leaves es = used 6 ∷ root 1 es ∷ map leaf_of_4 (2 ∷ 3 ∷ 4 ∷ []) ++ leaf 5 0 top (four 160) ∷ []

-- "If Q is not P's last child, take R, the next; link an indirect page after R; unlink R; join Q and R": Q is 2, R is 3, and 4 is indirect.
abbrev pub linked_after : Session
linked_after =
    goes_down (four_leaves (entry 40 2 ∷ entry 120 3 ∷ entry top 5 ∷ [])) (delete 1 10) (10 ∷ 11 ∷ 12 ∷ 3 ∷ [])
    (page_entries 1 (entry 80 2 ∷ entry 120 4 ∷ entry top 5 ∷ []) ∷ page_keys 2 (20 ∷ 30 ∷ 40 ∷ 50 ∷ 60 ∷ 70 ∷ 80 ∷ []) ∷ page_kind_is 3 0 ∷ [])

-- "If Q is last, take its left neighbour L, linking it first if indirect; unlink Q; join L and Q": Q is 5, L is 4.
abbrev pub linked_before : Session
linked_before =
    goes_down (four_leaves (entry 40 2 ∷ entry 120 3 ∷ entry top 5 ∷ [])) (delete 1 130) (10 ∷ 11 ∷ 12 ∷ 3 ∷ [])
    (page_entries 1 (entry 40 2 ∷ entry 80 3 ∷ entry top 4 ∷ []) ∷ page_keys 4 (90 ∷ 100 ∷ 110 ∷ 120 ∷ 140 ∷ 150 ∷ 160 ∷ []) ∷ page_kind_is 5 0 ∷ [])

-- Q is itself indirect: it is linked, and then joined with the next.
abbrev pub linked_joined : Session
linked_joined =
    goes_down (four_leaves (entry 80 2 ∷ entry 120 4 ∷ entry top 5 ∷ [])) (delete 1 50) (10 ∷ 11 ∷ 12 ∷ 3 ∷ [])
    (page_entries 1 (entry 40 2 ∷ entry 120 3 ∷ entry top 5 ∷ []) ∷ page_keys 3 (60 ∷ 70 ∷ 80 ∷ 90 ∷ 100 ∷ 110 ∷ 120 ∷ []) ∷ page_kind_is 4 0 ∷ [])

-- Q and R are index pages, of 4 links each: the root is left with one link, and the merged page goes on.
abbrev pub joined_indexes : Session
joined_indexes =
    goes_down
    (used 12 ∷ root 2 (entry 240 2 ∷ entry top 3 ∷ []) ∷ index 2 1 3 240 (map entry_of_4 (4 ∷ 5 ∷ 6 ∷ 7 ∷ []))
    ∷ index 3 1 0 top (map entry_of_4 (8 ∷ 9 ∷ 10 ∷ []) ++ entry top 11 ∷ []) ∷ leaf 4 5 120 (80 ∷ four 120) ∷ map leaf_of_4 (5 ∷ 6 ∷ 7 ∷ 8 ∷ 9 ∷ 10 ∷ [])
    ++ leaf 11 0 top (four 400) ∷ [])
    (delete 1 80) (11 ∷ 12 ∷ 3 ∷ [])
    (page_entries 1 (entry top 2 ∷ []) ∷ page_entries 2 (map entry_of_4 (4 ∷ 5 ∷ 6 ∷ 7 ∷ 8 ∷ 9 ∷ 10 ∷ []) ++ entry top 11 ∷ []) ∷ page_kind_is 3 0 ∷ page_keys 4 (four 120) ∷ [])

-- "Join means merge if together they hold at most 14; otherwise redistribute, then link again": 4 and 10, and 4 and 11, of which the left page
-- gets the larger half.
abbrev pub two_leaves : List ℕ → List Step
two_leaves ks = used 4 ∷ root 1 (entry 40 2 ∷ entry top 3 ∷ []) ∷ leaf 2 3 40 (four 40) ∷ leaf 3 0 top ks ∷ []

abbrev pub joined_14 : Session
joined_14 =
    goes_down (two_leaves (50 ∷ 60 ∷ 70 ∷ 80 ∷ 90 ∷ 100 ∷ 110 ∷ 120 ∷ 130 ∷ 140 ∷ [])) (delete 1 10) (11 ∷ 12 ∷ 3 ∷ [])
    (page_entries 1 (entry top 2 ∷ []) ∷ page_count 2 13 ∷ page_kind_is 3 0 ∷ [])

abbrev pub shared_15 : Session
shared_15 =
    goes_down (two_leaves (50 ∷ 60 ∷ 70 ∷ 80 ∷ 90 ∷ 100 ∷ 110 ∷ 120 ∷ 130 ∷ 140 ∷ 150 ∷ [])) (delete 1 10) (11 ∷ 13 ∷ 10 ∷ 3 ∷ [])
    (page_entries 1 (entry 80 2 ∷ entry top 3 ∷ []) ∷ page_keys 2 (20 ∷ 30 ∷ 40 ∷ 50 ∷ 60 ∷ 70 ∷ 80 ∷ [])
    ∷ page_keys 3 (90 ∷ 100 ∷ 110 ∷ 120 ∷ 130 ∷ 140 ∷ 150 ∷ []) ∷ [])

-- ---- the table

abbrev pub descents : List Session
descents =
    raised ∷ linked_right ∷ linked_left ∷ linked_removing ∷ split_to_link ∷ full_adding ∷ full_removing ∷ lowered_linked ∷ split_to_join ∷ linked_after ∷ linked_before ∷ linked_joined
    ∷ joined_indexes ∷ joined_14 ∷ shared_15 ∷ []
