-- REGISTERS IMPORTED (02, U3): loaded on either side of each edge of the rule, refused, and used.
use Rattle.std.specs.Prelude.{ℕ, suc, ◌*◌, List, [], ◌∷◌, ◌++◌, replicate}
use Rattle.def_layout.specs.Numbers.{tab}
use Rattle.def_layout.specs.Entries.{entry, top}
use Rattle.def_model.specs.CallNames.{begin, load, restart, fetch, next, insert, delete, commit}
use Rattle.def_sessions.specs.Play.{Session, Step, ask, cut, See, page_keys, page_entries, page_right, page_count, page_kind_is, page_bytes_from, kinds_from, slides}
use Rattle.def_sessions.specs.Table.{answers, refused, of_size, done, power_cut}

-- n records: keys 10, 20 and so on, with values 1, 2 and so on.
abbrev pub loads : ℕ → Step
loads n = ask (load (tab n (λ i. 10 * suc i)) (tab n suc))

abbrev pub import : (pages records : ℕ) → List See → Session
import pages n sees = of_size pages 67 (loads n ∷ []) (done ∷ []) sees

-- The first words of a page: its kind, level, count and right link in the bytes given, its high key, log number 0 and its own number.
abbrev pub front : ℕ → List ℕ → List ℕ → List ℕ → See
front p shape high own = page_bytes_from p 0 (shape ++ high ++ replicate 4 0 ++ own)

abbrev pub top_bytes : List ℕ
top_bytes = 255 ∷ 255 ∷ 255 ∷ 255 ∷ []

-- "Up to 14 records make a root leaf": the map has bits 0 and 1.
abbrev pub one_leaf : Session
one_leaf =
    import 16 14
    (front 1 (67 ∷ 128 ∷ 0 ∷ 0 ∷ []) top_bytes (0 ∷ 64 ∷ 0 ∷ 0 ∷ []) ∷ page_keys 1 (10 ∷ 20 ∷ 30 ∷ 40 ∷ 50 ∷ 60 ∷ 70 ∷ 80 ∷ 90 ∷ 100 ∷ 110 ∷ 120 ∷ 130 ∷ 140 ∷ []) ∷ page_bytes_from 0 16 (192 ∷ replicate 31 0) ∷ page_kind_is 2 0 ∷ [])

-- "Above that, leaves take 10 each .. A page's high key is that of the last record in or below it, top at a level's end; page log numbers are 0."
abbrev pub two_leaves : Session
two_leaves =
    import 16 15
    (page_entries 1 (entry 100 2 ∷ entry top 3 ∷ []) ∷ front 2 (66 ∷ 128 ∷ 48 ∷ 0 ∷ []) (0 ∷ 0 ∷ 0 ∷ 100 ∷ []) (0 ∷ 128 ∷ 0 ∷ 0 ∷ []) ∷ page_entries 3 (entry 110 11 ∷ entry 120 12 ∷ entry 130 13 ∷ entry 140 14 ∷ entry 150 15 ∷ [])
    ∷ front 3 (65 ∷ 64 ∷ 0 ∷ 8 ∷ []) top_bytes (0 ∷ 192 ∷ 0 ∷ 0 ∷ []) ∷ page_bytes_from 0 16 (240 ∷ replicate 31 0) ∷ kinds_from 1 [] ∷ [])

-- "if the last would hold fewer than 4 it shares evenly with the one before, the left taking the larger half".
abbrev pub three_leaves : (records second third : ℕ) → Session
three_leaves n b c = import 16 n (page_count 2 10 ∷ page_count 3 b ∷ page_count 4 c ∷ page_kind_is 5 0 ∷ [])

-- "until at most 14 links remain for the root".
abbrev pub full_root : Session
full_root = import 16 140 (page_count 1 14 ∷ page_count 2 10 ∷ page_count 15 10 ∷ page_right 15 0 ∷ [])

-- "Index levels are filled by the same rule .. The root is page 1, and the other pages are numbered from 2, from the level below the root downwards, left to
-- right".
abbrev pub three_levels : Session
three_levels =
    import 19 141
    (page_entries 1 (entry 1000 2 ∷ entry top 3 ∷ []) ∷ page_entries 3 (entry 1100 14 ∷ entry 1200 15 ∷ entry 1300 16 ∷ entry 1360 17 ∷ entry top 18 ∷ []) ∷ page_count 2 10 ∷ page_right 2 3 ∷ page_right 13 14
    ∷ page_count 17 6 ∷ page_count 18 5 ∷ page_keys 4 (10 ∷ 20 ∷ 30 ∷ 40 ∷ 50 ∷ 60 ∷ 70 ∷ 80 ∷ 90 ∷ 100 ∷ []) ∷ [])

-- An index level whose last page shares: 21 leaves make index pages of 10, 6 and 5 links.
abbrev pub index_shares : Session
index_shares =
    import 26 201
    (page_count 1 3 ∷ page_count 2 10 ∷ page_count 3 6 ∷ page_count 4 5 ∷ page_right 4 0 ∷ page_count 24 6 ∷ page_count 25 5 ∷ page_entries 1 (entry 1000 2 ∷ entry 1600 3 ∷ entry top 4 ∷ []) ∷ [])

-- "18, too few pages".
abbrev pub too_few : Session
too_few = of_size 18 67 (loads 141 ∷ []) (refused 18 ∷ []) (slides [] ∷ [])

-- No records: "what format gives".
abbrev pub no_records : Session
no_records = import 16 0 (front 1 (64 ∷ 0 ∷ 0 ∷ 0 ∷ []) top_bytes (0 ∷ 64 ∷ 0 ∷ 0 ∷ []) ∷ page_kind_is 2 0 ∷ [])

-- "8 .. checked after 1; 9, keys do not rise strictly, checked after 7; 18 .. last". "A refused loading gives an empty desk": the case that was open is no longer
-- on it, until restart.
abbrev pub load_refusals : Session
load_refusals =
    of_size 16 128
    (ask begin ∷ ask (insert 1 5 6) ∷ ask (commit 1) ∷ ask (load (0 ∷ 0 ∷ []) (1 ∷ [])) ∷ ask (load (5 ∷ []) (1 ∷ 2 ∷ [])) ∷ ask (load (5 ∷ 4 ∷ 0 ∷ []) (1 ∷ 2 ∷ 3 ∷ []))
    ∷ ask (load (4 ∷ 4 ∷ []) (1 ∷ 2 ∷ [])) ∷ ask (load (replicate 151 1) (replicate 151 1)) ∷ ask begin ∷ ask restart ∷ [])
    (answers 1 ∷ done ∷ done ∷ refused 8 ∷ refused 8 ∷ refused 7 ∷ refused 9 ∷ refused 9 ∷ refused 11 ∷ (0 ∷ 0 ∷ 1 ∷ []) ∷ []) (slides (entry 5 6 ∷ []) ∷ [])

-- A loaded register, used: the log starts anew, and restart redoes onto what was loaded.
abbrev pub used : Session
used =
    of_size 32 256
    (ask begin ∷ ask (insert 1 5 6) ∷ loads 15 ∷ ask begin ∷ ask (fetch 1 5) ∷ ask (fetch 1 150) ∷ ask (next 1 100) ∷ ask (insert 1 105 7) ∷ ask (commit 1) ∷ ask begin ∷ ask (delete 4 10) ∷ power_cut ∷ ask restart ∷ ask begin ∷ ask (fetch 4 10) ∷ ask (fetch 4 105) ∷ [])
    (answers 1 ∷ done ∷ done ∷ answers 1 ∷ refused 16 ∷ answers 15 ∷ (0 ∷ 110 ∷ 11 ∷ []) ∷ done ∷ done ∷ answers 4 ∷ done ∷ (0 ∷ 0 ∷ 1 ∷ []) ∷ answers 4 ∷ answers 1 ∷ answers 7 ∷ []) []

-- A loading that is cut: "writes it as format does", pages and then slots. Once all pages are stored the old log is redone on them, and restart answers 0 with
-- the slides of both; one slot later it answers 4.
abbrev pub cut_loading : Session
cut_loading =
    of_size 16 128
    (ask begin ∷ ask (insert 1 5 6) ∷ ask (commit 1) ∷ cut 16 (load (10 ∷ 20 ∷ []) (1 ∷ 2 ∷ [])) ∷ ask restart ∷ cut 17 (load (10 ∷ []) (1 ∷ [])) ∷ ask restart ∷ loads 3 ∷ [])
    (answers 1 ∷ done ∷ done ∷ (0 ∷ 0 ∷ 1 ∷ []) ∷ refused 4 ∷ done ∷ []) (slides (entry 10 1 ∷ entry 20 2 ∷ entry 30 3 ∷ []) ∷ [])

abbrev pub imports : List Session
imports = one_leaf ∷ two_leaves ∷ three_leaves 20 10 0 ∷ three_leaves 21 6 5 ∷ three_leaves 22 6 6 ∷ three_leaves 23 7 6 ∷ three_leaves 24 10 4 ∷ full_root ∷ three_levels ∷ index_shares ∷ too_few ∷ no_records ∷ load_refusals ∷ used ∷ cut_loading ∷ []
