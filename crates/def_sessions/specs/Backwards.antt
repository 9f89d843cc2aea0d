-- STEPPING BACKWARDS (02, U5): previous, who holds what, and the left links after each change of the tree.
use Rattle.std.specs.Prelude.{ℕ, ◌*◌, List, [], ◌∷◌, ◌++◌, map}
use Rattle.def_layout.specs.Entries.{top}
use Rattle.def_model.specs.OnBytes.{Call}
use Rattle.def_model.specs.CallNames.{begin, restart, previous, insert, delete, commit, abort, return_to, write_out}
use Rattle.def_sessions.specs.Play.{Session, Step, ask, forge_low_bits, page_left, page_right, page_kind_is, page_count, page_bytes_from, stored_bytes_from}
use Rattle.def_sessions.specs.Table.{answers, refused, of_size, done, power_cut}
use Rattle.def_sessions.specs.Imports.{loads, import}

-- "the mirror of next .. 16 also means none below": in a leaf, and from a leaf to the one to its left. Leaves have 10 and 5 slides.
abbrev pub stepping : Session
stepping =
    of_size 16 128
    (loads 15 ∷ ask begin ∷ ask (previous 1 0) ∷ ask (previous 1 10) ∷ ask (previous 1 11) ∷ ask (previous 1 100) ∷ ask (previous 1 101) ∷ ask (previous 1 110) ∷ ask (previous 1 111) ∷ ask (previous 1 top) ∷ ask (previous 2 50) ∷ [])
    (done ∷ answers 1 ∷ refused 16 ∷ refused 16 ∷ (0 ∷ 10 ∷ 1 ∷ []) ∷ (0 ∷ 90 ∷ 9 ∷ []) ∷ (0 ∷ 100 ∷ 10 ∷ []) ∷ (0 ∷ 100 ∷ 10 ∷ []) ∷ (0 ∷ 110 ∷ 11 ∷ []) ∷ (0 ∷ 150 ∷ 15 ∷ []) ∷ refused 12 ∷ [])
    (page_left 1 0 ∷ page_left 2 0 ∷ page_left 3 2 ∷ page_bytes_from 3 0 (65 ∷ 64 ∷ 0 ∷ 8 ∷ []) ∷ [])

-- "with the same rule on held keys": one from the found key on, below the asked one; where none is found, any below it.
abbrev pub held_below : Session
held_below =
    of_size 48 512
    (loads 15 ∷ ask begin ∷ ask begin ∷ ask (insert 1 105 7) ∷ ask (delete 1 50) ∷ ask (delete 1 10) ∷ ask (previous 2 106) ∷ ask (previous 1 106) ∷ ask (previous 2 105) ∷ ask (previous 2 51) ∷ ask (previous 2 50) ∷ ask (previous 2 11) ∷ ask (previous 2 10) ∷ ask (previous 1 11) ∷ [])
    (done ∷ answers 1 ∷ answers 2 ∷ done ∷ done ∷ done ∷ refused 14 ∷ (0 ∷ 105 ∷ 7 ∷ []) ∷ (0 ∷ 100 ∷ 10 ∷ []) ∷ refused 14 ∷ (0 ∷ 40 ∷ 4 ∷ []) ∷ refused 14 ∷ refused 16 ∷ refused 16 ∷ []) []

-- A split: the page after the new one is linked to it. "Setting it leaves the page's log number": page 3 was changed by no record.
abbrev pub links_split : Session
links_split =
    of_size 96 1024
    (loads 24 ∷ ask begin ∷ map (λ k. ask (insert 1 k 1)) (11 ∷ 12 ∷ 13 ∷ 14 ∷ 15 ∷ []) ++ ask (previous 1 110) ∷ [])
    (done ∷ answers 1 ∷ done ∷ done ∷ done ∷ done ∷ done ∷ (0 ∷ 100 ∷ 10 ∷ []) ∷ [])
    (page_right 2 95 ∷ page_left 2 0 ∷ page_left 95 2 ∷ page_left 3 95 ∷ page_left 4 3 ∷ page_bytes_from 3 8 (0 ∷ 0 ∷ 0 ∷ 0 ∷ []) ∷ [])

-- The root leaf split, and raised by the next insert: page 95, which the raise's record does not name, comes after page 94.
abbrev pub links_root : Session
links_root = of_size 96 1024 (loads 14 ∷ ask begin ∷ ask (insert 1 5 5) ∷ ask (previous 1 80) ∷ []) (done ∷ answers 1 ∷ done ∷ (0 ∷ 70 ∷ 7 ∷ []) ∷ []) (page_left 1 0 ∷ page_left 95 1 ∷ [])

abbrev pub links_raised : Session
links_raised =
    of_size 96 1024 (loads 14 ∷ ask begin ∷ ask (insert 1 5 5) ∷ ask (insert 1 6 6) ∷ ask (previous 1 80) ∷ [])
    (done ∷ answers 1 ∷ done ∷ done ∷ (0 ∷ 70 ∷ 7 ∷ []) ∷ []) (page_left 1 0 ∷ page_left 94 0 ∷ page_left 95 94 ∷ page_bytes_from 95 8 (0 ∷ 0 ∷ 0 ∷ 2 ∷ []) ∷ [])

-- A merge: the page after the freed one is linked to the one that is left. Leaves have 10, 10, 10 and 4.
abbrev pub links_merged : Session
links_merged =
    of_size 96 1024
    (loads 34 ∷ ask begin ∷ map (λ k. ask (delete 1 k)) (110 ∷ 120 ∷ 130 ∷ 140 ∷ 150 ∷ 160 ∷ 170 ∷ []) ++ ask (previous 1 310) ∷ ask (previous 1 190) ∷ [])
    (done ∷ answers 1 ∷ done ∷ done ∷ done ∷ done ∷ done ∷ done ∷ done ∷ (0 ∷ 300 ∷ 30 ∷ []) ∷ (0 ∷ 180 ∷ 18 ∷ []) ∷ [])
    (page_kind_is 4 0 ∷ page_left 4 0 ∷ page_left 3 2 ∷ page_right 3 5 ∷ page_left 5 3 ∷ [])

-- The last leaf merged away, and then the root lowered: a root leaf has no link, and neither have the freed pages.
abbrev pub links_lowered : Session
links_lowered =
    of_size 64 512 (loads 15 ∷ ask begin ∷ map (λ k. ask (delete 1 k)) (150 ∷ 140 ∷ 130 ∷ []) ++ ask (previous 1 top) ∷ [])
    (done ∷ answers 1 ∷ done ∷ done ∷ done ∷ (0 ∷ 120 ∷ 12 ∷ []) ∷ []) (page_kind_is 1 1 ∷ page_left 1 0 ∷ page_kind_is 2 0 ∷ page_left 2 0 ∷ page_kind_is 3 0 ∷ page_left 3 0 ∷ [])

-- An undo that merges. Leaves have 10, 10 and 4; batch 1 files two slides on the last, and batch 4 takes two others from it. The call given takes batch 1's slides back. The register is sound then: no 11 comes before the 12 to a batch that is not there.
abbrev pub links_taken_back : Call → Session
links_taken_back c =
    of_size 96 1024 (loads 24 ∷ ask begin ∷ ask (insert 1 215 1) ∷ ask (insert 1 225 1) ∷ ask begin ∷ ask (delete 4 210) ∷ ask (delete 4 220) ∷ ask (commit 4) ∷ ask c ∷ ask (previous 2 240) ∷ [])
    (done ∷ answers 1 ∷ done ∷ done ∷ answers 4 ∷ done ∷ done ∷ done ∷ done ∷ refused 12 ∷ []) (page_kind_is 4 0 ∷ page_left 4 0 ∷ page_right 3 0 ∷ page_left 3 2 ∷ page_count 3 12 ∷ [])

-- Loaded: leaves in a row under the root, and under an index level, whose pages have none.
abbrev pub links_loaded : Session
links_loaded = import 16 21 (page_left 1 0 ∷ page_left 2 0 ∷ page_left 3 2 ∷ page_left 4 3 ∷ [])

abbrev pub links_three_levels : Session
links_three_levels = import 19 141 (page_left 1 0 ∷ page_left 2 0 ∷ page_left 3 0 ∷ page_left 4 0 ∷ page_left 5 4 ∷ page_left 14 13 ∷ page_left 18 17 ∷ [])

-- "write-out stores it as zero": the working page has its link, the stored one has none, and is else the same.
abbrev pub links_stored : Session
links_stored =
    of_size 32 512 (loads 24 ∷ ask begin ∷ ask (insert 1 215 1) ∷ ask (write_out 4) ∷ []) (done ∷ answers 1 ∷ done ∷ done ∷ [])
    (page_bytes_from 4 0 (65 ∷ 64 ∷ 0 ∷ 12 ∷ []) ∷ stored_bytes_from 4 0 (65 ∷ 64 ∷ 0 ∷ 0 ∷ 255 ∷ 255 ∷ 255 ∷ 255 ∷ 0 ∷ 0 ∷ 0 ∷ 2 ∷ []) ∷ [])

-- "write-out stores it as zero, and restart works it out after redo": no 3, and the links are there again.
abbrev pub links_restarted : Session
links_restarted =
    of_size 32 512 (loads 24 ∷ ask begin ∷ ask (insert 1 215 1) ∷ ask (commit 1) ∷ ask (write_out 4) ∷ ask (write_out 3) ∷ power_cut ∷ ask restart ∷ ask begin ∷ ask (previous 4 210) ∷ [])
    (done ∷ answers 1 ∷ done ∷ done ∷ done ∷ done ∷ (0 ∷ 0 ∷ 0 ∷ []) ∷ answers 4 ∷ (0 ∷ 200 ∷ 20 ∷ []) ∷ []) (page_left 3 2 ∷ page_left 4 3 ∷ [])

-- "Soundness now includes that left and right links agree": a leaf's that is not the leaf to its left, none or another, and the first one's that is any.
abbrev pub links : (page left : ℕ) → Step
links p l = forge_low_bits p (4 * l)

abbrev pub links_forged : Session
links_forged =
    of_size 32 512 (loads 24 ∷ links 4 0 ∷ ask begin ∷ links 4 2 ∷ ask begin ∷ links 4 1023 ∷ ask begin ∷ links 4 3 ∷ links 2 4 ∷ ask begin ∷ links 2 0 ∷ links 3 0 ∷ ask begin ∷ links 3 2 ∷ ask begin ∷ [])
    (done ∷ refused 11 ∷ refused 11 ∷ refused 11 ∷ refused 11 ∷ refused 11 ∷ answers 1 ∷ []) []

-- "Leaves get a left link": in the root, an index page, in the map and in a free page these bits are spare. So are the two bits after a leaf's link.
abbrev pub links_spare : Session
links_spare =
    of_size 32 512
    (loads 24 ∷ links 1 2 ∷ ask begin ∷ links 1 0 ∷ links 0 2 ∷ ask begin ∷ links 0 0 ∷ links 5 2 ∷ ask begin ∷ links 5 0 ∷ forge_low_bits 4 13 ∷ ask begin ∷ forge_low_bits 4 14 ∷ ask begin ∷ links 4 3 ∷ ask begin ∷ [])
    (done ∷ refused 11 ∷ refused 11 ∷ refused 11 ∷ refused 11 ∷ refused 11 ∷ answers 1 ∷ []) []

abbrev pub backwards : List Session
backwards =
    stepping ∷ held_below ∷ links_split ∷ links_root ∷ links_raised ∷ links_merged ∷ links_lowered ∷ links_taken_back (abort 1) ∷ links_taken_back (return_to 1 1)
    ∷ links_loaded ∷ links_three_levels ∷ links_stored ∷ links_restarted ∷ links_forged ∷ links_spare ∷ []
