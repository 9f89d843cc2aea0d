-- 01: "Sound means ..", part by part, and the reserves.
use Rattle.std.specs.Prelude.{ℕ, suc, ◌+◌, ◌*◌, Bool, true, false, ◌&&◌, List, [], ◌∷◌, length, take, leb}
use Rattle.def_base.specs.Tests.{every}
use Rattle.def_layout.specs.declared.Desk.{Desk}
use Rattle.def_layout.specs.Desks.{same_desk}
use Rattle.def_layout.specs.Numbers.{same_bytes}
use Rattle.def_layout.specs.Pages.{Page}
use Rattle.def_layout.specs.Records.{Rec}
use Rattle.def_layout.specs.RecordBytes.{Slot, empty, full, other, record_bytes}
use Rattle.def_model.specs.Log.{last_number, slots_used, records_of, slots_ok, log_area}
use Rattle.def_model.specs.Batches.{Batch, open_batches, chain_ok, desk_of, pending_count}
use Rattle.def_model.specs.Pending.{pending_ok}
use Rattle.def_model.specs.TreeRules.{tree_ok, free_pages}
use Rattle.def_model.specs.Links.{lefts_ok}
use Rattle.def_model.specs.Areas.{Side, Areas, pages_of, blocks_ok}

-- ---- what restart's 3 and 4 find, in the working or the stable areas

-- Nothing to answer 3 for.
unfoldable pub layouts_ok : Side → Bool
layouts_ok s = blocks_ok (length s.pages) 0 s.pages

-- 01: "or a page's log number exceeds the last record's".
unfoldable pub numbers_ok : ℕ → List Page → Bool
numbers_ok last pages = every (λ x. leb x.lsn last) pages

-- Nothing to answer 4 for.
unfoldable pub log_ok : Side → Bool
log_ok s =
    slots_ok (length s.pages) 1 s.log && (chain_ok 1 (records_of s.log) [] && numbers_ok (last_number (records_of s.log)) (pages_of s.pages))

-- ---- reserves

-- What is kept free in the log for open batches: 32 slots for each pending update, 2 for each batch.
unfoldable pub reserve : ℕ → ℕ → ℕ
reserve pending batches = 32 * pending + 2 * batches

-- 01: "One update writes at most 32 records and takes at most 7 pages."
abbrev pub update_slots : ℕ
update_slots = 32

abbrev pub update_pages : ℕ
update_pages = 7

-- 01: "reserves mean u + 32p + 2b at most the slots and at least 7p free pages".
unfoldable pub reserves_ok : ℕ → List Page → List Rec → List Batch → Bool
reserves_ok slots pages log batches =
    leb (slots_used log + reserve (pending_count batches) (length batches)) slots && leb (7 * pending_count batches) (free_pages pages)

-- 01: "An update needs u + 32 + 32(p + 1) + 2b at most the slots, else 17, and 7 + 7(p + 1) free pages, else 18."
unfoldable pub update_has_slots : ℕ → List Rec → List Batch → Bool
update_has_slots slots log batches = leb (slots_used log + update_slots + reserve (suc (pending_count batches)) (length batches)) slots

unfoldable pub update_has_pages : List Page → List Batch → Bool
update_has_pages pages batches = leb (update_pages + 7 * suc (pending_count batches)) (free_pages pages)

-- 01: "Begin needs u + 1 + 32p + 2(b + 1) at most the slots."
unfoldable pub begin_has_slots : ℕ → List Rec → List Batch → Bool
begin_has_slots slots log batches = leb (slots_used log + 1 + reserve (pending_count batches) (suc (length batches))) slots

-- ---- the parts

-- The working areas as they are read.
abbrev pub work_pages : Areas → List Page
work_pages a = pages_of a.work.pages

abbrev pub work_log : Areas → List Rec
work_log a = records_of a.work.log

abbrev pub work_slots : Areas → ℕ
work_slots a = length a.work.log

abbrev pub work_open : Areas → List Batch
work_open a = open_batches (work_log a)

-- 01: "the desk is what the working log says".
unfoldable pub desk_ok : Areas → Desk → Bool
desk_ok a d = same_desk d (desk_of (work_log a) d.stored)

-- Two slots, and two logs, are the same.
unfoldable pub same_slot : Slot → Slot → Bool
same_slot empty empty = true
same_slot empty (full m q) = false
same_slot empty (other c) = false
same_slot (full n r) empty = false
same_slot (full n r) (full m q) = same_bytes (record_bytes n r) (record_bytes m q)
same_slot (full n r) (other c) = false
same_slot (other b) empty = false
same_slot (other b) (full m q) = false
same_slot (other b) (other c) = same_bytes b c

unfoldable pub same_slots : List Slot → List Slot → Bool
same_slots [] [] = true
same_slots [] (y ∷ ys) = false
same_slots (x ∷ xs) [] = false
same_slots (x ∷ xs) (y ∷ ys) = same_slot x y && same_slots xs ys

-- 01: "the stored count is the number of full stable slots, and these equal the working ones": the first ones, as many as the desk says.
unfoldable pub stored_ok : Areas → Desk → Bool
stored_ok a d = leb d.stored (last_number (work_log a)) && same_slots a.stable.log (log_area (length a.stable.log) (take d.stored (work_log a)))

-- SOUND. 01: "restart's 3 and 4 find nothing in the working areas; tree rules and pending rule hold; the desk is what the working log says; ..
-- the reserves below hold". 02, U5: "Soundness now includes that left and right links agree."
unfoldable pub sound : Areas → Desk → Bool
sound a d =
    layouts_ok a.work && (log_ok a.work && (tree_ok (work_pages a) && (pending_ok (work_pages a) (work_open a)
    && (desk_ok a d && (stored_ok a d && (reserves_ok (work_slots a) (work_pages a) (work_log a) (work_open a) && lefts_ok (work_pages a) a.work.lefts))))))
