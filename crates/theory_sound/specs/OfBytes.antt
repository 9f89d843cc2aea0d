-- EVERY CALL THAT IS NOT REFUSED LEAVES SOUND AREAS AND A SOUND DESK, of areas as callers lend them: bytes, of any content.
use Rattle.std.specs.Prelude.{ℕ, suc, ◌/◌, ◌≤◌, ◌<◌, ◌≡◌, true, false, List, [], ◌∷◌, map, length}
use Rattle.std.proofs.Math.Path.{sym}
use Rattle.std.proofs.Common.{◌∙◌, subst, arith}
use Rattle.def_base.specs.Tests.{Case, yes!, no!, case}
use Rattle.def_layout.specs.declared.Desk.{Desk}
use Rattle.def_layout.specs.Entries.{top}
use Rattle.def_layout.specs.Numbers.{be32, put32, same_bytes, zeros}
use Rattle.def_layout.specs.Sizes.{page_size, slot_size}
use Rattle.def_layout.specs.Records.{Rec, Kind, begin, insert, delete, undo_insert, undo_delete, commit, abort_mark, end, split, link, unlink, merge, redistribute, raise, lower}
use Rattle.def_layout.specs.RecordBytes.{Slot, record_bytes, record_fields, full_by, slot_by, read_slot}
use Rattle.def_model.specs.Log.{records_of}
use Rattle.def_model.specs.Batches.{Batch, tell, told, open_batches, written, undone, mark_set}
use Rattle.def_model.specs.Answers.{passed}
use Rattle.def_model.specs.Sound.{sound}
use Rattle.def_model.specs.OnBytes
use Rattle.def_model.specs.OnBytes.{Call, start, request, Lent, lengths_ok, parts, read_log, read_areas, outcome}
use Rattle.def_recovery.specs.Events.{of_32_bits}
use Rattle.law_bytes.specs.Same.{same_true}
use Rattle.theory_ledger.specs.Small.{Small, SmallLines, small_change, small_drop, small_end, small_rest}
use Rattle.theory_room.specs.Restarting.{low_stable}
use Rattle.law_areas.specs.Lengths.{Lengths, lengths_said}
use Rattle.law_areas.specs.Pages.{read_pages_length}
use Rattle.law_areas.specs.Working.{read_work_length}
use Rattle.law_areas.specs.Logs.{read_log_length}
use Rattle.theory_sound.specs.SoundKept.{areas_after}
use Rattle.theory_sound.specs.Kept.{Lendable, sound_kept}
use Rattle.theory_sound.specs.Formatted.{format_sound, load_sound}
use Rattle.theory_sound.specs.AcceptedPages.{LowRecords}
use Rattle.theory_sound.specs.Restarted.{Readable, restart_sound}

-- ---- what a slot's bytes give

pub record Narrow (r : Rec) : Type 0 where
  pub key : r.key ≤ top
  pub level : r.level < 16

-- The key as four bytes is below 2^32.
key_bytes : (n : ℕ) (r : Rec) → be32 (record_bytes n r) 20 ≤ top
unfolding record_bytes be32 put32
key_bytes n r = omega arith

fields_narrow : (b : List ℕ) → same_bytes (record_bytes (be32 b 4) (record_fields b)) b ≡ true → Narrow (record_fields b)
unfolding record_fields
fields_narrow b e =
    record { key = subst (λ z. be32 z 20 ≤ top) (same_true (record_bytes (be32 b 4) (record_fields b)) b e) (key_bytes (be32 b 4) (record_fields b)); level = omega arith }

unfoldable pub AllNarrow : List Rec → Type 0
AllNarrow [] = Unit {0}
AllNarrow (r ∷ l) = Narrow r × AllNarrow l

narrow_full : (b : List ℕ) (s : List Slot) → Case (same_bytes (record_bytes (be32 b 4) (record_fields b)) b) → AllNarrow (records_of s) → AllNarrow (records_of (full_by (same_bytes (record_bytes (be32 b 4) (record_fields b)) b) b ∷ s))
unfolding records_of full_by AllNarrow
narrow_full b s (yes! e) i = rw e (fields_narrow b e, i)
narrow_full b s (no! e) i = rw e tt

narrow_slot : (b : List ℕ) (s : List Slot) → Case (same_bytes (zeros slot_size) b) → AllNarrow (records_of s) → AllNarrow (records_of (slot_by (same_bytes (zeros slot_size) b) b ∷ s))
unfolding records_of slot_by AllNarrow
narrow_slot b s (yes! e) i = rw e tt
narrow_slot b s (no! e) i = rw e (narrow_full b s (case (same_bytes (record_bytes (be32 b 4) (record_fields b)) b)) i)

slots_narrow : (bs : List (List ℕ)) → AllNarrow (records_of (map read_slot bs))
unfolding records_of read_slot AllNarrow
slots_narrow [] = tt
slots_narrow (b ∷ bs) = narrow_slot b (map read_slot bs) (case (same_bytes (zeros slot_size) b)) (slots_narrow bs)

pub log_narrow : (b : List ℕ) → AllNarrow (records_of (read_log b))
unfolding read_log
log_narrow b = slots_narrow (parts (length b / slot_size) slot_size b)

-- ---- and of a log

log_low : (log : List Rec) → AllNarrow log → LowRecords log
unfolding AllNarrow LowRecords
log_low [] h = tt
log_low (r ∷ log) h = (h.0.level, log_low log h.1)

tell_small : (k : Kind) (n : ℕ) (r : Rec) (bs : List Batch) → r.key ≤ top → Small bs → Small (tell k n r bs)
unfolding tell written undone mark_set SmallLines
tell_small begin n r bs h s = small_end bs (record { number = n; last = n; marked = false; lines = [] }) tt s
tell_small insert n r bs h s = small_change r.batch (written n (record { number = n; adds = true; key = r.key; value = r.second })) bs (λ b l. (h, l)) s
tell_small delete n r bs h s = small_change r.batch (written n (record { number = n; adds = false; key = r.key; value = r.second })) bs (λ b l. (h, l)) s
tell_small undo_insert n r bs h s = small_change r.batch (undone n) bs (λ b l. small_rest b.lines l) s
tell_small undo_delete n r bs h s = small_change r.batch (undone n) bs (λ b l. small_rest b.lines l) s
tell_small commit n r bs h s = small_drop r.batch bs s
tell_small abort_mark n r bs h s = small_change r.batch (mark_set n) bs (λ b l. l) s
tell_small end n r bs h s = small_drop r.batch bs s
tell_small split n r bs h s = s
tell_small link n r bs h s = s
tell_small unlink n r bs h s = s
tell_small merge n r bs h s = s
tell_small redistribute n r bs h s = s
tell_small raise n r bs h s = s
tell_small lower n r bs h s = s

told_small : (n : ℕ) (log : List Rec) (bs : List Batch) → AllNarrow log → Small bs → Small (told n log bs)
unfolding told AllNarrow
told_small n [] bs h s = s
told_small n (r ∷ log) bs h s = told_small (suc n) log (tell r.kind n r bs) h.1 (tell_small r.kind n r bs h.0.key s)

open_small : (log : List Rec) → AllNarrow log → Small (open_batches log)
unfolding open_batches Small
open_small log h = told_small 1 log [] h tt

-- ---- lent areas

module _ (l : Lent) (lens : lengths_ok l ≡ true) where
  z : Lengths l (length l.work_pages / page_size) (length l.work_log / slot_size)
  z = lengths_said l lens

  pages_of_work : length (read_areas l).work.pages ≡ length l.work_pages / page_size
  unfolding read_areas
  pages_of_work = read_work_length (length l.work_pages / page_size) l.work_pages z.work_pages

  pages_of_stable : length (read_areas l).stable.pages ≡ length l.work_pages / page_size
  unfolding read_areas
  pages_of_stable = read_pages_length (length l.work_pages / page_size) l.stable_pages z.stable_pages

  logs_equal : length (read_areas l).stable.log ≡ length (read_areas l).work.log
  unfolding read_areas
  logs_equal = read_log_length (length l.work_log / slot_size) l.stable_log z.stable_log ∙ sym (read_log_length (length l.work_log / slot_size) l.work_log z.work_log)

  pub lendable : Lendable (read_areas l)
  unfolding read_areas
  lendable = let e = pages_of_work in let m = z.most_pages in record { few = omega arith; equal = logs_equal; small = open_small (records_of (read_log l.work_log)) (log_narrow l.work_log) }

  pub readable : Readable (read_areas l)
  unfolding read_areas
  readable =
      let e = pages_of_stable in
      let m = z.most_pages in
      let k = z.least_pages in
      let n = log_narrow l.stable_log in
      record { some_pages = omega arith; few = omega arith; low_pages = low_stable l; low_records = log_low (records_of (read_log l.stable_log)) n; small = open_small (records_of (read_log l.stable_log)) n }

  -- THE WHOLE: any call.
  pub calls_leave_sound : (c : Call) (d : Desk) → of_32_bits c ≡ true → passed (outcome c (read_areas l) d).answer ≡ true → sound (areas_after c (read_areas l) d) (outcome c (read_areas l) d).desk ≡ true
  unfolding of_32_bits
  calls_leave_sound (start OnBytes.format) d k p = let e = pages_of_work in let m = z.most_pages in let j = z.least_pages in format_sound (read_areas l) d (omega arith) (omega arith) logs_equal
  calls_leave_sound (start (OnBytes.load ks vs)) d k p = let e = pages_of_work in let m = z.most_pages in load_sound ks vs (read_areas l) d k (omega arith) logs_equal p
  calls_leave_sound OnBytes.restart d k p = restart_sound (read_areas l) d readable p
  calls_leave_sound (request q) d k p = sound_kept q (read_areas l) d k lendable p
