-- A call's own stores are its whole list: no call has more than 20,000, so that a budget of 20,000 carries them all out.
use Rattle.std.specs.Prelude.{◌≡◌, refl, ℕ, suc, ◌/◌, ◌≤◌, Bool, true, false, List, [], ◌∷◌, ◌++◌, length, replicate, ltb}
use Rattle.std.proofs.Common.{ap, sym, ◌∙◌, subst, arith, length-append, take_all}
use Rattle.std.proofs.Math.Option.{Option, none, some}
use Rattle.std.proofs.lemmas.List.{length-replicate}
use Rattle.std.proofs.Math.Seq.{take-length}
use Rattle.def_base.specs.Tests.{Case, yes!, no!, case}
use Rattle.def_layout.specs.declared.Desk.{Desk}
use Rattle.def_layout.specs.Pages.{Page, at}
use Rattle.def_layout.specs.Sizes.{page_size, slot_size}
use Rattle.def_layout.specs.Records as records
use Rattle.def_layout.specs.Records.{Rec, batch_row}
use Rattle.def_layout.specs.RecordBytes.{Slot, empty, full, other}
use Rattle.def_model.specs.declared.Refusal.{Refusal}
use Rattle.def_model.specs.Log.{records_of}
use Rattle.def_model.specs.Areas.{Areas, Store, store_page, pages_of, slot_stores, log_stores}
use Rattle.def_model.specs.Answers.{first_broken}
use Rattle.def_model.specs.Update.{Run, going, emit_by, emit}
use Rattle.def_model.specs.Calls.{run_of, stored_run, last_record, formatted_pages, page_stores, format_stores, format_areas, load_areas, commit_batch, write_out_page}
use Rattle.def_model.specs.Restart.{restarted, restart_areas}
use Rattle.def_model.specs.OnBytes.{Call, checks, start_checks, does, start_does, request_does, refused, outcome_by, Lent, lengths_ok, read_work, read_log, read_areas, outcome, call_by, call, store_all_bytes, lent_after}
use Rattle.def_model.specs.CallNames.{format, load, restart, commit, write_out}
use Rattle.def_model.specs.Loading.{columns, loaded_count, loaded_pages}
use Rattle.def_model.specs.Update as update
use Rattle.law_areas.specs.Logs.{read_log_length}
use Rattle.law_areas.specs.Working.{read_work_length}
use Rattle.law_areas.specs.Typed.{formatted_length}
use Rattle.area_lengths.specs.Lent.{Sized, lengths_numbers}
use Rattle.area_store.specs.Parts.{slot_stores_length, page_stores_length}
use Rattle.area_store.specs.Unstored.{log_stores_length}
use Rattle.theory_load.specs.Columns.{columns_length}
use Rattle.theory_load.specs.Loaded.{loaded_length}
use Rattle.theory_load.specs.Checked.{load_kept}
use Rattle.theory_room.specs.Restarting.{restarted_within}
use Rattle.call_reply.specs.declared.Reply.{Reply}
use Rattle.call_reply.specs.Replies.{Replies, RepliesWhole}

pub whole : {c : Call} {l : Lent} {d : Desk} {budget : ℕ} {r : Reply} {after : Lent} → length (call c l d).stores ≤ budget → Replies c l d budget r after → RepliesWhole c l d r after
unfolding lent_after
whole {c} {l} {d} {budget} few h =
    record {
      answer = h.answer;
      desk = h.desk;
      areas =
          h.areas
          ∙ ap (λ (ts : List Store). let s = store_all_bytes ts l in record { work_pages = (call c l d).work_pages; stable_pages = s.stable_pages; work_log = (call c l d).work_log; stable_log = s.stable_log })
          (take_all budget (call c l d).stores few ∙ sym (take-length (call c l d).stores));
    }

-- ---- how many records and stores there are

records_few : (s : List Slot) → length (records_of s) ≤ length s
unfolding records_of
records_few [] = omega arith
records_few (empty ∷ s) = omega arith
records_few (full n r ∷ s) = let i = records_few s in omega arith
records_few (other b ∷ s) = omega arith

emit_few : (r : Rec) (s : Run) (a b : Bool) → length (emit_by a b r s).log ≤ suc (length s.log)
unfolding emit_by update.logged
emit_few r s true true = let e = length-append s.log (r ∷ []) in omega arith
emit_few r s true false = omega arith
emit_few r s false b = omega arith

-- A refused call has none: as many as the call has where no check is broken.
by_checks : (c : Call) (l : Lent) (d : Desk) → (lengths_ok l ≡ true → first_broken (checks c (read_areas l) d) ≡ none → length (does c (read_areas l) d).stores ≤ 20000) → length (call c l d).stores ≤ 20000
unfolding call call_by outcome outcome_by refused
by_checks c l d f = go (case (lengths_ok l))
  where
    checked : lengths_ok l ≡ true → (o : Option Refusal) → first_broken (checks c (read_areas l) d) ≡ o → length (outcome_by o c (read_areas l) d).stores ≤ 20000
    checked lens none e = f lens e
    checked lens (some r) e = omega arith

    go : Case (lengths_ok l) → length (call c l d).stores ≤ 20000
    go (yes! e) = rw e (checked e (first_broken (checks c (read_areas l) d)) refl)
    go (no! e) = rw e (omega arith)

module _ (l : Lent) (lens : lengths_ok l ≡ true) where
  z : Sized l.work_pages l.stable_pages l.work_log l.stable_log
  z = lengths_numbers l.work_pages l.stable_pages l.work_log l.stable_log lens

  work_few : length (records_of (read_log l.work_log)) ≤ 16384
  work_few =
      let e = read_log_length (length l.work_log / slot_size) l.work_log z.4 in
      let i = records_few (read_log l.work_log) in
      omega (arith, z.6)

  stable_few : length (read_log l.stable_log) ≤ 16384
  stable_few =
      let n = length l.work_log / slot_size in
      let e = read_log_length n l.stable_log (omega (arith, z.4, z.7)) in
      omega (arith, z.6)

-- ---- the calls that store

stored_few : (n : ℕ) (log : List Rec) (more : List Store) → length log ≤ 16385 → length more ≤ 1 → length (log_stores n log ++ more) ≤ 20000
stored_few n log more h i = let e = length-append (log_stores n log) more in let k = log_stores_length n log in omega arith

pub commit_few : (b : ℕ) (l : Lent) (d : Desk) → length (call (commit b) l d).stores ≤ 20000
unfolding does request_does commit_batch stored_run emit run_of read_areas
commit_few b l d = by_checks (commit b) l d few
  where
    few : lengths_ok l ≡ true → first_broken (checks (commit b) (read_areas l) d) ≡ none → length (does (commit b) (read_areas l) d).stores ≤ 20000
    few lens e =
        let a : Areas = read_areas l in
        let s : Run = run_of a in
        let r : Rec = batch_row records.commit b (last_record b a) in
        let w : length s.log ≤ 16384 = work_few l lens in
        let t : length (emit r s).log ≤ suc (length s.log) = emit_few r s (going s) (ltb 0 s.room) in
        stored_few d.stored (emit r s).log [] (omega arith) (omega arith)

pub write_out_few : (p : ℕ) (l : Lent) (d : Desk) → length (call (write_out p) l d).stores ≤ 20000
unfolding does request_does write_out_page stored_run run_of read_areas
write_out_few p l d = by_checks (write_out p) l d few
  where
    few : lengths_ok l ≡ true → first_broken (checks (write_out p) (read_areas l) d) ≡ none → length (does (write_out p) (read_areas l) d).stores ≤ 20000
    few lens e =
        let a : Areas = read_areas l in
        let w : length (run_of a).log ≤ 16384 = work_few l lens in
        stored_few d.stored (run_of a).log (store_page p (at (pages_of a.work.pages) p) ∷ []) (omega arith) (omega arith)

pub restart_few : (l : Lent) (d : Desk) → length (call restart l d).stores ≤ 20000
unfolding does restart_areas read_areas
restart_few l d = by_checks restart l d few
  where
    few : lengths_ok l ≡ true → first_broken (checks restart (read_areas l) d) ≡ none → length (does restart (read_areas l) d).stores ≤ 20000
    few lens e =
        let a : Areas = read_areas l in
        let h : length a.stable.log ≤ 16384 = stable_few l lens in
        let k = log_stores_length (length (records_of a.stable.log)) (restarted a).log in
        let w = restarted_within a in
        omega arith

start_stores_few : (xs : List Page) (m : ℕ) → length xs ≤ 896 → m ≤ 16384 → length (format_stores xs m) ≤ 20000
unfolding format_stores
start_stores_few xs m h i =
    let e = length-append (page_stores 0 xs) (slot_stores 1 (replicate m empty)) in
    let p = page_stores_length 0 xs in
    let q = slot_stores_length 1 (replicate m empty) in
    let r = length-replicate m empty in
    omega arith

-- As many as there are pages and slots.
lent_few : (l : Lent) → lengths_ok l ≡ true → (16 ≤ length (read_work l.work_pages)) × (length (read_work l.work_pages) ≤ 896) × (length (read_log l.work_log) ≤ 16384)
lent_few l lens =
    let q = lengths_numbers l.work_pages l.stable_pages l.work_log l.stable_log lens in
    let en = read_work_length (length l.work_pages / page_size) l.work_pages q.0 in
    let em = read_log_length (length l.work_log / slot_size) l.work_log q.4 in
    (omega (arith, en, q.1), omega (arith, en, q.2), omega (arith, em, q.6))

pub format_few : (l : Lent) (d : Desk) → length (call format l d).stores ≤ 20000
unfolding does start_does format_areas read_areas
format_few l d = by_checks format l d few
  where
    few : lengths_ok l ≡ true → first_broken (checks format (read_areas l) d) ≡ none → length (does format (read_areas l) d).stores ≤ 20000
    few lens e =
        let (least, most, slots) = lent_few l lens in
        let n = length (read_work l.work_pages) in
        start_stores_few (formatted_pages n) (length (read_log l.work_log)) (omega (arith, formatted_length n (omega arith))) slots

pub load_few : (ks vs : List ℕ) (l : Lent) (d : Desk) → length (call (load ks vs) l d).stores ≤ 20000
unfolding checks start_checks does start_does load_areas read_areas
load_few ks vs l d = by_checks (load ks vs) l d few
  where
    few : lengths_ok l ≡ true → first_broken (checks (load ks vs) (read_areas l) d) ≡ none → length (does (load ks vs) (read_areas l) d).stores ≤ 20000
    few lens e =
        let (least, most, slots) = lent_few l lens in
        let n = length (read_work l.work_pages) in
        let k = load_kept ks vs (read_areas l) e in
        let len = columns_length ks vs k.same in
        let enough = subst (λ q. suc (loaded_count q) ≤ n) (sym len) k.enough in
        start_stores_few (loaded_pages n (columns ks vs)) (length (read_log l.work_log)) (omega (arith, loaded_length n (columns ks vs) enough)) slots
