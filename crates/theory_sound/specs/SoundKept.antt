-- SOUND IS KEPT: every call that is not refused leaves sound areas and a sound desk; and abort and return always find room.
use Prim.Native.Nat.{ℕ, suc, ◌+◌, ◌-◌, ◌*◌, ◌≤◌, ◌<◌}
use Rattle.std.specs.Prelude.{◌≡◌, true}
use Rattle.std.proofs.Math.Path.{refl, ap, subst}
use Rattle.std.proofs.Common.{sym, ◌∙◌}
use Rattle.std.proofs.Math.Bool.{false}
use Rattle.std.proofs.Math.Option.{none, some}
use mathlib.Core.List.{List, [], ◌∷◌, ◌++◌, append-nil}
use native.Mathlib.Omega.{arith}
use Rattle.std.proofs.Math.ListN.{length, length-append}
use Rattle.def_base.specs.Tests.{true_le}
use Rattle.def_layout.specs.declared.Entry.{Entry}
use Rattle.def_layout.specs.declared.Desk.{Desk}
use Rattle.def_layout.specs.Entries.{top, look, insert_sorted, remove_key}
use Rattle.def_layout.specs.Pages.{map_bits}
use Rattle.def_layout.specs.Records
use Rattle.def_layout.specs.Records.{Rec, batch_row, data_row}
use Rattle.def_model.specs.Areas.{Side, Areas, store_all, log_stores}
use Rattle.def_model.specs.Batches.{Line, Batch, find_batch, change_batch, drop_batch, written, tell, open_batches, unmarked, desk_of, pending_count}
use Rattle.def_model.specs.Pending.{held}
use Rattle.def_model.specs.Lookup.{fetched}
use Rattle.def_model.specs.TreeRules.{leaf_records, used_pages}
use Rattle.def_model.specs.Update.{Run, emit, put_record, remove_record}
use Rattle.def_model.specs.Undo.{undo_above, return_run, abort_run}
use Rattle.def_model.specs.Sound.{sound, reserve, work_pages, work_log, work_slots, work_open, update_has_slots, update_has_pages, begin_has_slots}
use Rattle.def_model.specs.Calls.{run_of, run_side, aborted, abort_of, is_none, returned, return_of}
use Rattle.def_model.specs.OnBytes.{Call, outcome}
use Rattle.theory_tree.specs.Step.Steps.{by_insert, by_delete}
use Rattle.theory_update.specs.Run.Way.{written_by}
use Rattle.theory_update.specs.Laws.{Kept, put_law, remove_law}
use Rattle.theory_update.specs.Find.Fetching.{fetched_is}
use Rattle.theory_ledger.specs.Small.{Small}
use Rattle.theory_ledger.specs.Marks
use Rattle.theory_ledger.specs.Marks.{above, above_kept, left_with}
use Rattle.theory_ledger.specs.Batching.{find_number}
use Rattle.theory_ledger.specs.Runs.{carry_lines}
use Rattle.theory_history.specs.Core.{Core, core_ready, core_more, told_due}
use Rattle.theory_history.specs.Notes.{begin_next, commit_next}
use Rattle.theory_history.specs.Trail.{trail_core, trail_longer}
use Rattle.theory_history.specs.Updating.{Updated, put_updated, remove_updated}
use Rattle.theory_history.specs.BatchData.{insert_data, delete_data}
use Rattle.theory_history.specs.Undoing.{Returned, return_trail, abort_trail}
use Rattle.theory_desk.specs.Counting.{change_pending, change_count, drop_pending, more_pending}
use Rattle.theory_room.specs.Reasons.{Within}
use Rattle.theory_calls.specs.Checks.{sound_parts, some_of, live_batch}
use Rattle.theory_reserve.specs.LineRoom.{emit_room}
use Rattle.theory_calls.specs.Within.{return_within, abort_within}
use Rattle.theory_sound.specs.FromSound.{sound_core}
use Rattle.theory_reserve.specs.LineRoom.{Spent, begin_pages, commit_pages}
use Rattle.theory_reserve.specs.AbortRoom.{above_spent, abort_spent}
use Rattle.theory_sound.specs.SoundAfter.{Reserved, reserved, kept_sound, stored_sound}

-- The areas after a call and all its stores.
abbrev pub areas_after : Call → Areas → Desk → Areas
areas_after c a d = record { work = (outcome c a d).work; stable = store_all (outcome c a d).stores a.stable }

module _ (a : Areas) (d : Desk) (few : length a.work.pages ≤ map_bits) (equal : length a.stable.log ≡ length a.work.log) (small : Small (work_open a)) (s : sound a d ≡ true) where
  n : ℕ
  n = length a.work.pages

  -- The slides of the committed batches.
  pub sl : List Entry
  sl = (sound_core a d s few small).0

  core : Core n (run_of a) sl
  unfolding n sl
  core = (sound_core a d s few small).1

  most : n ≤ map_bits
  unfolding n
  most = few

  -- What the run starts from.
  log_is : (run_of a).log ≡ work_log a
  unfolding run_of
  log_is = refl

  pages_are : (run_of a).pages ≡ work_pages a
  unfolding run_of
  pages_are = refl

  room_is : (run_of a).room ≡ work_slots a - length (work_log a)
  unfolding run_of
  room_is = refl

  due_is : (run_of a).due ≡ suc (length (work_log a))
  unfolding run_of
  due_is = refl

  opens : open_batches (run_of a).log ≡ work_open a
  opens = ap open_batches log_is

  kept : Reserved (work_slots a) (work_pages a) (work_log a) (work_open a)
  kept = reserved (work_slots a) (work_pages a) (work_log a) (work_open a) (sound_parts a d s).reserves

  within : Within (work_slots a) (run_of a)
  unfolding run_of
  within = let x = kept.slots_free in omega arith

  -- ---- what an update's run leaves, either kind

  updated_sound : (t : Run) (r : Rec) (b : ℕ) (y : Batch) (line : Line) → (u : Updated (run_of a) sl t r) → tell r.kind u.number r (open_batches (run_of a).log) ≡ change_batch b (written u.number line) (open_batches (run_of a).log)
      → find_batch b (work_open a) ≡ some y → t.due ≤ (run_of a).due + 32 → length t.pages ≡ length (run_of a).pages → used_pages t.pages ≤ used_pages (run_of a).pages + 7
      → update_has_slots (work_slots a) (work_log a) (work_open a) ≡ true → update_has_pages (work_pages a) (work_open a) ≡ true
      → sound (record { work = run_side (work_slots a) t; stable = a.stable }) (desk_of t.log d.stored) ≡ true
  unfolding update_has_slots update_has_pages reserve written n
  updated_sound t r b y line u e f du sz us p q =
      let c = trail_core most u.trail core in
      let g = trail_longer u.trail in
      let o : open_batches t.log ≡ change_batch b (written u.number line) (work_open a) = u.opens ∙ e ∙ ap (change_batch b (written u.number line)) opens in
      let x = true_le (length (work_log a) + 32 + (32 * suc (pending_count (work_open a)) + 2 * length (work_open a))) (work_slots a) p in
      let v = true_le (7 + 7 * suc (pending_count (work_open a))) (length (work_pages a) - used_pages (work_pages a)) q in
      let k = change_pending b (written u.number line) (work_open a) y f in
      let l = change_count b (written u.number line) (work_open a) in
      let pc : pending_count (open_batches t.log) ≡ pending_count (change_batch b (written u.number line) (work_open a)) = ap pending_count o in
      let bc : length (open_batches t.log) ≡ length (change_batch b (written u.number line) (work_open a)) = ap length o in
      let dd = c.due in
      let di = due_is in
      let ls = room_is in
      let pa : used_pages (run_of a).pages ≡ used_pages (work_pages a) = ap used_pages pages_are in
      let pl : length (run_of a).pages ≡ length (work_pages a) = ap length pages_are in
      kept_sound a d s few t sl c g.recs (g.log ∙ ap (◌++ g.recs) log_is) (record { slots_free = omega arith; pages_free = omega arith })

  -- ---- insert and delete

  absent_there : (k : ℕ) → k ≤ top → fetched k (work_pages a) ≡ none → look k (leaf_records (run_of a).pages) ≡ none
  absent_there k kt ab = sym (fetched_is k (run_of a).pages core.tree kt) ∙ ap (fetched k) pages_are ∙ ab

  found_there : (k v : ℕ) → k ≤ top → fetched k (work_pages a) ≡ some v → look k (leaf_records (run_of a).pages) ≡ some v
  found_there k v kt th = sym (fetched_is k (run_of a).pages core.tree kt) ∙ ap (fetched k) pages_are ∙ th

  -- An update that finds its slots and pages runs to its end.
  pub insert_runs : (b previous k v : ℕ) → k ≤ top → fetched k (work_pages a) ≡ none
      → update_has_slots (work_slots a) (work_log a) (work_open a) ≡ true → update_has_pages (work_pages a) (work_open a) ≡ true
      → Kept (run_of a) (put_record Records.insert b previous k v (run_of a)) (insert_sorted k v (leaf_records (run_of a).pages))
  unfolding update_has_slots update_has_pages reserve
  insert_runs b previous k v kt ab p q =
      let x = true_le (length (work_log a) + 32 + (32 * suc (pending_count (work_open a)) + 2 * length (work_open a))) (work_slots a) p in
      let w = true_le (7 + 7 * suc (pending_count (work_open a))) (length (work_pages a) - used_pages (work_pages a)) q in
      let di = due_is in
      let ls = room_is in
      let pa : used_pages (run_of a).pages ≡ used_pages (work_pages a) = ap used_pages pages_are in
      let pl : length (run_of a).pages ≡ length (work_pages a) = ap length pages_are in
      put_law Records.insert b previous k v (run_of a) (core_ready n most (run_of a) sl core) kt by_insert (absent_there k kt ab) (omega arith) (omega arith)

  pub delete_runs : (b previous k v : ℕ) → k ≤ top → fetched k (work_pages a) ≡ some v
      → update_has_slots (work_slots a) (work_log a) (work_open a) ≡ true → update_has_pages (work_pages a) (work_open a) ≡ true
      → Kept (run_of a) (remove_record Records.delete b previous k v (run_of a)) (remove_key k (leaf_records (run_of a).pages))
  unfolding update_has_slots update_has_pages reserve
  delete_runs b previous k v kt th p q =
      let x = true_le (length (work_log a) + 32 + (32 * suc (pending_count (work_open a)) + 2 * length (work_open a))) (work_slots a) p in
      let w = true_le (7 + 7 * suc (pending_count (work_open a))) (length (work_pages a) - used_pages (work_pages a)) q in
      let di = due_is in
      let ls = room_is in
      let pa : used_pages (run_of a).pages ≡ used_pages (work_pages a) = ap used_pages pages_are in
      let pl : length (run_of a).pages ≡ length (work_pages a) = ap length pages_are in
      remove_law Records.delete b previous k v v (run_of a) (core_ready n most (run_of a) sl core) kt by_delete (found_there k v kt th) (omega arith) (omega arith)

  pub insert_sound : (b k v : ℕ) (y : Batch) → k ≤ top → v ≤ top → find_batch b (work_open a) ≡ some y → y.marked ≡ false → held b k (work_open a) ≡ false → fetched k (work_pages a) ≡ none
      → update_has_slots (work_slots a) (work_log a) (work_open a) ≡ true → update_has_pages (work_pages a) (work_open a) ≡ true
      → sound (record { work = run_side (work_slots a) (put_record Records.insert b y.last k v (run_of a)); stable = a.stable }) (desk_of (put_record Records.insert b y.last k v (run_of a)).log d.stored) ≡ true
  unfolding tell update_has_slots update_has_pages reserve
  insert_sound b k v y kt vt f u hd ab p q =
      let f' : find_batch b (open_batches (run_of a).log) ≡ some y = subst (λ z. find_batch b z ≡ some y) (sym opens) f in
      let hd' : held b k (open_batches (run_of a).log) ≡ false = subst (λ z. held b k z ≡ false) (sym opens) hd in
      let ab' : look k (leaf_records (run_of a).pages) ≡ none = absent_there k kt ab in
      let kp = insert_runs b y.last k v kt ab p q in
      let (page, up) = put_updated n most Records.insert b y.last k v (run_of a) sl core by_insert kt ab' (λ g. insert_data n (run_of a) sl core b y f' k v g u kt vt hd' ab') kp.ready.goes in
      let du = kp.due in
      let fr = kp.few_records in
      updated_sound (put_record Records.insert b y.last k v (run_of a)) (data_row Records.insert b y.last page k v) b y (record { number = up.number; adds = true; key = k; value = v }) up refl f (omega arith) kp.size kp.few_pages p q

  pub delete_sound : (b k v : ℕ) (y : Batch) → k ≤ top → find_batch b (work_open a) ≡ some y → y.marked ≡ false → held b k (work_open a) ≡ false → fetched k (work_pages a) ≡ some v
      → update_has_slots (work_slots a) (work_log a) (work_open a) ≡ true → update_has_pages (work_pages a) (work_open a) ≡ true
      → sound (record { work = run_side (work_slots a) (remove_record Records.delete b y.last k v (run_of a)); stable = a.stable }) (desk_of (remove_record Records.delete b y.last k v (run_of a)).log d.stored) ≡ true
  unfolding tell update_has_slots update_has_pages reserve
  delete_sound b k v y kt f u hd th p q =
      let f' : find_batch b (open_batches (run_of a).log) ≡ some y = subst (λ z. find_batch b z ≡ some y) (sym opens) f in
      let hd' : held b k (open_batches (run_of a).log) ≡ false = subst (λ z. held b k z ≡ false) (sym opens) hd in
      let th' : look k (leaf_records (run_of a).pages) ≡ some v = found_there k v kt th in
      let kp = delete_runs b y.last k v kt th p q in
      let (page, up) = remove_updated n most Records.delete b y.last k v v (run_of a) sl core by_delete kt th' (λ g. delete_data n (run_of a) sl core b y f' k v g u kt hd' th') kp.ready.goes in
      let du = kp.due in
      let fr = kp.few_records in
      updated_sound (remove_record Records.delete b y.last k v (run_of a)) (data_row Records.delete b y.last page k v) b y (record { number = up.number; adds = false; key = k; value = v }) up refl f (omega arith) kp.size kp.few_pages p q

  -- ---- begin and commit

  pub begin_sound : length (work_open a) < 8 → begin_has_slots (work_slots a) (work_log a) (work_open a) ≡ true
      → sound (record { work = run_side (work_slots a) (emit (batch_row Records.begin (run_of a).due 0) (run_of a)); stable = a.stable }) (desk_of (emit (batch_row Records.begin (run_of a).due 0) (run_of a)).log d.stored) ≡ true
  unfolding begin_has_slots reserve tell n
  begin_sound eight p =
      let r = batch_row Records.begin (run_of a).due 0 in
      let x = true_le (length (work_log a) + 1 + (32 * pending_count (work_open a) + 2 * suc (length (work_open a)))) (work_slots a) p in
      let di = due_is in
      let ls = room_is in
      let w = emit_room r (run_of a) core.goes (omega arith) in
      let c = core_more n most (run_of a) sl sl r core (begin_next n (run_of a) sl core (subst (λ z. length z < 8) (sym opens) eight)) in
      let b : Batch = record { number = (run_of a).due; last = (run_of a).due; marked = false; lines = [] } in
      let o : open_batches (written_by r (run_of a)).log ≡ work_open a ++ b ∷ [] = told_due n (run_of a) sl r core ∙ ap (◌++ b ∷ []) opens in
      let pc : pending_count (open_batches (written_by r (run_of a)).log) ≡ pending_count (work_open a) = ap pending_count o ∙ more_pending (work_open a) b refl in
      let bc : length (open_batches (written_by r (run_of a)).log) ≡ length (work_open a ++ b ∷ []) = ap length o in
      let bl = length-append (work_open a) (b ∷ []) in
      let pg : (written_by r (run_of a)).pages ≡ work_pages a = begin_pages (run_of a).due (run_of a).due 0 (run_of a).pages ∙ pages_are in
      let up : used_pages (written_by r (run_of a)).pages ≡ used_pages (work_pages a) = ap used_pages pg in
      let lp : length (written_by r (run_of a)).pages ≡ length (work_pages a) = ap length pg in
      let lg : (written_by r (run_of a)).log ≡ work_log a ++ r ∷ [] = ap (◌++ r ∷ []) log_is in
      let ll : length (written_by r (run_of a)).log ≡ length (work_log a ++ r ∷ []) = ap length lg in
      let la = length-append (work_log a) (r ∷ []) in
      let kf = kept.pages_free in
      subst (λ t. sound (record { work = run_side (work_slots a) t; stable = a.stable }) (desk_of t.log d.stored) ≡ true) (sym w)
      (kept_sound a d s few (written_by r (run_of a)) sl c (r ∷ []) lg (record { slots_free = omega arith; pages_free = omega arith }))

  pub commit_sound : (b : ℕ) (y : Batch) → find_batch b (work_open a) ≡ some y → y.marked ≡ false → (stable : Side)
      → stable.log ≡ (store_all (log_stores d.stored (emit (batch_row Records.commit b y.last) (run_of a)).log) a.stable).log
      → sound (record { work = run_side (work_slots a) (emit (batch_row Records.commit b y.last) (run_of a)); stable = stable }) (desk_of (emit (batch_row Records.commit b y.last) (run_of a)).log (length (emit (batch_row Records.commit b y.last) (run_of a)).log)) ≡ true
  unfolding tell n
  commit_sound b y f u stable st =
      let r = batch_row Records.commit b y.last in
      let f' : find_batch b (open_batches (run_of a).log) ≡ some y = subst (λ z. find_batch b z ≡ some y) (sym opens) f in
      let x = kept.slots_free in
      let kf = kept.pages_free in
      let (dp, dl) = drop_pending b (work_open a) y f in
      let di = due_is in
      let ls = room_is in
      let w = emit_room r (run_of a) core.goes (omega arith) in
      let c = core_more n most (run_of a) sl (carry_lines y.lines sl) r core (commit_next n (run_of a) sl core b y f' u) in
      let o : open_batches (written_by r (run_of a)).log ≡ drop_batch b (work_open a) = told_due n (run_of a) sl r core ∙ ap (drop_batch b) opens in
      let pc : pending_count (open_batches (written_by r (run_of a)).log) ≡ pending_count (drop_batch b (work_open a)) = ap pending_count o in
      let bc : length (open_batches (written_by r (run_of a)).log) ≡ length (drop_batch b (work_open a)) = ap length o in
      let pg : (written_by r (run_of a)).pages ≡ work_pages a = commit_pages (run_of a).due b y.last (run_of a).pages ∙ pages_are in
      let up : used_pages (written_by r (run_of a)).pages ≡ used_pages (work_pages a) = ap used_pages pg in
      let lp : length (written_by r (run_of a)).pages ≡ length (work_pages a) = ap length pg in
      let lg : (written_by r (run_of a)).log ≡ work_log a ++ r ∷ [] = ap (◌++ r ∷ []) log_is in
      let ll : length (written_by r (run_of a)).log ≡ length (work_log a ++ r ∷ []) = ap length lg in
      let la = length-append (work_log a) (r ∷ []) in
      subst (λ t. sound (record { work = run_side (work_slots a) t; stable = stable }) (desk_of t.log (length t.log)) ≡ true) (sym w)
      (stored_sound a d s few (written_by r (run_of a)) (carry_lines y.lines sl) c (r ∷ []) lg (record { slots_free = omega arith; pages_free = omega arith }) stable (omega arith)
      (st ∙ ap (λ t. (store_all (log_stores d.stored t.log) a.stable).log) w))

  -- ---- abort

  abort_goes : (b : ℕ) (y : Batch) → find_batch b (work_open a) ≡ some y → y.marked ≡ false → Spent (2 + 32 * length y.lines) (7 * length y.lines) (run_of a) (abort_run y (run_of a))
  abort_goes b y f u =
      let f' : find_batch b (open_batches (run_of a).log) ≡ some y = subst (λ z. find_batch b z ≡ some y) (sym opens) f in
      let (dp, dl) = drop_pending b (work_open a) y f in
      let x = kept.slots_free in
      let kf = kept.pages_free in
      let di = due_is in
      let ls = room_is in
      let pa : used_pages (run_of a).pages ≡ used_pages (work_pages a) = ap used_pages pages_are in
      let pl : length (run_of a).pages ≡ length (work_pages a) = ap length pages_are in
      abort_spent n most (run_of a) sl b y core f' (sym (find_number b (open_batches (run_of a).log) y f')) u (omega arith) (omega arith)

  pub abort_sound : (b : ℕ) (y : Batch) → find_batch b (work_open a) ≡ some y → y.marked ≡ false → sound (record { work = run_side (work_slots a) (abort_run y (run_of a)); stable = a.stable }) (desk_of (abort_run y (run_of a)).log d.stored) ≡ true
  unfolding n
  abort_sound b y f u =
      let f' : find_batch b (open_batches (run_of a).log) ≡ some y = subst (λ z. find_batch b z ≡ some y) (sym opens) f in
      let t = abort_run y (run_of a) in
      let sp = abort_goes b y f u in
      let (tr, op) = abort_trail n most (run_of a) sl b y core f' (sym (find_number b (open_batches (run_of a).log) y f')) u sp.goes in
      let c = trail_core most tr core in
      let g = trail_longer tr in
      let o : open_batches t.log ≡ drop_batch b (work_open a) = op ∙ ap (drop_batch b) opens in
      let (dp, dl) = drop_pending b (work_open a) y f in
      let pc : pending_count (open_batches t.log) ≡ pending_count (drop_batch b (work_open a)) = ap pending_count o in
      let bc : length (open_batches t.log) ≡ length (drop_batch b (work_open a)) = ap length o in
      let x = kept.slots_free in
      let kf = kept.pages_free in
      let di = due_is in
      let ls = room_is in
      let pa : used_pages (run_of a).pages ≡ used_pages (work_pages a) = ap used_pages pages_are in
      let pl : length (run_of a).pages ≡ length (work_pages a) = ap length pages_are in
      let sr = sp.room in
      let sw = abort_within (work_slots a) y (run_of a) within in
      let sz = sp.size in
      let su = sp.used in
      kept_sound a d s few t sl c g.recs (g.log ∙ ap (◌++ g.recs) log_is) (record { slots_free = omega arith; pages_free = omega arith })

  -- ---- return

  return_goes : (b mark : ℕ) (y : Batch) → find_batch b (work_open a) ≡ some y → Spent (32 * above mark y.lines) (7 * above mark y.lines) (run_of a) (return_run mark y (run_of a))
  unfolding return_run
  return_goes b mark y f =
      let f' : find_batch b (open_batches (run_of a).log) ≡ some y = subst (λ z. find_batch b z ≡ some y) (sym opens) f in
      let (dp, dl) = drop_pending b (work_open a) y f in
      let ak = above_kept mark y.lines in
      let x = kept.slots_free in
      let kf = kept.pages_free in
      let ls = room_is in
      let pa : used_pages (run_of a).pages ≡ used_pages (work_pages a) = ap used_pages pages_are in
      let pl : length (run_of a).pages ≡ length (work_pages a) = ap length pages_are in
      subst (λ k. Spent (32 * above mark y.lines) (7 * above mark y.lines) (run_of a) (undo_above mark k y.lines (run_of a))) (find_number b (open_batches (run_of a).log) y f')
      (above_spent n most mark y.lines (run_of a) sl b y core f' refl (omega arith) (omega arith))

  -- What a return leaves.
  pub return_returned : (b mark : ℕ) (y : Batch) → find_batch b (work_open a) ≡ some y → Returned mark (run_of a) sl (return_run mark y (run_of a)) b y
  return_returned b mark y f =
      let f' : find_batch b (open_batches (run_of a).log) ≡ some y = subst (λ z. find_batch b z ≡ some y) (sym opens) f in
      return_trail n most mark (run_of a) sl b y core f' (sym (find_number b (open_batches (run_of a).log) y f')) (return_goes b mark y f).goes

  pub return_sound : (b mark : ℕ) (y : Batch) → find_batch b (work_open a) ≡ some y → sound (record { work = run_side (work_slots a) (return_run mark y (run_of a)); stable = a.stable }) (desk_of (return_run mark y (run_of a)).log d.stored) ≡ true
  unfolding n left_with
  return_sound b mark y f =
      let t = return_run mark y (run_of a) in
      let sp = return_goes b mark y f in
      let rt = return_returned b mark y f in
      let c = trail_core most rt.trail core in
      let g = trail_longer rt.trail in
      let new = left_with rt.last (Marks.kept mark y.lines) in
      let o : open_batches t.log ≡ change_batch b new (work_open a) = rt.opens ∙ ap (change_batch b new) opens in
      let k = change_pending b new (work_open a) y f in
      let l = change_count b new (work_open a) in
      let ak = above_kept mark y.lines in
      let pc : pending_count (open_batches t.log) ≡ pending_count (change_batch b new (work_open a)) = ap pending_count o in
      let bc : length (open_batches t.log) ≡ length (change_batch b new (work_open a)) = ap length o in
      let x = kept.slots_free in
      let kf = kept.pages_free in
      let ls = room_is in
      let pa : used_pages (run_of a).pages ≡ used_pages (work_pages a) = ap used_pages pages_are in
      let pl : length (run_of a).pages ≡ length (work_pages a) = ap length pages_are in
      let sr = sp.room in
      let sw = return_within (work_slots a) mark y (run_of a) within in
      let sz = sp.size in
      let su = sp.used in
      kept_sound a d s few t sl c g.recs (g.log ∙ ap (◌++ g.recs) log_is) (record { slots_free = omega arith; pages_free = omega arith })

  -- ---- write-out

  pub write_out_sound : (stable : Side) → stable.log ≡ (store_all (log_stores d.stored (run_of a).log) a.stable).log → sound (record { work = run_side (work_slots a) (run_of a); stable = stable }) (desk_of (run_of a).log (length (run_of a).log)) ≡ true
  unfolding run_of n
  write_out_sound stable st = stored_sound a d s few (run_of a) sl core [] (sym (append-nil (work_log a))) kept stable (let x = kept.slots_free in omega arith) st

  -- ABORT AND RETURN NEVER STOP: 19 is never answered.
  pub abort_finds_room : (b : ℕ) → unmarked (find_batch b (work_open a)) ≡ true → (abort_of b a).stop ≡ 0
  unfolding aborted
  abort_finds_room b un = let (y, f, u) = live_batch (find_batch b (work_open a)) un in ap (λ o. (aborted o (run_of a)).stop) f ∙ (abort_goes b y f u).goes

  pub return_finds_room : (b mark : ℕ) → is_none (find_batch b (work_open a)) ≡ false → (return_of b mark a).stop ≡ 0
  unfolding returned
  return_finds_room b mark op = let (y, f) = some_of (find_batch b (work_open a)) op in ap (λ o. (returned mark o (run_of a)).stop) f ∙ (return_goes b mark y f).goes
