-- THE RUN OF EVERY CALL from sound areas whose numbers fit their fields leaves numbers that fit theirs.
use Prim.Native.Nat.{ℕ, suc, ◌+◌, ◌-◌, ◌*◌, ◌≤◌, ◌<◌}
use Rattle.std.specs.Prelude.{◌≡◌, true, List, [], ◌∷◌}
use Rattle.std.proofs.Math.Path.{refl, sym, ap, subst}
use Rattle.std.proofs.Common.{◌∙◌, arith, length-append}
use Rattle.std.proofs.Math.Bool.{false}
use Rattle.std.proofs.Math.Option.{none, some}
use Rattle.std.proofs.Math.ListN.{length}
use Rattle.def_base.specs.Tests.{true_le}
use Rattle.def_layout.specs.declared.Entry.{Entry}
use Rattle.def_layout.specs.declared.Desk.{Desk}
use Rattle.def_layout.specs.Entries.{top, look}
use Rattle.def_layout.specs.Pages.{map_bits}
use Rattle.def_layout.specs.Records
use Rattle.def_layout.specs.Records.{Rec, batch_row}
use Rattle.def_model.specs.Areas.{Areas}
use Rattle.def_model.specs.Batches.{Batch, find_batch, open_batches, pending_count}
use Rattle.def_model.specs.Pending.{held}
use Rattle.def_model.specs.Lookup.{fetched}
use Rattle.def_model.specs.TreeRules.{leaf_records}
use Rattle.def_model.specs.Update.{Run, emit, put_record, remove_record}
use Rattle.def_model.specs.Undo.{return_run, abort_run}
use Rattle.def_model.specs.Links.{relinked}
use Rattle.def_model.specs.Redo.{places}
use Rattle.def_model.specs.Sound.{sound, reserve, work_pages, work_log, work_slots, work_open, update_has_slots, update_has_pages, begin_has_slots}
use Rattle.def_model.specs.Calls.{run_of}
use Rattle.law_areas.specs.Working.{paired, AllLinks}
use Rattle.theory_tree.specs.Step.Steps.{by_insert, by_delete}
use Rattle.theory_update.specs.Run.Way.{written_by}
use Rattle.theory_update.specs.Find.Fetching.{fetched_is}
use Rattle.theory_ledger.specs.Small.{Small}
use Rattle.theory_ledger.specs.Batching.{find_number}
use Rattle.theory_ledger.specs.Runs.{carry_lines}
use Rattle.theory_history.specs.Core.{Core, NextRecord, core_more}
use Rattle.theory_history.specs.Linking.{NarrowLinks}
use Rattle.theory_history.specs.Notes.{begin_next, commit_next}
use Rattle.theory_history.specs.Trail.{Trail, trail_core}
use Rattle.theory_history.specs.Updating.{put_updated, remove_updated}
use Rattle.theory_history.specs.BatchData.{insert_data, delete_data}
use Rattle.theory_history.specs.Undoing.{return_trail, abort_trail}
use Rattle.theory_desk.specs.Counting.{drop_pending}
use Rattle.theory_room.specs.Reasons.{Within}
use Rattle.theory_room.specs.Restarting.{length_records_of}
use Rattle.theory_calls.specs.Checks.{sound_parts}
use Rattle.theory_reserve.specs.LineRoom.{emit_room}
use Rattle.theory_calls.specs.Within.{put_within, remove_within, return_within, abort_within}
use Rattle.theory_ranges.specs.Ranged.{Ranged, ranged_more, ranged_trail}
use Rattle.theory_sound.specs.FromSound.{sound_core}
use Rattle.theory_sound.specs.SoundAfter.{Reserved, reserved}
use Rattle.theory_sound.specs.SoundKept.{insert_runs, delete_runs}
use Rattle.theory_readback.specs.Links.{narrow_record, narrow_trail, linked}

-- What a run leaves for n pages and m slots.
pub record Left (n m : ℕ) (t : Run) : Type 0 where
  pub ranged : Ranged t
  pub size : length t.pages ≡ n
  pub within : length t.log ≤ m
  pub links : AllLinks (paired t.pages (relinked t.pages t.lefts))

left_by : (n m : ℕ) → n ≤ map_bits → (t : Run) (sl : List Entry) → Core n t sl → length t.log ≤ m → Ranged t → NarrowLinks t.lefts → Left n m t
left_by n m most t sl c w g h =
    let e = c.size in
    record { ranged = g; size = c.size; within = w; links = linked t.pages t.lefts (omega arith) c.tree g.pages h }

-- Along a trail.
pub trail_left : (n m : ℕ) → n ≤ map_bits → m ≤ 16384 → {s t : Run} {sl sl' : List Entry} → Trail s sl t sl' → Core n s sl → length t.log ≤ m → Ranged s → NarrowLinks s.lefts → Left n m t
trail_left n m most low {t = t} {sl' = sl'} tr c w g h =
    let k = trail_core most tr c in
    let d = k.due in
    left_by n m most t sl' k w (ranged_trail most tr c (omega arith) g) (narrow_trail tr h)

module _ (a : Areas) (d : Desk) (few : length a.work.pages ≤ map_bits) (equal : length a.stable.log ≡ length a.work.log) (small : Small (work_open a)) (s : sound a d ≡ true) (slots : work_slots a ≤ 16384) (g : Ranged (run_of a)) (h : NarrowLinks a.work.lefts) where
  n : ℕ
  n = length a.work.pages

  m : ℕ
  m = work_slots a

  sl : List Entry
  sl = (sound_core a d s few small).0

  core : Core n (run_of a) sl
  unfolding n sl
  core = (sound_core a d s few small).1

  most : n ≤ map_bits
  unfolding n
  most = few

  low : m ≤ 16384
  unfolding m
  low = slots

  log_is : (run_of a).log ≡ work_log a
  unfolding run_of
  log_is = refl

  pages_are : (run_of a).pages ≡ work_pages a
  unfolding run_of
  pages_are = refl

  room_is : (run_of a).room ≡ m - length (work_log a)
  unfolding run_of m
  room_is = refl

  due_is : (run_of a).due ≡ suc (length (work_log a))
  unfolding run_of
  due_is = refl

  narrow : NarrowLinks (run_of a).lefts
  unfolding run_of
  narrow = h

  opens : open_batches (run_of a).log ≡ work_open a
  opens = ap open_batches log_is

  kept : Reserved m (work_pages a) (work_log a) (work_open a)
  unfolding m
  kept = reserved (work_slots a) (work_pages a) (work_log a) (work_open a) (sound_parts a d s).reserves

  fits : length (work_log a) ≤ m
  unfolding m
  fits = length_records_of a.work.log

  within : Within m (run_of a)
  within = let r = room_is in let f = fits in let e : length (run_of a).log ≡ length (work_log a) = ap length log_is in omega arith

  -- ---- no record, and one record

  pub nothing_left : Left (length a.work.pages) (work_slots a) (run_of a)
  unfolding n m
  nothing_left = let e : length (run_of a).log ≡ length (work_log a) = ap length log_is in let f = fits in left_by n m most (run_of a) sl core (omega arith) g narrow

  one_left : (r : Rec) (sl' : List Entry) → 0 < (run_of a).room → NextRecord (run_of a) sl r sl' → Left n m (emit r (run_of a))
  one_left r sl' free x =
      let w = emit_room r (run_of a) core.goes free in
      let c = core_more n most (run_of a) sl sl' r core x in
      let dd = core.due in
      let ri = room_is in
      let li : length (run_of a).log ≡ length (work_log a) = ap length log_is in
      let la = length-append (run_of a).log (r ∷ []) in
      let lo = low in
      subst (Left n m) (sym w)
      (left_by n m most (written_by r (run_of a)) sl' c (omega arith) (ranged_more n most (run_of a) sl sl' r core x (omega arith) g)
      (narrow_record (run_of a).due r (places r) (run_of a).pages (run_of a).lefts narrow))

  pub begin_left : length (work_open a) < 8 → begin_has_slots (work_slots a) (work_log a) (work_open a) ≡ true → Left (length a.work.pages) (work_slots a) (emit (batch_row Records.begin (run_of a).due 0) (run_of a))
  unfolding begin_has_slots reserve n m
  begin_left eight p =
      let x = true_le (length (work_log a) + 1 + (32 * pending_count (work_open a) + 2 * suc (length (work_open a)))) (work_slots a) p in
      let ri = room_is in
      one_left (batch_row Records.begin (run_of a).due 0) sl (omega arith) (begin_next n (run_of a) sl core (subst (λ z. length z < 8) (sym opens) eight))

  pub commit_left : (b : ℕ) (y : Batch) → find_batch b (work_open a) ≡ some y → y.marked ≡ false → Left (length a.work.pages) (work_slots a) (emit (batch_row Records.commit b y.last) (run_of a))
  unfolding n m
  commit_left b y f u =
      let f' : find_batch b (open_batches (run_of a).log) ≡ some y = subst (λ z. find_batch b z ≡ some y) (sym opens) f in
      let (dp, dl) = drop_pending b (work_open a) y f in
      let x = kept.slots_free in
      let ri = room_is in
      one_left (batch_row Records.commit b y.last) (carry_lines y.lines sl) (omega arith) (commit_next n (run_of a) sl core b y f' u)

  -- ---- a trail

  along : (t : Run) → Trail (run_of a) sl t sl → Within m t → Left n m t
  along t tr w = trail_left n m most low tr core (omega arith) g narrow

  pub insert_left : (b k v : ℕ) (y : Batch) → k ≤ top → v ≤ top → find_batch b (work_open a) ≡ some y → y.marked ≡ false → held b k (work_open a) ≡ false → fetched k (work_pages a) ≡ none
      → update_has_slots (work_slots a) (work_log a) (work_open a) ≡ true → update_has_pages (work_pages a) (work_open a) ≡ true
      → Left (length a.work.pages) (work_slots a) (put_record Records.insert b y.last k v (run_of a))
  unfolding n m
  insert_left b k v y kt vt f u hd ab p q =
      let f' : find_batch b (open_batches (run_of a).log) ≡ some y = subst (λ z. find_batch b z ≡ some y) (sym opens) f in
      let hd' : held b k (open_batches (run_of a).log) ≡ false = subst (λ z. held b k z ≡ false) (sym opens) hd in
      let ab' : look k (leaf_records (run_of a).pages) ≡ none = sym (fetched_is k (run_of a).pages core.tree kt) ∙ ap (fetched k) pages_are ∙ ab in
      let kp = insert_runs a d few equal small s b y.last k v kt ab p q in
      let (page, up) = put_updated n most Records.insert b y.last k v (run_of a) sl core by_insert kt ab' (λ g. insert_data n (run_of a) sl core b y f' k v g u kt vt hd' ab') kp.ready.goes in
      along (put_record Records.insert b y.last k v (run_of a)) up.trail (put_within m Records.insert b y.last k v (run_of a) within)

  pub delete_left : (b k v : ℕ) (y : Batch) → k ≤ top → find_batch b (work_open a) ≡ some y → y.marked ≡ false → held b k (work_open a) ≡ false → fetched k (work_pages a) ≡ some v
      → update_has_slots (work_slots a) (work_log a) (work_open a) ≡ true → update_has_pages (work_pages a) (work_open a) ≡ true
      → Left (length a.work.pages) (work_slots a) (remove_record Records.delete b y.last k v (run_of a))
  unfolding n m
  delete_left b k v y kt f u hd th p q =
      let f' : find_batch b (open_batches (run_of a).log) ≡ some y = subst (λ z. find_batch b z ≡ some y) (sym opens) f in
      let hd' : held b k (open_batches (run_of a).log) ≡ false = subst (λ z. held b k z ≡ false) (sym opens) hd in
      let th' : look k (leaf_records (run_of a).pages) ≡ some v = sym (fetched_is k (run_of a).pages core.tree kt) ∙ ap (fetched k) pages_are ∙ th in
      let kp = delete_runs a d few equal small s b y.last k v kt th p q in
      let (page, up) = remove_updated n most Records.delete b y.last k v v (run_of a) sl core by_delete kt th' (λ g. delete_data n (run_of a) sl core b y f' k v g u kt hd' th') kp.ready.goes in
      along (remove_record Records.delete b y.last k v (run_of a)) up.trail (remove_within m Records.delete b y.last k v (run_of a) within)

  pub abort_left : (b : ℕ) (y : Batch) → find_batch b (work_open a) ≡ some y → y.marked ≡ false → (abort_run y (run_of a)).stop ≡ 0 → Left (length a.work.pages) (work_slots a) (abort_run y (run_of a))
  unfolding n m
  abort_left b y f u z =
      let f' : find_batch b (open_batches (run_of a).log) ≡ some y = subst (λ z. find_batch b z ≡ some y) (sym opens) f in
      let (tr, op) = abort_trail n most (run_of a) sl b y core f' (sym (find_number b (open_batches (run_of a).log) y f')) u z in
      along (abort_run y (run_of a)) tr (abort_within m y (run_of a) within)

  pub return_left : (b mark : ℕ) (y : Batch) → find_batch b (work_open a) ≡ some y → (return_run mark y (run_of a)).stop ≡ 0 → Left (length a.work.pages) (work_slots a) (return_run mark y (run_of a))
  unfolding n m
  return_left b mark y f z =
      let f' : find_batch b (open_batches (run_of a).log) ≡ some y = subst (λ z. find_batch b z ≡ some y) (sym opens) f in
      let rt = return_trail n most mark (run_of a) sl b y core f' (sym (find_number b (open_batches (run_of a).log) y f')) z in
      along (return_run mark y (run_of a)) rt.trail (return_within m mark y (run_of a) within)
