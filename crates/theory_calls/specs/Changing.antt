-- Insert and delete, where they pass: with the room that they ask for they never stop.
use Rattle.std.specs.Prelude.{ℕ, suc, ◌+◌, ◌-◌, ◌*◌, ◌≤◌, ◌≡◌, true, length}
use Rattle.std.proofs.Math.Path.{refl, sym, ap, subst}
use Rattle.std.proofs.Common.{◌∙◌, arith}
use Rattle.std.proofs.Math.Bool.{false}
use Rattle.std.proofs.Math.Option.{none, some}
use mathlib.Core.List.{List, []}
use Rattle.def_base.specs.Tests.{true_le}
use Rattle.def_layout.specs.declared.Desk.{Desk}
use Rattle.def_layout.specs.Entries.{top, look}
use Rattle.def_layout.specs.Pages.{Page, map_bits}
use Rattle.def_layout.specs.Records
use Rattle.def_layout.specs.Records.{Rec, data_row}
use Rattle.def_model.specs.declared.Refusal.TheVariants.{Unsound, NoBatch, Held, Present, Absent, SlotsShort, PagesShort}
use Rattle.def_model.specs.declared.Answer.TheVariants.{Done}
use Rattle.def_model.specs.Lookup.{fetched}
use Rattle.def_model.specs.TreeRules.{tree_ok, leaf_records, used_pages}
use Rattle.def_model.specs.Update.{Run, put_record, remove_record}
use Rattle.def_model.specs.Areas.{Areas}
use Rattle.def_model.specs.Answers.{passed, check}
use Rattle.def_model.specs.Batches.{Line, Batch, change_batch, find_batch, open_batches, unmarked, pending_count, tell, written, desk_of}
use Rattle.def_model.specs.Pending.{held}
use Rattle.def_model.specs.Sound.{sound, work_pages, work_log, work_slots, work_open, reserve, update_has_slots, update_has_pages}
use Rattle.def_model.specs.Calls.{run_of, kept_run, value_or, present, last_of, zero_key, insert_checks, insert_slide, delete_checks, delete_slide}
use Rattle.def_model.specs.OnBytes.{request, insert, delete, checks, request_checks, does, request_does, outcome}
use Rattle.def_recovery.specs.Book.{file, strike, add_line, book_call, book_request, commits, commits_request, write_line}
use Rattle.def_recovery.specs.Events.{last_in, fed, fed_request}
use Rattle.def_model.specs.Fit.{found}
use Rattle.theory_refusals.specs.Order.{passed_does}
use Rattle.theory_tree.specs.Step.Steps.{by_insert, by_delete}
use Rattle.theory_update.specs.Laws.{put_law, remove_law}
use Rattle.theory_update.specs.Find.Fetching.{fetched_is}
use Rattle.theory_ledger.specs.Batching.{find_change}
use Rattle.theory_history.specs.Origin.{Origin}
use Rattle.theory_history.specs.Start.{slides_after}
use Rattle.theory_history.specs.Core.{Core, core_ready}
use Rattle.theory_history.specs.Updating.{Updated, put_updated, remove_updated}
use Rattle.theory_history.specs.BatchData.{insert_data, delete_data}
use Rattle.theory_history.specs.History.{History, trail_standing}
use Rattle.theory_calls.specs.Stories.{story, sheets_of, line_by, sheets_write}
use Rattle.theory_calls.specs.Fed.{last_given}
use Rattle.theory_calls.specs.LiveAreas.{Holds, live_log, live_slots}
use Rattle.theory_calls.specs.Checks.{none_broken, kept_check, live_batch, absent_of, present_of}
use Rattle.theory_calls.specs.Within.{put_within, remove_within}
use Rattle.theory_calls.specs.Results.{standing, run_log, run_within, calm_passes}
use Rattle.theory_calls.specs.Passing.{is_commit, Passes}

-- ---- the room that an update asks for

slots_room : (slots : ℕ) (log : List Rec) (bs : List Batch) → update_has_slots slots log bs ≡ true → length log + 33 ≤ slots
unfolding update_has_slots reserve
slots_room slots log bs e = let y = true_le (length log + 32 + (32 * suc (pending_count bs) + 2 * length bs)) slots e in omega arith

pages_room : (pages : List Page) (bs : List Batch) → update_has_pages pages bs ≡ true → used_pages pages + 7 ≤ length pages
unfolding update_has_pages
pages_room pages bs e = let y = true_le (7 + 7 * suc (pending_count bs)) (length pages - used_pages pages) e in omega arith

module _ (o : Origin) (n m : ℕ) (most : n ≤ map_bits) (stable log : List Rec) (a : Areas) (d : Desk) (h : Holds o n m log a.work) (x : History o n log) where
  core : Core n (run_of a) (slides_after o log)
  core = (standing o n m most stable log a d h x).core

  opens : work_open a ≡ open_batches (run_of a).log
  unfolding run_of
  opens = refl

  pages_are : work_pages a ≡ (run_of a).pages
  unfolding run_of
  pages_are = refl

  -- What the checks of an update say of the run that it starts from.
  record Room : Type 0 where
    records : 32 ≤ (run_of a).room
    free : used_pages (run_of a).pages + 7 ≤ length (run_of a).pages

  room : update_has_slots (work_slots a) (work_log a) (work_open a) ≡ true → update_has_pages (work_pages a) (work_open a) ≡ true → Room
  room p q =
      let y = slots_room (work_slots a) (work_log a) (work_open a) p in
      let l = ap length (live_log o n m log a h) in
      let e = ap length (run_log o n m most stable log a d h x) in
      let f = run_within o n m most stable log a d h x in
      let g = live_slots o n m log a h in
      record { records = omega arith; free = subst (λ z. used_pages z + 7 ≤ length z) pages_are (pages_room (work_pages a) (work_open a) q) }

  fetched_live : (k : ℕ) → k ≤ top → fetched k (work_pages a) ≡ look k (leaf_records (run_of a).pages)
  fetched_live k kt = fetched_is k (work_pages a) (subst (λ z. tree_ok z ≡ true) (sym pages_are) core.tree) kt ∙ ap (λ z. look k (leaf_records z)) pages_are

  -- The story after an update.
  told : (t : Run) (r : Rec) (b : ℕ) (y : Batch) (line : Line) → (u : Updated (run_of a) (slides_after o log) t r) → tell r.kind u.number r (open_batches (run_of a).log) ≡ change_batch b (written u.number line) (open_batches (run_of a).log)
      → find_batch b (open_batches (run_of a).log) ≡ some y → u.number ≡ line.number → (desk : Desk) → desk ≡ desk_of t.log d.stored → write_line b (last_in b desk.rows) (line_by line.adds line.key line.value) (story o log) ≡ story o t.log
  unfolding write_line story written
  told t r b y line u e f num desk is =
      let sd = trail_standing o n most u.trail (standing o n m most stable log a d h x) in
      let bs = ap open_batches (run_log o n m most stable log a d h x) in
      let g : find_batch b (open_batches t.log) ≡ some (written u.number line y) = ap (find_batch b) (u.opens ∙ e) ∙ find_change b (written u.number line) (open_batches (run_of a).log) y f refl in
      let given : last_in b desk.rows ≡ line.number = ap (λ q. last_in b q.rows) is ∙ last_given b t.log d.stored _ sd.core.chain g ∙ num in
      λ i. record { slides = sd.slides i; sheets = (ap (λ q. add_line b (record { number = q; line = line_by line.adds line.key line.value }) (sheets_of (open_batches log))) given ∙ sheets_write b u.number line (open_batches log) ∙ ap (λ z. sheets_of (change_batch b (written u.number line) z)) (sym bs) ∙ ap sheets_of (sym e ∙ sym u.opens)) i }

  told_insert : (b k v page : ℕ) (y : Batch) (t : Run) → Updated (run_of a) (slides_after o log) t (data_row Records.insert b y.last page k v) → find_batch b (open_batches (run_of a).log) ≡ some y
      → (desk : Desk) → desk ≡ desk_of t.log d.stored → write_line b (last_in b desk.rows) (file k v) (story o log) ≡ story o t.log
  unfolding line_by tell
  told_insert b k v page y t u f = told t (data_row Records.insert b y.last page k v) b y (record { number = u.number; adds = true; key = k; value = v }) u refl f refl

  told_delete : (b k v page : ℕ) (y : Batch) (t : Run) → Updated (run_of a) (slides_after o log) t (data_row Records.delete b y.last page k v) → find_batch b (open_batches (run_of a).log) ≡ some y
      → (desk : Desk) → desk ≡ desk_of t.log d.stored → write_line b (last_in b desk.rows) (strike k) (story o log) ≡ story o t.log
  unfolding line_by tell
  told_delete b k v page y t u f = told t (data_row Records.delete b y.last page k v) b y (record { number = u.number; adds = false; key = k; value = v }) u refl f refl

  inserted : (b k v : ℕ) (y : Batch) → k ≤ top → v ≤ top → find_batch b (work_open a) ≡ some y → y.marked ≡ false → held b k (work_open a) ≡ false → fetched k (work_pages a) ≡ none → Room
      → outcome (request (insert b k v)) a d ≡ kept_run Done a (put_record Records.insert b y.last k v (run_of a)) d → Passes o n m stable log (request (insert b k v)) a d
  unfolding is_commit commits commits_request found book_call book_request fed fed_request kept_run
  inserted b k v y kt vt f u hd ab rm is =
      let f' : find_batch b (open_batches (run_of a).log) ≡ some y = subst (λ z. find_batch b z ≡ some y) opens f in
      let hd' : held b k (open_batches (run_of a).log) ≡ false = subst (λ z. held b k z ≡ false) opens hd in
      let ab' : look k (leaf_records (run_of a).pages) ≡ none = sym (fetched_live k kt) ∙ ab in
      let kept = put_law Records.insert b y.last k v (run_of a) (core_ready n most (run_of a) (slides_after o log) core) kt by_insert ab' rm.records rm.free in
      let t = put_record Records.insert b y.last k v (run_of a) in
      let (page, up) = put_updated n most Records.insert b y.last k v (run_of a) (slides_after o log) core by_insert kt ab' (λ p. insert_data n (run_of a) (slides_after o log) core b y f' k v p u kt vt hd' ab') kept.ready.goes in
      calm_passes o n m most stable log a d h x (request (insert b k v)) t refl up.trail (put_within m Records.insert b y.last k v (run_of a) (run_within o n m most stable log a d h x))
      (ap (λ o. o.work) is) (ap (λ o. o.stores) is) (told_insert b k v page y t up f' (outcome (request (insert b k v)) a d).desk (ap (λ o. o.desk) is))

  pub insert_passes : (b k v : ℕ) → k ≤ top → v ≤ top → passed (outcome (request (insert b k v)) a d).answer ≡ true → Passes o n m stable log (request (insert b k v)) a d
  unfolding checks request_checks does request_does insert_slide insert_checks last_of
  insert_passes b k v kt vt p =
      let (e, did) = passed_does (request (insert b k v)) a d p in
      let (nz, e₀) = none_broken (zero_key k) _ e in
      let (snd, e₁) = kept_check (sound a d) Unsound _ e₀ in
      let (un, e₂) = kept_check (unmarked (find_batch b (work_open a))) NoBatch _ e₁ in
      let (hd, e₃) = none_broken (check (held b k (work_open a)) Held) _ e₂ in
      let (pr, e₄) = none_broken (check (present k a) Present) _ e₃ in
      let (sl, e₅) = kept_check (update_has_slots (work_slots a) (work_log a) (work_open a)) SlotsShort _ e₄ in
      let (pg, e₆) = kept_check (update_has_pages (work_pages a) (work_open a)) PagesShort [] e₅ in
      let (y, f, u) = live_batch (find_batch b (work_open a)) un in
      inserted b k v y kt vt f u hd (absent_of (fetched k (work_pages a)) pr) (room sl pg)
      (did ∙ ap (λ o. kept_run Done a (put_record Records.insert b (last_of o) k v (run_of a)) d) f)

  deleted : (b k v : ℕ) (y : Batch) → k ≤ top → find_batch b (work_open a) ≡ some y → y.marked ≡ false → held b k (work_open a) ≡ false → fetched k (work_pages a) ≡ some v → Room
      → outcome (request (delete b k)) a d ≡ kept_run Done a (remove_record Records.delete b y.last k v (run_of a)) d → Passes o n m stable log (request (delete b k)) a d
  unfolding is_commit commits commits_request found book_call book_request fed fed_request kept_run
  deleted b k v y kt f u hd th rm is =
      let f' : find_batch b (open_batches (run_of a).log) ≡ some y = subst (λ z. find_batch b z ≡ some y) opens f in
      let hd' : held b k (open_batches (run_of a).log) ≡ false = subst (λ z. held b k z ≡ false) opens hd in
      let th' : look k (leaf_records (run_of a).pages) ≡ some v = sym (fetched_live k kt) ∙ th in
      let kept = remove_law Records.delete b y.last k v v (run_of a) (core_ready n most (run_of a) (slides_after o log) core) kt by_delete th' rm.records rm.free in
      let t = remove_record Records.delete b y.last k v (run_of a) in
      let (page, up) = remove_updated n most Records.delete b y.last k v v (run_of a) (slides_after o log) core by_delete kt th' (λ p. delete_data n (run_of a) (slides_after o log) core b y f' k v p u kt hd' th') kept.ready.goes in
      calm_passes o n m most stable log a d h x (request (delete b k)) t refl up.trail (remove_within m Records.delete b y.last k v (run_of a) (run_within o n m most stable log a d h x))
      (ap (λ o. o.work) is) (ap (λ o. o.stores) is) (told_delete b k v page y t up f' (outcome (request (delete b k)) a d).desk (ap (λ o. o.desk) is))

  pub delete_passes : (b k : ℕ) → k ≤ top → passed (outcome (request (delete b k)) a d).answer ≡ true → Passes o n m stable log (request (delete b k)) a d
  unfolding checks request_checks does request_does delete_slide delete_checks last_of value_or
  delete_passes b k kt p =
      let (e, did) = passed_does (request (delete b k)) a d p in
      let (snd, e₁) = kept_check (sound a d) Unsound _ e in
      let (un, e₂) = kept_check (unmarked (find_batch b (work_open a))) NoBatch _ e₁ in
      let (hd, e₃) = none_broken (check (held b k (work_open a)) Held) _ e₂ in
      let (pr, e₄) = kept_check (present k a) Absent _ e₃ in
      let (sl, e₅) = kept_check (update_has_slots (work_slots a) (work_log a) (work_open a)) SlotsShort _ e₄ in
      let (pg, e₆) = kept_check (update_has_pages (work_pages a) (work_open a)) PagesShort [] e₅ in
      let (y, f, u) = live_batch (find_batch b (work_open a)) un in
      let (v, th) = present_of (fetched k (work_pages a)) pr in
      deleted b k v y kt f u hd th (room sl pg)
      (did ∙ (λ i. kept_run Done a (remove_record Records.delete b (last_of (f i)) k (value_or (th i)) (run_of a)) d))
