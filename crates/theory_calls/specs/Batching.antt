-- Begin, commit, abort and return, where they pass.
use Prim.Native.Nat.{ℕ, suc, ◌+◌, ◌*◌, ◌≤◌, ◌<◌}
use Rattle.std.specs.Prelude.{◌≡◌, true, false, leb, eqb}
use Rattle.std.proofs.Math.Path.{refl, sym, ap, subst}
use Rattle.std.proofs.Common.{◌∙◌, arith}
use Rattle.std.proofs.Math.Option.{some}
use mathlib.Core.List.{List, [], ◌∷◌, ◌++◌, append-nil}
use Rattle.std.proofs.Math.ListN.{length}
use Rattle.def_base.specs.Tests.{and_true, true_le, false_le, true_eq, eq_true}
use Rattle.def_layout.specs.declared.Desk.{Desk}
use Rattle.def_layout.specs.Pages.{Page, map_bits}
use Rattle.def_layout.specs.Records
use Rattle.def_layout.specs.Records.{Rec, batch_row, kind_number}
use Rattle.def_model.specs.declared.Refusal.TheVariants.{Unsound, NoBatch, EightOpen, SlotsShort, AbortStopped, NoMark}
use Rattle.def_model.specs.declared.Answer.TheVariants.{Done, Number}
use Rattle.def_model.specs.Log.{log_area}
use Rattle.def_model.specs.Update.{Run, emit}
use Rattle.def_model.specs.Areas.{Areas, log_stores}
use Rattle.def_model.specs.Answers.{passed, check, answer_numbers}
use Rattle.def_model.specs.Batches.{Batch, find_batch, change_batch, drop_batch, open_batches, unmarked, is_record_of, pending_count, tell}
use Rattle.def_model.specs.Sound.{sound, work_pages, work_log, work_slots, work_open, reserve, reserves_ok, begin_has_slots}
use Rattle.def_model.specs.Undo.{return_run, abort_run}
use Rattle.def_model.specs.Calls.{run_of, run_side, kept_run, stored_run, last_of, begin_checks, begin_batch, commit_checks, commit_batch, aborted, abort_of, abort_checks, abort_batch, is_none, returned, return_of, return_checks, return_batch}
use Rattle.def_model.specs.OnBytes.{request, begin, commit, abort, return_to, checks, request_checks, does, request_does, outcome}
use Rattle.def_recovery.specs.Demand3.{is_commit_of}
use Rattle.def_recovery.specs.Book
use Rattle.def_recovery.specs.Book.{book_call, book_request, commits, commits_request, open_sheet, commit_sheet, abort_sheet, return_sheet, carry_out}
use Rattle.def_model.specs.Fit.{found}
use Rattle.theory_refusals.specs.Order.{passed_does}
use Rattle.theory_update.specs.Run.Way.{written_by}
use Rattle.theory_ledger.specs.Batching.{find_number}
use Rattle.theory_ledger.specs.Marks.{kept, left_with, open_falls}
use Rattle.theory_ledger.specs.Runs.{carry_lines}
use Rattle.theory_ledger.specs.Telling.{slides_by, lines_of}
use Rattle.theory_history.specs.Origin.{Origin}
use Rattle.theory_history.specs.Start.{slides_after}
use Rattle.theory_history.specs.Core.{Core}
use Rattle.theory_history.specs.Notes.{begin_next, commit_next}
use Rattle.theory_history.specs.Trail.{trail_emit}
use Rattle.theory_history.specs.Undoing.{return_trail, abort_trail}
use Rattle.theory_history.specs.History.{History, standing_more, trail_standing}
use Rattle.theory_room.specs.Reasons.{Within, emit_within}
use Rattle.theory_calls.specs.Stories.{story, sheets_of, sheets_end, sheets_drop, sheets_return, sheets_lines, sheet_carried}
use Rattle.theory_calls.specs.LiveAreas.{Holds, live_log, live_slots, stored_count}
use Rattle.theory_calls.specs.Checks.{none_broken, kept_check, sound_parts, live_batch, some_of, found_open}
use Rattle.theory_calls.specs.Within.{return_within, abort_within}
use Rattle.theory_calls.specs.Results.{story_more, standing, run_log, run_due, run_within, calm_passes}
use Rattle.theory_reserve.specs.LineRoom.{emit_room}
use Rattle.theory_calls.specs.Passing.{is_commit, by_commit_record, Stored, the_log, by_commit, Passes, standing_slides}

-- ---- what the reserves give

begin_fits : (slots : ℕ) (log : List Rec) (bs : List Batch) → begin_has_slots slots log bs ≡ true → suc (length log) ≤ slots
unfolding begin_has_slots reserve
begin_fits slots log bs e = let y = true_le (length log + 1 + (32 * pending_count bs + 2 * suc (length bs))) slots e in omega arith

reserve_fits : (slots : ℕ) (pages : List Page) (log : List Rec) (bs : List Batch) → 0 < length bs → reserves_ok slots pages log bs ≡ true → suc (length log) ≤ slots
unfolding reserves_ok reserve
reserve_fits slots pages log bs pos e =
    let (p, q) = and_true (leb (length log + (32 * pending_count bs + 2 * length bs)) slots) _ e in
    let y = true_le (length log + (32 * pending_count bs + 2 * length bs)) slots p in
    omega arith

module _ (o : Origin) (n m : ℕ) (most : n ≤ map_bits) (stable log : List Rec) (a : Areas) (d : Desk) (h : Holds o n m log a.work) (x : History o n log) where
  s : Run
  s = run_of a

  core : Core n (run_of a) (slides_after o log)
  core = (standing o n m most stable log a d h x).core

  opens : open_batches (run_of a).log ≡ open_batches log
  opens = ap open_batches (run_log o n m most stable log a d h x)

  work_opens : work_open a ≡ open_batches log
  work_opens = ap open_batches (live_log o n m log a h)

  has_room : suc (length log) ≤ m → 0 < (run_of a).room
  has_room r = let e = ap length (run_log o n m most stable log a d h x) in let f = run_within o n m most stable log a d h x in omega arith

  -- ---- begin

  begun : length (work_open a) < 8 → suc (length log) ≤ m → (outcome (request begin) a d ≡ kept_run (Number (run_of a).due) a (emit (batch_row Records.begin (run_of a).due 0) (run_of a)) d) → Passes o n m stable log (request begin) a d
  unfolding is_commit commits commits_request found book_call book_request kept_run open_sheet answer_numbers story slides_by tell
  begun few room is =
      let r = batch_row Records.begin (run_of a).due 0 in
      let k = begin_next n (run_of a) (slides_after o log) core (subst (λ z. length z < 8) (work_opens ∙ sym opens) few) in
      let w = emit_room r (run_of a) core.goes (has_room room) in
      let z : (emit r (run_of a)).stop ≡ 0 = ap (λ t. t.stop) w in
      let lg : (emit r (run_of a)).log ≡ log ++ r ∷ [] = ap (λ t. t.log) w ∙ ap (◌++ r ∷ []) (run_log o n m most stable log a d h x) in
      let due = run_due o n m most stable log a d h x in
      calm_passes o n m most stable log a d h x (request begin) (emit r (run_of a)) refl (trail_emit r (run_of a) (slides_after o log) k z)
      (emit_within m r (run_of a) (run_within o n m most stable log a d h x)) (ap (λ o. o.work) is) (ap (λ o. o.stores) is)
      (ap (λ y. open_sheet (answer_numbers y.answer).first (story o log)) is
      ∙ (λ i. record { slides = slides_after o log; sheets = sheets_end (open_batches log) (run_of a).due (suc (length log)) i }) ∙ ap (λ q. record { slides = slides_after o log; sheets = sheets_of (open_batches log ++ record { number = q; last = suc (length log); marked = false; lines = [] } ∷ []) }) due
      ∙ sym (ap (story o) lg ∙ story_more o log r))

  pub begin_passes : passed (outcome (request begin) a d).answer ≡ true → Passes o n m stable log (request begin) a d
  unfolding checks request_checks does request_does begin_batch begin_checks run_of
  begin_passes p =
      let (e, did) = passed_does (request begin) a d p in
      let (snd, e₁) = kept_check (sound a d) Unsound _ e in
      let (e₂, e₃) = none_broken (check (leb 8 (length (work_open a))) EightOpen) _ e₁ in
      let (room, e₄) = kept_check (begin_has_slots (work_slots a) (work_log a) (work_open a)) SlotsShort [] e₃ in
      let y = begin_fits (work_slots a) (work_log a) (work_open a) room in
      let q = ap length (live_log o n m log a h) in
      let f = live_slots o n m log a h in
      begun (false_le 8 (length (work_open a)) e₂) (omega arith) did

  -- ---- commit

  committed : (b : ℕ) (y : Batch) → find_batch b (work_open a) ≡ some y → y.marked ≡ false → suc (length log) ≤ m → d.stored ≡ length stable
      → outcome (request (commit b)) a d ≡ stored_run Done a (emit (batch_row Records.commit b y.last) (run_of a)) d [] → Passes o n m stable log (request (commit b)) a d
  unfolding is_commit commits commits_request found book_call book_request stored_run commit_sheet story slides_by lines_of tell is_commit_of kind_number
  committed b y f u room k is =
      let r = batch_row Records.commit b y.last in
      let f' : find_batch b (open_batches (run_of a).log) ≡ some y = subst (λ z. find_batch b z ≡ some y) (work_opens ∙ sym opens) f in
      let f'' : find_batch b (open_batches log) ≡ some y = subst (λ z. find_batch b z ≡ some y) work_opens f in
      let nx = commit_next n (run_of a) (slides_after o log) core b y f' u in
      let w = emit_room r (run_of a) core.goes (has_room room) in
      let st = standing_more o n most (run_of a) (slides_after o log) (carry_lines y.lines (slides_after o log)) r (standing o n m most stable log a d h x) nx in
      let wi : Within m (written_by r (run_of a)) = subst (Within m) w (emit_within m r (run_of a) (run_within o n m most stable log a d h x)) in
      let lg : (written_by r (run_of a)).log ≡ log ++ r ∷ [] = ap (◌++ r ∷ []) (run_log o n m most stable log a d h x) in
      let sto : (outcome (request (commit b)) a d).stores ≡ log_stores (length stable) (written_by r (run_of a)).log = ap (λ o. o.stores) is ∙ append-nil (log_stores d.stored (emit r (run_of a)).log) ∙ (λ i. log_stores (k i) (w i).log) in
      record {
        run = written_by r (run_of a);
        walk = by_commit_record nx;
        standing = standing_slides o n (written_by r (run_of a)) _ st;
        work = ap (λ o. o.work) is ∙ (λ i. run_side (live_slots o n m log a h i) (w i));
        within = omega arith;
        stored = subst (Stored n stable (written_by r (run_of a))) (sym sto) the_log;
        follows = by_commit b r refl (eq_true b b refl) lg sto;
        book =
            (λ i. record { slides = sl_eq f'' i; sheets = sheets_drop b (open_batches log) i })
            ∙ sym (ap (story o) lg ∙ story_more o log r ∙ (λ i. record { slides = carry_lines (lines_of (f'' i)) (slides_after o log); sheets = sheets_of (drop_batch b (open_batches log)) }));
      }
    where
      sl_eq : find_batch b (open_batches log) ≡ some y → carry_out (Book.lines_of b (sheets_of (open_batches log))) (slides_after o log) ≡ carry_lines y.lines (slides_after o log)
      sl_eq f = ap (λ z. carry_out z (slides_after o log)) (sheets_lines b (open_batches log) y f) ∙ sheet_carried y.lines (slides_after o log)

  pub commit_passes : (b : ℕ) → a.stable.log ≡ log_area m stable → passed (outcome (request (commit b)) a d).answer ≡ true → Passes o n m stable log (request (commit b)) a d
  unfolding checks request_checks does request_does commit_batch commit_checks last_of
  commit_passes b t p =
      let (e, did) = passed_does (request (commit b)) a d p in
      let (snd, e₁) = kept_check (sound a d) Unsound _ e in
      let (un, e₂) = kept_check (unmarked (find_batch b (work_open a))) NoBatch [] e₁ in
      let (y, f, u) = live_batch (find_batch b (work_open a)) un in
      let parts = sound_parts a d snd in
      let r = reserve_fits (work_slots a) (work_pages a) (work_log a) (work_open a) (found_open b (work_open a) y f) parts.reserves in
      let q = ap length (live_log o n m log a h) in
      let g = live_slots o n m log a h in
      committed b y f u (omega arith) (stored_count m stable a d t parts.stored)
      (did ∙ ap (λ o. stored_run Done a (emit (batch_row Records.commit b (last_of o)) (run_of a)) d []) f)

  -- ---- abort

  pub abort_passes : (b : ℕ) → passed (outcome (request (abort b)) a d).answer ≡ true → Passes o n m stable log (request (abort b)) a d
  unfolding checks request_checks does request_does abort_batch abort_checks aborted is_commit commits commits_request found book_call book_request kept_run abort_sheet story
  abort_passes b p =
      let (e, did) = passed_does (request (abort b)) a d p in
      let (snd, e₁) = kept_check (sound a d) Unsound _ e in
      let (un, e₂) = kept_check (unmarked (find_batch b (work_open a))) NoBatch _ e₁ in
      let (st, e₃) = kept_check (eqb (abort_of b a).stop 0) AbortStopped [] e₂ in
      let (y, f, u) = live_batch (find_batch b (work_open a)) un in
      let run : abort_of b a ≡ abort_run y (run_of a) = ap (λ o. aborted o (run_of a)) f in
      let z : (abort_run y (run_of a)).stop ≡ 0 = ap (λ t. t.stop) (sym run) ∙ true_eq (abort_of b a).stop 0 st in
      let f' : find_batch b (open_batches (run_of a).log) ≡ some y = subst (λ v. find_batch b v ≡ some y) (work_opens ∙ sym opens) f in
      let (tr, op) = abort_trail n most (run_of a) (slides_after o log) b y core f' (sym (find_number b (open_batches (run_of a).log) y f')) u z in
      let sd = trail_standing o n most tr (standing o n m most stable log a d h x) in
      calm_passes o n m most stable log a d h x (request (abort b)) (abort_run y (run_of a)) refl tr (abort_within m y (run_of a) (run_within o n m most stable log a d h x))
      (ap (λ o. o.work) did ∙ ap (run_side (work_slots a)) run) (ap (λ o. o.stores) did)
      (λ i. record { slides = sd.slides i; sheets = (sheets_drop b (open_batches log) ∙ ap sheets_of (ap (drop_batch b) (sym opens) ∙ sym op)) i })

  -- ---- return

  pub return_passes : (b mark : ℕ) → passed (outcome (request (return_to b mark)) a d).answer ≡ true → Passes o n m stable log (request (return_to b mark)) a d
  unfolding checks request_checks does request_does return_batch return_checks returned is_commit commits commits_request found book_call book_request kept_run return_sheet story
  return_passes b mark p =
      let (e, did) = passed_does (request (return_to b mark)) a d p in
      let (snd, e₁) = kept_check (sound a d) Unsound _ e in
      let (op, e₂) = none_broken (check (is_none (find_batch b (work_open a))) NoBatch) _ e₁ in
      let (mk, e₃) = kept_check (is_record_of b mark (work_log a)) NoMark _ e₂ in
      let (st, e₄) = kept_check (eqb (return_of b mark a).stop 0) AbortStopped [] e₃ in
      let (y, f) = some_of (find_batch b (work_open a)) op in
      let run : return_of b mark a ≡ return_run mark y (run_of a) = ap (λ o. returned mark o (run_of a)) f in
      let z : (return_run mark y (run_of a)).stop ≡ 0 = ap (λ t. t.stop) (sym run) ∙ true_eq (return_of b mark a).stop 0 st in
      let f' : find_batch b (open_batches (run_of a).log) ≡ some y = subst (λ v. find_batch b v ≡ some y) (work_opens ∙ sym opens) f in
      let f'' : find_batch b (open_batches log) ≡ some y = subst (λ v. find_batch b v ≡ some y) work_opens f in
      let rt = return_trail n most mark (run_of a) (slides_after o log) b y core f' (sym (find_number b (open_batches (run_of a).log) y f')) z in
      let sd = trail_standing o n most rt.trail (standing o n m most stable log a d h x) in
      calm_passes o n m most stable log a d h x (request (return_to b mark)) (return_run mark y (run_of a)) refl rt.trail (return_within m mark y (run_of a) (run_within o n m most stable log a d h x))
      (ap (λ o. o.work) did ∙ ap (run_side (work_slots a)) run) (ap (λ o. o.stores) did)
      (λ i. record { slides = sd.slides i; sheets = (sheets_return b mark rt.last _ (open_batches log) y f'' (open_falls log b y f'') ∙ ap sheets_of (ap (change_batch b (left_with rt.last (kept mark y.lines))) (sym opens) ∙ sym rt.opens)) i })
