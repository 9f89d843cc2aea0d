-- Restart, from the stable areas alone.
use Rattle.std.specs.Prelude.{ℕ, suc, ◌-◌, not, ◌&&◌, List, [], ◌∷◌, length, eqb}
use Rattle.def_layout.specs.Pages.{Page}
use Rattle.def_layout.specs.Records.{Rec}
use Rattle.def_model.specs.declared.Refusal.TheVariants.{Layout, Log, Redo, Rules, SlotsShort, PagesShort}
use Rattle.def_model.specs.declared.Answer.TheVariants.{Pair}
use Rattle.def_model.specs.Log.{last_number, slots_used, records_of}
use Rattle.def_model.specs.Redo.{replay, redo_count, redo_fits}
use Rattle.def_model.specs.TreeRules.{tree_ok}
use Rattle.def_model.specs.Update.{Run}
use Rattle.def_model.specs.Batches.{open_batches, desk_of, pending_count}
use Rattle.def_model.specs.Pending.{pending_ok}
use Rattle.def_model.specs.Undo.{mark_all, end_idle, undo_all}
use Rattle.def_model.specs.Areas.{Areas, pages_of, log_stores}
use Rattle.def_model.specs.Answers.{Outcome, Check, check}
use Rattle.def_model.specs.Sound.{layouts_ok, log_ok}
use Rattle.def_model.specs.Calls.{run_side}

abbrev pub stable_pages : Areas → List Page
stable_pages a = pages_of a.stable.pages

abbrev pub stable_log : Areas → List Rec
stable_log a = records_of a.stable.log

abbrev pub stable_slots : Areas → ℕ
stable_slots a = length a.stable.log

-- REDO ALONE: 01: "copies the stable areas to working, redoes from record 1 each page change whose page log number is lower".
unfoldable pub redone_pages : Areas → List Page
redone_pages a = replay 1 (stable_log a) (stable_pages a)

unfoldable pub redone : Areas → Run
redone a =
    record { pages = redone_pages a; lefts = []; log = stable_log a; due = suc (last_number (stable_log a)); room = stable_slots a - slots_used (stable_log a); stop = 0 }

-- Then abort marks, ends of idle batches, and undo: of the batches that the log says are open at each point.
unfoldable pub settle : Run → Run
settle s =
    let t = mark_all (open_batches s.log) s in
    let u = end_idle (open_batches t.log) t in
    undo_all (pending_count (open_batches s.log)) (open_batches u.log) u

unfoldable pub restarted : Areas → Run
restarted a = settle (redone a)

-- 01: 3 to 6, then "17 or 18 exactly when its next record or page does not exist".
unfoldable pub restart_checks : Areas → List Check
restart_checks a =
    check (not (layouts_ok a.stable)) Layout ∷ check (not (log_ok a.stable)) Log
    ∷ check (not (redo_fits 1 (stable_log a) (stable_pages a))) Redo
    ∷ check (not (tree_ok (redone_pages a) && pending_ok (redone_pages a) (open_batches (stable_log a)))) Rules
    ∷ check (eqb (restarted a).stop 17) SlotsShort ∷ check (eqb (restarted a).stop 18) PagesShort ∷ []

-- 01: "It reports the batches it ended and the page changes it applied, map changes included".
unfoldable pub restart_areas : Areas → Outcome
restart_areas a =
    let s = restarted a in
    record {
      answer = Pair (length (open_batches (stable_log a))) (redo_count 1 (stable_log a) (stable_pages a));
      work = run_side (stable_slots a) s;
      desk = desk_of s.log (last_number s.log);
      stores = log_stores (last_number (stable_log a)) s.log;
    }
