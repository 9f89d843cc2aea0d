-- EVERY DESK THAT A CALL LEAVES FITS ITS BYTES, of whatever areas, if the desk that it is given does.
use Rattle.std.specs.Prelude.{ℕ, ◌<◌, ◌^◌, ◌≡◌, true, List, length, leb}
use Rattle.std.proofs.Common.{sym, subst}
use Rattle.std.proofs.Math.Option.{Option, none, some}
use native.Mathlib.Omega.{arith}
use Rattle.def_base.specs.Tests.{Case, yes!, no!, case, clash, and_true, true_le}
use Rattle.def_layout.specs.declared.Desk.{Desk}
use Rattle.def_layout.specs.Desks.{desk_bytes, read_desk}
use Rattle.def_layout.specs.Records.{insert, delete}
use Rattle.def_model.specs.declared.Refusal.{Refusal}
use Rattle.def_model.specs.declared.Answer.{Answer}
use Rattle.def_model.specs.Batches.{Batch, find_batch, open_batches, desk_of}
use Rattle.def_model.specs.Update.{Run}
use Rattle.def_model.specs.Areas.{Areas, Store}
use Rattle.def_model.specs.Log.{records_of}
use Rattle.def_model.specs.Answers.{first_broken, passed}
use Rattle.def_model.specs.Sound.{work_slots, desk_ok, stored_ok, sound}
use Rattle.def_model.specs.Calls
use Rattle.def_model.specs.Calls.{run_of, kept_run, stored_run, aborted, abort_of, returned, return_of}
use Rattle.def_model.specs.Restart.{restart_areas, restarted}
use Rattle.def_model.specs.OnBytes
use Rattle.def_model.specs.OnBytes.{Call, start, request, Request, format, restart, ask, abort, write_out, Lent, checks, does, start_does, request_does, refused, refused_desk, read_areas, lengths_ok, outcome_by, outcome, call_by, call, return_to, load}
use Rattle.law_bytes.specs.DeskBytes.{Fits, read_desk_back}
use Rattle.law_bytes.specs.DeskSame.{desk_same}
use Rattle.law_areas.specs.Lengths.{lengths_said}
use Rattle.law_areas.specs.Logs.{read_log_length}
use Rattle.theory_room.specs.Reasons.{Within, emit_within}
use Rattle.theory_room.specs.Restarting.{length_records_of, restarted_within}
use Rattle.theory_calls.specs.Checks.{sound_parts}
use Rattle.theory_calls.specs.Refused.{asks_sound}
use Rattle.theory_calls.specs.Within.{put_within, remove_within, return_within, abort_within}
use Rattle.theory_recovery.specs.DeskNumbers.{desk_of_fits, empty_fits}

module _ (a : Areas) (d : Desk) (few : length a.work.log < 2 ^ 32) (fewer : length a.stable.log < 2 ^ 32) (fit : Fits d) where
  run_within : Within (work_slots a) (run_of a)
  unfolding run_of
  run_within = let l = length_records_of a.work.log in omega arith

  kept_fits : (answer : Answer) (s : Run) → Within (work_slots a) s → Fits (kept_run answer a s d).desk
  unfolding kept_run
  kept_fits answer s w = desk_of_fits s.log d.stored (omega arith) fit.stored

  stored_fits : (answer : Answer) (s : Run) (more : List Store) → Within (work_slots a) s → Fits (stored_run answer a s d more).desk
  unfolding stored_run
  stored_fits answer s more w = desk_of_fits s.log (length s.log) (omega arith) (omega arith)

  aborted_within : (o : Option Batch) → Within (work_slots a) (aborted o (run_of a))
  unfolding aborted
  aborted_within none = run_within
  aborted_within (some b) = abort_within (work_slots a) b (run_of a) run_within

  returned_within : (mark : ℕ) (o : Option Batch) → Within (work_slots a) (returned mark o (run_of a))
  unfolding returned
  returned_within mark none = run_within
  returned_within mark (some b) = return_within (work_slots a) mark b (run_of a) run_within

  does_fits : (c : Call) → Fits (does c a d).desk
  unfolding does start_does request_does Calls.format_areas Calls.load_areas Calls.begin_batch Calls.insert_slide Calls.delete_slide Calls.commit_batch Calls.abort_batch Calls.return_batch Calls.write_out_page restart_areas
  does_fits (start format) = empty_fits
  does_fits (start (load ks vs)) = empty_fits
  does_fits restart = let w = restarted_within a in desk_of_fits (restarted a).log (length (restarted a).log) (omega arith) (omega arith)
  does_fits (request OnBytes.begin) = kept_fits _ _ (emit_within (work_slots a) _ (run_of a) run_within)
  does_fits (request (ask q)) = fit
  does_fits (request (OnBytes.insert b k v)) = kept_fits _ _ (put_within (work_slots a) insert b _ k v (run_of a) run_within)
  does_fits (request (OnBytes.delete b k)) = kept_fits _ _ (remove_within (work_slots a) delete b _ k _ (run_of a) run_within)
  does_fits (request (OnBytes.commit b)) = stored_fits _ _ _ (emit_within (work_slots a) _ (run_of a) run_within)
  does_fits (request (abort b)) = kept_fits _ (abort_of b a) (aborted_within (find_batch b (open_batches _)))
  does_fits (request (return_to b m)) = kept_fits _ (return_of b m a) (returned_within m (find_batch b (open_batches _)))
  does_fits (request (write_out p)) = stored_fits _ (run_of a) _ run_within

  refused_fits : (c : Call) → Fits (refused_desk c d)
  unfolding refused_desk
  refused_fits (start s) = empty_fits
  refused_fits restart = empty_fits
  refused_fits (request q) = fit

  outcome_fits : (c : Call) → Fits (outcome c a d).desk
  unfolding outcome outcome_by refused
  outcome_fits c = go (first_broken (checks c a d))
    where
      go : (o : Option Refusal) → Fits (outcome_by o c a d).desk
      go none = does_fits c
      go (some r) = refused_fits c

refused_lengths : (c : Call) (d : Desk) → Fits d → Fits (refused_desk c d)
unfolding refused_desk
refused_lengths (start s) d h = empty_fits
refused_lengths restart d h = empty_fits
refused_lengths (request q) d h = h

pub call_desk_fits : (c : Call) (l : Lent) (d : Desk) → Fits d → Fits (call c l d).desk
unfolding call call_by read_areas
call_desk_fits c l d h = go (case (lengths_ok l))
  where
    go : Case (lengths_ok l) → Fits (call c l d).desk
    go (no! e) = subst (λ b. Fits (call_by b c l d).desk) (sym e) (refused_lengths c d h)
    go (yes! e) =
        let z = lengths_said l e in
        let few = z.most_slots in
        let work = read_log_length _ l.work_log z.work_log in
        let stable = read_log_length _ l.stable_log z.stable_log in
        subst (λ b. Fits (call_by b c l d).desk) (sym e) (outcome_fits (read_areas l) d (omega arith) (omega arith) h c)

-- READ BACK: written into its bytes and read again, the desk is the same.
pub desk_read_back : (c : Call) (l : Lent) (d : Desk) → Fits d → read_desk (desk_bytes (call c l d).desk) ≡ (call c l d).desk
desk_read_back c l d h = read_desk_back (call c l d).desk (call_desk_fits c l d h)

-- A sound desk fits, whatever it was read from.
sound_fits : (a : Areas) (d : Desk) → length a.work.log < 2 ^ 32 → sound a d ≡ true → Fits d
unfolding desk_ok stored_ok
sound_fits a d few s =
    let p = sound_parts a d s in
    let w = length_records_of a.work.log in
    let k = true_le d.stored (length (records_of a.work.log)) (and_true (leb d.stored (length (records_of a.work.log))) _ p.stored).0 in
    subst Fits (sym (desk_same d (desk_of (records_of a.work.log) d.stored) p.desk)) (desk_of_fits (records_of a.work.log) d.stored (omega arith) (omega arith))

-- So what a call leaves that passed is read back, whatever its desk was read from.
pub passed_read_back : (q : Request) (l : Lent) (d : Desk) → passed (call (request q) l d).answer ≡ true → read_desk (desk_bytes (call (request q) l d).desk) ≡ (call (request q) l d).desk
unfolding call call_by read_areas passed
passed_read_back q l d p = go (case (lengths_ok l))
  where
    go : Case (lengths_ok l) → read_desk (desk_bytes (call (request q) l d).desk) ≡ (call (request q) l d).desk
    go (no! e) = clash (sym (subst (λ b. passed (call_by b (request q) l d).answer ≡ true) e p))
    go (yes! e) =
        let z = lengths_said l e in
        let few = z.most_slots in
        let work = read_log_length _ l.work_log z.work_log in
        desk_read_back (request q) l d (sound_fits (read_areas l) d (omega arith) (asks_sound q (read_areas l) d (subst (λ b. passed (call_by b (request q) l d).answer ≡ true) e p)))
