-- Begin, reply by reply.
use Rattle.std.specs.Prelude.{◌≡◌, false, List, leb}
use Rattle.std.proofs.Math.Path.{refl, ap, sym}
use Rattle.std.proofs.Common.{◌∙◌, subst, arith}
use Prim.Native.Nat.{ℕ, suc, ◌+◌, ◌*◌, ◌<◌, ◌≤◌}
use Rattle.std.proofs.Math.Bool.{true}
use Rattle.std.proofs.Math.ListN.{length, set, length-append}
use Rattle.std.proofs.Math.Dec.{ltb}
use Rattle.def_base.specs.Tests.{lt_true, le_true, le_false, true_le}
use Rattle.def_layout.specs.declared.Desk.{Desk}
use Rattle.def_layout.specs.Records as records
use Rattle.def_layout.specs.Records.{batch_row}
use Rattle.def_model.specs.declared.Refusal.TheVariants.{EightOpen, SlotsShort}
use Rattle.def_model.specs.declared.Answer.TheVariants.{Number, Refused}
use Rattle.def_model.specs.Answers.{first_broken}
use Rattle.def_model.specs.Update.{emit}
use Rattle.def_model.specs.Sound.{reserve, work_pages, work_log, work_slots, work_open, begin_has_slots, update_has_slots, update_has_pages}
use Rattle.def_model.specs.Calls.{run_of, begin_checks}
use Rattle.def_model.specs.OnBytes.{request, begin, request_checks, read_areas}
use Rattle.sound_parts.specs.Reserves.{begin_slots_by, update_slots_by, update_pages_by}
use Rattle.area_lengths.specs.Lent.{lent}
use Rattle.law_bytes.specs.DeskRows.{place_of, new_row}
use Rattle.theory_desk.specs.Runs.{begin_desk}
use Rattle.theory_update.specs.Run.Way.{emit_goes}
use Rattle.tree_write.specs.declared.Run as run
use Rattle.tree_write.specs.Shows.{Shows}
use Rattle.call_reply.specs.declared.Reply.{Reply}
use Rattle.call_reply.specs.Replies.{Replies, leaves_same, left_run}
use Rattle.sound_register.specs.declared.Standing.{Standing}
use Rattle.call_slides.specs.Checked.{begin_goes}
use Rattle.call_slides.specs.Given.{Given, areas, Answers, refuse, given_chain, given_slots, quiet_links, open_count}

module _ {n m : ℕ} {wp sp wl sl : List ℕ} {d : Desk} {st : Standing} (g : Given n m wp sp wl sl d st) where
  -- The formulas on the desk's numbers.
  begin_slots : begin_has_slots (work_slots (areas g)) (work_log (areas g)) (work_open (areas g)) ≡ begin_slots_by m d.logged st.pending (place_of 0 d.rows)
  unfolding begin_has_slots read_areas
  begin_slots = sym (rw (← given_slots g, g.known.logged, g.known.pending, open_count g))

  pub update_slots : update_has_slots (work_slots (areas g)) (work_log (areas g)) (work_open (areas g)) ≡ update_slots_by m d.logged st.pending (place_of 0 d.rows)
  unfolding update_has_slots read_areas
  update_slots = sym (rw (← given_slots g, g.known.logged, g.known.pending, open_count g))

  pub update_pages : update_has_pages (work_pages (areas g)) (work_open (areas g)) ≡ update_pages_by st.free st.pending
  unfolding update_has_pages read_areas
  update_pages = sym (rw (g.known.free, g.known.pending))

  pub begin_full : 8 ≤ place_of 0 d.rows → Answers g begin (Refused EightOpen)
  unfolding request_checks begin_checks first_broken
  begin_full h = refuse g begin EightOpen (rw (g.is_sound, le_true 8 (length (work_open (areas g))) (subst (λ (i : ℕ). 8 ≤ i) (open_count g) h)))

  module _ (h : place_of 0 d.rows < 8) where
    few : leb 8 (length (work_open (areas g))) ≡ false
    few = le_false 8 (length (work_open (areas g))) (subst (λ (i : ℕ). i < 8) (open_count g) h)

    pub begin_no_slots : begin_slots_by m d.logged st.pending (place_of 0 d.rows) ≡ false → Answers g begin (Refused SlotsShort)
    unfolding request_checks begin_checks first_broken
    begin_no_slots e = refuse g begin SlotsShort (rw (g.is_sound, few, begin_slots ∙ e))

    pub begin_done : {wp' wl' : List ℕ} (budget : ℕ) (r : Reply) (b : ℕ) (u : run.Run) → begin_slots_by m d.logged st.pending (place_of 0 d.rows) ≡ true → b ≡ suc d.logged
        → Shows n m wp' wl' u (emit (batch_row records.begin b 0) (run_of (areas g))) → r.answer ≡ Number b
        → r.desk ≡ record { rows = set d.rows (place_of 0 d.rows) (new_row b); logged = u.logged; stored = d.stored }
        → Replies (request begin) (lent wp sp wl sl) d budget r (lent wp' sp wl' sl)
    unfolding run_of read_areas reserve
    begin_done budget r b u e eb sh a k =
        let s = run_of (areas g) in
        let x = true_le (d.logged + 1 + (32 * st.pending + 2 * suc (place_of 0 d.rows))) m e in
        let nb : b ≡ suc (length s.log) = eb ∙ ap suc g.known.logged in
        let room : ltb 0 s.room ≡ true = lt_true 0 s.room (omega (arith, g.known.logged, given_slots g)) in
        let w = emit_goes (batch_row records.begin b 0) s refl room in
        let z : (emit (batch_row records.begin b 0) s).stop ≡ 0 = ap (λ t. t.stop) w in
        let un : u.logged ≡ b = sym sh.logged ∙ ap (λ t. length t.log) w ∙ length-append s.log _ ∙ omega (arith, nb) in
        left_run (request begin) wp sp wl sl d g.lengths (Number b) budget (emit (batch_row records.begin b 0) s) r (given_slots g)
        (begin_goes (areas g) d g.is_sound few (begin_slots ∙ e) ∙ rw nb) (leaves_same sh (quiet_links g records.begin b 0 refl)) a
        (k ∙ ap (λ (i : ℕ). record { rows = set d.rows (place_of 0 d.rows) (new_row b); logged = i; stored = d.stored }) un
        ∙ sym (begin_desk s d (given_chain g) g.known.desk b 0 d.stored h nb z))
