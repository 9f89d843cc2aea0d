-- Mark and return, reply by reply.
use Rattle.std.specs.Prelude.{◌≡◌, ℕ, ◌<◌, ◌≤◌, Bool, true, false, List}
use Rattle.std.proofs.Math.Path.{refl, ap, sym, subst}
use Rattle.std.proofs.Common.{◌∙◌}
use Rattle.std.proofs.Math.ListN.{length, set}
use Rattle.def_layout.specs.declared.Row.{Row}
use Rattle.def_layout.specs.declared.Desk.{Desk}
use Rattle.def_layout.specs.Desks.{row_at}
use Rattle.def_model.specs.declared.Refusal.TheVariants.{NoBatch, NoMark}
use Rattle.def_model.specs.declared.Answer.TheVariants.{Done, Number, Refused}
use Rattle.def_model.specs.Answers.{first_broken, passed}
use Rattle.def_base.specs.Tests.{and_both, le_true}
use Rattle.def_layout.specs.Entries.{top}
use Rattle.def_recovery.specs.Events.{request_32, of_32_bits}
use Rattle.def_model.specs.Batches.{next_undo, is_record_of, row_of}
use Rattle.def_model.specs.Undo.{undo_above, return_run}
use Rattle.def_model.specs.Sound.{work_log, work_open}
use Rattle.def_model.specs.Calls.{run_of, mark_checks, return_checks, returned, return_of}
use Rattle.def_model.specs.OnBytes.{request, ask, take_mark, return_to, question_checks, request_checks, read_areas}
use Rattle.area_lengths.specs.Lent.{lent}
use Rattle.theory_ledger.specs.Batching.{find_number}
use Rattle.theory_ledger.specs.Marks.{kept}
use Rattle.theory_desk.specs.Opened.{batch_at}
use Rattle.theory_desk.specs.After.{desk_returned}
use Rattle.theory_history.specs.Undoing.{last_after}
use Rattle.theory_sound.specs.Kept.{Lendable}
use Rattle.theory_sound.specs.SoundKept.{return_finds_room, return_returned}
use Rattle.theory_sound.specs.OfBytes.{lendable}
use Rattle.log_pending.specs.Reading.{TellsOf}
use Rattle.tree_write.specs.Shows.{Shows}
use Rattle.call_reply.specs.declared.Reply.{Reply}
use Rattle.call_reply.specs.Replies.{Replies, Links, left_linked}
use Rattle.sound_register.specs.declared.Standing.{Standing}
use Rattle.call_slides.specs.Checked.{mark_goes, return_goes}
use Rattle.call_slides.specs.Given.{Given, areas, Answers, answer, refuse, given_chain, given_slots, open_place, open_zero, open_none, open_found, open_some, last_is, row_is}
use Rattle.call_undo.specs.declared.Turn.{Turn}
use Rattle.call_undo.specs.Lines.{Leaves}

-- What is read of a record of the log is what the definitions say of it.
pub of_batch : {n m : ℕ} {wp sp wl sl : List ℕ} {d : Desk} {st : Standing} (g : Given n m wp sp wl sl d st) (b mark : ℕ) (q : Bool) → TellsOf m wl d.logged b mark q → q ≡ is_record_of b mark (work_log (areas g))
unfolding read_areas
of_batch g b mark q told = told (work_log (areas g)) g.known.reads g.known.logged

module _ {n m : ℕ} {wp sp wl sl : List ℕ} {d : Desk} {st : Standing} (g : Given n m wp sp wl sl d st) (b i : ℕ) (e : i ≡ open_place b d.rows) where
  pub mark_12 : 8 ≤ i → Answers g (ask (take_mark b)) (Refused NoBatch)
  unfolding request_checks question_checks mark_checks first_broken
  mark_12 h = refuse g (ask (take_mark b)) NoBatch (rw (g.is_sound, open_none g b i e h))

  pub mark_0 : i < 8 → Answers g (ask (take_mark b)) (Number (row_at d.rows i).last)
  mark_0 h = answer g (ask (take_mark b)) (Number (row_at d.rows i).last) (mark_goes (areas g) d g.is_sound b (open_some g b i e h) ∙ rw (← last_is g b i e h))

  pub return_12 : (mark : ℕ) → 8 ≤ i → Answers g (return_to b mark) (Refused NoBatch)
  unfolding request_checks return_checks first_broken
  return_12 mark h = refuse g (return_to b mark) NoBatch (rw (g.is_sound, open_none g b i e h))

  pub return_20 : (mark : ℕ) → i < 8 → is_record_of b mark (work_log (areas g)) ≡ false → Answers g (return_to b mark) (Refused NoMark)
  unfolding request_checks return_checks first_broken
  return_20 mark h q = refuse g (return_to b mark) NoMark (rw (g.is_sound, open_some g b i e h, q))

  -- A RETURN, never short of room: the batch's row says what is left.
  pub return_0 : (mark budget : ℕ) (r : Reply) (h : i < 8) {wp₁ wp' wl' : List ℕ} (x : Turn) → b ≤ top → mark ≤ top → is_record_of b mark (work_log (areas g)) ≡ true
      → Leaves n m wp₁ wl' mark (row_at d.rows i) (batch_at (work_open (areas g)) i).lines (run_of (areas g)) x → Links n wp₁ wp' → r.answer ≡ Done
      → r.desk ≡ record { rows = set d.rows i x.row; logged = x.run.logged; stored = d.stored } → Replies (request (return_to b mark)) (lent wp sp wl sl) d budget r (lent wp' sp wl' sl)
  unfolding returned run_of read_areas return_run row_of of_32_bits request_32 passed
  return_0 mark budget r h {wp₁} {wp'} {wl'} x bt mt ok left links a k =
      let y = batch_at (work_open (areas g)) i in
      let s = run_of (areas g) in
      let f = open_found g b i e h in
      let z = open_zero g b i e h in
      let num : y.number ≡ b = sym (find_number b (work_open (areas g)) y f) in
      let c : Lendable (areas g) = lendable (lent wp sp wl sl) g.lengths in
      let never = return_finds_room (areas g) d c.few c.equal c.small g.is_sound b mark (open_some g b i e h) in
      let rt = return_returned (areas g) d c.few c.equal c.small g.is_sound b mark y f in
      let run : return_of b mark (areas g) ≡ return_run mark y s = ap (λ o. returned mark o s) f in
      let batch : (row_at d.rows i).batch ≡ y.number = ap (λ (q : Row). q.batch) (row_is g i) in
      let last : (row_at d.rows i).last ≡ y.last = ap (λ (q : Row). q.last) (row_is g i) in
      let sh : Shows n m wp₁ wl' x.run (return_run mark y s) = subst (λ (q : ℕ). Shows n m wp₁ wl' x.run (undo_above mark q y.lines s)) batch left.shows in
      let row : x.row ≡ record { batch = b; last = rt.last; undo = next_undo (kept mark y.lines); pending = length (kept mark y.lines) } =
      left.row_is ∙ (λ j. record { batch = (batch ∙ num) j; last = last_after mark ((batch ∙ num) j) y.lines s (last j); undo = next_undo (kept mark y.lines); pending = length (kept mark y.lines) })
      ∙ ap (λ (q : ℕ). record { batch = b; last = q; undo = next_undo (kept mark y.lines); pending = length (kept mark y.lines) }) (sym rt.last_is) in
      left_linked (request (return_to b mark)) wp sp wl sl d g.lengths Done budget (return_run mark y s) r (and_both (le_true b top bt) (le_true mark top mt)) refl (given_slots g) (return_goes (areas g) d g.is_sound b (open_some g b i e h) mark ok never ∙ rw run) sh links a
      (k ∙ ap (λ (q : Row). record { rows = set d.rows i q; logged = x.run.logged; stored = d.stored }) row
      ∙ sym (desk_returned s.log d (given_chain g) g.known.desk (return_run mark y s).log b i rt.last x.run.logged d.stored (kept mark y.lines) z.0 z.1 h rt.opens (sym sh.logged)))
