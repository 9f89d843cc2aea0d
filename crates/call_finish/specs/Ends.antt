-- Commit, abort and write-out, reply by reply.
use Rattle.std.specs.Prelude.{◌≡◌, ℕ, ◌+◌, ◌-◌, ◌*◌, ◌<◌, ◌≤◌, true, false, get_or, leb}
use Rattle.std.proofs.Math.Path.{refl, ap, sym}
use Rattle.std.proofs.Common.{◌∙◌, subst, arith}
use mathlib.Core.List.{List, [], ◌∷◌, append-nil}
use Rattle.std.proofs.Math.ListN.{length}
use Rattle.def_base.specs.Tests.{lt_true, le_true, le_false, true_le, and_true}
use Rattle.def_layout.specs.Entries.{top}
use Rattle.def_layout.specs.declared.Desk.{Desk}
use Rattle.def_layout.specs.Desks.{row_at}
use Rattle.def_layout.specs.Pages.{Page, at}
use Rattle.def_layout.specs.PageBytes.{page_bytes, without_left}
use Rattle.def_layout.specs.Sizes.{page_size}
use Rattle.def_layout.specs.Records as records
use Rattle.def_layout.specs.Records.{batch_row}
use Rattle.def_model.specs.declared.Refusal.TheVariants.{NoBatch}
use Rattle.def_model.specs.declared.Answer.TheVariants.{Done, Refused}
use Rattle.def_model.specs.Areas.{store_page}
use Rattle.def_model.specs.Answers.{first_broken, passed}
use Rattle.def_recovery.specs.Events.{request_32, of_32_bits}
use Rattle.def_model.specs.Batches.{find_batch, unmarked, desk_of}
use Rattle.def_model.specs.Update.{Run, emit}
use Rattle.def_model.specs.Undo.{abort_run}
use Rattle.def_model.specs.Sound.{work_pages, work_log, work_slots, work_open, reserve, reserves_ok}
use Rattle.def_model.specs.Calls.{run_of, aborted, abort_of, commit_checks, abort_checks}
use Rattle.def_model.specs.OnBytes.{Lent, request, commit, abort, write_out, request_checks, read_areas}
use Rattle.law_bytes.specs.Words.{part}
use Rattle.law_areas.specs.Logs.{AllFit, log_filled}
use Rattle.area_lengths.specs.Lent.{lent}
use Rattle.theory_ledger.specs.Batching.{find_number}
use Rattle.area_store.specs.declared.Area.TheVariants as spans
use Rattle.area_store.specs.Lists.{Leads}
use Rattle.law_bytes.specs.LeftLinks.{left_gone}
use Rattle.law_areas.specs.WorkPages.{page_there, links_at}
use Rattle.area_store.specs.Beside.{SlotsLeft}
use Rattle.area_store.specs.Unstored.{records_left, write_out_list}
use Rattle.law_bytes.specs.DeskRows.{without}
use Rattle.theory_desk.specs.Opened.{batch_at}
use Rattle.theory_desk.specs.Places.{found_place}
use Rattle.theory_desk.specs.Runs.{commit_desk, abort_desk}
use Rattle.theory_update.specs.Run.Way.{emit_goes}
use Rattle.record_pages.specs.Pages.{Pages}
use Rattle.log_pending.specs.Batches.{all_found}
use Rattle.log_pending.specs.Holding.{Sits}
use Rattle.tree_write.specs.declared.Run as run
use Rattle.tree_write.specs.Shows.{Shows}
use Rattle.call_reply.specs.declared.Reply.{Reply}
use Rattle.call_reply.specs.Replies.{Replies, Links, leaves_same, left_linked, left_stored}
use Rattle.theory_calls.specs.Checks.{sound_parts}
use Rattle.theory_sound.specs.Kept.{Lendable}
use Rattle.theory_sound.specs.SoundKept.{abort_finds_room}
use Rattle.theory_sound.specs.OfBytes.{lendable}
use Rattle.sound_register.specs.declared.Standing.{Standing}
use Rattle.call_slides.specs.Checked.{commit_goes, abort_goes, write_out_goes}
use Rattle.call_slides.specs.Given.{Given, areas, Answers, refuse, given_chain, given_slots, given_pages, given_links, quiet_links, open_place, open_zero, open_found, live_some, last_is}

-- The page that stands in an area, without its left link.
stands : {n : ℕ} {area : List ℕ} {xs : List Page} {ls : List ℕ} → Pages n area xs ls → (p : ℕ) → p < n → without_left (part area (page_size * p) page_size) ≡ page_bytes (at xs p)
stands {n} {area} {xs} {ls} h p l =
    let i : p < length xs = subst (λ (k : ℕ). p < k) (sym h.size) l in
    ap without_left (ap (λ (b : List ℕ). part b (page_size * p) page_size) h.bytes ∙ page_there xs ls p i h.links) ∙ left_gone (at xs p) (get_or ls p 0) (links_at xs ls p i h.links)

-- Every record that a sound register shows fits its slot.
pub batch_fits : {n m : ℕ} {wp sp wl sl : List ℕ} {d : Desk} {st : Standing} (g : Given n m wp sp wl sl d st) → AllFit 1 (run_of (areas g)).log
unfolding run_of read_areas
batch_fits g = g.known.fits

-- An open batch's lines are found through the log.
pub batch_sits : {n m : ℕ} {wp sp wl sl : List ℕ} {d : Desk} {st : Standing} (g : Given n m wp sp wl sl d st) (b i : ℕ) → i ≡ open_place b d.rows → i < 8
    → Sits (run_of (areas g)).log (batch_at (work_open (areas g)) i)
unfolding run_of read_areas
batch_sits g b i e h = all_found (Sits (work_log (areas g))) b (work_open (areas g)) (batch_at (work_open (areas g)) i) (open_found g b i e h) g.known.holds.sits

module _ {n m : ℕ} {wp sp wl sl : List ℕ} {d : Desk} {st : Standing} (g : Given n m wp sp wl sl d st) (b : ℕ) (none_live : unmarked (find_batch b (work_open (areas g))) ≡ false) where
  pub commit_12 : Answers g (commit b) (Refused NoBatch)
  unfolding request_checks commit_checks first_broken
  commit_12 = refuse g (commit b) NoBatch (rw (g.is_sound, none_live))

  pub abort_12 : Answers g (abort b) (Refused NoBatch)
  unfolding request_checks abort_checks first_broken
  abort_12 = refuse g (abort b) NoBatch (rw (g.is_sound, none_live))

module _ {n m : ℕ} {wp sp wl sl : List ℕ} {d : Desk} {st : Standing} (g : Given n m wp sp wl sl d st) (b i budget : ℕ) (r : Reply) where
  module _ (e : i ≡ open_place b d.rows) (h : i < 8) (live : get_or st.marked i false ≡ false) where
    alive : unmarked (find_batch b (work_open (areas g))) ≡ true
    alive = live_some g b i e h live

    -- An open batch has two slots kept for it.
    slot_kept : d.logged < m
    unfolding reserves_ok reserve read_areas
    slot_kept =
        let f = found_place b (work_open (areas g)) _ (open_found g b i e h) in
        let p = and_true (leb (length (work_log (areas g)) + reserve _ (length (work_open (areas g)))) (work_slots (areas g))) _ (sound_parts (areas g) d g.is_sound).reserves in
        let x = true_le (length (work_log (areas g)) + reserve _ (length (work_open (areas g)))) (work_slots (areas g)) p.0 in
        omega (arith, g.known.logged, given_slots g)

    -- COMMIT: one record more, and all that is unstored is stored.
    module _ {wl' : List ℕ} (u : run.Run) (sh : Shows n m wp wl' u (emit (batch_row records.commit b (row_at d.rows i).last) (run_of (areas g)))) where
      s : Run
      s = emit (batch_row records.commit b (row_at d.rows i).last) (run_of (areas g))

      goes : s.stop ≡ 0
      unfolding s run_of read_areas
      goes = ap (λ t. t.stop) (emit_goes (batch_row records.commit b (row_at d.rows i).last) (run_of (areas g)) refl (lt_true 0 (run_of (areas g)).room (omega (arith, slot_kept, g.known.logged, given_slots g))))

      pub commit_0 : (sl' : List ℕ) → SlotsLeft d.stored u.logged budget wl' sl sl' → d.stored ≤ u.logged
          → r.answer ≡ Done → r.desk ≡ record { rows = without d.rows i; logged = u.logged; stored = u.logged } → Replies (request (commit b)) (lent wp sp wl sl) d budget r (lent wp sp wl' sl')
      unfolding run_of read_areas s
      commit_0 sl' left fewer a k =
          let l = last_is g b i e h in
          let z = open_zero g b i e h in
          let len : length s.log ≡ u.logged = sh.logged in
          let w = records_left m d.stored budget s.log wl' (log_filled m s.log sh.log sh.size) (omega (arith, len)) _ (append-nil _) u.logged (sym len) wp sp wl sl sl' left in
          left_stored (request (commit b)) wp sp wl sl d g.lengths Done budget s [] r sp sl' (given_slots g) (commit_goes (areas g) d g.is_sound b alive ∙ rw (← l)) (leaves_same sh (quiet_links g records.commit b (row_at d.rows i).last refl)) a
          (k ∙ ap (λ (j : ℕ). record { rows = without d.rows i; logged = u.logged; stored = j }) (sym len)
          ∙ sym (commit_desk (run_of (areas g)) d (given_chain g) g.known.desk b _ i u.logged (length s.log) z.0 z.1 h goes (sym len)))
          w.0
          w.1

    -- ABORT: never short of room.
    pub abort_0 : {wp₁ wp' wl' : List ℕ} (u : run.Run) → b ≤ top → Shows n m wp₁ wl' u (abort_run (batch_at (work_open (areas g)) i) (run_of (areas g))) → Links n wp₁ wp' → r.answer ≡ Done
        → r.desk ≡ record { rows = without d.rows i; logged = u.logged; stored = d.stored } → Replies (request (abort b)) (lent wp sp wl sl) d budget r (lent wp' sp wl' sl)
    unfolding aborted run_of read_areas of_32_bits request_32 passed
    abort_0 u bt sh links a k =
        let y = batch_at (work_open (areas g)) i in
        let z = open_zero g b i e h in
        let c : Lendable (areas g) = lendable (lent wp sp wl sl) g.lengths in
        let f : abort_of b (areas g) ≡ abort_run y (run_of (areas g)) = ap (λ o. aborted o (run_of (areas g))) (open_found g b i e h) in
        let never = abort_finds_room (areas g) d c.few c.equal c.small g.is_sound b alive in
        let num : y.number ≡ b = sym (find_number b (work_open (areas g)) y (open_found g b i e h)) in
        left_linked (request (abort b)) wp sp wl sl d g.lengths Done budget (abort_run y (run_of (areas g))) r (le_true b top bt) refl (given_slots g) (abort_goes (areas g) d g.is_sound b alive never ∙ rw f) sh links a
        (k ∙ sym (abort_desk (run_of (areas g)) d (given_chain g) g.known.desk y b i u.logged d.stored num z.0 z.1 h (ap (λ t. t.stop) (sym f) ∙ never) (sym sh.logged)))

module _ {n m : ℕ} {wp sp wl sl : List ℕ} {d : Desk} {st : Standing} (g : Given n m wp sp wl sl d st) (p budget : ℕ) (r : Reply) (few : p < n) where
  -- WRITE-OUT: all that is unstored, and then page p.
  pub write_out_0 : (sp' sl' : List ℕ) → Leads (record { first = record { area = spans.Slots; from = d.stored; count = d.logged - d.stored }; rest = record { area = spans.Pages; from = p; count = 1 } }) budget wp wl (lent wp sp wl sl) (lent wp sp' wl sl')
      → r.answer ≡ Done → r.desk ≡ record { rows = d.rows; logged = d.logged; stored = d.logged } → Replies (request (write_out p)) (lent wp sp wl sl) d budget r (lent wp sp' wl sl')
  unfolding run_of read_areas desk_of
  write_out_0 sp' sl' stored a k =
      let log = work_log (areas g) in
      let x = at (work_pages (areas g)) p in
      let len : d.logged - d.stored ≡ length log - d.stored = ap (λ (j : ℕ). j - d.stored) g.known.logged in
      let sh = g.known.shows sp in
      let there : without_left (part wp (page_size * p) page_size) ≡ page_bytes x = stands g.known.pages p few in
      let w = sym (stored _ (write_out_list m d.stored budget log wl (log_filled m log sh.log sh.size) g.known.stored wp p x there (d.logged - d.stored) len)) in
      left_stored (request (write_out p)) wp sp wl sl d g.lengths Done budget (run_of (areas g)) (store_page p x ∷ []) r sp' sl' (given_slots g)
      (write_out_goes (areas g) d g.is_sound p (le_false _ _ (subst (λ (j : ℕ). p < j) (sym (given_pages g)) few))) (leaves_same sh (given_links g)) a
      (k ∙ ap (λ (j : ℕ). record { rows = d.rows; logged = j; stored = j }) g.known.logged ∙ ap (λ (q : Desk). record { rows = q.rows; logged = length log; stored = length log }) g.known.desk)
      (ap (λ (q : Lent). q.stable_pages) w)
      (ap (λ (q : Lent). q.stable_log) w)
