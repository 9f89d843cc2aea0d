-- Insert and delete: their checks, and reply by reply.
use Rattle.std.specs.Prelude.{◌≡◌, ◌≢◌, ℕ, ◌+◌, ◌<◌, ◌≤◌, Bool, true, false, not, List, [], ◌∷◌, set, Result, MatchResult}
use Rattle.std.proofs.Math.Path.{refl, ap, sym, subst}
use Rattle.std.proofs.Common.{◌∙◌}
use Rattle.std.proofs.Math.Option.{Option, none, some}
use Rattle.def_base.specs.Tests.{clash, neq_false, and_both, le_true}
use Rattle.def_layout.specs.declared.Desk.{Desk}
use Rattle.def_layout.specs.Desks.{row_at}
use Rattle.def_layout.specs.Entries.{top}
use Rattle.def_layout.specs.Records as records
use Rattle.def_model.specs.declared.Refusal.{Refusal}
use Rattle.def_model.specs.declared.Refusal.TheVariants.{NoBatch, Held, Present, Absent, SlotsShort, PagesShort}
use Rattle.def_model.specs.declared.Answer.TheVariants.{Done, Refused}
use Rattle.def_model.specs.Answers.{Check, check, first_broken, passed}
use Rattle.def_recovery.specs.Events.{request_32, of_32_bits}
use Rattle.def_model.specs.Areas.{Areas}
use Rattle.def_model.specs.Fit.{found}
use Rattle.def_model.specs.Lookup.{fetched}
use Rattle.def_model.specs.Pending.{held}
use Rattle.def_model.specs.Batches.{find_batch, unmarked}
use Rattle.def_model.specs.Update.{put_record, remove_record}
use Rattle.def_model.specs.Sound.{work_pages, work_log, work_slots, work_open, update_has_slots, update_has_pages}
use Rattle.def_model.specs.Calls.{run_of, value_or, is_unsound, no_live_batch, held_change, no_slots, no_pages, zero_key, insert_checks, delete_checks}
use Rattle.def_model.specs.OnBytes.{Lent, request, insert, delete, request_checks, read_areas}
use Rattle.sound_parts.specs.Reserves.{update_slots_by, update_pages_by}
use Rattle.area_lengths.specs.Lent.{lent}
use Rattle.law_bytes.specs.DeskRows.{place_of}
use Rattle.theory_desk.specs.Runs.{insert_desk, delete_desk}
use Rattle.tree_write.specs.declared.Run as run
use Rattle.tree_write.specs.Shows.{Shows}
use Rattle.call_reply.specs.declared.Reply.{Reply}
use Rattle.call_reply.specs.Replies.{Replies, Links, left_linked}
use Rattle.theory_sound.specs.Kept.{Lendable}
use Rattle.theory_sound.specs.SoundKept.{insert_runs, delete_runs}
use Rattle.theory_sound.specs.OfBytes.{lendable}
use Rattle.sound_register.specs.declared.Standing.{Standing}
use Rattle.call_slides.specs.Checked.{insert_goes, delete_goes}
use Rattle.call_slides.specs.Given.{Given, areas, Answers, refuse, given_chain, given_slots, open_place, open_zero, last_is}
use Rattle.call_slides.specs.Begin.{update_slots, update_pages}

-- The checks of an insert and of a delete, which differ in the key's.
unfoldable pub update_checks : ℕ → ℕ → Bool → Refusal → Areas → Desk → List Check
update_checks b k wrong says a d = is_unsound a d ∷ no_live_batch b a ∷ held_change b k a ∷ check wrong says ∷ no_slots a ∷ no_pages a ∷ []

-- A check that is not broken is passed over.
skipped : (c : Check) (cs : List Check) → c.broken ≡ false → first_broken (c ∷ cs) ≡ first_broken cs
unfolding first_broken
skipped c cs e = rw e

-- What an update that no check refuses may rely on, its batch's row being at place i.
pub record Free (d : Desk) (l : Lent) (b k : ℕ) (wrong : Bool) (says : Refusal) (i : ℕ) : Type 0 where
  pub place : i ≡ open_place b d.rows
  pub low : i < 8
  pub right : wrong ≡ false
  pub slots : update_has_slots (work_slots (read_areas l)) (work_log (read_areas l)) (work_open (read_areas l)) ≡ true
  pub pages : update_has_pages (work_pages (read_areas l)) (work_open (read_areas l)) ≡ true
  pub none_broken : first_broken (update_checks b k wrong says (read_areas l) d) ≡ none

-- What the checks come to: the place of the batch's row, or which of them is the first broken.
abbrev pub Bars : (d : Desk) (l : Lent) (b k : ℕ) (wrong : Bool) (says : Refusal) (u : Result ℕ Refusal) → Type 0
Bars d l b k wrong says u = MatchResult u (Free d l b k wrong says) (λ why. first_broken (update_checks b k wrong says (read_areas l) d) ≡ some why)

module _ {n m : ℕ} {wp sp wl sl : List ℕ} {d : Desk} {st : Standing} (g : Given n m wp sp wl sl d st) (b k : ℕ) where
  -- ---- the checks in their order

  module _ (wrong : Bool) (says : Refusal) where
    abbrev Stops : Refusal → Type 0
    Stops why = first_broken (update_checks b k wrong says (areas g) d) ≡ some why

    pub stop_12 : unmarked (find_batch b (work_open (areas g))) ≡ false → Stops NoBatch
    unfolding update_checks first_broken
    stop_12 q = rw (g.is_sound, q)

    module _ (live : unmarked (find_batch b (work_open (areas g))) ≡ true) where
      pub stop_14 : held b k (work_open (areas g)) ≡ true → Stops Held
      unfolding update_checks first_broken
      stop_14 q = rw (g.is_sound, live, q)

      module _ (q : held b k (work_open (areas g)) ≡ false) where
        pub stop_key : wrong ≡ true → Stops says
        unfolding update_checks first_broken
        stop_key w = rw (g.is_sound, live, q, w)

        module _ (w : wrong ≡ false) (o : ℕ) (used : o ≡ place_of 0 d.rows) where
          slots_are : {x : Bool} → update_slots_by m d.logged st.pending o ≡ x → update_has_slots (work_slots (areas g)) (work_log (areas g)) (work_open (areas g)) ≡ x
          slots_are s = update_slots g ∙ ap (update_slots_by m d.logged st.pending) (sym used) ∙ s

          pub stop_17 : update_slots_by m d.logged st.pending o ≡ false → Stops SlotsShort
          unfolding update_checks first_broken
          stop_17 s = rw (g.is_sound, live, q, w, slots_are s)

          module _ (s : update_slots_by m d.logged st.pending o ≡ true) where
            pub stop_18 : update_pages_by st.free st.pending ≡ false → Stops PagesShort
            unfolding update_checks first_broken
            stop_18 p = rw (g.is_sound, live, q, w, slots_are s, update_pages g ∙ p)

            pub no_stop : update_pages_by st.free st.pending ≡ true → (i : ℕ) → i ≡ open_place b d.rows → i < 8 → Free d (lent wp sp wl sl) b k wrong says i
            unfolding update_checks first_broken
            no_stop p i e h =
                record { place = e; low = h; right = w; slots = slots_are s; pages = update_pages g ∙ p; none_broken = rw (g.is_sound, live, q, w, slots_are s, update_pages g ∙ p) }

  -- ---- the key's own check

  abbrev value : Option ℕ
  value = fetched k (work_pages (areas g))

  found_some : (o : Option ℕ) → not (found o) ≡ false → o ≡ some (value_or o)
  unfolding found value_or
  found_some none e = clash e
  found_some (some v) e = refl

  found_none : (o : Option ℕ) → found o ≡ false → o ≡ none
  unfolding found
  found_none none e = refl
  found_none (some v) e = clash e

  as_insert : (wrong : Bool) (o : Option Refusal) → k ≢ 0 → wrong ≡ found value → first_broken (update_checks b k wrong Present (areas g) d) ≡ o → first_broken (insert_checks b k (areas g) d) ≡ o
  unfolding update_checks insert_checks
  as_insert wrong o nz w e =
      skipped (zero_key k) (update_checks b k (found value) Present (areas g) d) (neq_false nz) ∙ subst (λ (x : Bool). first_broken (update_checks b k x Present (areas g) d) ≡ o) w e

  as_delete : (wrong : Bool) (o : Option Refusal) → wrong ≡ not (found value) → first_broken (update_checks b k wrong Absent (areas g) d) ≡ o → first_broken (delete_checks b k (areas g) d) ≡ o
  unfolding update_checks delete_checks
  as_delete wrong o w e = subst (λ (x : Bool). first_broken (update_checks b k x Absent (areas g) d) ≡ o) w e

  can : Lendable (areas g)
  can = lendable (lent wp sp wl sl) g.lengths

  module _ (wrong : Bool) (why : Refusal) where
    pub insert_barred : (v : ℕ) → k ≢ 0 → wrong ≡ found value → first_broken (update_checks b k wrong Present (areas g) d) ≡ some why → Answers g (insert b k v) (Refused why)
    unfolding request_checks
    insert_barred v nz w h = refuse g (insert b k v) why (as_insert wrong (some why) nz w h)

    pub delete_barred : wrong ≡ not (found value) → first_broken (update_checks b k wrong Absent (areas g) d) ≡ some why → Answers g (delete b k) (Refused why)
    unfolding request_checks
    delete_barred w h = refuse g (delete b k) why (as_delete wrong (some why) w h)

  -- ---- where no check refuses: one record more, and the row and the count anew

  module _ {wp₁ wp' wl' : List ℕ} (wrong : Bool) (i budget : ℕ) (t : run.Run) (r : Reply) (kt : k ≤ top) (bt : b ≤ top) (links : Links n wp₁ wp') (a : r.answer ≡ Done)
      (de : r.desk ≡ record { rows = set d.rows i (record { batch = b; last = t.logged; undo = t.logged; pending = (row_at d.rows i).pending + 1 }); logged = t.logged; stored = d.stored }) where
    pub insert_0 : (v : ℕ) → v ≤ top → k ≢ 0 → wrong ≡ found value → Free d (lent wp sp wl sl) b k wrong Present i → Shows n m wp₁ wl' t (put_record records.insert b (row_at d.rows i).last k v (run_of (areas g)))
        → Replies (request (insert b k v)) (lent wp sp wl sl) d budget r (lent wp' sp wl' sl)
    unfolding run_of read_areas of_32_bits request_32 passed
    insert_0 v vt nz w f sh =
        let l = last_is g b i f.place f.low in
        let z = open_zero g b i f.place f.low in
        let x = insert_runs (areas g) d can.few can.equal can.small g.is_sound b (row_at d.rows i).last k v kt (found_none value (sym w ∙ f.right)) f.slots f.pages in
        left_linked (request (insert b k v)) wp sp wl sl d g.lengths Done budget (put_record records.insert b (row_at d.rows i).last k v (run_of (areas g))) r
        (and_both (le_true b top bt) (and_both (le_true k top kt) (le_true v top vt))) refl (given_slots g)
        (insert_goes (areas g) d b k v (as_insert wrong none nz w f.none_broken) ∙ rw (← l)) sh links a
        (de ∙ sym (insert_desk (run_of (areas g)) d (given_chain g) g.known.desk b _ k v i _ t.logged d.stored z.0 z.1 f.low refl x.ready.goes (sym sh.logged)))

    pub delete_0 : (v : ℕ) → v ≡ value_or value → wrong ≡ not (found value) → Free d (lent wp sp wl sl) b k wrong Absent i
        → Shows n m wp₁ wl' t (remove_record records.delete b (row_at d.rows i).last k v (run_of (areas g)))
        → Replies (request (delete b k)) (lent wp sp wl sl) d budget r (lent wp' sp wl' sl)
    unfolding run_of read_areas of_32_bits request_32 passed
    delete_0 v e w f sh =
        let l = last_is g b i f.place f.low in
        let z = open_zero g b i f.place f.low in
        let there : value ≡ some v = found_some value (sym w ∙ f.right) ∙ ap some (sym e) in
        let x = delete_runs (areas g) d can.few can.equal can.small g.is_sound b (row_at d.rows i).last k v kt there f.slots f.pages in
        left_linked (request (delete b k)) wp sp wl sl d g.lengths Done budget (remove_record records.delete b (row_at d.rows i).last k v (run_of (areas g))) r
        (and_both (le_true b top bt) (le_true k top kt)) refl (given_slots g)
        (delete_goes (areas g) d b k (as_delete wrong none w f.none_broken) ∙ rw (← l, ← e)) sh links a
        (de ∙ sym (delete_desk (run_of (areas g)) d (given_chain g) g.known.desk b _ k v i _ t.logged d.stored z.0 z.1 f.low refl x.ready.goes (sym sh.logged)))
