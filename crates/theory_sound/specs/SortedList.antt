-- FETCH, NEXT, PREVIOUS, INSERT AND DELETE ANSWER AS A SORTED LIST WOULD, on every sound register (return: `Returning`). The list is the records in the
-- leaves, by rising key (`leaves_rise`); 01's rules on held keys and free places come first, in number order.
use Prim.Native.Nat.{ℕ, suc, ◌+◌, ◌-◌, ◌*◌, ◌≤◌, ◌<◌}
use Rattle.std.specs.Prelude.{◌≡◌, ◌≢◌, Bool, true, false, not, List, [], ◌∷◌, eqb}
use Rattle.std.proofs.Math.Path.{refl, ap}
use Rattle.std.proofs.Common.{◌∙◌}
use Rattle.std.proofs.Math.Option.{Option, none, some}
use native.Mathlib.Omega.{arith}
use Rattle.std.proofs.Math.ListN.{length, length-map}
use Rattle.def_base.specs.Tests.{true_le, neq_false}
use Rattle.def_layout.specs.declared.Entry.{Entry}
use Rattle.def_layout.specs.declared.Desk.{Desk}
use Rattle.def_layout.specs.Entries.{top, look, seek, insert_sorted, remove_key}
use Rattle.def_layout.specs.Pages.{at, map_bits}
use Rattle.def_layout.specs.Records
use Rattle.def_model.specs.declared.Refusal.{Refusal}
use Rattle.def_model.specs.declared.Refusal.TheVariants.{ZeroKey, Unsound, NoBatch, Held, Present, Absent, SlotsShort, PagesShort}
use Rattle.def_model.specs.declared.Answer.TheVariants.{Done, Number, Pair}
use Rattle.def_model.specs.Areas.{Areas, page_in, pages_of}
use Rattle.def_model.specs.Answers.{Outcome, Check, check, first_broken, refuse}
use Rattle.def_model.specs.Fit.{found}
use Rattle.def_model.specs.Batches.{Batch, find_batch, pending_count, unmarked}
use Rattle.def_model.specs.Pending.{held, held_between, held_from}
use Rattle.def_model.specs.Lookup.{fetched, next_above, last_below}
use Rattle.def_model.specs.TreeRules.{tree_ok, leaf_records, used_pages}
use Rattle.def_model.specs.Update.{put_record, remove_record}
use Rattle.def_model.specs.Sound.{sound, reserve, work_pages, work_log, work_slots, work_open, update_has_slots, update_has_pages}
use Rattle.def_model.specs.Calls.{run_of, run_side, kept_run, unchanged, no_slots, no_pages, is_none, value_or, next_limit, next_answer, last_of, fetch_checks, next_checks, before, previous_limit, previous_checks, insert_checks, insert_slide, delete_checks, delete_slide}
use Rattle.def_model.specs.OnBytes.{request, ask, fetch, next, previous, insert, delete, question_checks, question_answer, checks, request_checks, does, request_does, refused, refused_work, refused_desk, outcome_by, outcome}
use Rattle.theory_tree.specs.Step.Steps.{by_insert, by_delete}
use Rattle.theory_update.specs.Laws.{Ready, put_law, remove_law}
use Rattle.theory_update.specs.Find.Fetching.{fetched_is, next_above_is}
use Rattle.theory_update.specs.Find.Backwards.{previous_below_is}
use Rattle.theory_pages.specs.Layout.{map_laid}
use Rattle.law_areas.specs.Typed.{pages_back}
use Rattle.law_areas.specs.Outcomes.{broken_refused, unbroken_does}
use Rattle.theory_calls.specs.Checks.{sound_parts}
use Rattle.theory_sound.specs.FromSound.{side_laid, sound_lows}

-- THE LIST.
abbrev pub list : Areas → List Entry
list a = leaf_records (work_pages a)

-- Fetch, by the list.
unfoldable pub list_fetch : Option ℕ → Areas → Desk → Outcome
list_fetch none a d = refuse Absent a d
list_fetch (some v) a d = unchanged (Number v) a d

-- Next and previous, by the list.
unfoldable pub list_next : Option Entry → Areas → Desk → Outcome
list_next none a d = refuse Absent a d
list_next (some e) a d = unchanged (Pair e.key e.val) a d

-- Insert, delete and return: the list is another.
pub record Changed (o : Outcome) (es : List Entry) : Type 0 where
  pub done : o.answer ≡ Done
  pub leaves : leaf_records (pages_of o.work.pages) ≡ es
  pub nothing_stored : o.stores ≡ []

skip : (b : Bool) (r : Refusal) (cs : List Check) → b ≡ false → first_broken (check b r ∷ cs) ≡ first_broken cs
unfolding first_broken
skip b r cs e = rw e

skip_not : (b : Bool) (r : Refusal) (cs : List Check) → b ≡ true → first_broken (check (not b) r ∷ cs) ≡ first_broken cs
unfolding first_broken
skip_not b r cs e = rw e

module _ (a : Areas) (d : Desk) (s : sound a d ≡ true) where
  tree : tree_ok (work_pages a) ≡ true
  tree = (sound_parts a d s).tree

  -- ---- the checks that pass, one after another

  fetch_asks : (b k : ℕ) (y : Batch) → find_batch b (work_open a) ≡ some y → held b k (work_open a) ≡ false → first_broken (fetch_checks b k a d) ≡ first_broken (check (not (found (fetched k (work_pages a)))) Absent ∷ [])
  unfolding fetch_checks is_none
  fetch_asks b k y f h =
      skip_not (sound a d) Unsound _ s ∙ skip (is_none (find_batch b (work_open a))) NoBatch _ (ap is_none f) ∙ skip (held b k (work_open a)) Held _ h

  next_asks : (b k : ℕ) (y : Batch) → find_batch b (work_open a) ≡ some y → held_between b k (next_limit (next_above k (work_pages a))) (work_open a) ≡ false → first_broken (next_checks b k a d) ≡ first_broken (check (is_none (next_above k (work_pages a))) Absent ∷ [])
  unfolding next_checks is_none
  next_asks b k y f h =
      skip_not (sound a d) Unsound _ s ∙ skip (is_none (find_batch b (work_open a))) NoBatch _ (ap is_none f) ∙ skip (held_between b k (next_limit (next_above k (work_pages a))) (work_open a)) Held _ h

  previous_asks : (b k : ℕ) (y : Batch) → find_batch b (work_open a) ≡ some y → held_from b (previous_limit (before k a)) k (work_open a) ≡ false → first_broken (previous_checks b k a d) ≡ first_broken (check (is_none (before k a)) Absent ∷ [])
  unfolding previous_checks is_none
  previous_asks b k y f h =
      skip_not (sound a d) Unsound _ s ∙ skip (is_none (find_batch b (work_open a))) NoBatch _ (ap is_none f) ∙ skip (held_from b (previous_limit (before k a)) k (work_open a)) Held _ h

  insert_asks : (b k : ℕ) → k ≢ 0 → unmarked (find_batch b (work_open a)) ≡ true → held b k (work_open a) ≡ false → first_broken (insert_checks b k a d) ≡ first_broken (check (found (fetched k (work_pages a))) Present ∷ no_slots a ∷ no_pages a ∷ [])
  unfolding insert_checks
  insert_asks b k nz u h = skip (eqb k 0) ZeroKey _ (neq_false nz) ∙ skip_not (sound a d) Unsound _ s ∙ skip_not (unmarked (find_batch b (work_open a))) NoBatch _ u ∙ skip (held b k (work_open a)) Held _ h

  delete_asks : (b k : ℕ) → unmarked (find_batch b (work_open a)) ≡ true → held b k (work_open a) ≡ false → first_broken (delete_checks b k a d) ≡ first_broken (check (not (found (fetched k (work_pages a)))) Absent ∷ no_slots a ∷ no_pages a ∷ [])
  unfolding delete_checks
  delete_asks b k u h = skip_not (sound a d) Unsound _ s ∙ skip_not (unmarked (find_batch b (work_open a))) NoBatch _ u ∙ skip (held b k (work_open a)) Held _ h

  -- Free places are asked for last.
  places_free : update_has_slots (work_slots a) (work_log a) (work_open a) ≡ true → update_has_pages (work_pages a) (work_open a) ≡ true → first_broken (no_slots a ∷ no_pages a ∷ []) ≡ first_broken []
  places_free p q = skip_not (update_has_slots (work_slots a) (work_log a) (work_open a)) SlotsShort (no_pages a ∷ []) p ∙ skip_not (update_has_pages (work_pages a) (work_open a)) PagesShort [] q

  -- ---- fetch

  pub fetch_answers : (b k : ℕ) (y : Batch) → k ≤ top → find_batch b (work_open a) ≡ some y → held b k (work_open a) ≡ false → outcome (request (ask (fetch b k))) a d ≡ list_fetch (look k (list a)) a d
  unfolding outcome outcome_by checks request_checks does request_does refused refused_work refused_desk question_checks question_answer list_fetch value_or first_broken found
  fetch_answers b k y kt f h =
      ap (λ o. outcome_by o (request (ask (fetch b k))) a d)
      (fetch_asks b k y f h)
      ∙ by (fetched k (work_pages a)) (look k (list a)) refl (fetched_is k (work_pages a) tree kt)
    where
      by : (o q : Option ℕ) → fetched k (work_pages a) ≡ o → o ≡ q → outcome_by (first_broken (check (not (found o)) Absent ∷ [])) (request (ask (fetch b k))) a d ≡ list_fetch q a d
      by none q e w = ap (λ z. list_fetch z a d) w
      by (some v) q e w = ap (λ z. unchanged (Number (value_or z)) a d) e ∙ ap (λ z. list_fetch z a d) w

  -- ---- next

  map_empty : 0 < length a.work.pages → (at (work_pages a) 0).entries ≡ []
  map_empty pos =
      let l : length (work_pages a) ≡ length a.work.pages = length-map a.work.pages page_in in
      (map_laid (length (work_pages a)) (at (work_pages a) 0) (side_laid a.work (sound_parts a d s).layouts 0 (omega arith))).none_held

  pub next_answers : (b k : ℕ) (y : Batch) → 0 < length a.work.pages → find_batch b (work_open a) ≡ some y → held_between b k (next_limit (seek (suc k) (list a))) (work_open a) ≡ false
      → outcome (request (ask (next b k))) a d ≡ list_next (seek (suc k) (list a)) a d
  unfolding outcome outcome_by checks request_checks does request_does refused refused_work refused_desk question_checks question_answer is_none list_next next_answer first_broken
  next_answers b k y pos f h =
      let e = next_above_is k (work_pages a) tree (map_empty pos) in
      ap (λ o. outcome_by o (request (ask (next b k))) a d)
      (next_asks b k y f (ap (λ z. held_between b k (next_limit z) (work_open a)) e ∙ h))
      ∙ by (next_above k (work_pages a)) (seek (suc k) (list a)) refl e
    where
      by : (o q : Option Entry) → next_above k (work_pages a) ≡ o → o ≡ q → outcome_by (first_broken (check (is_none o) Absent ∷ [])) (request (ask (next b k))) a d ≡ list_next q a d
      by none q e w = ap (λ z. list_next z a d) w
      by (some v) q e w = ap (λ z. unchanged (next_answer z) a d) e ∙ ap (λ z. list_next z a d) w

  -- ---- previous

  pub previous_answers : (b k : ℕ) (y : Batch) → k ≤ top → 0 < length a.work.pages → find_batch b (work_open a) ≡ some y → held_from b (previous_limit (last_below k (list a))) k (work_open a) ≡ false
      → outcome (request (ask (previous b k))) a d ≡ list_next (last_below k (list a)) a d
  unfolding outcome outcome_by checks request_checks does request_does refused refused_work refused_desk question_checks question_answer is_none list_next next_answer first_broken
  previous_answers b k y kt pos f h =
      let e = previous_below_is k (work_pages a) a.work.lefts tree (sound_parts a d s).lefts (map_empty pos) kt in
      ap (λ o. outcome_by o (request (ask (previous b k))) a d)
      (previous_asks b k y f (ap (λ z. held_from b (previous_limit z) k (work_open a)) e ∙ h))
      ∙ by (before k a) (last_below k (list a)) refl e
    where
      by : (o q : Option Entry) → before k a ≡ o → o ≡ q → outcome_by (first_broken (check (is_none o) Absent ∷ [])) (request (ask (previous b k))) a d ≡ list_next q a d
      by none q e w = ap (λ z. list_next z a d) w
      by (some v) q e w = ap (λ z. unchanged (next_answer z) a d) e ∙ ap (λ z. list_next z a d) w

  -- ---- insert and delete

  module _ (few : length a.work.pages ≤ map_bits) where
    ready : Ready (run_of a)
    unfolding run_of
    ready = let l = length-map a.work.pages page_in in record { test = tree; lows = sound_lows a d s; goes = refl; few = omega arith }

    run_list : leaf_records (run_of a).pages ≡ list a
    unfolding run_of
    run_list = refl

    -- A key that is there.
    pub insert_present : (b k v w : ℕ) → k ≢ 0 → k ≤ top → unmarked (find_batch b (work_open a)) ≡ true → held b k (work_open a) ≡ false → look k (list a) ≡ some w → outcome (request (insert b k v)) a d ≡ refuse Present a d
    unfolding checks request_checks refused refused_work refused_desk first_broken found
    insert_present b k v w nz kt u h p =
        broken_refused (request (insert b k v)) a d Present
        (insert_asks b k nz u h ∙ ap (λ z. first_broken (check (found z) Present ∷ no_slots a ∷ no_pages a ∷ [])) (fetched_is k (work_pages a) tree kt ∙ p))

    slots_room : update_has_slots (work_slots a) (work_log a) (work_open a) ≡ true → 32 ≤ (run_of a).room
    unfolding update_has_slots reserve run_of
    slots_room e = let y = true_le (length (work_log a) + 32 + (32 * suc (pending_count (work_open a)) + 2 * length (work_open a))) (work_slots a) e in omega arith

    pages_room : update_has_pages (work_pages a) (work_open a) ≡ true → used_pages (run_of a).pages + 7 ≤ length (run_of a).pages
    unfolding update_has_pages run_of
    pages_room e = let y = true_le (7 + 7 * suc (pending_count (work_open a))) (length (work_pages a) - used_pages (work_pages a)) e in omega arith

    -- A key that is not.
    pub insert_answers : (b k v : ℕ) → k ≢ 0 → k ≤ top → unmarked (find_batch b (work_open a)) ≡ true → held b k (work_open a) ≡ false → look k (list a) ≡ none
        → update_has_slots (work_slots a) (work_log a) (work_open a) ≡ true → update_has_pages (work_pages a) (work_open a) ≡ true → Changed (outcome (request (insert b k v)) a d) (insert_sorted k v (list a))
    unfolding checks request_checks does request_does insert_slide first_broken found kept_run run_side
    insert_answers b k v nz kt u h ab p q =
        let e : outcome (request (insert b k v)) a d ≡ kept_run Done a (put_record Records.insert b (last_of (find_batch b (work_open a))) k v (run_of a)) d
        = unbroken_does (request (insert b k v)) a d
        (insert_asks b k nz u h ∙ ap (λ z. first_broken (check (found z) Present ∷ no_slots a ∷ no_pages a ∷ [])) (fetched_is k (work_pages a) tree kt ∙ ab) ∙ places_free p q) in
        let t = put_record Records.insert b (last_of (find_batch b (work_open a))) k v (run_of a) in
        let kp = put_law Records.insert b (last_of (find_batch b (work_open a))) k v (run_of a) ready kt by_insert (ap (look k) run_list ∙ ab) (slots_room p) (pages_room q) in
        record { done = ap (λ o. o.answer) e; leaves = ap (λ o. leaf_records (pages_of o.work.pages)) e ∙ ap leaf_records (pages_back t.pages) ∙ kp.holds ∙ ap (insert_sorted k v) run_list; nothing_stored = ap (λ o. o.stores) e }

    pub delete_answers : (b k w : ℕ) → k ≤ top → unmarked (find_batch b (work_open a)) ≡ true → held b k (work_open a) ≡ false → look k (list a) ≡ some w
        → update_has_slots (work_slots a) (work_log a) (work_open a) ≡ true → update_has_pages (work_pages a) (work_open a) ≡ true → Changed (outcome (request (delete b k)) a d) (remove_key k (list a))
    unfolding checks request_checks does request_does delete_slide first_broken found kept_run run_side value_or
    delete_answers b k w kt u h th p q =
        let g : fetched k (work_pages a) ≡ some w = fetched_is k (work_pages a) tree kt ∙ th in
        let t = remove_record Records.delete b (last_of (find_batch b (work_open a))) k w (run_of a) in
        let e : outcome (request (delete b k)) a d ≡ kept_run Done a t d
        = unbroken_does (request (delete b k)) a d
        (delete_asks b k u h ∙ ap (λ z. first_broken (check (not (found z)) Absent ∷ no_slots a ∷ no_pages a ∷ [])) g ∙ places_free p q)
        ∙ ap (λ z. kept_run Done a (remove_record Records.delete b (last_of (find_batch b (work_open a))) k (value_or z) (run_of a)) d) g in
        let kp = remove_law Records.delete b (last_of (find_batch b (work_open a))) k w w (run_of a) ready kt by_delete (ap (look k) run_list ∙ th) (slots_room p) (pages_room q) in
        record { done = ap (λ o. o.answer) e; leaves = ap (λ o. leaf_records (pages_of o.work.pages)) e ∙ ap leaf_records (pages_back t.pages) ∙ kp.holds ∙ ap (remove_key k) run_list; nothing_stored = ap (λ o. o.stores) e }

    pub delete_absent : (b k : ℕ) → k ≤ top → unmarked (find_batch b (work_open a)) ≡ true → held b k (work_open a) ≡ false → look k (list a) ≡ none → outcome (request (delete b k)) a d ≡ refuse Absent a d
    unfolding checks request_checks refused refused_work refused_desk first_broken found
    delete_absent b k kt u h p =
        broken_refused (request (delete b k)) a d Absent
        (delete_asks b k u h ∙ ap (λ z. first_broken (check (not (found z)) Absent ∷ no_slots a ∷ no_pages a ∷ [])) (fetched_is k (work_pages a) tree kt ∙ p))
