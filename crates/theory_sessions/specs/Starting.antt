-- A formatting or loading of any bytes shows the register that sessions go on from.
use Rattle.std.specs.Prelude.{ℕ, ◌-◌, ◌*◌, ◌≤◌, ◌≡◌, true, take}
use Rattle.std.proofs.Math.Path.{refl, sym, ap, subst}
use Rattle.std.proofs.Common.{◌∙◌}
use Rattle.std.proofs.Math.Bool.{false}
use mathlib.Core.List.{List, [], map}
use Rattle.std.proofs.Math.Option.{none}
use native.Mathlib.Omega.{arith}
use Rattle.std.proofs.Math.ListN.{length, replicate, length-replicate}
use Rattle.std.proofs.Math.Seq.{take_all}
use Rattle.def_layout.specs.declared.Desk.{Desk}
use Rattle.def_layout.specs.Desks.{empty_desk}
use Rattle.def_layout.specs.Numbers.{zeros}
use Rattle.def_layout.specs.Pages.{Page, zero_page, map_bits}
use Rattle.def_layout.specs.PageBytes.{page}
use Rattle.def_layout.specs.RecordBytes.{empty}
use Rattle.def_layout.specs.Sizes.{page_size, slot_size}
use Rattle.def_model.specs.declared.Answer.TheVariants.{Done}
use Rattle.def_model.specs.Areas.{Side, Areas, Store, store_some, store_all}
use Rattle.def_model.specs.Links.{relinked}
use Rattle.def_model.specs.Loading.{columns, loaded_pages}
use Rattle.def_model.specs.Answers.{Outcome, first_broken, passed}
use Rattle.def_model.specs.Log.{slots_from, log_area}
use Rattle.def_model.specs.Redo.{replay}
use Rattle.def_model.specs.Calls.{start_side, formatted_pages, format_stores, format_areas, load_checks, load_areas}
use Rattle.def_model.specs.OnBytes as groups
use Rattle.def_model.specs.CallNames.{load}
use Rattle.def_model.specs.OnBytes.{Start, start, checks, start_checks, does, start_does, outcome_by, outcome, Lent, Result, call, call_by, read_areas, work_bytes, log_bytes, lent_after, store_all_bytes}
use Rattle.def_recovery.specs.Book.{new_book}
use Rattle.def_recovery.specs.Events.{World, started, first_slides, formatted, start_32, of_32_bits}
use Rattle.def_sessions.specs.Play.{ask, Machine, ended, play_step, new}
use Rattle.law_bytes.specs.Pieces.{All}
use Rattle.law_areas.specs.Lengths.{Lengths, lengths_enough}
use Rattle.law_areas.specs.Outcomes.{unbroken_does}
use Rattle.law_areas.specs.Pages.{AllPagesFit, zero_pages_read}
use Rattle.law_areas.specs.Working.{read_work_length}
use Rattle.law_areas.specs.Logs.{AllFit, empty_log_read, read_log_length}
use Rattle.law_areas.specs.Formatting.{format_bytes}
use Rattle.theory_refusals.specs.Order.{passed_does}
use Rattle.theory_history.specs.Origin.{Origin, origin_pages, origin_length}
use Rattle.theory_history.specs.Start.{pages_after}
use Rattle.theory_history.specs.Growing.{start_history}
use Rattle.theory_history.specs.FormattedOrigin.{formatted_origin, formatted_is}
use Rattle.theory_ranges.specs.Histories.{ranged_history_start, ranged_now}
use Rattle.theory_load.specs.Checked.{load_starts}
use Rattle.theory_recovery.specs.Theorem.{begun}
use Rattle.theory_sessions.specs.StoresRead.{StoreFits, stores_read, fits_first, format_fits}
use Rattle.theory_sessions.specs.Leaving.{SideRead, held_read, pages_count, log_count}
use Rattle.theory_sessions.specs.Tie.{running, Tied}

-- What a formatting or loading to these pages and so many slots comes to.
abbrev made : List Page → ℕ → Outcome
made pages m = record { answer = Done; work = start_side pages m; desk = empty_desk; stores = format_stores pages m }

-- Its machine, on stable areas in which this stood.
abbrev made_on : Side → List Page → ℕ → Areas
made_on s pages m = record { work = start_side pages m; stable = store_some (length (format_stores pages m)) (format_stores pages m) s }

-- ---- pages that an origin starts with

module _ (o : Origin) (n m : ℕ) (least : o.least ≤ n) (most : n ≤ map_bits) (pages : List Page) (are : origin_pages o n ≡ pages) where
  ts : List Store
  ts = format_stores pages m

  count : length pages ≡ n
  count = ap length (sym are) ∙ origin_length o n

  fit : AllPagesFit pages
  unfolding pages_after replay
  fit = subst AllPagesFit are (ranged_now o n [] (ranged_history_start o n)).pages

  fits : All (StoreFits n m) ts
  unfolding ts
  fits = format_fits n m pages fit count

  -- What is stored does not depend on what stood there.
  same_stable : (l k : Lent) → length l.stable_pages ≡ page_size * n → length l.stable_log ≡ slot_size * m → length k.stable_pages ≡ page_size * n → length k.stable_log ≡ slot_size * m
      → (read_areas (store_all_bytes ts l)).stable ≡ store_all ts (read_areas k).stable
  unfolding ts read_areas
  same_stable l k a b c d =
      let w : page_size * n ≡ page_size * length pages = ap (λ x. page_size * x) (sym count) in
      ap (λ q. (read_areas q).stable) (format_bytes pages m l (a ∙ w) b)
      ∙ sym (ap (λ q. (read_areas q).stable) (format_bytes pages m k (c ∙ w) d))
      ∙ (stores_read n m ts k fits c d).side

  same_first : (l k : Lent) (s : Side) → length l.stable_pages ≡ page_size * n → length l.stable_log ≡ slot_size * m → length k.stable_pages ≡ page_size * n → length k.stable_log ≡ slot_size * m
      → (read_areas k).stable ≡ s → (read_areas (store_all_bytes (take (length ts) ts) l)).stable ≡ store_some (length ts) ts s
  unfolding store_some
  same_first l k s a b c d e = let f = take_all (length ts) ts (omega arith) in ap (λ q. (read_areas (store_all_bytes q l)).stable) f ∙ same_stable l k a b c d ∙ ap (store_all ts) e ∙ ap (λ q. store_all q s) (sym f)

  made_read : SideRead n m (start_side pages m)
  unfolding AllFit log_area slots_from start_side pages_after replay
  made_read =
      let e : m - 0 ≡ m = omega arith in
      subst (SideRead n m) (λ i. record { pages = map page (are i); lefts = relinked (are i) []; log = replicate (e i) empty })
      (held_read o n m most [] (start_history o n least most) (omega arith) (ranged_now o n [] (ranged_history_start o n)).pages tt)

  -- THE START, by its outcome.
  module _ (s : Start) (small : of_32_bits (start s) ≡ true) (l : Lent) (d : Desk) (z : Lengths l n m) (is : outcome (start s) (read_areas l) d ≡ made pages m) where
    world_by : Outcome → World
    world_by x =
        let r : Result = record { answer = x.answer; work_pages = work_bytes x.work.pages x.work.lefts; work_log = log_bytes x.work.log; desk = x.desk; stores = x.stores } in
        record { lent = lent_after (length r.stores) r l; desk = r.desk; book = new_book (first_slides s); since_cut = false }

    started_by : started s l d ≡ world_by (made pages m)
    unfolding started call call_by world_by
    started_by = ap (λ b. let r = call_by b (start s) l d in record { lent = lent_after (length r.stores) r l; desk = r.desk; book = new_book (first_slides s); since_cut = false }) (lengths_enough l n m z) ∙ ap world_by is

    passes : passed (call (start s) l d).answer ≡ true
    unfolding call call_by passed
    passes = ap (λ b. passed (call_by b (start s) l d).answer) (lengths_enough l n m z) ∙ ap (λ x. passed x.answer) is

    pub started_tied : (k : Lent) (t : Side) → length k.stable_pages ≡ page_size * n → length k.stable_log ≡ slot_size * m → (read_areas k).stable ≡ t → Tied n m (started s l d) (made_on t pages m) empty_desk
    unfolding world_by lent_after read_areas ts
    started_tied k t a b shown =
        let side = made_read in
        let kept = stores_read n m (take (length ts) ts) l (fits_first n m (length ts) ts fits) z.stable_pages z.stable_log in
        let e = same_first l k t z.stable_pages z.stable_log a b shown in
        record {
          inv = begun s l d small passes;
          lengths = subst (λ (w : World). Lengths w.lent n m) (sym started_by) (record {
            work_pages = side.pages_length;
            stable_pages = kept.pages_length;
            work_log = side.log_length;
            stable_log = kept.log_length;
            least_pages = z.least_pages;
            most_pages = z.most_pages;
            least_slots = z.least_slots;
            most_slots = z.most_slots;
          });
          areas = ap (λ (w : World). read_areas w.lent) started_by ∙ (λ i. record { work = record { pages = side.pages i; lefts = side.lefts i; log = side.log i }; stable = e i });
          desk = ap (λ (w : World). w.desk) started_by;
          calm = running (ap (λ (w : World). w.since_cut) started_by);
        }

-- ---- a formatting

module _ (n m : ℕ) where
  abbrev zeros_stored : Side
  zeros_stored = record { pages = replicate n (page zero_page); lefts = []; log = replicate m empty }

  zero_lent : Lent
  zero_lent = record { work_pages = zeros (page_size * n); stable_pages = zeros (page_size * n); work_log = zeros (slot_size * m); stable_log = zeros (slot_size * m) }

  zero_stable : (read_areas zero_lent).stable ≡ zeros_stored
  unfolding zero_lent read_areas
  zero_stable = λ i. record { pages = zero_pages_read n i; lefts = []; log = empty_log_read m i }

  new_desk : (new n m).desk ≡ empty_desk
  unfolding new ended outcome outcome_by checks start_checks first_broken does start_does format_areas
  new_desk = refl

  new_areas : (new n m).areas ≡ made_on zeros_stored (formatted_pages n) m
  unfolding new ended outcome outcome_by checks start_checks first_broken does start_does format_areas
  new_areas = let p = length-replicate n (page zero_page) in let q = length-replicate m empty in λ i. made_on zeros_stored (formatted_pages (p i)) (q i)

  pub formatted_tied : (l : Lent) (d : Desk) → Lengths l n m → Tied n m (formatted l d) (new n m).areas (new n m).desk
  unfolding outcome outcome_by checks start_checks first_broken does start_does format_areas read_areas zero_lent of_32_bits start_32 formatted_origin
  formatted_tied l d z =
      let least : 2 ≤ n = omega (arith, z.least_pages) in
      let p = read_work_length n l.work_pages z.work_pages in
      let q = read_log_length m l.work_log z.work_log in
      let t = started_tied formatted_origin n m least z.most_pages (formatted_pages n) (formatted_is n least) groups.format refl l d z (λ i. made (formatted_pages (p i)) (q i)) zero_lent zeros_stored (length-replicate {A = ℕ} (page_size * n) 0) (length-replicate {A = ℕ} (slot_size * m) 0) zero_stable in
      record { inv = t.inv; lengths = t.lengths; areas = t.areas ∙ sym new_areas; desk = t.desk ∙ sym new_desk; calm = t.calm }

-- ---- a loading, of the machine that some world shows

module _ (ks vs : List ℕ) (small : of_32_bits (load ks vs) ≡ true) where
  -- What it checks of the areas is how many pages there are.
  load_same : (a b : Areas) → length a.work.pages ≡ length b.work.pages → first_broken (load_checks ks vs a) ≡ none → first_broken (load_checks ks vs b) ≡ none
  unfolding load_checks
  load_same a b e h = rw e at h

  module _ (n m : ℕ) (w : World) (x : Machine) (shown : Tied n m w x.areas x.desk) (p : passed (outcome (load ks vs) x.areas x.desk).answer ≡ true) where
    pages_are : length x.areas.work.pages ≡ n
    pages_are = sym (ap (λ a. length a.work.pages) shown.areas) ∙ pages_count n m w.lent shown.lengths

    slots_are : length x.areas.work.log ≡ m
    slots_are = sym (ap (λ a. length a.work.log) shown.areas) ∙ log_count n m w.lent shown.lengths

    unbroken : first_broken (load_checks ks vs x.areas) ≡ none
    unfolding checks start_checks
    unbroken = (passed_does (load ks vs) x.areas x.desk p).0

    loads : (a : Areas) (d : Desk) → length a.work.pages ≡ n → length a.work.log ≡ m → outcome (load ks vs) a d ≡ made (loaded_pages n (columns ks vs)) m
    unfolding checks start_checks does start_does load_areas
    loads a d e f = unbroken_does (load ks vs) a d (load_same x.areas a (pages_are ∙ sym e) unbroken) ∙ (λ i. made (loaded_pages (e i) (columns ks vs)) (f i))

    -- It passes on any bytes of these lengths, and shows the machine that is loaded.
    module _ (l : Lent) (d : Desk) (z : Lengths l n m) where
      pub load_passes : passed (call (load ks vs) l d).answer ≡ true
      unfolding call call_by passed
      load_passes = ap (λ b. passed (call_by b (load ks vs) l d).answer) (lengths_enough l n m z) ∙ ap (λ o. passed o.answer) (loads (read_areas l) d (pages_count n m l z) (log_count n m l z))

      pub loaded_tied : Tied n m (started (groups.load ks vs) l d) (play_step (ask (load ks vs)) x).areas (play_step (ask (load ks vs)) x).desk
      unfolding play_step ended
      loaded_tied =
          let most = z.most_pages in
          let s = load_starts ks vs x.areas x.desk p small (omega (arith, most, pages_are)) in
          let e = sym (loads x.areas x.desk pages_are slots_are) in
          let are = sym (subst (λ q. loaded_pages q (columns ks vs) ≡ origin_pages s.origin q) pages_are s.pages_are) in
          let t = started_tied s.origin n m (subst (s.origin.least ≤◌) pages_are s.enough) most (loaded_pages n (columns ks vs)) are (groups.load ks vs) small l d z (loads (read_areas l) d (pages_count n m l z) (log_count n m l z)) w.lent x.areas.stable shown.lengths.stable_pages shown.lengths.stable_log (ap (λ a. a.stable) shown.areas) in
          record { inv = t.inv; lengths = t.lengths; areas = t.areas ∙ (λ i. record { work = (e i).work; stable = store_some (length (e i).stores) (e i).stores x.areas.stable }); desk = t.desk ∙ ap (λ o. o.desk) e; calm = t.calm }
