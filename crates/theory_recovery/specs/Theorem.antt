-- DEMAND 3: for any list of calls, cuts and growth since the last finished formatting.
use Rattle.std.specs.Prelude.{ℕ, ◌*◌, ◌/◌, ◌≤◌, ◌≡◌, ◌⊎◌, take, replicate}
use Rattle.std.proofs.Math.Path.{refl, sym, ap, subst, subst₂}
use Rattle.std.proofs.Common.{◌∙◌, inl, inr, arith, take_all}
use Rattle.std.proofs.Math.Bool.{true, false}
use mathlib.Core.List.{List, [], ◌∷◌, ◌++◌, append_assoc, append-nil, map}
use Rattle.std.proofs.Math.ListN.{length}
use Rattle.def_base.specs.Tests.{any}
use Rattle.def_layout.specs.declared.Entry.{Entry}
use Rattle.def_layout.specs.declared.Desk.{Desk}
use Rattle.def_layout.specs.Desks.{empty_desk}
use Rattle.def_layout.specs.Pages.{Page, map_bits}
use Rattle.def_layout.specs.PageBytes.{page}
use Rattle.def_layout.specs.Sizes.{page_size, slot_size}
use Rattle.def_layout.specs.RecordBytes.{empty}
use Rattle.def_model.specs.declared.Answer.TheVariants.{Done}
use Rattle.def_model.specs.Areas.{pages_of}
use Rattle.def_model.specs.Answers.{answer_numbers, passed, Outcome, first_broken}
use Rattle.def_model.specs.TreeRules.{leaf_records}
use Rattle.def_model.specs.Batches.{open_batches, told}
use Rattle.def_model.specs.Loading.{columns, loaded_pages}
use Rattle.def_model.specs.Calls.{formatted_pages, format_stores, format_areas, start_side, load_areas}
use Rattle.def_model.specs.Links.{relinked}
use Rattle.def_model.specs.Restart.{stable_log, redone, restarted}
use Rattle.def_model.specs.Redo.{replay}
use Rattle.def_model.specs.OnBytes.{Result, start, restart, request, Start, format, load, commit, checks, start_checks, does, start_does, outcome_by, outcome, Lent, call, call_by, read_areas, read_work, work_bytes, log_bytes, lengths_ok, lent_after, store_all_bytes}
use Rattle.def_recovery.specs.Book.{new_book}
use Rattle.def_recovery.specs.Events.{World, Event, ended, cut, grown, Allowed, AllAllowed, formatted, happen, happen_all, of_32_bits, passes, started, first_slides}
use Rattle.def_recovery.specs.Demand3.{Demand3, Recovers, WantsExactly, Suffices, FinishesOrWants, RedoBalances, LeavesAreSlides, reason, stored, is_commit_of}
use Rattle.theory_ledger.specs.Telling.{slides_of, slides_from}
use Rattle.theory_room.specs.Restarting.{restarted_cases, restarted_finishes, restarted_wants_room, restarted_wants_pages, restarted_wants_room_first, some_room_does, redone_no_room}
use Rattle.law_areas.specs.Typed.{pages_back}
use Rattle.theory_history.specs.Origin.{Origin, origin_pages, origin_length}
use Rattle.theory_history.specs.FormattedOrigin.{formatted_origin, formatted_is}
use Rattle.theory_history.specs.Core.{Core}
use Rattle.theory_history.specs.Start.{slides_after, pages_after, start_behind}
use Rattle.theory_history.specs.Growing.{start_history}
use Rattle.theory_history.specs.Redoing.{Image, image_tree, redone_standing, stable_log_is}
use Rattle.theory_ranges.specs.Histories.{RangedHistory, ranged_history_start, ranged_history_trail, ranged_standing}
use Rattle.law_areas.specs.Lengths.{Lengths, lengths_said}
use Rattle.law_areas.specs.Pages.{HoldsPages, AllPagesFit, filled, filled_whole}
use Rattle.law_areas.specs.Working.{HoldsWork, AllLinks, paired, all_links, work_read, work_hold, work_length, read_work_length}
use Rattle.law_areas.specs.Logs.{HoldsLog, no_records, empty_bytes, read_log_length}
use Rattle.law_areas.specs.Formatting
use Rattle.theory_calls.specs.Stories.{story, sheets_of}
use Rattle.theory_calls.specs.LiveAreas.{run_left}
use Rattle.theory_history.specs.Linking.{history_linked}
use Rattle.theory_tree.specs.Shape.LeftLinks.{relinked_length}
use Rattle.theory_calls.specs.Restarting.{restart_reason, finished, restart_work, restart_within}
use Rattle.theory_refusals.specs.Order.{passed_does}
use Rattle.theory_load.specs.Checked.{load_starts}
use Rattle.theory_sound.specs.RestartRoom.{reserves_finish, reserves_end, redone_no_page}
use Rattle.theory_recovery.specs.Invariant.{Sure, live, Inv}
use Rattle.theory_recovery.specs.Fixing.{fixed_none, any_first}
use Rattle.theory_recovery.specs.Passed.{Next}
use Rattle.theory_recovery.specs.Going
use Rattle.theory_recovery.specs.Steps.{grown_next, ended_reports, cut_keeps, result_by, passing}

-- ---- the start

-- A register that holds an origin and no records, and a book with the origin's slides.
pub start_inv : (o : Origin) (n : ℕ) → o.least ≤ n → n ≤ map_bits → (w : World) → w.book ≡ story o []
    → HoldsPages w.lent.stable_pages (origin_pages o n) → HoldsLog w.lent.stable_log [] → HoldsWork w.lent.work_pages (origin_pages o n) (relinked (origin_pages o n) []) → HoldsLog w.lent.work_log [] → Inv w
unfolding pages_after replay story
start_inv o n least most w told sp sl wp wl =
    let x = start_history o n least most in
    record {
      origin = o;
      n = n;
      log = [];
      slides = ap (λ b. b.slides) told;
      sure = record {
        least = least;
        most = most;
        pages = origin_pages o n;
        count = origin_length o n;
        stored = sp;
        logged = sl;
        history = x;
        ranged = ranged_history_start o n;
        behind = start_behind o n;
      };
      mode = live [] (record { pages = wp; logged = wl; history = x; ranged = ranged_history_start o n; rest = []; longer = refl; fixed = fixed_none o [] }) told;
    }

module _ (l : Lent) (d : Desk) (lens : lengths_ok l ≡ true) where
  n : ℕ
  n = length (read_areas l).work.pages

  m : ℕ
  m = length (read_areas l).work.log

  sizes : Lengths l n m
  unfolding n m read_areas
  sizes =
      let z = lengths_said l lens in
      subst₂ (Lengths l) (sym (read_work_length (length l.work_pages / page_size) l.work_pages z.work_pages)) (sym (read_log_length (length l.work_log / slot_size) l.work_log z.work_log)) z

  -- A finished formatting or loading of these pages, with these slides.
  made : List Page → Result
  made pages = record { answer = Done; work_pages = work_bytes (map page pages) (relinked pages []); work_log = log_bytes (replicate m empty); desk = empty_desk; stores = format_stores pages m }

  done : List Page → List Entry → World
  done pages es = let r = made pages in record { lent = lent_after (length r.stores) r l; desk = r.desk; book = new_book es; since_cut = false }

  done_inv : (o : Origin) (pages : List Page) → o.least ≤ n → pages ≡ origin_pages o n → Inv (done pages o.slides)
  unfolding done made lent_after story sheets_of slides_of slides_from open_batches told
  done_inv o pages least e =
      let ts = format_stores pages m in
      let len : length pages ≡ n = ap length e ∙ origin_length o n in
      let f = Formatting.formatted l pages m (subst (λ q. Lengths l q m) (sym len) sizes) in
      let all : store_all_bytes (take (length ts) ts) l ≡ store_all_bytes ts l = ap (λ q. store_all_bytes q l) (take_all (length ts) ts (omega arith)) in
      let k : HoldsLog (log_bytes (replicate m empty)) [] = subst (λ b. HoldsLog b []) (sym (empty_bytes m)) (no_records (slot_size * m)) in
      start_inv o n least sizes.most_pages (done pages o.slides) refl
      (subst (λ q. HoldsPages q.stable_pages (origin_pages o n)) (sym all) (subst (HoldsPages _) e f.stable_pages))
      (subst (λ q. HoldsLog q.stable_log []) (sym all) f.stable_log)
      (subst (λ xs. HoldsWork (work_bytes (map page pages) (relinked pages [])) xs (relinked xs [])) e (work_hold pages (relinked pages []))) k

  formatted_inv : Inv (formatted l d)
  unfolding started first_slides call call_by outcome outcome_by checks start_checks first_broken does start_does format_areas start_side done made n m formatted_origin
  formatted_inv =
      let g = sizes.least_pages in
      subst (λ b. Inv (let r = call_by b (start format) l d in record { lent = lent_after (length r.stores) r l; desk = r.desk; book = new_book []; since_cut = false })) (sym lens) (done_inv formatted_origin (formatted_pages n) (omega arith) (sym (formatted_is n (omega arith))))

  loaded_inv : (ks vs : List ℕ) → of_32_bits (start (load ks vs)) ≡ true → passed (outcome (start (load ks vs)) (read_areas l) d).answer ≡ true → Inv (started (load ks vs) l d)
  unfolding started first_slides call call_by does start_does load_areas start_side done made n m
  loaded_inv ks vs fits q =
      let a = read_areas l in
      let s = load_starts ks vs a d q fits sizes.most_pages in
      let pages = loaded_pages n (columns ks vs) in
      let i : Inv (done pages (columns ks vs)) = subst (λ es. Inv (done pages es)) s.slides_are (done_inv s.origin pages s.enough s.pages_are) in
      let after : Outcome → World = λ y.
      let r : Result = record { answer = y.answer; work_pages = work_bytes y.work.pages y.work.lefts; work_log = log_bytes y.work.log; desk = y.desk; stores = y.stores } in
      record { lent = lent_after (length r.stores) r l; desk = r.desk; book = new_book (columns ks vs); since_cut = false } in
      subst (λ b. Inv (let r = call_by b (start (load ks vs)) l d in record { lent = lent_after (length r.stores) r l; desk = r.desk; book = new_book (columns ks vs); since_cut = false })) (sym lens)
      (subst (λ y. Inv (after y)) (sym (passed_does (start (load ks vs)) a d q).1) i)

-- ---- any list of events

event_keeps : (e : Event) (w : World) (i : Inv w) → Allowed e w → Next i.log (happen e w)
unfolding Allowed happen
event_keeps (ended c) w i a = (ended_reports w i c a).next
event_keeps (cut c j left) w i a = cut_keeps w i c a j left
event_keeps (grown a b c d) w i x = grown_next a b c d w i

pub all_keep : (es : List Event) (w : World) (i : Inv w) → AllAllowed es w → Next i.log (happen_all es w)
unfolding AllAllowed happen_all
all_keep [] w i a = record { inv = i; more = []; longer = sym (append-nil i.log) }
all_keep (e ∷ es) w i a =
    let x = event_keeps e w i a.0 in
    let y = all_keep es (happen e w) x.inv a.1 in
    record { inv = y.inv; more = x.more ++ y.more; longer = y.longer ∙ ap (◌++ y.more) x.longer ∙ append_assoc i.log x.more y.more }

-- A commit that was reported is in the log from then on.
pub reported_stays : (before later : List Event) (b : ℕ) (w : World) (i : Inv w) → AllAllowed (before ++ ended (request (commit b)) ∷ later) w → passes (request (commit b)) (happen_all before w) ≡ true
    → (x : Inv (happen_all (before ++ ended (request (commit b)) ∷ later) w)) × (any (is_commit_of b) x.log ≡ true)
unfolding AllAllowed happen_all Allowed happen
reported_stays [] later b w i a p =
    let x = ended_reports w i (request (commit b)) a.0 in
    let y = all_keep later (happen (ended (request (commit b))) w) x.next.inv a.1 in
    (y.inv, subst (λ q. any (is_commit_of b) q ≡ true) (sym y.longer) (any_first (is_commit_of b) x.next.inv.log y.more (x.told b refl p)))
reported_stays (e ∷ before) later b w i a p = reported_stays before later b (happen e w) (event_keeps e w i a.0).inv a.1 p

-- ---- the further restart

module _ (w : World) (i : Inv w) (lens : lengths_ok w.lent ≡ true) where
  k : ℕ
  k = Going.n w i lens

  s : ℕ
  s = Going.m w i lens

  sure : Sure i.origin k w.lent i.log
  unfolding k
  sure = Going.sure w i lens

  shows : Image i.origin k s i.log (stored w).stable
  unfolding k s
  shows = Going.shows w i lens

  least : i.origin.least ≤ k
  least = sure.least

  most : k ≤ map_bits
  most = sure.most

  few : s ≤ 16384
  unfolding s
  few = (Going.z w i lens).most_slots

  reason_is : reason w ≡ (restarted (stored w)).stop
  unfolding call_by
  reason_is = ap (λ r. (answer_numbers r.answer).reason) (result_by restart w true lens) ∙ restart_reason i.origin k s least most i.log sure.history (stored w) w.desk shows

  pub answers : FinishesOrWants w
  answers = go (restarted_cases (stored w))
    where
      go : ((restarted (stored w)).stop ≡ 0) ⊎ (((restarted (stored w)).stop ≡ 17) ⊎ ((restarted (stored w)).stop ≡ 18)) → FinishesOrWants w
      go (inl e) = inl (reason_is ∙ e)
      go (inr (inl e)) = inr (inl (reason_is ∙ e))
      go (inr (inr e)) = inr (inr (reason_is ∙ e))

  pub balances : RedoBalances w
  balances = image_tree i.origin k s least most i.log sure.history (stored w) shows

  -- The pages that it leaves fit their bytes.
  pages_fit : (restarted (stored w)).stop ≡ 0 → AllPagesFit (restarted (stored w)).pages
  unfolding redone
  pages_fit z =
      let f = finished i.origin k s least most i.log sure.history (stored w) w.desk shows z in
      let st = redone_standing i.origin k s least most i.log sure.history (stored w) shows in
      let d = f.standing.core.due in
      let t = restart_within i.origin k s least most i.log sure.history (stored w) w.desk shows in
      let u = few in
      let l = stable_log_is i.origin k s least most i.log sure.history (stored w) shows in
      let h = ranged_history_trail i.origin k most f.trail st (omega arith) (subst (RangedHistory i.origin k) (sym l) sure.ranged) in
      (ranged_standing i.origin k most (restarted (stored w)) (slides_after i.origin i.log) f.standing h).pages

  -- They are read back, with their links.
  read_back : (xs : List Page) (ls : List ℕ) → AllLinks (paired xs ls) → pages_of (read_work (work_bytes (map page xs) ls)) ≡ xs
  read_back xs ls h = ap pages_of (work_read (length xs) xs ls (work_hold xs ls) (work_length xs ls) h) ∙ pages_back (filled (length xs) xs) ∙ filled_whole (length xs) xs refl

  pub leaves : LeavesAreSlides w
  unfolding call_by
  leaves e =
      let z : (restarted (stored w)).stop ≡ 0 = sym reason_is ∙ e in
      let f = finished i.origin k s least most i.log sure.history (stored w) w.desk shows z in
      let xs = pages_after i.origin k (restarted (stored w)).log in
      let ls = relinked xs [] in
      let x = f.standing.history in
      let fit = all_links xs ls (relinked_length xs []) (λ p h. history_linked i.origin k most (restarted (stored w)).log x p) (subst AllPagesFit f.standing.pages (pages_fit z)) in
      ap (λ r. leaf_records (pages_of (read_work r.work_pages))) (result_by restart w true lens)
      ∙ ap (λ r. leaf_records (pages_of (read_work (work_bytes r.pages r.lefts)))) (restart_work i.origin k s least most i.log sure.history (stored w) w.desk shows z ∙ run_left i.origin k s most (restarted (stored w)) f.standing.pages x)
      ∙ ap leaf_records (read_back xs ls fit ∙ sym f.standing.pages) ∙ f.leaves ∙ sym i.slides

  pub wants : WantsExactly w
  unfolding redone
  wants =
      record {
        finishes = λ q a b. reason_is ∙ restarted_finishes (stored w) q a b;
        wants_room = λ q a b. reason_is ∙ restarted_wants_room (stored w) q a b;
        wants_pages = λ q a b. reason_is ∙ restarted_wants_pages (stored w) q a b;
        wants_room_first = λ q a b. reason_is ∙ restarted_wants_room_first (stored w) q a b;
        some_room_does = some_room_does w.lent;
      }

  core : Core k (redone (stored w)) (slides_after i.origin i.log)
  core = (redone_standing i.origin k s least most i.log sure.history (stored w) shows).core

  pub suffices : Suffices w
  suffices =
      record {
        finishes = λ e. reason_is ∙ reserves_finish k most (stored w) _ core e;
        ends = reserves_end k most (stored w) _ core;
        no_room_left = redone_no_room (stored w);
        no_page_left = redone_no_page k most (stored w) _ core;
      }

  pub logged : stable_log (stored w) ≡ i.log
  logged = stable_log_is i.origin k s least most i.log sure.history (stored w) shows

-- ---- the theorem

-- Of any register that keeps the invariant.
pub recovers : (es : List Event) (w : World) → Inv w → AllAllowed es w → Recovers es w
recovers es w i a =
    let x = (all_keep es w i a).inv in
    record {
      answers = λ z. answers (happen_all es w) x z;
      balances = λ z. balances (happen_all es w) x z;
      leaves = λ z. leaves (happen_all es w) x z;
      wants = λ z. wants (happen_all es w) x z;
      suffices = λ z. suffices (happen_all es w) x z;
      reported = λ z before later b e p. reports es z before later b e p a;
    }
  where
    reports : (es : List Event) → lengths_ok (happen_all es w).lent ≡ true → (before later : List Event) (b : ℕ) → es ≡ before ++ ended (request (commit b)) ∷ later → passes (request (commit b)) (happen_all before w) ≡ true → AllAllowed es w
        → any (is_commit_of b) (stable_log (stored (happen_all es w))) ≡ true
    reports es z before later b e p a =
        let f : List Event = before ++ ended (request (commit b)) ∷ later in
        let (x, y) = reported_stays before later b w i (subst (λ q. AllAllowed q w) e a) p in
        let z' : lengths_ok (happen_all f w).lent ≡ true = subst (λ q. lengths_ok (happen_all q w).lent ≡ true) e z in
        subst (λ q. any (is_commit_of b) (stable_log (stored (happen_all q w))) ≡ true) (sym e) (subst (λ q. any (is_commit_of b) q ≡ true) (sym (logged (happen_all f w) x z')) y)

-- A finished formatting or loading.
start_keeps : (s : Start) (l : Lent) (d : Desk) → lengths_ok l ≡ true → of_32_bits (start s) ≡ true → passed (outcome (start s) (read_areas l) d).answer ≡ true → Inv (started s l d)
start_keeps format l d lens fits p = formatted_inv l d lens
start_keeps (load ks vs) l d lens fits p = loaded_inv l d lens ks vs fits p

pub begun : (s : Start) (l : Lent) (d : Desk) → of_32_bits (start s) ≡ true → passed (call (start s) l d).answer ≡ true → Inv (started s l d)
begun s l d fits p = let (lens, q) = passing (start s) l d p in start_keeps s l d lens fits q

pub demand_3 : Demand3
unfolding Demand3
demand_3 s l d fits p es a = recovers es (started s l d) (begun s l d fits p) a
