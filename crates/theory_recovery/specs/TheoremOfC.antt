-- DEMAND 3 OVER THE C FUNCTIONS, from demand 3: an event of C is the event of demand 3 in bytes, or a refusal for the length of desk or
-- values, which leaves the areas.
use Rattle.std.specs.Prelude.{ℕ, ◌≡◌, refl, Bool, ◌&&◌, List, [], ◌∷◌, ◌++◌, length, take}
use Rattle.std.proofs.Math.Path.{sym, ap, subst}
use Rattle.std.proofs.Common.{◌∙◌, append_assoc, append-nil}
use Rattle.std.proofs.Math.Option.{Option, none, some}
use Rattle.def_model.specs.declared.Refusal.{Refusal}
use Rattle.def_model.specs.Answers.{first_broken}
use Rattle.std.proofs.Math.Bool.{true, false}
use Rattle.std.proofs.Math.Dec.{leb, eqb}
use Rattle.def_base.specs.Tests.{any, Case, yes!, no!, case, clash, eq_true, and_both}
use Rattle.def_layout.specs.declared.Desk.{Desk}
use Rattle.def_layout.specs.Desks.{desk_bytes, read_desk}
use Rattle.def_layout.specs.Records.{Rec}
use Rattle.def_layout.specs.Sizes.{desk_size}
use Rattle.def_model.specs.Answers.{passed}
use Rattle.def_model.specs.Restart.{stable_log, restart_checks, restart_areas}
use Rattle.def_model.specs.OnBytes.{Call, Start, start, restart, request, commit, Lent, lengths_ok, read_areas, work_bytes, log_bytes, checks, does, refused, refused_work, refused_desk, outcome_by, outcome, call_by, call, store_all_bytes, lent_after}
use Rattle.def_recovery.specs.Book.{new_book, book_cut, book_cut_by, commits}
use Rattle.def_recovery.specs.Events.{World, Granted, AllAllowed, cut_call, grow, started, first_slides, book_after, of_32_bits}
use Rattle.def_recovery.specs.Demand3.{is_commit_of, stored}
use Rattle.def_c.specs.FromC.{values_size, areas_left, answered, sizes_ok, refused_desk_bytes, returned_by, c_call, c_stores_by, c_stores}
use Rattle.def_c.specs.EventsOfC.{CWorld, as_world, CRubble, CEvent, ended, mislent, cut, grown, returns_0, after_return, cut_c_call, c_happen, c_happen_all, CGranted, CAllowed, CAllAllowed, c_started}
use Rattle.def_c.specs.Demand3OfC.{RestartsAlike, CDemand3}
use Rattle.theory_recovery.specs.Invariant.{Inv}
use Rattle.theory_recovery.specs.Passed.{Next}
use Rattle.theory_recovery.specs.Fixing.{any_first}
use Rattle.theory_recovery.specs.Steps.{take_none, no_cut, still, ended_reports, cut_keeps, grown_next}
use Rattle.theory_recovery.specs.Theorem.{begun, recovers, logged}
use Rattle.theory_refusals.specs.Grants.{restart_granted}
use Rattle.theory_refusals.specs.Numbers.{zero_if_passed}
use Rattle.theory_recovery.specs.ByC.{with_desk, passes_alike, desk_returned, ended_alike, cut_alike}

-- ---- the invariant does not look at the desk

abbrev pub inv_desk : {w : World} (d : Desk) → Inv w → Inv (with_desk d w)
inv_desk d i = record { origin = i.origin; n = i.n; log = i.log; sure = i.sure; slides = i.slides; mode = i.mode }

abbrev next_desk : {w : World} (log : List Rec) (d : Desk) → Next log w → Next log (with_desk d w)
next_desk log d x = record { inv = inv_desk d x.inv; more = x.more; longer = x.longer }

-- ---- desk or values of another length: the areas and the book stay

module _ (c : Call) (values : List ℕ) (w : CWorld) (wrong : sizes_ok w.desk values ≡ false) where
  refused_alike : as_world (c_happen (ended c values) w) ≡ with_desk (read_desk (refused_desk_bytes c w.desk)) (as_world w)
  unfolding c_happen after_return c_call returned_by book_after
  refused_alike =
      ap (λ b. as_world (after_return w c (returned_by b c w.lent w.desk values) (returned_by b c w.lent w.desk values).desk)) wrong
      ∙ ap (λ b. record { lent = w.lent; desk = read_desk (refused_desk_bytes c w.desk); book = w.book; since_cut = b }) (still w.since_cut)

  not_0 : returns_0 c values w ≡ false
  unfolding c_call returned_by
  not_0 = ap (λ b. eqb (returned_by b c w.lent w.desk values).reason 0) wrong

  -- The power may fail in such a call as well: as in a restart that has stored nothing yet.
  refused_cut_alike : (budget : ℕ) (left : CRubble) → as_world (c_happen (cut c values budget left) w) ≡ cut_call restart 0 (record { work_pages = left.work_pages; work_log = left.work_log; desk = read_desk left.desk }) (as_world w)
  unfolding c_happen cut_c_call cut_call lent_after c_stores c_stores_by book_cut book_cut_by commits store_all_bytes
  refused_cut_alike budget left =
      let none : store_all_bytes (take budget (c_stores c w.lent w.desk values)) w.lent ≡ w.lent = take_none budget _ (ap (λ b. c_stores_by b c w.lent w.desk) wrong) w.lent in
      let book : book_cut c (returns_0 c values w && leb (length (c_stores c w.lent w.desk values)) budget) w.book ≡ w.book = ap (λ b. book_cut c (b && leb (length (c_stores c w.lent w.desk values)) budget) w.book) not_0 ∙ no_cut c w.book in
      λ i. record { lent = record { work_pages = left.work_pages; stable_pages = (none i).stable_pages; work_log = left.work_log; stable_log = (none i).stable_log }; desk = read_desk left.desk; book = book i; since_cut = true }

mislent_alike : (c : Call) (desk values : List ℕ) (w : CWorld) → eqb (length desk) desk_size ≡ false → as_world (c_happen (mislent c desk values) w) ≡ as_world w
unfolding c_happen after_return c_call returned_by sizes_ok book_after
mislent_alike c desk values w e =
    ap (λ b. as_world (after_return w c (returned_by (b && eqb (length values) values_size) c w.lent desk values) w.desk)) e
    ∙ ap (λ b. record { lent = w.lent; desk = read_desk w.desk; book = w.book; since_cut = b }) (still w.since_cut)

-- ---- one event keeps the invariant

granted : (c : Call) (values : List ℕ) (w : CWorld) → sizes_ok w.desk values ≡ true → CGranted c values w → Granted c (as_world w)
granted c values w k g =
    let p = passes_alike c values w k in
    record { numbers = g.numbers; no_format = λ f. sym p ∙ g.no_format f; restart_first = λ s q. g.restart_first s (p ∙ q) }

-- A commit that returned 0 is in the log.
record CReports (c : Call) (values : List ℕ) (w : CWorld) (i : Inv (as_world w)) (w' : World) : Type 0 where
  next : Next i.log w'
  told : (b : ℕ) → c ≡ request (commit b) → returns_0 c values w ≡ true → any (is_commit_of b) next.inv.log ≡ true

ended_reports_c : (c : Call) (values : List ℕ) (w : CWorld) (i : Inv (as_world w)) → CGranted c values w → CReports c values w i (as_world (c_happen (ended c values) w))
ended_reports_c c values w i g = go (case (sizes_ok w.desk values))
  where
    go : Case (sizes_ok w.desk values) → CReports c values w i (as_world (c_happen (ended c values) w))
    go (yes! k) =
        let r = ended_reports (as_world w) i c (granted c values w k g) in
        subst (CReports c values w i) (sym (ended_alike c values w k)) (record { next = next_desk i.log (desk_returned c values w k) r.next; told = λ b e p. r.told b e (sym (passes_alike c values w k) ∙ p) })
    go (no! k) =
        subst (CReports c values w i) (sym (refused_alike c values w k)) (record { next = record { inv = inv_desk (read_desk (refused_desk_bytes c w.desk)) i; more = []; longer = sym (append-nil i.log) }; told = λ b e p. clash (sym p ∙ not_0 c values w k) })

cut_keeps_c : (c : Call) (values : List ℕ) (budget : ℕ) (left : CRubble) (w : CWorld) (i : Inv (as_world w)) → CGranted c values w → Next i.log (as_world (c_happen (cut c values budget left) w))
cut_keeps_c c values budget left w i g = go (case (sizes_ok w.desk values))
  where
    go : Case (sizes_ok w.desk values) → Next i.log (as_world (c_happen (cut c values budget left) w))
    go (yes! k) = subst (Next i.log) (sym (cut_alike c values w k budget left)) (cut_keeps (as_world w) i c (granted c values w k g) budget _)
    go (no! k) = subst (Next i.log) (sym (refused_cut_alike c values w k budget left)) (cut_keeps (as_world w) i restart (restart_granted (as_world w)) 0 _)

event_keeps_c : (e : CEvent) (w : CWorld) (i : Inv (as_world w)) → CAllowed e w → Next i.log (as_world (c_happen e w))
unfolding CAllowed c_happen grow
event_keeps_c (ended c values) w i a = (ended_reports_c c values w i a).next
event_keeps_c (mislent c desk values) w i a = subst (Next i.log) (sym (mislent_alike c desk values w a)) (record { inv = i; more = []; longer = sym (append-nil i.log) })
event_keeps_c (cut c values budget left) w i a = cut_keeps_c c values budget left w i a
event_keeps_c (grown a b c d) w i x = grown_next a b c d (as_world w) i

-- ---- any list of events

all_keep_c : (es : List CEvent) (w : CWorld) (i : Inv (as_world w)) → CAllAllowed es w → Next i.log (as_world (c_happen_all es w))
unfolding CAllAllowed c_happen_all
all_keep_c [] w i a = record { inv = i; more = []; longer = sym (append-nil i.log) }
all_keep_c (e ∷ es) w i a =
    let x = event_keeps_c e w i a.0 in
    let y = all_keep_c es (c_happen e w) x.inv a.1 in
    record { inv = y.inv; more = x.more ++ y.more; longer = y.longer ∙ ap (◌++ y.more) x.longer ∙ append_assoc i.log x.more y.more }

reported_stays_c : (before later : List CEvent) (b : ℕ) (values : List ℕ) (w : CWorld) (i : Inv (as_world w)) → CAllAllowed (before ++ ended (request (commit b)) values ∷ later) w → returns_0 (request (commit b)) values (c_happen_all before w) ≡ true
    → (x : Inv (as_world (c_happen_all (before ++ ended (request (commit b)) values ∷ later) w))) × (any (is_commit_of b) x.log ≡ true)
unfolding CAllAllowed c_happen_all CAllowed
reported_stays_c [] later b values w i a p =
    let x = ended_reports_c (request (commit b)) values w i a.0 in
    let y = all_keep_c later (c_happen (ended (request (commit b)) values) w) x.next.inv a.1 in
    (y.inv, subst (λ q. any (is_commit_of b) q ≡ true) (sym y.longer) (any_first (is_commit_of b) x.next.inv.log y.more (x.told b refl p)))
reported_stays_c (e ∷ before) later b values w i a p = reported_stays_c before later b values (c_happen e w) (event_keeps_c e w i a.0).inv a.1 p

-- ---- the start, and the further restart

-- A formatting or loading that returned 0 was lent right lengths.
module _ (s : Start) (l : Lent) (desk values : List ℕ) (fits : of_32_bits (start s) ≡ true) (done : (c_call (start s) l desk values).reason ≡ 0) where
  abbrev c : Call
  c = start s

  was_0 : eqb (c_call c l desk values).reason 0 ≡ true
  was_0 = eq_true (c_call c l desk values).reason 0 done

  sizes : sizes_ok desk values ≡ true
  unfolding c_call returned_by
  sizes = go (case (sizes_ok desk values))
    where
      go : Case (sizes_ok desk values) → sizes_ok desk values ≡ true
      go (yes! e) = e
      go (no! e) = clash (sym was_0 ∙ ap (λ b. eqb (returned_by b c l desk values).reason 0) e)

  answered_so : c_call c l desk values ≡ answered (call c l (read_desk desk)) l
  unfolding c_call returned_by
  answered_so = ap (λ b. returned_by b c l desk values) sizes

  went : passed (call c l (read_desk desk)).answer ≡ true
  unfolding answered
  went = sym (zero_if_passed (call c l (read_desk desk)).answer) ∙ ap (λ r. eqb r.reason 0) (sym answered_so) ∙ was_0

  c_begun : Inv (as_world (c_started s l desk values))
  unfolding c_started started answered areas_left
  c_begun =
      let d = read_desk desk in
      subst (λ r. Inv (record { lent = r.areas; desk = read_desk r.desk; book = new_book (first_slides s); since_cut = false })) (sym answered_so) (inv_desk (read_desk (desk_bytes (call c l d).desk)) (begun s l d fits went))

-- Restart does not look at the desk.
restart_any_desk : (l : Lent) (d e : Desk) → call restart l d ≡ call restart l e
unfolding call call_by outcome outcome_by checks does refused refused_work refused_desk restart_areas
restart_any_desk l d e = go (lengths_ok l)
  where
    by : (o : Option Refusal) → outcome_by o restart (read_areas l) d ≡ outcome_by o restart (read_areas l) e
    by none = refl
    by (some r) = refl

    go : (b : Bool) → call_by b restart l d ≡ call_by b restart l e
    go true = ap (λ o. record { answer = o.answer; work_pages = work_bytes o.work.pages o.work.lefts; work_log = log_bytes o.work.log; desk = o.desk; stores = o.stores }) (by (first_broken (restart_checks (read_areas l))))
    go false = refl

restarts_alike : (w : CWorld) → RestartsAlike w
unfolding c_call returned_by sizes_ok
restarts_alike w desk values e f =
    ap (λ b. returned_by b restart w.lent desk values) (and_both (eq_true (length desk) desk_size e) (eq_true (length values) values_size f))
    ∙ ap (λ r. answered r w.lent) (restart_any_desk w.lent (read_desk desk) (read_desk w.desk))

-- ---- the theorem

pub c_demand_3 : CDemand3
unfolding CDemand3 AllAllowed
c_demand_3 s l desk values fits done es a =
    let w = c_started s l desk values in
    let i = c_begun s l desk values fits done in
    record {
      alike = restarts_alike (c_happen_all es w);
      recovers = recovers [] (as_world (c_happen_all es w)) (all_keep_c es w i a).inv tt;
      reported = λ z before later b v e p. reports es z before later b v e p a;
    }
  where
    reports : (es : List CEvent) → lengths_ok (c_happen_all es (c_started s l desk values)).lent ≡ true → (before later : List CEvent) (b : ℕ) (v : List ℕ) → es ≡ before ++ ended (request (commit b)) v ∷ later
        → returns_0 (request (commit b)) v (c_happen_all before (c_started s l desk values)) ≡ true → CAllAllowed es (c_started s l desk values)
        → any (is_commit_of b) (stable_log (stored (as_world (c_happen_all es (c_started s l desk values))))) ≡ true
    reports es z before later b v e p a =
        let w = c_started s l desk values in
        let f : List CEvent = before ++ ended (request (commit b)) v ∷ later in
        let (x, y) = reported_stays_c before later b v w (c_begun s l desk values fits done) (subst (λ q. CAllAllowed q w) e a) p in
        let z' : lengths_ok (c_happen_all f w).lent ≡ true = subst (λ q. lengths_ok (c_happen_all q w).lent ≡ true) e z in
        subst (λ q. any (is_commit_of b) (stable_log (stored (as_world (c_happen_all q w)))) ≡ true) (sym e) (subst (λ q. any (is_commit_of b) q ≡ true) (sym (logged (as_world (c_happen_all f w)) x z')) y)
