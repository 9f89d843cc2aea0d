-- EVERY EVENT KEEPS THE INVARIANT, and the stable log only grows.
use Rattle.std.specs.Prelude.{ℕ, zero, suc, ◌+◌, ◌≡◌, refl, ◌⊎◌, Bool, false, ◌&&◌, List, [], ◌++◌, length, take}
use Rattle.std.proofs.Math.Path.{sym, ap, subst}
use Rattle.std.proofs.Common.{◌∙◌, inl, inr, append-nil}
use Rattle.std.proofs.Math.Option.{Option, none, some}
use Rattle.std.proofs.Math.Bool.{true, not}
use Rattle.std.proofs.lemmas.List.{replicate-append-replicate}
use Rattle.std.proofs.Math.Dec.{leb}
use Rattle.def_base.specs.Tests.{any, clash, Case, yes!, no!, case}
use Rattle.def_layout.specs.declared.Desk.{Desk}
use Rattle.def_layout.specs.Numbers.{zeros}
use Rattle.def_model.specs.declared.Refusal.{Refusal}
use Rattle.def_model.specs.Links.{relinked}
use Rattle.def_model.specs.Areas.{Store}
use Rattle.def_model.specs.Answers.{passed}
use Rattle.def_model.specs.OnBytes.{Call, request, commit, outcome, Lent, Result, call, call_by, read_areas, lengths_ok, lent_after, store_all_bytes}
use Rattle.def_recovery.specs.Book.{Book, book_cut, book_cut_by, commits}
use Rattle.def_recovery.specs.Events.{World, Rubble, Granted, is_format, result, passes, book_after, end_call, cut_call, all_stored, grow}
use Rattle.def_recovery.specs.Demand3.{is_commit_of}
use Rattle.theory_history.specs.Start.{pages_after}
use Rattle.law_areas.specs.Held.{holds_grown}
use Rattle.law_areas.specs.Working.{HoldsWork}
use Rattle.law_areas.specs.Logs.{HoldsLog}
use Rattle.theory_recovery.specs.Invariant.{Mode, live, dead, lost, Inv}
use Rattle.theory_refusals.specs.Order.{not_passed}
use Rattle.law_c.specs.RefusedByC.{empties}
use Rattle.theory_refusals.specs.Left.{zeroes}
use Rattle.theory_refusals.specs.OnBytes.{left_lent_by, refused_leaves}
use Rattle.theory_recovery.specs.Passed.{Next, sure_same, ended_next, cut_in, cut_next}
use Rattle.theory_recovery.specs.Going.{outcome_in, Going, going}

-- ---- growth

more_zeros : (j a : ℕ) → zeros j ++ zeros a ≡ zeros (j + a)
more_zeros j a = replicate-append-replicate j a 0

pub grown_next : (a b c d : ℕ) (w : World) (i : Inv w) → Next i.log (grow a b c d w)
unfolding grow
grown_next a b c d w i =
    record {
      inv = record {
        origin = i.origin;
        n = i.n;
        log = i.log;
        slides = i.slides;
        mode = go i.mode;
        sure = let s = i.sure in record { least = s.least; most = s.most; pages = s.pages; count = s.count; stored = holds_grown b s.stored; logged = holds_grown d s.logged; history = s.history; ranged = s.ranged; behind = s.behind };
      };
      more = [];
      longer = sym (append-nil i.log);
    }
  where
    go : Mode i.origin i.n w.lent i.log w.book w.since_cut → Mode i.origin i.n (grow a b c d w).lent i.log w.book w.since_cut
    go (live log y e) = live log (record { pages = holds_grown a y.pages; logged = holds_grown c y.logged; history = y.history; ranged = y.ranged; rest = y.rest; longer = y.longer; fixed = y.fixed }) e
    go (dead j k e f) = dead (j + a) (k + c) (ap (◌++ zeros a) e ∙ more_zeros j a) (ap (◌++ zeros c) f ∙ more_zeros k c)
    go (lost e) = lost e

-- ---- refused calls

-- Nothing is stored; the working areas are as they were, or zeroed.
pub record Unpassed (l : Lent) (r : Result) : Type 0 where
  pub answer : passed r.answer ≡ false
  pub stores : r.stores ≡ []
  pub work : ((r.work_pages ≡ l.work_pages) × (r.work_log ≡ l.work_log)) ⊎ ((j : ℕ) × (k : ℕ) × (r.work_pages ≡ zeros j) × (r.work_log ≡ zeros k))

unpassed : (c : Call) (l : Lent) (d : Desk) → passed (call c l d).answer ≡ false → Unpassed l (call c l d)
unfolding left_lent_by passed
unpassed c l d p = let (r, e) = not_passed (call c l d).answer p in subst (Unpassed l) (sym (refused_leaves c l d r e)) (go r (zeroes c r))
  where
    go : (r : Refusal) (z : Bool) → Unpassed l (left_lent_by z (empties c) r l d)
    go r false = record { answer = refl; stores = refl; work = inl (refl, refl) }
    go r true = record { answer = refl; stores = refl; work = inr (length l.work_pages, length l.work_log, refl, refl) }

pub no_cut : (c : Call) (b : Book) → book_cut c false b ≡ b
unfolding book_cut book_cut_by
no_cut c b = go (commits c)
  where
    go : (o : Option ℕ) → book_cut_by o false b ≡ b
    go none = refl
    go (some n) = refl

-- The world after a result, ended or cut.
abbrev pub ended_by : Call → Result → World → World
ended_by c r w = record { lent = lent_after (length r.stores) r w.lent; desk = r.desk; book = book_after (passed r.answer) c r.answer r.desk w.book; since_cut = w.since_cut && not (passed r.answer) }

abbrev pub cut_by : Call → ℕ → Rubble → Result → World → World
cut_by c j left r w =
    record { lent = record { work_pages = left.work_pages; stable_pages = (lent_after j r w.lent).stable_pages; work_log = left.work_log; stable_log = (lent_after j r w.lent).stable_log }; desk = left.desk; book = book_cut c (all_stored j r) w.book; since_cut = true }

pub take_none : (j : ℕ) (ts : List Store) → ts ≡ [] → (l : Lent) → store_all_bytes (take j ts) l ≡ l
unfolding store_all_bytes
take_none j ts e l = ap (λ q. store_all_bytes (take j q) l) e ∙ none j
  where
    none : (j : ℕ) → store_all_bytes (take j []) l ≡ l
    none zero = refl
    none (suc j) = refl

pub still : (b : Bool) → b && true ≡ b
still true = refl
still false = refl

module _ (w : World) (i : Inv w) (c : Call) (r : Result) (u : Unpassed w.lent r) where
  book_same : book_after (passed r.answer) c r.answer r.desk w.book ≡ w.book
  unfolding book_after
  book_same = ap (λ q. book_after q c r.answer r.desk w.book) u.answer

  cut_same : w.since_cut && not (passed r.answer) ≡ w.since_cut
  cut_same = ap (λ q. w.since_cut && not q) u.answer ∙ still w.since_cut

  pub refused_ended : Next i.log (ended_by c r w)
  unfolding lent_after
  refused_ended =
      record {
        inv = record { origin = i.origin; n = i.n; log = i.log; sure = sure_same i.origin i.n w.lent (ended_by c r w).lent i.log (ap (λ q. q.stable_pages) (sym kept)) (ap (λ q. q.stable_log) (sym kept)) i.sure; slides = ap (λ q. q.slides) book_same ∙ i.slides; mode = go u.work i.mode };
        more = [];
        longer = sym (append-nil i.log);
      }
    where
      kept : store_all_bytes (take (length r.stores) r.stores) w.lent ≡ w.lent
      kept = take_none (length r.stores) r.stores u.stores w.lent

      after_lent : Lent
      after_lent = lent_after (length r.stores) r w.lent

      go : ((r.work_pages ≡ w.lent.work_pages) × (r.work_log ≡ w.lent.work_log)) ⊎ ((j : ℕ) × (k : ℕ) × (r.work_pages ≡ zeros j) × (r.work_log ≡ zeros k)) → Mode i.origin i.n w.lent i.log w.book w.since_cut
          → Mode i.origin i.n (lent_after (length r.stores) r w.lent) i.log (book_after (passed r.answer) c r.answer r.desk w.book) (w.since_cut && not (passed r.answer))
      go (inr (j, k, e, f)) m = dead j k e f
      go (inl (e, f)) (dead j k g h) = dead j k (e ∙ g) (f ∙ h)
      go (inl (e, f)) (lost g) = lost (cut_same ∙ g)
      go (inl (e, f)) (live log y g) =
          live log (record { pages = subst (λ b. HoldsWork b (pages_after i.origin i.n log) (relinked (pages_after i.origin i.n log) [])) (sym e) y.pages; logged = subst (λ b. HoldsLog b log) (sym f) y.logged; history = y.history; ranged = y.ranged; rest = y.rest; longer = y.longer; fixed = y.fixed }) (book_same ∙ g)

  pub refused_cut : (j : ℕ) (left : Rubble) → Next i.log (cut_by c j left r w)
  unfolding lent_after
  refused_cut j left =
      let kept = take_none j r.stores u.stores w.lent in
      record {
        inv = record {
          origin = i.origin;
          n = i.n;
          log = i.log;
          sure = sure_same i.origin i.n w.lent (cut_by c j left r w).lent i.log (ap (λ q. q.stable_pages) (sym kept)) (ap (λ q. q.stable_log) (sym kept)) i.sure;
          slides = ap (λ q. (book_cut c (q && leb (length r.stores) j) w.book).slides) u.answer ∙ ap (λ q. q.slides) (no_cut c w.book) ∙ i.slides;
          mode = lost refl;
        };
        more = [];
        longer = sym (append-nil i.log);
      }

-- ---- any call

-- A passed call's commit record is stored.
pub record Reports (w : World) (i : Inv w) (c : Call) (w' : World) : Type 0 where
  pub next : Next i.log w'
  pub told : (b : ℕ) → c ≡ request (commit b) → passes c w ≡ true → any (is_commit_of b) next.inv.log ≡ true

pub result_by : (c : Call) (w : World) (b : Bool) → lengths_ok w.lent ≡ b → result c w ≡ call_by b c w.lent w.desk
unfolding call
result_by c w b e = ap (λ q. call_by q c w.lent w.desk) e

-- Its lengths are right, and so is what it asks of the typed areas.
pub passing : (c : Call) (l : Lent) (d : Desk) → passed (call c l d).answer ≡ true → (lengths_ok l ≡ true) × (passed (outcome c (read_areas l) d).answer ≡ true)
unfolding call call_by passed
passing c l d p = go (case (lengths_ok l))
  where
    go : Case (lengths_ok l) → (lengths_ok l ≡ true) × (passed (outcome c (read_areas l) d).answer ≡ true)
    go (yes! e) = (e, subst (λ q. passed (call_by q c l d).answer ≡ true) e p)
    go (no! e) = clash (sym (subst (λ q. passed (call_by q c l d).answer ≡ true) e p))

not_format : (c : Call) (w : World) → Granted c w → passes c w ≡ true → is_format c ≡ false
not_format c w g p = go (case (is_format c))
  where
    go : Case (is_format c) → is_format c ≡ false
    go (no! f) = f
    go (yes! f) = clash (sym p ∙ g.no_format f)

module _ (w : World) (i : Inv w) (c : Call) (g : Granted c w) where
  by_refusal : Unpassed w.lent (result c w) → Reports w i c (end_call c w)
  unfolding end_call
  by_refusal u = record { next = refused_ended w i c (result c w) u; told = λ b x p. clash (sym p ∙ u.answer) }

  cut_by_refusal : (j : ℕ) (left : Rubble) → Unpassed w.lent (result c w) → Next i.log (cut_call c j left w)
  unfolding cut_call
  cut_by_refusal j left u = refused_cut w i c (result c w) u j left

  pub goes : lengths_ok w.lent ≡ true → passed (outcome_in c w).answer ≡ true → Going i.origin w i.log c
  unfolding call_by
  goes e p =
      let q : passes c w ≡ true = ap (λ r. passed r.answer) (result_by c w true e) ∙ p in
      going w i e c g.numbers (not_format c w g q) (λ s. g.restart_first s q) p

  by_passing : lengths_ok w.lent ≡ true → passed (outcome_in c w).answer ≡ true → Going i.origin w i.log c → Reports w i c (end_call c w)
  unfolding end_call call_by lent_after book_after
  by_passing e p x =
      let t = ended_next i.origin x.n x.m w.lent x.lengths i.log x.sure x.log x.rest x.longer x.fixed x.ranged c (outcome_in c w) x.ends w.book i.slides x.tells (outcome_in c w).desk (w.since_cut && not (passed (outcome_in c w).answer)) in
      subst (λ q. Reports w i c (ended_by c q w)) (sym (result_by c w true e))
      (subst (λ q. Reports w i c (record { lent = lent_after (length (outcome_in c w).stores) (call_by true c w.lent w.desk) w.lent; desk = (outcome_in c w).desk; book = book_after q c (outcome_in c w).answer (outcome_in c w).desk w.book; since_cut = w.since_cut && not (passed (outcome_in c w).answer) })) (sym p)
      (record { next = t.next; told = λ b f q. t.told b f }))

  cut_by_passing : (j : ℕ) (left : Rubble) → lengths_ok w.lent ≡ true → passed (outcome_in c w).answer ≡ true → Going i.origin w i.log c → Next i.log (cut_call c j left w)
  unfolding cut_call call_by lent_after
  cut_by_passing j left e p x =
      let t = cut_next i.origin x.n x.m w.lent x.lengths i.log x.sure x.log x.rest x.longer x.fixed x.ranged c (outcome_in c w) x.ends w.book i.slides x.tells j left in
      subst (λ q. Next i.log (cut_by c j left q w)) (sym (result_by c w true e))
      (subst (λ q. Next i.log (record { lent = (cut_in i.origin x.n x.m w.lent x.lengths i.log x.sure x.log x.rest x.longer x.fixed x.ranged c (outcome_in c w) x.ends w.book i.slides x.tells j left).lent; desk = left.desk; book = book_cut c (q && leb (length (outcome_in c w).stores) j) w.book; since_cut = true })) (sym p) t)

  -- A CALL THAT ENDED.
  pub ended_reports : Reports w i c (end_call c w)
  ended_reports = go (case (passes c w))
    where
      go : Case (passes c w) → Reports w i c (end_call c w)
      go (yes! p) = let (e, q) = passing c w.lent w.desk p in by_passing e q (goes e q)
      go (no! p) = by_refusal (unpassed c w.lent w.desk p)

  -- A CALL THAT WAS CUT.
  pub cut_keeps : (j : ℕ) (left : Rubble) → Next i.log (cut_call c j left w)
  cut_keeps j left = go (case (passes c w))
    where
      go : Case (passes c w) → Next i.log (cut_call c j left w)
      go (yes! p) = let (e, q) = passing c w.lent w.desk p in cut_by_passing j left e q (goes e q)
      go (no! p) = cut_by_refusal j left (unpassed c w.lent w.desk p)
