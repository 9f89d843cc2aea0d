-- A world of demand 3 and the typed areas that its bytes show, through calls and cuts.
use Rattle.std.specs.Prelude.{ℕ, ◌*◌, ◌≡◌, refl, ◌⊎◌, Bool, true, false, ◌&&◌, [], length, take}
use Rattle.std.proofs.Common.{sym, ◌∙◌, inl, inr, arith}
use Rattle.std.proofs.Math.Path.{ap, subst}
use Rattle.std.proofs.Math.Bool.{not}
use Rattle.std.proofs.Math.Option.{Option, none, some}
use Rattle.def_base.specs.Tests.{clash, Case, yes!, no!, case}
use Rattle.def_layout.specs.declared.Desk.{Desk}
use Rattle.def_layout.specs.Desks.{empty_desk}
use Rattle.def_layout.specs.Numbers.{zeros}
use Rattle.def_layout.specs.Sizes.{page_size, slot_size}
use Rattle.def_model.specs.declared.Refusal.{Refusal}
use Rattle.def_model.specs.declared.Answer.TheVariants.{Refused}
use Rattle.def_model.specs.Areas.{Side, Areas, zero_side, store_some}
use Rattle.def_model.specs.Answers.{Outcome, first_broken, passed}
use Rattle.def_model.specs.Sound.{sound}
use Rattle.def_model.specs.Restart.{redone_pages, redone, restarted, restart_checks, restart_areas}
use Rattle.def_model.specs.OnBytes.{Call, start, restart, request, checks, does, refused, refused_work, refused_desk, outcome_by, outcome, Result, call_by, read_areas, read_pages, read_work, read_lefts, read_log, lent_after}
use Rattle.def_recovery.specs.Events.{World, Rubble, Granted, is_format, is_restart, of_32_bits, result, end_call, cut_call}
use Rattle.law_areas.specs.Lengths.{Lengths, lengths_enough}
use Rattle.law_areas.specs.Working.{zero_work_read, zero_lefts_read}
use Rattle.law_areas.specs.Logs.{empty_log_read}
use Rattle.theory_calls.specs.Refused.{asks_sound, zeros_unsound}
use Rattle.theory_recovery.specs.Invariant.{Inv}
use Rattle.theory_recovery.specs.Going.{outcome_in}
use Rattle.theory_recovery.specs.Steps.{result_by, ended_reports, cut_keeps}
use Rattle.theory_sessions.specs.StoresRead.{StoredRead, stores_read, fits_first}
use Rattle.theory_sessions.specs.Unpassed.{zeroed_side, work_refused, restart_zeroes}
use Rattle.theory_sessions.specs.Leaving.{pages_count, log_count, LeavesRead, call_reads}

-- Nothing but a restart passes before a restart does: there was no cut since the last, or the working areas are zeros.
pub data Calm (n m : ℕ) (w : World) : Type 0 where
  running : w.since_cut ≡ false → Calm n m w
  zeroed : (read_areas w.lent).work ≡ zero_side n m → Calm n m w

-- The bytes show these areas, and the desk is this.
pub record Tied (n m : ℕ) (w : World) (a : Areas) (d : Desk) : Type 0 where
  pub inv : Inv w
  pub lengths : Lengths w.lent n m
  pub areas : read_areas w.lent ≡ a
  pub desk : w.desk ≡ d
  pub calm : Calm n m w

-- After a cut only the stable areas are shown; the working ones have their lengths.
pub record Cut (n m : ℕ) (w : World) (a : Areas) : Type 0 where
  pub inv : Inv w
  pub lengths : Lengths w.lent n m
  pub stable : (read_areas w.lent).stable ≡ a.stable
  pub pages : length a.work.pages ≡ n
  pub log : length a.work.log ≡ m

-- ---- what is granted

-- Neither a start nor a restart: it asks for sound areas.
requests_sound : (c : Call) (w : World) → is_format c ≡ false → is_restart c ≡ false → passed (outcome_in c w).answer ≡ true → sound (read_areas w.lent) w.desk ≡ true
unfolding is_format is_restart
requests_sound (start s) w f e p = clash f
requests_sound restart w f e p = clash e
requests_sound (request q) w f e p = asks_sound q (read_areas w.lent) w.desk p

pub calm_granted : (n m : ℕ) (w : World) (z : Lengths w.lent n m) → Calm n m w → (c : Call) → of_32_bits c ≡ true → is_format c ≡ false → Granted c w
unfolding call_by
calm_granted n m w z calm c k f = record { numbers = k; no_format = λ e. clash (sym e ∙ f); restart_first = λ s p. go calm s p (case (is_restart c)) }
  where
    go : Calm n m w → w.since_cut ≡ true → passed (result c w).answer ≡ true → Case (is_restart c) → is_restart c ≡ true
    go a s p (yes! e) = e
    go (running r) s p (no! e) = clash (sym s ∙ r)
    go (zeroed r) s p (no! e) =
        let q : passed (outcome_in c w).answer ≡ true = sym (ap (λ x. passed x.answer) (result_by c w true (lengths_enough w.lent n m z))) ∙ p in
        zeros_unsound n m (omega (arith, z.least_pages)) (read_areas w.lent) w.desk r (requests_sound c w f e q)

-- ---- restart

-- It looks at the stable areas and at the lengths of the working ones.
pub restart_same : (a b : Areas) (d e : Desk) → a.stable ≡ b.stable → length a.work.pages ≡ length b.work.pages → length a.work.log ≡ length b.work.log → outcome restart a d ≡ outcome restart b e
unfolding outcome outcome_by checks does refused refused_work refused_desk restart_areas restart_checks restarted redone redone_pages
restart_same a b d e s p q = ap (λ x. outcome restart (record { work = a.work; stable = x }) d) s ∙ go (first_broken (restart_checks b))
  where
    go : (o : Option Refusal) → outcome_by o restart (record { work = a.work; stable = b.stable }) d ≡ outcome_by o restart b e
    go (some r) = λ i. record { answer = Refused r; work = zero_side (p i) (q i); desk = empty_desk; stores = [] }
    go none = refl

-- ---- a call that ended, a call that was cut

never : (b : Bool) → b && false ≡ false
never true = refl
never false = refl

module _ (n m : ℕ) (w : World) (i : Inv w) (z : Lengths w.lent n m) (c : Call) (g : Granted c w) where
  reads : LeavesRead n m (outcome_in c w)
  reads = call_reads w i n m z c g

  stored : (j : ℕ) → StoredRead n m (take j (outcome_in c w).stores) w.lent
  stored j = stores_read n m (take j (outcome_in c w).stores) w.lent (fits_first n m j (outcome_in c w).stores reads.stores) z.stable_pages z.stable_log

  result_is : result c w ≡ call_by true c w.lent w.desk
  result_is = result_by c w true (lengths_enough w.lent n m z)

  end_lengths : Lengths (end_call c w).lent n m
  unfolding end_call call_by lent_after
  end_lengths =
      let s = stored (length (outcome_in c w).stores) in
      subst (λ (r : Result). Lengths (lent_after (length r.stores) r w.lent) n m) (sym result_is)
      (record {
        work_pages = reads.work.pages_length;
        stable_pages = s.pages_length;
        work_log = reads.work.log_length;
        stable_log = s.log_length;
        least_pages = z.least_pages;
        most_pages = z.most_pages;
        least_slots = z.least_slots;
        most_slots = z.most_slots;
      })

  end_areas : read_areas (end_call c w).lent ≡ record { work = (outcome_in c w).work; stable = store_some (length (outcome_in c w).stores) (outcome_in c w).stores (read_areas w.lent).stable }
  unfolding end_call call_by lent_after read_areas store_some
  end_areas =
      let s = stored (length (outcome_in c w).stores) in
      ap (λ (r : Result). read_areas (lent_after (length r.stores) r w.lent)) result_is
      ∙ (λ k. record { work = record { pages = reads.work.pages k; lefts = reads.work.lefts k; log = reads.work.log k }; stable = s.side k })

  end_desk : (end_call c w).desk ≡ (outcome_in c w).desk
  unfolding end_call call_by
  end_desk = ap (λ (r : Result). r.desk) result_is

  pub end_answer : (result c w).answer ≡ (outcome_in c w).answer
  unfolding call_by
  end_answer = ap (λ (r : Result). r.answer) result_is

  end_cut : (end_call c w).since_cut ≡ w.since_cut && not (passed (outcome_in c w).answer)
  unfolding end_call
  end_cut = ap (λ a. w.since_cut && not (passed a)) end_answer

  end_calm : Calm n m w ⊎ (c ≡ restart) → Calm n m (end_call c w)
  end_calm h = go h (case (passed (outcome_in c w).answer))
    where
      zeros_counted : (outcome_in c w).work ≡ zeroed_side (read_areas w.lent).work → Calm n m (end_call c w)
      zeros_counted e = zeroed (ap (λ a. a.work) end_areas ∙ e ∙ (λ k. zero_side (pages_count n m w.lent z k) (log_count n m w.lent z k)))

      stays : (read_areas w.lent).work ≡ zero_side n m → ((outcome_in c w).work ≡ (read_areas w.lent).work) ⊎ ((outcome_in c w).work ≡ zeroed_side (read_areas w.lent).work) → Calm n m (end_call c w)
      stays r (inl e) = zeroed (ap (λ a. a.work) end_areas ∙ e ∙ r)
      stays r (inr e) = zeros_counted e

      go : Calm n m w ⊎ (c ≡ restart) → Case (passed (outcome_in c w).answer) → Calm n m (end_call c w)
      go h (yes! p) = running (end_cut ∙ ap (λ q. w.since_cut && not q) p ∙ never w.since_cut)
      go (inl (running r)) (no! p) = running (end_cut ∙ ap (λ q. q && not (passed (outcome_in c w).answer)) r)
      go (inl (zeroed r)) (no! p) = stays r (work_refused c (read_areas w.lent) w.desk p)
      go (inr e) (no! p) = zeros_counted (ap (λ x. (outcome_in x w).work) e ∙ restart_zeroes (read_areas w.lent) w.desk (sym (ap (λ x. passed (outcome_in x w).answer) e) ∙ p))

  -- ENDED: the outcome on the typed areas, whatever they are called.
  module _ (o : Outcome) (is : outcome_in c w ≡ o) (s : Side) (shown : (read_areas w.lent).stable ≡ s) where
    pub ended_tied : Calm n m w ⊎ (c ≡ restart) → Tied n m (end_call c w) (record { work = o.work; stable = store_some (length o.stores) o.stores s }) o.desk
    ended_tied h =
        record {
          inv = (ended_reports w i c g).next.inv;
          lengths = end_lengths;
          areas = end_areas ∙ (λ k. record { work = (is k).work; stable = store_some (length (is k).stores) (is k).stores (shown k) });
          desk = end_desk ∙ ap (λ x. x.desk) is;
          calm = end_calm h;
        }

    -- CUT after j stores.
    module _ (j : ℕ) (left : Rubble) (a : length left.work_pages ≡ page_size * n) (b : length left.work_log ≡ slot_size * m) where
      cut_lengths : Lengths (cut_call c j left w).lent n m
      unfolding cut_call call_by lent_after
      cut_lengths =
          subst (λ (r : Result). Lengths (record { work_pages = left.work_pages; stable_pages = (lent_after j r w.lent).stable_pages; work_log = left.work_log; stable_log = (lent_after j r w.lent).stable_log }) n m) (sym result_is)
          (record {
            work_pages = a;
            stable_pages = (stored j).pages_length;
            work_log = b;
            stable_log = (stored j).log_length;
            least_pages = z.least_pages;
            most_pages = z.most_pages;
            least_slots = z.least_slots;
            most_slots = z.most_slots;
          })

      cut_stable : (read_areas (cut_call c j left w).lent).stable ≡ store_some j o.stores s
      unfolding cut_call call_by lent_after read_areas store_some
      cut_stable =
          ap (λ (r : Result). record { pages = read_pages (lent_after j r w.lent).stable_pages; lefts = []; log = read_log (lent_after j r w.lent).stable_log }) result_is
          ∙ (stored j).side ∙ (λ k. store_some j (is k).stores (shown k))

      pub cut_off : (work : Side) → length work.pages ≡ n → length work.log ≡ m → Cut n m (cut_call c j left w) (record { work = work; stable = store_some j o.stores s })
      cut_off work p q = record { inv = (cut_keeps w i c g j left).inv; lengths = cut_lengths; stable = cut_stable; pages = p; log = q }

      -- Where it leaves zeros and an empty desk, all is shown.
      pub cut_zeroed : left.work_pages ≡ zeros (page_size * n) → left.work_log ≡ zeros (slot_size * m) → left.desk ≡ empty_desk → Tied n m (cut_call c j left w) (record { work = zero_side n m; stable = store_some j o.stores s }) empty_desk
      unfolding cut_call read_areas
      cut_zeroed p q e =
          let f = ap read_work p ∙ zero_work_read n in
          let u = ap read_lefts p ∙ zero_lefts_read n in
          let h = ap read_log q ∙ empty_log_read m in
          record {
            inv = (cut_keeps w i c g j left).inv;
            lengths = cut_lengths;
            areas = λ k. record { work = record { pages = f k; lefts = u k; log = h k }; stable = cut_stable k };
            desk = e;
            calm = zeroed (λ k. record { pages = f k; lefts = u k; log = h k });
          }
