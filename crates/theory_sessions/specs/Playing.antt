-- A session on bytes is allowed, and goes as it goes on typed areas.
use Rattle.std.specs.Prelude.{ℕ, ◌≡◌, refl, ◌⊎◌, Bool, true, false, not, ◌&&◌, length}
use Rattle.std.proofs.Common.{sym, ◌∙◌, subst, inl, inr}
use Rattle.std.proofs.Math.Path.{ap}
use mathlib.Core.List.{List, [], ◌∷◌, ◌++◌}
use Rattle.std.proofs.lemmas.List.{length-replicate}
use Rattle.def_base.specs.Tests.{clash, Case, yes!, no!, case, and_true}
use Rattle.def_layout.specs.declared.Desk.{Desk}
use Rattle.def_layout.specs.Desks.{empty_desk}
use Rattle.def_layout.specs.PageBytes.{page}
use Rattle.def_layout.specs.Pages.{zero_page}
use Rattle.def_layout.specs.RecordBytes.{empty}
use Rattle.def_model.specs.Areas.{Areas, zero_side, store_some}
use Rattle.def_model.specs.Answers.{answer_numbers, passed}
use Rattle.def_model.specs.OnBytes.{Call, start, restart, request, outcome, call_by, read_areas}
use Rattle.def_recovery.specs.Events
use Rattle.def_recovery.specs.Events.{World, Rubble, Granted, Allowed, AllAllowed, happen, happen_all, is_format, is_restart, start_32, request_32, of_32_bits, end_call, cut_call}
use Rattle.def_sessions.specs.Play.{Step, ask, cut, forge_page, forge_slot, forge_work_page, forge_work_slot, forge_desk, forge_low_bits, Machine, numbers, ended, cut_off, play_step, play}
use Rattle.def_sessions.specs.OnBytes.{restart_next, Leaves, AllLeave, events, answered}
use Rattle.law_areas.specs.Lengths.{Lengths, lengths_enough}
use Rattle.theory_refusals.specs.Grants.{restart_granted, granted_if}
use Rattle.theory_recovery.specs.Invariant.{Inv}
use Rattle.theory_recovery.specs.Going.{outcome_in}
use Rattle.theory_recovery.specs.Steps.{result_by}
use Rattle.theory_sessions.specs.Leaving.{pages_count, log_count}
use Rattle.theory_sessions.specs.Tie.{Calm, Tied, Cut, calm_granted, restart_same, end_answer, ended_tied, cut_off as cut_shown, cut_zeroed}

-- A call that a session may ask for where it stands: its numbers have 32 bits, and it is no formatting or loading but a refused one.
unfoldable pub askable : Call → Areas → Desk → Bool
askable (start s) a d = start_32 s && not (passed (outcome (start s) a d).answer)
askable restart a d = true
askable (request q) a d = request_32 q

unfoldable pub step_askable : Step → Machine → Bool
step_askable (ask c) x = askable c x.areas x.desk
step_askable (cut j c) x = askable c x.areas x.desk
step_askable (forge_page p y) x = false
step_askable (forge_slot n y) x = false
step_askable (forge_work_page p y) x = false
step_askable (forge_work_slot n y) x = false
step_askable (forge_desk y) x = false
step_askable (forge_low_bits p y) x = false

unfoldable pub all_askable : List Step → Machine → Bool
all_askable [] x = true
all_askable (s ∷ ss) x = step_askable s x && all_askable ss (play_step s x)

-- Before these steps: all is shown; or there was a cut, and the next step is a restart.
pub data Ready (n m : ℕ) (restarts : Bool) (w : World) (a : Areas) (d : Desk) : Type 0 where
  whole : Tied n m w a d → Ready n m restarts w a d
  halved : Cut n m w a → restarts ≡ true → Ready n m restarts w a d

-- What a step finds, whichever it is: the invariant, what is granted, the outcome on typed areas, and the stable areas.
pub record Finds (n m : ℕ) (c : Call) (w : World) (a : Areas) (d : Desk) : Type 0 where
  pub inv : Inv w
  pub lengths : Lengths w.lent n m
  pub granted : Granted c w
  pub is : outcome_in c w ≡ outcome c a d
  pub stable : (read_areas w.lent).stable ≡ a.stable
  pub pages : length a.work.pages ≡ n
  pub log : length a.work.log ≡ m
  pub calm : Calm n m w ⊎ (c ≡ restart)

only_restart : (c : Call) → is_restart c ≡ true → c ≡ restart
unfolding is_restart
only_restart (start s) e = clash (sym e)
only_restart restart e = refl
only_restart (request q) e = clash (sym e)

not_true : (b : Bool) → not b ≡ true → b ≡ false
not_true false e = refl
not_true true e = clash (sym e)

-- It is granted.
asked_granted : (n m : ℕ) (c : Call) (w : World) (a : Areas) (d : Desk) → askable c a d ≡ true → Tied n m w a d → Granted c w
unfolding askable of_32_bits is_format is_restart call_by
asked_granted n m (start s) w a d k t =
    let (b, f) = and_true (start_32 s) (not (passed (outcome (start s) a d).answer)) k in
    granted_if (start s) w b (inl (ap (λ r. passed r.answer) (result_by (start s) w true (lengths_enough w.lent n m t.lengths)) ∙ (λ i. passed (outcome (start s) (t.areas i) (t.desk i)).answer) ∙ not_true _ f))
asked_granted n m restart w a d k t = restart_granted w
asked_granted n m (request q) w a d k t = calm_granted n m w t.lengths t.calm (request q) k refl

pub finds : (n m : ℕ) (c : Call) (w : World) (a : Areas) (d : Desk) → askable c a d ≡ true → Ready n m (is_restart c) w a d → Finds n m c w a d
finds n m c w a d k (whole t) =
    record {
      inv = t.inv;
      lengths = t.lengths;
      granted = asked_granted n m c w a d k t;
      is = λ i. outcome c (t.areas i) (t.desk i);
      stable = ap (λ x. x.stable) t.areas;
      pages = sym (ap (λ x. length x.work.pages) t.areas) ∙ pages_count n m w.lent t.lengths;
      log = sym (ap (λ x. length x.work.log) t.areas) ∙ log_count n m w.lent t.lengths;
      calm = inl t.calm;
    }
finds n m c w a d k (halved t e) =
    let q = only_restart c e in
    record {
      inv = t.inv;
      lengths = t.lengths;
      granted = subst (λ x. Granted x w) (sym q) (restart_granted w);
      is = subst (λ x. outcome_in x w ≡ outcome x a d) (sym q) (restart_same (read_areas w.lent) a w.desk d t.stable (pages_count n m w.lent t.lengths ∙ sym t.pages) (log_count n m w.lent t.lengths ∙ sym t.log));
      stable = t.stable;
      pages = t.pages;
      log = t.log;
      calm = inr q;
    }

-- ---- one step

module _ (n m : ℕ) (c : Call) (w : World) (x : Machine) (f : Finds n m c w x.areas x.desk) where
  pub asked : Tied n m (end_call c w) (play_step (ask c) x).areas (play_step (ask c) x).desk
  unfolding play_step ended
  asked = ended_tied n m w f.inv f.lengths c f.granted (outcome c x.areas x.desk) f.is x.areas.stable f.stable f.calm

  pub asked_answer : x.answers ++ answered (Events.ended c) w ≡ (play_step (ask c) x).answers
  unfolding play_step ended answered
  asked_answer = ap (λ a. x.answers ++ numbers (answer_numbers a) ∷ []) (end_answer n m w f.inv f.lengths c f.granted ∙ ap (λ o. o.answer) f.is)

  pub was_cut : (j : ℕ) (left : Rubble) (restarts : Bool) → Leaves n m restarts left → Ready n m restarts (cut_call c j left w) (play_step (cut j c) x).areas (play_step (cut j c) x).desk
  unfolding play_step cut_off
  was_cut j left restarts h = go (case restarts)
    where
      zeroed_work : zero_side (length x.areas.work.pages) (length x.areas.work.log) ≡ zero_side n m
      zeroed_work = λ i. zero_side (f.pages i) (f.log i)

      go : Case restarts → Ready n m restarts (cut_call c j left w) (cut_off j (outcome c x.areas x.desk) x).areas empty_desk
      go (yes! e) =
          halved (cut_shown n m w f.inv f.lengths c f.granted (outcome c x.areas x.desk) f.is x.areas.stable f.stable j left h.pages_length h.log_length
          (zero_side (length x.areas.work.pages) (length x.areas.work.log))
          (length-replicate (length x.areas.work.pages) (page zero_page) ∙ f.pages) (length-replicate (length x.areas.work.log) empty ∙ f.log)) e
      go (no! e) =
          let (p, q, r) = h.zeroed e in
          whole (subst (λ s. Tied n m (cut_call c j left w) (record { work = s; stable = store_some j (outcome c x.areas x.desk).stores x.areas.stable }) empty_desk) (sym zeroed_work)
          (cut_zeroed n m w f.inv f.lengths c f.granted (outcome c x.areas x.desk) f.is x.areas.stable f.stable j left h.pages_length h.log_length p q r))

-- ---- all steps

pub record Played (n m : ℕ) (left : ℕ → Rubble) (ss : List Step) (w : World) (x : Machine) : Type 0 where
  pub allowed : AllAllowed (events left ss) w
  pub tied : Tied n m (happen_all (events left ss) w) (play ss x).areas (play ss x).desk

module _ (n m : ℕ) (left : ℕ → Rubble) where
  pub plays : (ss : List Step) (w : World) (x : Machine) → all_askable ss x ≡ true → AllLeave n m ss left → Ready n m (restart_next ss) w x.areas x.desk → Played n m left ss w x
  unfolding all_askable step_askable AllLeave restart_next events AllAllowed Allowed happen happen_all play play_step cut_off
  plays [] w x k h (whole t) = record { allowed = tt; tied = t }
  plays [] w x k h (halved t e) = clash (sym e)
  plays (ask c ∷ ss) w x k h r =
      let (a, b) = and_true (askable c x.areas x.desk) (all_askable ss (play_step (ask c) x)) k in
      let f = finds n m c w x.areas x.desk a r in
      let t = plays ss (end_call c w) (play_step (ask c) x) b h (whole (asked n m c w x f)) in
      record { allowed = (f.granted, t.allowed); tied = t.tied }
  plays (cut j c ∷ ss) w x k h r =
      let (a, b) = and_true (askable c x.areas x.desk) (all_askable ss (play_step (cut j c) x)) k in
      let f = finds n m c w x.areas x.desk a r in
      let t = plays ss (cut_call c j (left (length ss)) w) (play_step (cut j c) x) b h.1 (was_cut n m c w x f j (left (length ss)) (restart_next ss) h.0) in
      record { allowed = (f.granted, t.allowed); tied = t.tied }
  plays (forge_page p y ∷ ss) w x k h r = clash (sym k)
  plays (forge_slot q y ∷ ss) w x k h r = clash (sym k)
  plays (forge_low_bits q y ∷ ss) w x k h r = clash (sym k)
  plays (forge_work_page q y ∷ ss) w x k h r = clash (sym k)
  plays (forge_work_slot q y ∷ ss) w x k h r = clash (sym k)
  plays (forge_desk y ∷ ss) w x k h r = clash (sym k)
