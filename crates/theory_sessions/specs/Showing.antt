-- A session on bytes shows what it shows on typed areas, also where a loading passes in it and starts the register anew.
use Rattle.std.specs.Prelude.{ℕ, ◌≡◌, Bool, false, ◌&&◌, length}
use Rattle.std.proofs.Math.Path.{refl, sym, ap}
use Rattle.std.proofs.Common.{◌∙◌}
use Rattle.std.proofs.Math.Bool.{true, not}
use mathlib.Core.List.{List, [], ◌∷◌, ◌++◌, append_assoc, append-nil}
use Rattle.def_base.specs.Tests.{clash, Case, yes!, no!, case, and_true, and_both}
use Rattle.def_layout.specs.declared.Desk.{Desk}
use Rattle.def_model.specs.Answers.{answer_numbers, passed}
use Rattle.def_model.specs.Areas.{Areas}
use Rattle.def_model.specs.OnBytes.{Call, start, restart, request, format, load, outcome, call, call_by, lent_after, read_areas}
use Rattle.def_recovery.specs.Events
use Rattle.def_recovery.specs.Events.{World, Rubble, happen, happen_all, end_call, cut_call, started, is_restart, start_32, request_32, of_32_bits}
use Rattle.def_sessions.specs.Play.{Step, ask, cut, forge_page, forge_slot, forge_work_page, forge_work_slot, forge_desk, forge_low_bits, Machine, numbers, ended, cut_off, play_step, play}
use Rattle.def_sessions.specs.OnBytes.{restart_next, AllLeave, events, answered, all_answered, machine_after}
use Rattle.law_areas.specs.Lengths.{lengths_enough}
use Rattle.theory_recovery.specs.Steps.{result_by}
use Rattle.theory_sessions.specs.Tie.{Tied}
use Rattle.theory_sessions.specs.Starting.{loaded_tied}
use Rattle.theory_sessions.specs.Playing.{askable, Ready, whole, halved, finds, asked, asked_answer, was_cut}

-- ---- calls look at the areas and the desk alone

pub record Alike (w v : World) : Type 0 where
  pub lent : w.lent ≡ v.lent
  pub desk : w.desk ≡ v.desk

ended_alike : (c : Call) (w v : World) → Alike w v → Alike (end_call c w) (end_call c v)
unfolding end_call
ended_alike c w v a =
    record { lent = λ i. let r = call c (a.lent i) (a.desk i) in lent_after (length r.stores) r (a.lent i); desk = λ i. (call c (a.lent i) (a.desk i)).desk }

cut_alike : (c : Call) (j : ℕ) (left : Rubble) (w v : World) → Alike w v → Alike (cut_call c j left w) (cut_call c j left v)
unfolding cut_call
cut_alike c j left w v a =
    record {
      lent = λ i. let s = lent_after j (call c (a.lent i) (a.desk i)) (a.lent i) in record { work_pages = left.work_pages; stable_pages = s.stable_pages; work_log = left.work_log; stable_log = s.stable_log };
      desk = refl;
    }

then_alike : {w v u : World} → Alike w v → Alike v u → Alike w u
then_alike a b = record { lent = a.lent ∙ b.lent; desk = a.desk ∙ b.desk }

-- ---- one step

-- A call that a session may show where it stands: one that may be asked for, or any loading.
unfoldable pub showable : Call → Areas → Desk → Bool
showable (start format) a d = false
showable (start (load ks vs)) a d = start_32 (load ks vs)
showable restart a d = true
showable (request q) a d = request_32 q

unfoldable pub step_showable : Step → Machine → Bool
step_showable (ask c) x = showable c x.areas x.desk
step_showable (cut j c) x = askable c x.areas x.desk
step_showable (forge_page p y) x = false
step_showable (forge_slot n y) x = false
step_showable (forge_work_page p y) x = false
step_showable (forge_work_slot n y) x = false
step_showable (forge_desk e) x = false
step_showable (forge_low_bits p y) x = false

unfoldable pub all_showable : List Step → Machine → Bool
all_showable [] x = true
all_showable (s ∷ ss) x = step_showable s x && all_showable ss (play_step s x)

-- After it: a world with the same areas and desk, which shows the machine.
record Asked (n m : ℕ) (c : Call) (w : World) (x : Machine) : Type 0 where
  world : World
  alike : Alike (end_call c w) world
  tied : Tied n m world (play_step (ask c) x).areas (play_step (ask c) x).desk
  answer : x.answers ++ answered (Events.ended c) w ≡ (play_step (ask c) x).answers

module _ (n m : ℕ) (w : World) (x : Machine) where
  by_asking : (c : Call) → askable c x.areas x.desk ≡ true → Ready n m (is_restart c) w x.areas x.desk → Asked n m c w x
  by_asking c k r =
      let f = finds n m c w x.areas x.desk k r in
      record { world = end_call c w; alike = record { lent = refl; desk = refl }; tied = asked n m c w x f; answer = asked_answer n m c w x f }

  by_loading : (ks vs : List ℕ) → start_32 (load ks vs) ≡ true → Tied n m w x.areas x.desk → passed (outcome (start (load ks vs)) x.areas x.desk).answer ≡ true → Asked n m (start (load ks vs)) w x
  unfolding end_call started play_step ended answered of_32_bits call_by
  by_loading ks vs k t p =
      record {
        world = started (load ks vs) w.lent w.desk;
        alike = record { lent = refl; desk = refl };
        tied = loaded_tied ks vs k n m w x t p w.lent w.desk t.lengths;
        answer = ap (λ a. x.answers ++ numbers (answer_numbers a) ∷ []) (ap (λ r. r.answer) (result_by (start (load ks vs)) w true (lengths_enough w.lent n m t.lengths)) ∙ (λ i. (outcome (start (load ks vs)) (t.areas i) (t.desk i)).answer));
      }

  shown_asked : (c : Call) → showable c x.areas x.desk ≡ true → Ready n m (is_restart c) w x.areas x.desk → Asked n m c w x
  unfolding showable askable is_restart
  shown_asked (start format) k r = clash (sym k)
  shown_asked (start (load ks vs)) k (halved t e) = clash (sym e)
  shown_asked (start (load ks vs)) k (whole t) = go (case (passed (outcome (start (load ks vs)) x.areas x.desk).answer))
    where
      go : Case (passed (outcome (start (load ks vs)) x.areas x.desk).answer) → Asked n m (start (load ks vs)) w x
      go (yes! p) = by_loading ks vs k t p
      go (no! p) = by_asking (start (load ks vs)) (and_both k (ap not p)) (whole t)
  shown_asked restart k r = by_asking restart k r
  shown_asked (request q) k r = by_asking (request q) k r

-- ---- all steps

record Shown (n m : ℕ) (left : ℕ → Rubble) (ss : List Step) (w : World) (x : Machine) : Type 0 where
  world : World
  alike : Alike (happen_all (events left ss) w) world
  tied : Tied n m world (play ss x).areas (play ss x).desk
  answers : x.answers ++ all_answered (events left ss) w ≡ (play ss x).answers

module _ (n m : ℕ) (left : ℕ → Rubble) where
  shown : (ss : List Step) (w v : World) (x : Machine) → Alike w v → all_showable ss x ≡ true → AllLeave n m ss left → Ready n m (restart_next ss) v x.areas x.desk → Shown n m left ss w x
  unfolding all_showable step_showable AllLeave restart_next events all_answered answered happen happen_all play play_step cut_off
  shown [] w v x a k h (whole t) = record { world = v; alike = a; tied = t; answers = append-nil x.answers }
  shown [] w v x a k h (halved t e) = clash (sym e)
  shown (ask c ∷ ss) w v x a k h r =
      let (b, k') = and_true (showable c x.areas x.desk) (all_showable ss (play_step (ask c) x)) k in
      let f = shown_asked n m v x c b r in
      let t = shown ss (end_call c w) f.world (play_step (ask c) x) (then_alike (ended_alike c w v a) f.alike) k' h (whole f.tied) in
      let same : answered (Events.ended c) w ≡ answered (Events.ended c) v = λ i. numbers (answer_numbers (call c (a.lent i) (a.desk i)).answer) ∷ [] in
      record {
        world = t.world;
        alike = t.alike;
        tied = t.tied;
        answers = sym (append_assoc x.answers (answered (Events.ended c) w) _) ∙ ap (◌++ all_answered (events left ss) (end_call c w)) (ap (x.answers ++◌) same ∙ f.answer) ∙ t.answers;
      }
  shown (cut j c ∷ ss) w v x a k h r =
      let (b, k') = and_true (askable c x.areas x.desk) (all_showable ss (play_step (cut j c) x)) k in
      let f = finds n m c v x.areas x.desk b r in
      let t = shown ss (cut_call c j (left (length ss)) w) (cut_call c j (left (length ss)) v) (play_step (cut j c) x) (cut_alike c j (left (length ss)) w v a) k' h.1 (was_cut n m c v x f j (left (length ss)) (restart_next ss) h.0) in
      record { world = t.world; alike = t.alike; tied = t.tied; answers = t.answers }
  shown (forge_page p y ∷ ss) w v x a k h r = clash (sym k)
  shown (forge_slot q y ∷ ss) w v x a k h r = clash (sym k)
  shown (forge_work_page p y ∷ ss) w v x a k h r = clash (sym k)
  shown (forge_work_slot q y ∷ ss) w v x a k h r = clash (sym k)
  shown (forge_desk e ∷ ss) w v x a k h r = clash (sym k)
  shown (forge_low_bits q y ∷ ss) w v x a k h r = clash (sym k)

  -- THE TIE: the machine that the bytes show is the one that is played.
  pub machine_shown : (ss : List Step) (w : World) (x : Machine) → all_showable ss x ≡ true → AllLeave n m ss left → Tied n m w x.areas x.desk
      → ((machine_after (events left ss) w).areas ≡ (play ss x).areas) × ((machine_after (events left ss) w).desk ≡ (play ss x).desk) × (x.answers ++ (machine_after (events left ss) w).answers ≡ (play ss x).answers)
  unfolding machine_after
  machine_shown ss w x k h t =
      let s = shown ss w w x (record { lent = refl; desk = refl }) k h (whole t) in
      (ap read_areas s.alike.lent ∙ s.tied.areas, s.alike.desk ∙ s.tied.desk, s.answers)
