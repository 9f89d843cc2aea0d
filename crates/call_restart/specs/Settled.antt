-- THE OPEN BATCHES SETTLED: from an image that was judged and redone to the run that a restart leaves, or to its 17 or 18.
use Prim.Native.Nat.{ℕ, suc, ◌≤◌}
use Rattle.std.specs.Prelude.{◌≡◌, refl, ◌⊎◌, Bool, false, Some, None}
use Rattle.std.proofs.Math.Path.{sym, ap, subst}
use Rattle.std.proofs.Common.{◌∙◌, inl, inr, arith}
use Rattle.std.proofs.Math.Option.{none, some}
use mathlib.Core.List.{List, map}
use Rattle.std.proofs.Math.ListN.{length}
use Rattle.def_layout.specs.declared.Row.{Row}
use Rattle.def_layout.specs.Desks.{eight_rows}
use Rattle.def_model.specs.declared.Refusal.{Refusal}
use Rattle.def_model.specs.declared.Refusal.TheVariants.{SlotsShort, PagesShort}
use Rattle.def_model.specs.Areas.{Side, Areas}
use Rattle.def_model.specs.Answers.{refusal_number, first_broken}
use Rattle.def_model.specs.Batches.{open_batches, row_of}
use Rattle.def_model.specs.Update.{Run}
use Rattle.def_model.specs.Restart.{redone, redone_pages, settle, restarted, restart_checks}
use Rattle.log_pending.specs.Holding.{Holds}
use Rattle.law_bytes.specs.Eights.{eight}
use Rattle.log_chain.specs.Shown.{marks_of}
use Rattle.law_areas.specs.Logs.{HoldsLog, AllFit, read_log_length}
use Rattle.theory_room.specs.Reasons.{settle_longer}
use Rattle.theory_room.specs.Restarting.{restarted_cases, restarted_within}
use Rattle.tree_write.specs.declared.Run as run
use Rattle.tree_write.specs.Shows.{Shows, Stops, stops_not_zero}
use Rattle.theory_sound.specs.RestartDesk.{restart_accepts}
use Rattle.sound_register.specs.Standing.{log_in}
use Rattle.call_restart.specs.Checks.{slots_first, pages_first}
use Rattle.call_restart.specs.Image.{image, over, Refuses, Image}
use Rattle.call_restart.specs.Redoing.{Ready}

-- 17 and 18 are the numbers of one refusal each.
slots_number : (why : Refusal) → refusal_number why ≡ 17 → why ≡ SlotsShort
unfolding refusal_number
slots_number SlotsShort e = refl
slots_number _ e = absurd (omega (arith, e))

pages_number : (why : Refusal) → refusal_number why ≡ 18 → why ≡ PagesShort
unfolding refusal_number
pages_number PagesShort e = refl
pages_number _ e = absurd (omega (arith, e))

-- What the settling says, of whatever run the areas show.
abbrev pub SettleSays : (n m : ℕ) (wp wl wp' wl' : List ℕ) (t : run.Run) (rs : List Row) (ms : List Bool) (u : run.Run) → Type 0
SettleSays n m wp wl wp' wl' t rs ms u =
    (s : Run) → Shows n m wp wl t s → rs ≡ eight_rows (map row_of (open_batches s.log)) → ms ≡ eight false (marks_of (open_batches s.log))
    → Holds s.log (open_batches s.log) → AllFit 1 s.log → Shows n m wp' wl' u (settle s)

module _ {n m : ℕ} {sp sl wp wl wp' wl' : List ℕ} {rs : List Row} {before : ℕ} {ms : List Bool} {count : ℕ} (k : Image n m sp sl rs before ms) (y : Ready n sp sl wp count) (same : wl ≡ sl) (u : run.Run)
    {t : run.Run} (at : t ≡ record { logged = before; stop = None }) (says : SettleSays n m wp wl wp' wl' t rs ms u) where
  starts : (w : Side) → Shows n m wp wl t (redone (over w sp sl))
  unfolding redone redone_pages
  starts w =
      subst (λ (v : run.Run). Shows n m wp wl v (redone (over w sp sl))) (sym at)
      (record {
        pages = y.pages;
        log = subst (λ (b : List ℕ). HoldsLog b (log_in sl)) (sym same) k.records;
        size = ap length same ∙ k.size;
        logged = sym k.logged;
        due = ap suc (sym k.logged);
        room = omega (arith, k.logged, read_log_length m sl k.size);
        stop = refl;
      })

  -- THE RUN after it.
  pub settled_shows : (w : Side) → Shows n m wp' wl' u (restarted (over w sp sl))
  unfolding restarted redone
  settled_shows w = says (redone (over w sp sl)) (starts w) k.rows k.marked k.holds k.fits

  -- Its records: no fewer than before, and no more than there are slots.
  pub settled_longer : before ≤ u.logged
  unfolding restarted redone
  settled_longer =
      let a = over (image sp sl) sp sl in
      omega (arith, settle_longer (redone a), (settled_shows (image sp sl)).logged, k.logged)

  pub settled_within : u.logged ≤ m
  settled_within =
      let a = over (image sp sl) sp sl in
      omega (arith, restarted_within a, (settled_shows (image sp sl)).logged, read_log_length m sl k.size)

  abbrev Breaks : Side → Refusal → Type 0
  Breaks w r = first_broken (restart_checks (over w sp sl)) ≡ some r

  -- Refused for the reason that it stopped for, 17 or 18; or not, where it did not stop.
  pub stop_refuse : (why : Refusal) → u.stop ≡ Some why → Refuses sp sl why
  unfolding redone_pages
  stop_refuse why e w = go (restarted_cases a)
    where
      a : Areas
      a = over w sp sl

      is : (restarted a).stop ≡ refusal_number why
      is = subst (λ o. Stops o (restarted a).stop) e (settled_shows w).stop

      go : ((restarted a).stop ≡ 0) ⊎ (((restarted a).stop ≡ 17) ⊎ ((restarted a).stop ≡ 18)) → Breaks w why
      go (inl q) = absurd (stops_not_zero (Some why) _ refl is q)
      go (inr (inl q)) = subst (Breaks w) (sym (slots_number why (sym is ∙ q))) (slots_first a k.layouts k.log y.fits y.tree y.pending q)
      go (inr (inr q)) = subst (Breaks w) (sym (pages_number why (sym is ∙ q))) (pages_first a k.layouts k.log y.fits y.tree y.pending q)

  pub none_refuse : u.stop ≡ None → (w : Side) → first_broken (restart_checks (over w sp sl)) ≡ none
  unfolding redone_pages
  none_refuse e w = restart_accepts (over w sp sl) k.layouts k.log y.fits y.tree y.pending (subst (λ o. Stops o (restarted (over w sp sl)).stop) e (settled_shows w).stop)
