-- What a call that passed leaves, restart's too: one account of runs, working areas and stores.
use Rattle.std.specs.Prelude.{ℕ, ◌≤◌, ◌≡◌, refl, List, ◌++◌, length}
use Rattle.std.proofs.Common.{sym, ap, ◌∙◌, subst}
use Rattle.def_layout.specs.declared.Desk.{Desk}
use Rattle.def_layout.specs.Pages.{map_bits}
use Rattle.def_layout.specs.Records.{Rec}
use Rattle.def_model.specs.Update.{Run}
use Rattle.def_model.specs.Areas.{Areas}
use Rattle.def_model.specs.Answers.{Outcome}
use Rattle.def_model.specs.Calls.{run_of, run_side}
use Rattle.def_model.specs.Restart.{redone, restarted}
use Rattle.def_model.specs.Fit.{found}
use Rattle.def_recovery.specs.Book.{commits}
use Rattle.def_model.specs.OnBytes.{Call, restart, outcome}
use Rattle.theory_history.specs.Origin.{Origin}
use Rattle.theory_history.specs.Start.{slides_after}
use Rattle.theory_history.specs.Trail.{trail_longer}
use Rattle.theory_history.specs.History.{History, Standing, trail_fixed}
use Rattle.theory_history.specs.Redoing.{Image, redone_standing, stable_log_is}
use Rattle.theory_calls.specs.LiveAreas.{Holds}
use Rattle.theory_calls.specs.Results.{standing, run_log}
use Rattle.theory_calls.specs.Passing.{is_commit, Walk, calm, Stored, the_log, Follows, quietly, Passes, standing_slides}
use Rattle.theory_calls.specs.Restarting.{finished, restart_work, restart_stores, restart_within}

pub record Ends (o : Origin) (n m : ℕ) (stable log : List Rec) (c : Call) (out : Outcome) : Type 0 where
  pub start : Run
  pub begins : Standing o n start (slides_after o log)
  pub from : start.log ≡ log
  pub run : Run
  pub walk : Walk (slides_after o log) start run
  pub standing : Standing o n run (slides_after o run.log)
  pub work : out.work ≡ run_side m run
  pub within : length run.log ≤ m
  pub stored : Stored n stable run out.stores
  pub follows : Follows o stable c log run out.stores

pub passes_ends : (o : Origin) (n m : ℕ) (most : n ≤ map_bits) (stable log : List Rec) (a : Areas) (d : Desk) → Holds o n m log a.work → History o n log → (c : Call) (p : Passes o n m stable log c a d) → (e : Ends o n m stable log c (outcome c a d)) × (e.run ≡ p.run)
passes_ends o n m most stable log a d h x c p = (
  record {
    start = run_of a;
    begins = standing o n m most stable log a d h x;
    from = run_log o n m most stable log a d h x;
    run = p.run;
    walk = p.walk;
    standing = p.standing;
    work = p.work;
    within = p.within;
    stored = p.stored;
    follows = p.follows;
  },
  refl,
)

pub restart_ends : (o : Origin) (n m : ℕ) (least : o.least ≤ n) (most : n ≤ map_bits) (log : List Rec) (h : History o n log) (a : Areas) (d : Desk) → Image o n m log a.stable → (restarted a).stop ≡ 0 → (e : Ends o n m log log restart (outcome restart a d)) × (e.run ≡ restarted a)
unfolding redone is_commit commits found
restart_ends o n m least most log h a d i z =
    let f = finished o n m least most log h a d i z in
    let x = redone_standing o n m least most log h a i in
    let g = trail_longer f.trail in
    let l = stable_log_is o n m least most log h a i in (
      record {
        start = redone a;
        begins = x;
        from = l;
        run = restarted a;
        walk = calm f.trail;
        standing = standing_slides o n (restarted a) (slides_after o log) f.standing;
        work = restart_work o n m least most log h a d i z;
        within = restart_within o n m least most log h a d i;
        stored = subst (Stored n log (restarted a)) (sym (restart_stores o n m least most log h a d i z)) the_log;
        follows = quietly g.recs refl (g.log ∙ ap (◌++ g.recs) l) (λ u v e. subst (λ q. slides_after o (q ++ u) ≡ slides_after o q) l (trail_fixed o n most f.trail x g.recs g.log u v e));
      },
      refl,
    )
