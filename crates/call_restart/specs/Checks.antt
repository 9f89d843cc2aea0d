-- Restart's checks in number order: which refusal stands first.
use Rattle.std.specs.Prelude.{◌≡◌, true, false, ◌&&◌}
use Rattle.std.proofs.Math.Option.{some}
use Rattle.def_base.specs.Tests.{and_both}
use Rattle.def_model.specs.declared.Refusal.TheVariants.{Layout, Log, Redo, Rules, SlotsShort, PagesShort}
use Rattle.def_model.specs.Areas.{Areas}
use Rattle.def_model.specs.Answers.{first_broken}
use Rattle.def_model.specs.Batches.{open_batches}
use Rattle.def_model.specs.Pending.{pending_ok}
use Rattle.def_model.specs.TreeRules.{tree_ok}
use Rattle.def_model.specs.Redo.{redo_fits}
use Rattle.def_model.specs.Sound.{layouts_ok, log_ok}
use Rattle.def_model.specs.Restart.{stable_log, stable_pages, redone_pages, restarted, restart_checks}

module _ (a : Areas) where
  pub layout_first : layouts_ok a.stable ≡ false → first_broken (restart_checks a) ≡ some Layout
  unfolding restart_checks first_broken
  layout_first e = rw e

  module _ (l : layouts_ok a.stable ≡ true) where
    pub log_first : log_ok a.stable ≡ false → first_broken (restart_checks a) ≡ some Log
    unfolding restart_checks first_broken
    log_first e = rw (l, e)

    module _ (g : log_ok a.stable ≡ true) where
      pub redo_first : redo_fits 1 (stable_log a) (stable_pages a) ≡ false → first_broken (restart_checks a) ≡ some Redo
      unfolding restart_checks first_broken
      redo_first e = rw (l, g, e)

      module _ (f : redo_fits 1 (stable_log a) (stable_pages a) ≡ true) where
        pub rules_first : tree_ok (redone_pages a) && pending_ok (redone_pages a) (open_batches (stable_log a)) ≡ false → first_broken (restart_checks a) ≡ some Rules
        unfolding restart_checks first_broken
        rules_first e = rw (l, g, f, e)

        module _ (t : tree_ok (redone_pages a) ≡ true) (p : pending_ok (redone_pages a) (open_batches (stable_log a)) ≡ true) where
          pub slots_first : (restarted a).stop ≡ 17 → first_broken (restart_checks a) ≡ some SlotsShort
          unfolding restart_checks first_broken
          slots_first e = rw (l, g, f, and_both t p, e)

          pub pages_first : (restarted a).stop ≡ 18 → first_broken (restart_checks a) ≡ some PagesShort
          unfolding restart_checks first_broken
          pages_first e = rw (l, g, f, and_both t p, e)
