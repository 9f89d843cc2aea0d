-- From a core of soundness back to the test: the parts of `sound` that a run's pages and log decide.
use Rattle.std.specs.Prelude.{ℕ, suc, ◌-◌, ◌≤◌, ◌≡◌, refl, true, replicate}
use Rattle.std.proofs.Common.{sym, ◌∙◌, arith}
use Rattle.std.proofs.Math.Path.{subst}
use mathlib.Core.List.{List, [], ◌∷◌, ◌++◌, map}
use Rattle.std.proofs.Math.ListN.{length, length-map}
use Rattle.def_base.specs.Tests.{and_both, eq_true}
use Rattle.def_layout.specs.declared.Entry.{Entry}
use Rattle.def_layout.specs.Desks.{same_desk}
use Rattle.def_layout.specs.Pages.{map_bits}
use Rattle.def_layout.specs.PageBytes.{page}
use Rattle.def_layout.specs.Records.{Rec}
use Rattle.def_layout.specs.RecordBytes.{empty}
use Rattle.def_model.specs.Areas.{Side, pages_of, blocks_ok}
use Rattle.def_model.specs.Log.{records_of, slots_from, slots_ok, log_area}
use Rattle.def_model.specs.Batches.{open_batches, chain_ok, desk_of}
use Rattle.def_model.specs.Pending.{pending_ok}
use Rattle.def_model.specs.TreeRules.{tree_ok, leaf_records}
use Rattle.def_model.specs.Update.{Run}
use Rattle.def_model.specs.Sound.{sound, layouts_ok, log_ok, numbers_ok, stored_ok, desk_ok, reserves_ok}
use Rattle.def_model.specs.Links.{lefts_ok, relinked}
use Rattle.def_model.specs.Calls.{run_side}
use Rattle.theory_tree.specs.Shape.LeftLinks.{relinked_ok}
use Rattle.theory_tree.specs.Test.Test.{test_sound}
use Rattle.theory_update.specs.Find.Fetching.{fetched_is}
use Rattle.theory_pages.specs.Restartable.{laid_blocks, empty_slots}
use Rattle.theory_ledger.specs.PendingRule.{settles_pending}
use Rattle.theory_history.specs.Core.{Core, RowsOk, NamesOk}
use Rattle.law_bytes.specs.DeskSame.{desk_self}
use Rattle.law_areas.specs.Typed.{pages_back, log_back, log_area_length}
use Rattle.theory_history.specs.Redoing.{numbers_true}

-- ---- slots

pub rows_slots : (n m k : ℕ) (log : List Rec) → RowsOk m log → NamesOk n log → slots_ok n m (slots_from m log ++ replicate k empty) ≡ true
unfolding slots_ok slots_from RowsOk NamesOk
rows_slots n m k [] r s = empty_slots n m k
rows_slots n m k (x ∷ log) r s = and_both (eq_true m m refl) (and_both r.0 (and_both s.0 (rows_slots n (suc m) k log r.1 s.1)))

-- ---- the parts

module _ (n m : ℕ) (most : n ≤ map_bits) (t : Run) (sl : List Entry) (c : Core n t sl) (fits : length t.log ≤ m) where
  count : length (run_side m t).pages ≡ n
  unfolding run_side
  count = length-map t.pages page ∙ c.size

  run_pages : pages_of (run_side m t).pages ≡ t.pages
  unfolding run_side
  run_pages = pages_back t.pages

  run_log : records_of (run_side m t).log ≡ t.log
  unfolding run_side
  run_log = log_back m t.log

  slots_count : length (run_side m t).log ≡ m
  unfolding run_side
  slots_count = log_area_length m t.log fits

  slots : slots_ok n 1 (run_side m t).log ≡ true
  unfolding run_side log_area
  slots = rows_slots n 1 (m - length t.log) t.log c.rows c.names

  side_layouts : layouts_ok (run_side m t) ≡ true
  unfolding layouts_ok run_side
  side_layouts = subst (λ z. blocks_ok z 0 (map page t.pages) ≡ true) (sym (length-map t.pages page)) (laid_blocks t.pages c.laid)

  side_log : log_ok (run_side m t) ≡ true
  unfolding log_ok log_area
  side_log =
      and_both (subst (λ z. slots_ok z 1 (run_side m t).log ≡ true) (sym count) slots)
      (and_both (subst (λ z. chain_ok 1 z [] ≡ true) (sym run_log) c.chain)
      (subst (λ z. numbers_ok (length z) (pages_of (run_side m t).pages) ≡ true) (sym run_log) (subst (λ z. numbers_ok (length t.log) z ≡ true) (sym run_pages) (numbers_true (length t.log) t.pages (λ p h. let y = c.lows p h in let d = c.due in omega arith)))))

  side_lefts : lefts_ok (pages_of (run_side m t).pages) (run_side m t).lefts ≡ true
  unfolding run_side
  side_lefts = (λ i. lefts_ok (pages_back t.pages i) (relinked t.pages t.lefts)) ∙ relinked_ok t.pages (test_sound t.pages c.tree) t.lefts

  pending : pending_ok t.pages (open_batches t.log) ≡ true
  pending = settles_pending t.pages (leaf_records t.pages) (λ k h. fetched_is k t.pages c.tree h) sl (open_batches t.log) c.small c.settles

  -- SOUND AGAIN, with the desk that the log says, where the stored part and the reserves are right.
  pub sound_again : (stable : Side) (stored : ℕ) → stored_ok (record { work = run_side m t; stable = stable }) (desk_of t.log stored) ≡ true → reserves_ok m t.pages t.log (open_batches t.log) ≡ true
      → sound (record { work = run_side m t; stable = stable }) (desk_of t.log stored) ≡ true
  unfolding sound desk_ok desk_of
  sound_again stable stored st rs =
      and_both side_layouts
      (and_both side_log
      (and_both (subst (λ z. tree_ok z ≡ true) (sym run_pages) c.tree)
      (and_both ((λ i. pending_ok (run_pages i) (open_batches (run_log i))) ∙ pending)
      (and_both (subst (λ z. same_desk (desk_of t.log stored) (desk_of z stored) ≡ true) (sym run_log) (desk_self (desk_of t.log stored)))
      (and_both st (and_both ((λ i. reserves_ok (slots_count i) (run_pages i) (run_log i) (open_batches (run_log i))) ∙ rs) side_lefts))))))
