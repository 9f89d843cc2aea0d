-- ANY RESTART THAT IS NOT REFUSED LEAVES A SOUND REGISTER, of whatever image: stored by calls, damaged or forged.
use Rattle.std.specs.Prelude.{◌≤◌, ◌<◌, ◌≡◌, refl, ◌⊎◌, true, false, ◌&&◌, List, [], ◌++◌, length, eqb}
use Rattle.std.proofs.Common.{sym, ◌∙◌, inl, inr, take_all}
use Rattle.std.proofs.Math.Path.{subst}
use Rattle.std.proofs.Math.Option.{none}
use native.Mathlib.Omega.{arith}
use Rattle.std.proofs.lemmas.List.{length-map}
use Rattle.def_base.specs.Tests.{clash, and_true, eq_true}
use Rattle.def_layout.specs.declared.Entry.{Entry}
use Rattle.def_layout.specs.declared.Desk.{Desk}
use Rattle.def_layout.specs.Pages.{map_bits}
use Rattle.def_layout.specs.Records.{Rec}
use Rattle.def_model.specs.declared.Refusal.TheVariants.{Layout, Log, Redo, Rules, SlotsShort, PagesShort}
use Rattle.def_model.specs.Areas.{Side, Areas, page_in, store_all, log_stores}
use Rattle.def_model.specs.Answers.{check, first_broken, passed}
use Rattle.def_model.specs.Log.{slots_ok, log_area}
use Rattle.def_model.specs.Batches.{open_batches, chain_ok, desk_of, pending_count}
use Rattle.def_model.specs.Pending.{pending_ok}
use Rattle.def_model.specs.TreeRules.{tree_ok, leaf_records}
use Rattle.def_model.specs.Redo.{redo_fits}
use Rattle.def_model.specs.Sound.{sound, layouts_ok, log_ok, numbers_ok, same_slots}
use Rattle.def_model.specs.Calls.{run_side}
use Rattle.def_model.specs.Restart.{stable_log, stable_pages, stable_slots, redone, redone_pages, restarted, restart_checks, restart_areas}
use Rattle.theory_refusals.specs.Order.{passed_does}
use Rattle.def_model.specs.OnBytes.{restart, checks, does, outcome}
use Rattle.theory_redo.specs.Area.{length_replay}
use Rattle.theory_update.specs.Find.Fetching.{fetched_is}
use Rattle.theory_ledger.specs.Small.{Small}
use Rattle.theory_ledger.specs.PendingRule.{pending_settles}
use Rattle.theory_room.specs.LowLevels.{Low}
use Rattle.theory_room.specs.Restarting.{restarted_cases, restarted_within}
use Rattle.theory_history.specs.Core.{Core}
use Rattle.theory_history.specs.Trail.{Trail, trail_core, trail_longer}
use Rattle.theory_history.specs.Settling.{settle_trail}
use Rattle.law_areas.specs.Typed.{log_back}
use Rattle.theory_calls.specs.Checks.{none_broken, kept_check}
use Rattle.theory_sound.specs.FromSound.{side_laid, slots_rows, numbers_low, leaves_rise}
use Rattle.theory_sound.specs.SlotStores.{slots_exact}
use Rattle.theory_sound.specs.StoredPart.{Stores, stores_ok, stores_all, stores_more, slots_same}
use Rattle.theory_sound.specs.ToSound.{sound_again}
use Rattle.theory_sound.specs.SoundAfter.{Reserved, used_within, reserves_hold}
use Rattle.theory_sound.specs.SoundKept.{areas_after}
use Rattle.theory_sound.specs.AcceptedPages.{LowRecords, Kept, replay_kept}

-- What bytes give of a stored image: 1 to 896 pages, levels of four bits, keys of 32.
pub record Readable (a : Areas) : Type 0 where
  pub some_pages : 0 < length a.stable.pages
  pub few : length a.stable.pages ≤ map_bits
  pub low_pages : Low (stable_pages a)
  pub low_records : LowRecords (stable_log a)
  pub small : Small (open_batches (stable_log a))

-- Where no check is broken it did not stop.
pub unstopped : (a : Areas) → first_broken (restart_checks a) ≡ none → (restarted a).stop ≡ 0
unfolding restart_checks
unstopped a e =
    let e₁ = (kept_check (layouts_ok a.stable) Layout _ e).1 in
    let e₂ = (kept_check (log_ok a.stable) Log _ e₁).1 in
    let e₃ = (kept_check (redo_fits 1 (stable_log a) (stable_pages a)) Redo _ e₂).1 in
    let e₄ = (kept_check (tree_ok (redone_pages a) && pending_ok (redone_pages a) (open_batches (stable_log a))) Rules _ e₃).1 in
    let (s, e₅) = none_broken (check (eqb (restarted a).stop 17) SlotsShort) _ e₄ in
    go s (none_broken (check (eqb (restarted a).stop 18) PagesShort) [] e₅).0 (restarted_cases a)
  where
    go : eqb (restarted a).stop 17 ≡ false → eqb (restarted a).stop 18 ≡ false → ((restarted a).stop ≡ 0) ⊎ (((restarted a).stop ≡ 17) ⊎ ((restarted a).stop ≡ 18)) → (restarted a).stop ≡ 0
    go s p (inl e) = e
    go s p (inr (inl e)) = clash (sym (eq_true (restarted a).stop 17 e) ∙ s)
    go s p (inr (inr e)) = clash (sym (eq_true (restarted a).stop 18 e) ∙ p)

module _ (a : Areas) (d : Desk) (b : Readable a) (p : passed (outcome restart a d).answer ≡ true) where
  -- Every check passed.
  none_found : first_broken (restart_checks a) ≡ none
  unfolding checks
  none_found = (passed_does restart a d p).0

  pub record Passed : Type 0 where
    pub layouts : layouts_ok a.stable ≡ true
    pub log : log_ok a.stable ≡ true
    pub fits : redo_fits 1 (stable_log a) (stable_pages a) ≡ true
    pub tree : tree_ok (redone_pages a) ≡ true
    pub pending : pending_ok (redone_pages a) (open_batches (stable_log a)) ≡ true

  pub asked : Passed
  unfolding restart_checks
  asked =
      let (c₁, e₁) = kept_check (layouts_ok a.stable) Layout _ none_found in
      let (c₂, e₂) = kept_check (log_ok a.stable) Log _ e₁ in
      let (c₃, e₃) = kept_check (redo_fits 1 (stable_log a) (stable_pages a)) Redo _ e₂ in
      let (c₄, e₄) = kept_check (tree_ok (redone_pages a) && pending_ok (redone_pages a) (open_batches (stable_log a))) Rules _ e₃ in
      let (t, q) = and_true (tree_ok (redone_pages a)) (pending_ok (redone_pages a) (open_batches (stable_log a))) c₄ in
      record { layouts = c₁; log = c₂; fits = c₃; tree = t; pending = q }

  ends : (restarted a).stop ≡ 0
  ends = unstopped a none_found

  count : length (stable_pages a) ≡ length a.stable.pages
  count = length-map a.stable.pages page_in

  pub slots_good : slots_ok (length a.stable.pages) 1 a.stable.log ≡ true
  unfolding log_ok
  slots_good = (and_true (slots_ok (length a.stable.pages) 1 a.stable.log) _ asked.log).0

  pub chain_good : (chain_ok 1 (stable_log a) [] ≡ true) × (numbers_ok (length (stable_log a)) (stable_pages a) ≡ true)
  unfolding log_ok
  chain_good = and_true (chain_ok 1 (stable_log a) []) _ (and_true (slots_ok (length a.stable.pages) 1 a.stable.log) _ asked.log).1

  kept_pages : Kept (length (stable_log a)) (redone_pages a)
  unfolding redone_pages
  kept_pages =
      let (rows, names) = slots_rows (length a.stable.pages) 1 a.stable.log slots_good in
      replay_kept (length (stable_log a)) 1 (length a.stable.pages) (stable_log a) (stable_pages a) count b.some_pages b.few (omega arith) rows names b.low_records asked.fits
      (record { laid = side_laid a.stable asked.layouts; low = b.low_pages; numbers = λ q h. let y = numbers_low (length (stable_log a)) (stable_pages a) chain_good.1 q h in omega arith })

  start : (sl : List Entry) × Core (length a.stable.pages) (redone a) sl
  unfolding redone redone_pages
  start =
      let (rows, names) = slots_rows (length a.stable.pages) 1 a.stable.log slots_good in
      let k = kept_pages in
      let (sl, settles) = pending_settles (redone_pages a) (leaf_records (redone_pages a)) (λ q t. fetched_is q (redone_pages a) asked.tree t) (open_batches (stable_log a)) b.small (leaves_rise (redone_pages a) asked.tree) asked.pending in (
        sl,
        record {
          size = length_replay 1 (stable_log a) (stable_pages a) ∙ count;
          tree = asked.tree;
          lows = λ q h. let y = k.numbers q h in omega arith;
          laid = k.laid;
          rows = rows;
          names = names;
          chain = chain_good.0;
          small = b.small;
          settles = settles;
          due = refl;
          goes = refl;
        },
      )

  pub sl : List Entry
  sl = start.0

  pub started : Core (length a.stable.pages) (redone a) sl
  unfolding sl
  started = start.1

  pub trailed : Trail (redone a) sl (restarted a) sl × (open_batches (restarted a).log ≡ [])
  unfolding restarted sl
  trailed = settle_trail (length a.stable.pages) b.few (redone a) start.0 start.1 ends

  pub none_open : open_batches (restarted a).log ≡ []
  none_open = trailed.1

  pub core : Core (length a.stable.pages) (restarted a) sl
  unfolding sl
  core = trail_core b.few trailed.0 start.1

  held : Stores a.stable (length (stable_log a)) (stable_log a)
  unfolding log_area
  held = (
    omega arith,
    subst (λ z. same_slots a.stable.log (log_area (length a.stable.log) z) ≡ true) (sym (take_all (length (stable_log a)) (stable_log a) (omega arith)))
        (subst (λ z. same_slots a.stable.log z ≡ true) (slots_exact (length a.stable.pages) 1 a.stable.log slots_good) (slots_same a.stable.log)),
  )

  pub longer : (more : List Rec) × ((restarted a).log ≡ stable_log a ++ more)
  unfolding redone
  longer = let g = trail_longer trailed.0 in (g.recs, g.log)

  stored_now : Stores (store_all (log_stores (length (stable_log a)) (restarted a).log) a.stable) (length (restarted a).log) (restarted a).log
  stored_now =
      let (more, e) = longer in
      stores_all a.stable (length (stable_log a)) (restarted a).log (restarted_within a) (subst (Stores a.stable (length (stable_log a))) (sym e) (stores_more a.stable (length (stable_log a)) (stable_log a) more held))

  -- Nothing is open, so that nothing is reserved.
  free_all : Reserved (stable_slots a) (restarted a).pages (restarted a).log (open_batches (restarted a).log)
  unfolding pending_count
  free_all =
      let u = used_within (restarted a).pages in
      let w = restarted_within a in
      subst (Reserved (stable_slots a) (restarted a).pages (restarted a).log) (sym none_open) (record { slots_free = omega arith; pages_free = omega arith })

  -- A RESTARTED REGISTER IS SOUND.
  pub restart_sound : sound (areas_after restart a d) (outcome restart a d).desk ≡ true
  unfolding does restart_areas run_side desk_of
  restart_sound =
      let s : Side = store_all (log_stores (length (stable_log a)) (restarted a).log) a.stable in
      (λ j. let y = (passed_does restart a d p).1 j in sound (record { work = y.work; stable = store_all y.stores a.stable }) y.desk)
      ∙ sound_again (length a.stable.pages) (stable_slots a) b.few (restarted a) sl core (restarted_within a) s (length (restarted a).log)
      (stores_ok (record { work = run_side (stable_slots a) (restarted a); stable = s }) (desk_of (restarted a).log (length (restarted a).log)) (restarted a).log (log_back (stable_slots a) (restarted a).log) stored_now) (reserves_hold (stable_slots a) (restarted a).pages (restarted a).log (open_batches (restarted a).log) free_all)
