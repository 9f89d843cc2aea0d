-- A run that ends on a sound register leaves it sound, where its reserves are right.
use Rattle.std.specs.Prelude.{ℕ, ◌+◌, ◌-◌, ◌*◌, ◌≤◌, ◌≡◌, refl, Bool, true, false, length, take, leb}
use Rattle.std.proofs.Common.{sym, arith, length-take}
use Rattle.std.proofs.Math.Path.{subst}
use mathlib.Core.List.{List, [], ◌∷◌, ◌++◌}
use Rattle.def_base.specs.Tests.{and_true, and_both, le_true, true_le}
use Rattle.def_layout.specs.declared.Entry.{Entry}
use Rattle.def_layout.specs.declared.Desk.{Desk}
use Rattle.def_layout.specs.Pages.{Page, at, map_bits}
use Rattle.def_layout.specs.Records.{Rec}
use Rattle.def_model.specs.Areas.{Side, Areas, Store, store_page, store, store_all, log_stores}
use Rattle.def_model.specs.Batches.{Batch, open_batches, desk_of, pending_count}
use Rattle.def_model.specs.TreeRules.{ones, used_pages}
use Rattle.def_model.specs.Update.{Run}
use Rattle.def_model.specs.Sound.{sound, reserve, reserves_ok, work_log, work_slots}
use Rattle.def_model.specs.Log.{records_of}
use Rattle.def_model.specs.Calls.{run_side}
use Rattle.theory_history.specs.Core.{Core}
use Rattle.law_areas.specs.Typed.{log_back}
use Rattle.theory_calls.specs.Checks.{sound_parts}
use Rattle.theory_sound.specs.StoredPart.{Stores, stores_ok, ok_stores, stores_more, stores_all}
use Rattle.theory_sound.specs.ToSound.{sound_again}

-- ---- reserves

few_ones : (bs : List Bool) → ones bs ≤ length bs
unfolding ones
few_ones [] = omega arith
few_ones (true ∷ bs) = let i = few_ones bs in omega arith
few_ones (false ∷ bs) = let i = few_ones bs in omega arith

pub used_within : (pages : List Page) → used_pages pages ≤ length pages
used_within pages = let a = few_ones (take (length pages) (at pages 0).marks) in let b = length-take (length pages) (at pages 0).marks in omega arith

-- Slots and pages kept free.
pub record Reserved (slots : ℕ) (pages : List Page) (log : List Rec) (bs : List Batch) : Type 0 where
  pub slots_free : length log + (32 * pending_count bs + 2 * length bs) ≤ slots
  pub pages_free : used_pages pages + 7 * pending_count bs ≤ length pages

pub reserved : (slots : ℕ) (pages : List Page) (log : List Rec) (bs : List Batch) → reserves_ok slots pages log bs ≡ true → Reserved slots pages log bs
unfolding reserves_ok reserve
reserved slots pages log bs e =
    let (a, b) = and_true (leb (length log + (32 * pending_count bs + 2 * length bs)) slots) _ e in
    let x = true_le (length log + (32 * pending_count bs + 2 * length bs)) slots a in
    let y = true_le (7 * pending_count bs) (length pages - used_pages pages) b in
    let u = used_within pages in
    record { slots_free = x; pages_free = omega arith }

pub reserves_hold : (slots : ℕ) (pages : List Page) (log : List Rec) (bs : List Batch) → Reserved slots pages log bs → reserves_ok slots pages log bs ≡ true
unfolding reserves_ok reserve
reserves_hold slots pages log bs r =
    let y = r.pages_free in
    and_both (le_true (length log + (32 * pending_count bs + 2 * length bs)) slots r.slots_free) (le_true (7 * pending_count bs) (length pages - used_pages pages) (omega arith))

-- ---- after a run

module _ (a : Areas) (d : Desk) (s : sound a d ≡ true) (few : length a.work.pages ≤ map_bits) (t : Run) (sl : List Entry) (c : Core (length a.work.pages) t sl) (more : List Rec) (is : t.log ≡ work_log a ++ more) (r : Reserved (work_slots a) t.pages t.log (open_batches t.log)) where
  fits : length t.log ≤ work_slots a
  fits = let x = r.slots_free in omega arith

  holds : Stores a.stable d.stored t.log
  holds = subst (Stores a.stable d.stored) (sym is) (stores_more a.stable d.stored (work_log a) more (ok_stores a d (sound_parts a d s).stored))

  logged : records_of (run_side (work_slots a) t).log ≡ t.log
  unfolding run_side
  logged = log_back (work_slots a) t.log

  -- Nothing was stored.
  pub kept_sound : sound (record { work = run_side (work_slots a) t; stable = a.stable }) (desk_of t.log d.stored) ≡ true
  unfolding desk_of
  kept_sound =
      sound_again (length a.work.pages) (work_slots a) few t sl c fits a.stable d.stored
      (stores_ok (record { work = run_side (work_slots a) t; stable = a.stable }) (desk_of t.log d.stored) t.log logged holds) (reserves_hold (work_slots a) t.pages t.log (open_batches t.log) r)

  -- Every record was stored, and pages after them.
  pub stored_sound : (stable : Side) → length t.log ≤ length a.stable.log → stable.log ≡ (store_all (log_stores d.stored t.log) a.stable).log → sound (record { work = run_side (work_slots a) t; stable = stable }) (desk_of t.log (length t.log)) ≡ true
  unfolding desk_of
  stored_sound stable room e =
      let h = stores_all a.stable d.stored t.log room holds in
      sound_again (length a.work.pages) (work_slots a) few t sl c fits stable (length t.log)
      (stores_ok (record { work = run_side (work_slots a) t; stable = stable }) (desk_of t.log (length t.log)) t.log logged (same_area (store_all (log_stores d.stored t.log) a.stable) stable (length t.log) t.log (sym e) h)) (reserves_hold (work_slots a) t.pages t.log (open_batches t.log) r)
    where
      same_area : (u v : Side) (k : ℕ) (log : List Rec) → u.log ≡ v.log → Stores u k log → Stores v k log
      same_area u v k log e h = subst (λ z. Stores (record { pages = v.pages; lefts = v.lefts; log = z }) k log) e h

-- A page store leaves the log.
pub page_after : (ts : List Store) (p : ℕ) (x : Page) (s : Side) → (store_all (ts ++ store_page p x ∷ []) s).log ≡ (store_all ts s).log
unfolding store_all store
page_after [] p x s = refl
page_after (t ∷ ts) p x s = page_after ts p x (store t s)
