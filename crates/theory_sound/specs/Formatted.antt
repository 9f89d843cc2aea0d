-- FORMAT AND LOAD LEAVE SOUND AREAS AND A SOUND DESK, whatever was there.
use Rattle.std.specs.Prelude.{ℕ, suc, ◌-◌, ◌≤◌, ◌≡◌, true, replicate}
use Rattle.std.proofs.Math.Path.{refl, sym, ap, subst}
use Rattle.std.proofs.Common.{◌∙◌}
use mathlib.Core.List.{List, [], ◌∷◌, ◌++◌, append-nil}
use native.Mathlib.Omega.{arith}
use Rattle.std.proofs.Math.ListN.{length, length-replicate}
use Rattle.def_layout.specs.declared.Desk.{Desk}
use Rattle.def_layout.specs.Desks.{eight_rows}
use Rattle.def_layout.specs.Numbers.{tab}
use Rattle.def_layout.specs.Pages.{Page, map_bits}
use Rattle.def_layout.specs.RecordBytes.{empty}
use Rattle.def_model.specs.Areas.{Side, Areas, Store, store_page, store, store_all, slot_stores}
use Rattle.def_model.specs.Log.{slots_from, log_area}
use Rattle.def_model.specs.Batches.{open_batches, told, desk_of, pending_count}
use Rattle.def_model.specs.Update.{Run}
use Rattle.def_model.specs.Sound.{sound, same_slots}
use Rattle.def_model.specs.Loading.{columns, loaded_pages}
use Rattle.def_model.specs.Answers.{first_broken, passed}
use Rattle.def_model.specs.Calls.{run_side, start_side, formatted_pages, page_stores, format_stores, format_areas, load_areas}
use Rattle.def_model.specs.OnBytes.{start, format, load, checks, start_checks, does, start_does, outcome_by, outcome}
use Rattle.def_recovery.specs.Events.{of_32_bits}
use Rattle.theory_history.specs.Origin.{Origin, origin_pages}
use Rattle.theory_refusals.specs.Order.{passed_does}
use Rattle.theory_history.specs.FormattedOrigin.{formatted_origin, formatted_is}
use Rattle.theory_history.specs.Start.{slides_after, pages_after}
use Rattle.theory_history.specs.Core.{Core}
use Rattle.theory_history.specs.History.{history_now, core_same, run_after}
use Rattle.theory_history.specs.Growing.{start_history}
use Rattle.law_areas.specs.Typed.{log_back}
use Rattle.def_model.specs.Redo.{replay}
use Rattle.theory_load.specs.Checked.{load_starts}
use Rattle.theory_sound.specs.SlotStores.{slots_written}
use Rattle.theory_sound.specs.StoredPart.{Stores, stores_ok, slots_same}
use Rattle.theory_sound.specs.ToSound.{sound_again}
use Rattle.theory_sound.specs.SoundAfter.{Reserved, used_within, reserves_hold}
use Rattle.theory_sound.specs.SoundKept.{areas_after}

-- ---- format

-- A page store leaves the log.
pages_leave : (p : ℕ) (xs : List Page) (s : Side) → (store_all (page_stores p xs) s).log ≡ s.log
unfolding store_all store page_stores
pages_leave p [] s = refl
pages_leave p (x ∷ xs) s = pages_leave (suc p) xs (store (store_page p x) s)

stores_then : (a b : List Store) (s : Side) → store_all (a ++ b) s ≡ store_all b (store_all a s)
unfolding store_all
stores_then [] b s = refl
stores_then (t ∷ a) b s = stores_then a b (store t s)

pub formatted_log : (pages : List Page) (m : ℕ) (s : Side) → length s.log ≡ m → (store_all (format_stores pages m) s).log ≡ replicate m empty
unfolding format_stores
formatted_log pages m s e =
    let l = length-replicate m empty in
    ap (λ z. z.log) (stores_then (page_stores 0 pages) (slot_stores 1 (replicate m empty)) s)
    ∙ slots_written (replicate m empty) [] s.log [] (store_all (page_stores 0 pages) s) (pages_leave 0 pages s ∙ sym (append-nil s.log)) (omega arith) ∙ append-nil (replicate m empty)

-- AREAS THAT HOLD AN ORIGIN, AND NO RECORDS, ARE SOUND.
module _ (o : Origin) (n m : ℕ) (least : o.least ≤ n) (few : n ≤ map_bits) (stable : Side) (blank : stable.log ≡ replicate m empty) where
  t : Run
  t = record { pages = origin_pages o n; lefts = []; log = []; due = 1; room = m; stop = 0 }

  core : Core n t (slides_after o [])
  unfolding t pages_after replay
  core = core_same n (run_after o n []) t (slides_after o []) (slides_after o []) refl refl refl refl refl (history_now o n [] (start_history o n least few))

  stored : Stores stable 0 t.log
  unfolding t log_area slots_from
  stored =
      let l = length-replicate m empty in
      let k : length stable.log - 0 ≡ m = let q : length stable.log ≡ length (replicate m empty) = ap length blank in omega arith in
      (omega arith, subst (λ z. same_slots z (replicate (length stable.log - 0) empty) ≡ true) (sym blank) (subst (λ z. same_slots (replicate m empty) (replicate z empty) ≡ true) (sym k) (slots_same (replicate m empty))))

  fits : length t.log ≤ m
  unfolding t
  fits = omega arith

  reserves : Reserved m t.pages t.log (open_batches t.log)
  unfolding t open_batches told pending_count
  reserves = let u = used_within (origin_pages o n) in record { slots_free = omega arith; pages_free = omega arith }

  side_is : run_side m t ≡ start_side (origin_pages o n) m
  unfolding t run_side start_side log_area slots_from
  side_is = let e : m - 0 ≡ m = omega arith in ap (start_side (origin_pages o n)) e

  pub origin_sound : sound (record { work = start_side (origin_pages o n) m; stable = stable }) (desk_of [] 0) ≡ true
  unfolding t desk_of run_side
  origin_sound =
      (λ i. sound (record { work = sym side_is i; stable = stable }) (desk_of [] 0))
      ∙ sound_again n m few t (slides_after o []) core fits stable 0 (stores_ok (record { work = run_side m t; stable = stable }) (desk_of t.log 0) t.log (log_back m t.log) stored) (reserves_hold m t.pages t.log (open_batches t.log) reserves)

-- A FORMATTED REGISTER IS SOUND.
pub format_sound : (a : Areas) (d : Desk) → 2 ≤ length a.work.pages → length a.work.pages ≤ map_bits → length a.stable.log ≡ length a.work.log → sound (areas_after (start format) a d) (outcome (start format) a d).desk ≡ true
unfolding outcome outcome_by checks start_checks first_broken does start_does format_areas formatted_origin desk_of open_batches told eight_rows tab
format_sound a d least few equal =
    let n = length a.work.pages in
    let m = length a.work.log in
    let stable = store_all (format_stores (formatted_pages n) m) a.stable in
    (λ i. sound (record { work = start_side (sym (formatted_is n least) i) m; stable = stable }) (desk_of [] 0))
    ∙ origin_sound formatted_origin n m least few stable (formatted_log (formatted_pages n) m a.stable equal)

-- A LOADED REGISTER IS SOUND.
pub load_sound : (ks vs : List ℕ) (a : Areas) (d : Desk) → of_32_bits (start (load ks vs)) ≡ true → length a.work.pages ≤ map_bits → length a.stable.log ≡ length a.work.log → passed (outcome (start (load ks vs)) a d).answer ≡ true
    → sound (areas_after (start (load ks vs)) a d) (outcome (start (load ks vs)) a d).desk ≡ true
unfolding does start_does load_areas desk_of open_batches told eight_rows tab
load_sound ks vs a d fits few equal p =
    let n = length a.work.pages in
    let m = length a.work.log in
    let x = load_starts ks vs a d p fits few in
    let pages = loaded_pages n (columns ks vs) in
    let stable = store_all (format_stores pages m) a.stable in
    let s : sound (record { work = start_side pages m; stable = stable }) (desk_of [] 0) ≡ true =
    (λ i. sound (record { work = start_side (x.pages_are i) m; stable = stable }) (desk_of [] 0))
    ∙ origin_sound x.origin n m x.enough few stable (formatted_log pages m a.stable equal) in
    subst (λ y. sound (record { work = y.work; stable = store_all y.stores a.stable }) y.desk ≡ true) (sym (passed_does (start (load ks vs)) a d p).1) s
