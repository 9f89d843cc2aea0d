-- Working areas that hold a history: what a call finds there.
use Prim.Native.Nat.{ℕ, zero, suc, ◌-◌, ◌≤◌}
use Rattle.std.specs.Prelude.{◌≡◌, true, List, [], ◌∷◌, ◌++◌, map, take, replicate, leb}
use Rattle.std.proofs.Math.Path.{refl, sym, ap}
use Rattle.std.proofs.Common.{◌∙◌, subst, length-take-le}
use Rattle.std.proofs.Math.ListN.{length}
use Rattle.std.proofs.lemmas.List.{length-map}
use Rattle.def_base.specs.Tests.{clash, and_true, true_le}
use Rattle.def_layout.specs.declared.Desk.{Desk}
use Rattle.def_layout.specs.Numbers.{same_bytes}
use Rattle.def_layout.specs.Pages.{map_bits}
use Rattle.def_layout.specs.PageBytes.{page}
use Rattle.def_layout.specs.Records.{Rec}
use Rattle.def_layout.specs.RecordBytes.{Slot, empty, full, other, record_bytes}
use Rattle.def_model.specs.Log.{records_of, slots_from, log_area}
use Rattle.def_model.specs.Links.{relinked}
use Rattle.def_model.specs.Update.{Run}
use Rattle.def_model.specs.Areas.{Side, Areas, pages_of}
use Rattle.def_model.specs.Sound.{work_pages, work_log, work_slots, same_slot, same_slots, stored_ok}
use Rattle.def_model.specs.Calls.{run_of, run_side}
use Rattle.theory_history.specs.Origin.{Origin}
use Rattle.theory_history.specs.Start.{slides_after, pages_after, length_after}
use Rattle.theory_history.specs.History.{History, history_now, run_after, core_same, Standing}
use Rattle.theory_history.specs.Linking.{history_links}
use Rattle.law_areas.specs.Typed.{pages_back, log_back, log_area_length}

-- The working side that holds a log, of n pages and m slots. Its left links follow from the pages.
abbrev pub side_after : Origin → ℕ → ℕ → List Rec → Side
side_after o n m log = record { pages = map page (pages_after o n log); lefts = relinked (pages_after o n log) []; log = log_area m log }

pub record Holds (o : Origin) (n m : ℕ) (log : List Rec) (s : Side) : Type 0 where
  pub is : s ≡ side_after o n m log
  pub fits : length log ≤ m

-- What a run at the end of its history leaves.
pub run_left : (o : Origin) (n m : ℕ) → n ≤ map_bits → (s : Run) → s.pages ≡ pages_after o n s.log → History o n s.log → run_side m s ≡ side_after o n m s.log
unfolding run_side
run_left o n m most s e x =
    let l : relinked s.pages s.lefts ≡ relinked (pages_after o n s.log) [] = ap (λ q. relinked q s.lefts) e ∙ history_links o n most s.log x s.lefts [] in
    λ i. record { pages = map page (e i); lefts = l i; log = log_area m s.log }

module _ (o : Origin) (n m : ℕ) (log : List Rec) (a : Areas) (h : Holds o n m log a.work) where
  pub live_pages : work_pages a ≡ pages_after o n log
  live_pages = ap (λ s. pages_of s.pages) h.is ∙ pages_back (pages_after o n log)

  pub live_log : work_log a ≡ log
  live_log = ap (λ s. records_of s.log) h.is ∙ log_back m log

  pub live_slots : work_slots a ≡ m
  live_slots = ap (λ s. length s.log) h.is ∙ log_area_length m log h.fits

  pub live_count : length a.work.pages ≡ n
  live_count = ap (λ s. length s.pages) h.is ∙ length-map (pages_after o n log) page ∙ length_after o n log

  -- The run that a call starts from.
  pub live_run : run_of a ≡ record { pages = pages_after o n log; lefts = relinked (pages_after o n log) []; log = log; due = suc (length log); room = m - length log; stop = 0 }
  unfolding run_of
  live_run = λ i. record { pages = live_pages i; lefts = (h.is i).lefts; log = live_log i; due = suc (length (live_log i)); room = live_slots i - length (live_log i); stop = 0 }

  pub live_standing : History o n log → Standing o n (run_of a) (slides_after o log)
  live_standing x =
      subst (λ s. Standing o n s (slides_after o log)) (sym live_run)
      (record { core = core_same n (run_after o n log) _ (slides_after o log) (slides_after o log) refl refl refl refl refl (history_now o n log x); pages = refl; slides = refl; history = x })

  -- What a run that changes nothing leaves.
  pub live_same : n ≤ map_bits → History o n log → run_side m (run_of a) ≡ a.work
  unfolding run_side
  live_same most x = ap (run_side m) live_run ∙ run_left o n m most (record { pages = pages_after o n log; lefts = relinked (pages_after o n log) []; log = log; due = suc (length log); room = m - length log; stop = 0 }) refl x ∙ sym h.is

-- ---- how much is stored

unfoldable pub fulls : List Slot → ℕ
fulls [] = 0
fulls (empty ∷ s) = fulls s
fulls (full n r ∷ s) = suc (fulls s)
fulls (other b ∷ s) = fulls s

same_fulls : (s t : List Slot) → same_slots s t ≡ true → fulls s ≡ fulls t
unfolding same_slots same_slot fulls
same_fulls [] [] e = refl
same_fulls [] (y ∷ t) e = clash (sym e)
same_fulls (x ∷ s) [] e = clash (sym e)
same_fulls (empty ∷ s) (empty ∷ t) e = same_fulls s t e
same_fulls (empty ∷ s) (full n r ∷ t) e = clash (sym e)
same_fulls (empty ∷ s) (other b ∷ t) e = clash (sym e)
same_fulls (full n r ∷ s) (empty ∷ t) e = clash (sym e)
same_fulls (full n r ∷ s) (full k q ∷ t) e = ap suc (same_fulls s t (and_true (same_bytes (record_bytes n r) (record_bytes k q)) (same_slots s t) e).1)
same_fulls (full n r ∷ s) (other b ∷ t) e = clash (sym e)
same_fulls (other b ∷ s) (empty ∷ t) e = clash (sym e)
same_fulls (other b ∷ s) (full n r ∷ t) e = clash (sym e)
same_fulls (other b ∷ s) (other d ∷ t) e = same_fulls s t (and_true (same_bytes b d) (same_slots s t) e).1

area_fulls : (k m : ℕ) (log : List Rec) → fulls (slots_from k log ++ replicate m empty) ≡ length log
unfolding slots_from fulls
area_fulls k zero [] = refl
area_fulls k (suc m) [] = area_fulls k m []
area_fulls k m (r ∷ log) = ap suc (area_fulls (suc k) m log)

-- A sound desk counts the stored records.
pub stored_count : (m : ℕ) (stable : List Rec) (a : Areas) (d : Desk) → a.stable.log ≡ log_area m stable → stored_ok a d ≡ true → d.stored ≡ length stable
unfolding stored_ok log_area
stored_count m stable a d e s =
    let (x, y) = and_true (leb d.stored (length (work_log a))) _ s in
    let l = true_le d.stored (length (work_log a)) x in
    let t = same_fulls a.stable.log (log_area (length a.stable.log) (take d.stored (work_log a))) y in
    let u = area_fulls 1 (length a.stable.log - length (take d.stored (work_log a))) (take d.stored (work_log a)) in
    let v = ap fulls e ∙ area_fulls 1 (m - length stable) stable in
    sym (sym v ∙ t ∙ u ∙ length-take-le d.stored (work_log a) l)
