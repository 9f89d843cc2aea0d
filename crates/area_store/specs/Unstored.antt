-- THE STORES OF A LOG'S UNSTORED RECORDS: their slots stand in the working log, from the first that is not stored on.
use Rattle.std.specs.Prelude.{◌≡◌, take, drop, get_or}
use Rattle.std.proofs.Math.Path.{refl, ap, sym, subst}
use Rattle.std.proofs.Common.{◌∙◌, get_or-take, get_or-drop}
use Prim.Native.Nat.{ℕ, zero, suc, ◌+◌, ◌-◌, ◌*◌, ◌≤◌, ◌<◌}
use native.Mathlib.Omega.{arith}
use mathlib.Core.List.{List, [], ◌∷◌, ◌++◌, map, map-append}
use Rattle.std.proofs.Math.ListN.{length, replicate, length-drop, length-append}
use Rattle.std.proofs.Math.Seq.{take_at}
use Rattle.std.proofs.lemmas.List.{drop-append-le}
use Rattle.def_layout.specs.Pages.{Page}
use Rattle.def_layout.specs.PageBytes.{page_bytes, without_left}
use Rattle.def_layout.specs.Sizes.{page_size, slot_size}
use Rattle.def_layout.specs.Records.{Rec}
use Rattle.def_layout.specs.RecordBytes.{Slot, empty, slot_bytes}
use Rattle.def_model.specs.Log.{slots_from, log_area}
use Rattle.def_model.specs.Areas.{Store, store_page, log_stores}
use Rattle.def_model.specs.Calls.{page_stores}
use Rattle.def_model.specs.OnBytes.{log_bytes, store_all_bytes}
use Rattle.law_bytes.specs.Words.{part}
use Rattle.law_areas.specs.Parts.{Wide, wide_append, wide_blank}
use Rattle.law_areas.specs.Logs.{wide_slots}
use Rattle.law_areas.specs.Typed.{slots_length}
use Rattle.area_lengths.specs.Lent.{lent}
use Rattle.area_store.specs.Lists.{Lists}
use Rattle.area_store.specs.declared.Area.TheVariants.{Pages, Slots}
use Rattle.area_store.specs.Parts.{SlotsAt, slot_part, slot_stores_length, page_alone, slots_span, pages_span, both}
use Rattle.area_store.specs.Beside.{SlotsLeft, any_work}

-- Their slots.
abbrev pub unstored : ℕ → List Rec → List Slot
unstored stored log = slots_from (suc stored) (drop stored log)

pub unstored_length : (stored : ℕ) (log : List Rec) → length (unstored stored log) ≡ length log - stored
unstored_length stored log = slots_length (suc stored) (drop stored log) ∙ length-drop stored log

pub log_stores_length : (stored : ℕ) (log : List Rec) → length (log_stores stored log) ≡ length log - stored
unfolding log_stores
log_stores_length stored log = slot_stores_length (suc stored) (unstored stored log) ∙ unstored_length stored log

drop_slots : (i n : ℕ) (log : List Rec) → drop i (slots_from n log) ≡ slots_from (n + i) (drop i log)
unfolding slots_from
drop_slots zero n log = let e : n ≡ n + 0 = omega arith in ap (λ (k : ℕ). slots_from k log) e
drop_slots (suc i) n [] = refl
drop_slots (suc i) n (r ∷ log) = let e : suc n + i ≡ n + suc i = omega arith in drop_slots i (suc n) log ∙ ap (λ (k : ℕ). slots_from k (drop i log)) e

module _ (m stored : ℕ) (log : List Rec) where
  in_area : stored ≤ length log → take (length log - stored) (drop stored (log_area m log)) ≡ unstored stored log
  unfolding log_area
  in_area h =
      let s : List Slot = slots_from 1 log in
      let rest : List Slot = replicate (m - length log) empty in
      let e : 1 + stored ≡ suc stored = omega arith in
      ap (take (length log - stored)) (drop-append-le stored s rest (omega (arith, slots_length 1 log)))
      ∙ take_at (drop stored s) rest (length log - stored) (omega (arith, length-drop stored s, slots_length 1 log))
      ∙ drop_slots stored 1 log ∙ ap (λ (k : ℕ). slots_from k (drop stored log)) e

  wide_area : Wide slot_size (map slot_bytes (log_area m log))
  unfolding log_area slot_bytes
  wide_area =
      let rest : List Slot = replicate (m - length log) empty in
      subst (Wide slot_size) (sym (map-append slot_bytes (slots_from 1 log) rest))
      (wide_append slot_size (map slot_bytes (slots_from 1 log)) (map slot_bytes rest) (wide_slots 1 log) (wide_blank slot_size slot_bytes empty refl (m - length log)))

  area_longer : length log ≤ length (log_area m log)
  unfolding log_area
  area_longer = omega (arith, length-append (slots_from 1 log) (replicate (m - length log) empty), slots_length 1 log)

  -- STANDING in a working log of m slots.
  pub unstored_at : (wl : List ℕ) → wl ≡ log_bytes (log_area m log) → stored ≤ length log → SlotsAt wl stored (unstored stored log)
  unstored_at wl e h k l =
      let r : k < length log - stored = omega (arith, l, unstored_length stored log) in
      ap slot_bytes
      (ap (λ (xs : List Slot). get_or xs k empty) (sym (in_area h)) ∙ get_or-take (length log - stored) (drop stored (log_area m log)) k empty r
      ∙ get_or-drop stored (log_area m log) k empty)
      ∙ sym (slot_part (log_area m log) (stored + k) wide_area (omega (arith, r, area_longer)))
      ∙ ap (λ (b : List ℕ). part b (slot_size * (stored + k)) slot_size) (sym e)

-- ---- by a budget

-- The working log has become wl; its first `stored` records are stored.
module _ (m stored budget : ℕ) (log : List Rec) (wl : List ℕ) (work : wl ≡ log_bytes (log_area m log)) (fewer : stored ≤ length log) where
  -- RECORDS ALONE: nothing but the stable log is another.
  pub records_left : (ts : List Store) → ts ≡ log_stores stored log → (to : ℕ) → to ≡ length log → (wp sp wl₀ sl sl' : List ℕ) → SlotsLeft stored to budget wl sl sl'
      → ((store_all_bytes (take budget ts) (lent wp sp wl₀ sl)).stable_pages ≡ sp) × ((store_all_bytes (take budget ts) (lent wp sp wl₀ sl)).stable_log ≡ sl')
  unfolding log_stores
  records_left ts o to t wp sp wl₀ sl sl' left =
      any_work (take budget ts) wp sp wl₀ sl wp wl (lent wp sp wl sl')
      (left wp sp (unstored stored log) (unstored_length stored log ∙ ap (λ (k : ℕ). k - stored) (sym t)) (unstored_at m stored log wl work fewer)
      ∙ ap (λ (us : List Store). store_all_bytes (take budget us) (lent wp sp wl sl)) (sym o))

  -- RECORDS, THEN PAGE p.
  pub write_out_list : (wp : List ℕ) (p : ℕ) (x : Page) → without_left (part wp (page_size * p) page_size) ≡ page_bytes x → (n : ℕ) → n ≡ length log - stored
      → Lists wp wl (record { first = record { area = Slots; from = stored; count = n }; rest = record { area = Pages; from = p; count = 1 } }) (log_stores stored log ++ store_page p x ∷ [])
  unfolding log_stores page_stores
  write_out_list wp p x e n c =
      both wp wl (record { first = record { area = Slots; from = stored; count = n }; rest = record { area = Pages; from = p; count = 1 } })
      (log_stores stored log) (store_page p x ∷ [])
      (slots_span wp wl stored n (unstored stored log) (unstored_length stored log ∙ sym c) (unstored_at m stored log wl work fewer))
      (pages_span wp wl p 1 (x ∷ []) refl (page_alone wp p x e))
