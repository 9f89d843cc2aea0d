-- What the stores of a formatting leave: its pages and an empty log, whatever stood there before.
use Rattle.std.specs.Prelude.{◌≡◌, refl, ℕ, ◌*◌, List, [], map, length, replicate}
use Rattle.std.proofs.Common.{ap, sym, ◌∙◌, subst, mul-zero, arith}
use Rattle.std.proofs.lemmas.List.{length-replicate}
use Rattle.def_layout.specs.Numbers.{zeros}
use Rattle.def_layout.specs.Pages.{Page}
use Rattle.def_layout.specs.PageBytes.{page}
use Rattle.def_layout.specs.Sizes.{page_size, slot_size}
use Rattle.def_layout.specs.RecordBytes.{Slot, empty, slot_bytes}
use Rattle.def_model.specs.Areas.{slot_stores}
use Rattle.def_model.specs.Calls.{page_stores, format_stores}
use Rattle.def_model.specs.OnBytes.{Lent, put_part, pages_bytes, log_bytes, store_all_bytes}
use Rattle.law_bytes.specs.Patch.{patch, patch_whole}
use Rattle.law_areas.specs.Parts.{wide_blank}
use Rattle.law_areas.specs.Held.{holds_itself, put_is}
use Rattle.law_areas.specs.Pages.{HoldsPages, pages_length}
use Rattle.law_areas.specs.Logs.{HoldsLog, empty_bytes, no_records}
use Rattle.law_areas.specs.Stores.{with_pages, with_log, stores_append, page_stores_bytes, slot_stores_bytes}
use Rattle.law_areas.specs.Lengths.{Lengths, lengths_kept}

-- The first parts written over, as many bytes as there are: nothing is left.
put_whole : (w : ℕ) (v b : List ℕ) → length v ≡ length b → put_part (w * 0) v b ≡ v
put_whole w v b h = put_is (w * 0) v b ∙ ap (λ (i : ℕ). patch b i v) (mul-zero w) ∙ patch_whole b v h

-- The stores of any pages and m empty slots, where there is just room for them.
pub format_bytes : (xs : List Page) (m : ℕ) (l : Lent) → length l.stable_pages ≡ page_size * length xs → length l.stable_log ≡ slot_size * m
    → store_all_bytes (format_stores xs m) l
    ≡ record { work_pages = l.work_pages; stable_pages = pages_bytes (map page xs); work_log = l.work_log; stable_log = zeros (slot_size * m) }
unfolding format_stores slot_bytes
format_bytes xs m l p s =
    let bytes : List ℕ = pages_bytes (map page xs) in
    let slots : List Slot = replicate m empty in
    let e : length slots ≡ m = length-replicate m empty in
    let pages : put_part (page_size * 0) bytes l.stable_pages ≡ bytes = put_whole page_size bytes l.stable_pages (omega (arith, pages_length xs)) in
    let size : length (log_bytes slots) ≡ length l.stable_log = ap length (empty_bytes m) ∙ length-replicate (slot_size * m) 0 ∙ sym s in
    let log : put_part (slot_size * 0) (log_bytes slots) l.stable_log ≡ log_bytes slots = put_whole slot_size (log_bytes slots) l.stable_log size in
    stores_append (page_stores 0 xs) (slot_stores 1 slots) l
    ∙ ap (store_all_bytes (slot_stores 1 slots)) (page_stores_bytes 0 xs l (omega arith) ∙ ap (with_pages l) pages)
    ∙ slot_stores_bytes 0 slots (with_pages l bytes) (wide_blank slot_size slot_bytes empty refl m) (omega arith)
    ∙ ap (with_log (with_pages l bytes)) (log ∙ empty_bytes m)

-- WHAT A FORMATTING LEAVES: exactly its pages, a log of zeros, and the working areas as they were.
pub record Formatted (l after : Lent) (xs : List Page) (m : ℕ) : Type 0 where
  pub work_pages : after.work_pages ≡ l.work_pages
  pub work_log : after.work_log ≡ l.work_log
  pub pages_are : after.stable_pages ≡ pages_bytes (map page xs)
  pub stable_pages : HoldsPages after.stable_pages xs
  pub log_is : after.stable_log ≡ zeros (slot_size * m)
  pub stable_log : HoldsLog after.stable_log []
  pub lengths : Lengths after (length xs) m

pub formatted : (l : Lent) (xs : List Page) (m : ℕ) → Lengths l (length xs) m → Formatted l (store_all_bytes (format_stores xs m) l) xs m
formatted l xs m h =
    let k : Lent = record { work_pages = l.work_pages; stable_pages = pages_bytes (map page xs); work_log = l.work_log; stable_log = zeros (slot_size * m) } in
    subst (λ (k : Lent). Formatted l k xs m)
    (sym (format_bytes xs m l h.stable_pages h.stable_log))
    (record {
      work_pages = refl;
      work_log = refl;
      pages_are = refl;
      stable_pages = holds_itself (pages_bytes (map page xs));
      log_is = refl;
      stable_log = no_records (slot_size * m);
      lengths = lengths_kept l k (length xs) m h refl (omega (arith, pages_length xs, h.stable_pages)) refl (length-replicate (slot_size * m) 0 ∙ sym h.stable_log);
    })
