-- What the stores of a call leave: the stable log longer by the first of them, then a page of the stable pages set.
use Rattle.std.specs.Prelude.{◌≡◌, refl, ℕ, zero, suc, ◌+◌, ◌*◌, ◌<◌, ◌≤◌, List, [], ◌∷◌, ◌++◌, take, drop, set, length}
use Rattle.std.proofs.Common.{ap, ap₂, sym, ◌∙◌, subst₂, arith, length-append, length-take, length-drop, take-append-drop, take_all, take-add, length-take-le}
use Rattle.std.proofs.Math.Path.{subst}
use Rattle.std.proofs.Math.Seq.{drop-append_seam}
use Rattle.std.proofs.lemmas.List.{take-append-le}
use Rattle.def_layout.specs.Pages.{Page}
use Rattle.def_layout.specs.PageBytes.{page_bytes}
use Rattle.def_layout.specs.Sizes.{page_size, slot_size}
use Rattle.def_layout.specs.Records.{Rec}
use Rattle.def_layout.specs.RecordBytes.{full}
use Rattle.def_model.specs.Log.{slots_from}
use Rattle.def_model.specs.Areas.{Store, store_page, store_slot, slot_stores, log_stores}
use Rattle.def_model.specs.OnBytes.{Lent, log_bytes, store_bytes, store_all_bytes}
use Rattle.law_bytes.specs.PageBytes.{page_bytes_length}
use Rattle.law_areas.specs.Held.{holds_length, put_length}
use Rattle.law_areas.specs.Pages.{HoldsPages, pages_length, pages_put}
use Rattle.law_areas.specs.Logs.{HoldsLog, wide_slots, slots_bytes_length, log_put}
use Rattle.law_areas.specs.Typed.{slots_length}
use Rattle.law_areas.specs.Lengths.{Lengths, lengths_kept}
use Rattle.law_areas.specs.Stores.{stores_append, slot_stores_bytes}

-- ---- one page

module _ (l : Lent) (xs : List Page) (p : ℕ) (x : Page) (h : HoldsPages l.stable_pages xs) (inside : p < length xs) where
  pub store_page_holds : HoldsPages (store_bytes (store_page p x) l).stable_pages (set xs p x)
  unfolding store_bytes
  store_page_holds = pages_put xs p x inside h

  pub store_page_length : length (store_bytes (store_page p x) l).stable_pages ≡ length l.stable_pages
  unfolding store_bytes
  store_page_length =
      put_length (page_size * p) (page_bytes x) l.stable_pages (omega (arith, holds_length h, pages_length xs, page_bytes_length x))

-- ---- records

-- Of the lent areas only the stable log is another: it holds this log, in the same length.
pub record LogStored (l after : Lent) (log : List Rec) : Type 0 where
  pub work_pages : after.work_pages ≡ l.work_pages
  pub work_log : after.work_log ≡ l.work_log
  pub stable_pages : after.stable_pages ≡ l.stable_pages
  pub stable_log : HoldsLog after.stable_log log
  pub log_length : length after.stable_log ≡ length l.stable_log

records_stored : (l : Lent) (log more : List Rec) → HoldsLog l.stable_log log → slot_size * (length log + length more) ≤ length l.stable_log
    → LogStored l (store_all_bytes (slot_stores (suc (length log)) (slots_from (suc (length log)) more)) l) (log ++ more)
records_stored l log more h room =
    let n : ℕ = suc (length log) in
    let i : ℕ = slot_size * length log in
    subst (λ (k : Lent). LogStored l k (log ++ more))
    (sym (slot_stores_bytes (length log) (slots_from n more) l (wide_slots n more) (omega (arith, slots_length n more))))
    (record {
      work_pages = refl;
      work_log = refl;
      stable_pages = refl;
      stable_log = log_put log more h;
      log_length = put_length i (log_bytes (slots_from n more)) l.stable_log (omega (arith, slots_bytes_length n more));
    })

-- One record.
pub store_slot_stored : (l : Lent) (log : List Rec) (r : Rec) → HoldsLog l.stable_log log → slot_size * suc (length log) ≤ length l.stable_log
    → LogStored l (store_bytes (store_slot (suc (length log)) (full (suc (length log)) r)) l) (log ++ r ∷ [])
unfolding store_all_bytes slot_stores slots_from
store_slot_stored l log r h room = records_stored l log (r ∷ []) h (omega arith)

-- The first stores of a log are the stores of its first records.
pub take_stores : (j n m : ℕ) (log : List Rec) → take j (slot_stores n (slots_from m log)) ≡ slot_stores n (slots_from m (take j log))
unfolding slot_stores slots_from
take_stores zero n m log = refl
take_stores (suc j) n m [] = refl
take_stores (suc j) n m (r ∷ log) = ap (λ (ts : List Store). store_slot n (full m r) ∷ ts) (take_stores j (suc n) (suc m) log)

stores_count : (n m : ℕ) (log : List Rec) → length (slot_stores n (slots_from m log)) ≡ length log
unfolding slot_stores slots_from
stores_count n m [] = refl
stores_count n m (r ∷ log) = ap suc (stores_count (suc n) (suc m) log)

pub log_stores_are : (log more : List Rec) → log_stores (length log) (log ++ more) ≡ slot_stores (suc (length log)) (slots_from (suc (length log)) more)
unfolding log_stores
log_stores_are log more = ap (λ (r : List Rec). slot_stores (suc (length log)) (slots_from (suc (length log)) r)) (drop-append_seam log more)

pub log_stores_count : (log more : List Rec) → length (log_stores (length log) (log ++ more)) ≡ length more
log_stores_count log more = ap length (log_stores_are log more) ∙ stores_count (suc (length log)) (suc (length log)) more

module _ (l : Lent) (log more : List Rec) (h : HoldsLog l.stable_log log) (room : slot_size * (length log + length more) ≤ length l.stable_log) where
  -- ALL THE STORES OF A LOG, and the first j of them.
  pub log_stored : LogStored l (store_all_bytes (log_stores (length log) (log ++ more)) l) (log ++ more)
  log_stored = subst (λ (ts : List Store). LogStored l (store_all_bytes ts l) (log ++ more)) (sym (log_stores_are log more)) (records_stored l log more h room)

  pub log_stored_first : (j : ℕ) → LogStored l (store_all_bytes (take j (log_stores (length log) (log ++ more))) l) (log ++ take j more)
  log_stored_first j =
      subst (λ (ts : List Store). LogStored l (store_all_bytes ts l) (log ++ take j more))
      (sym (ap (take j) (log_stores_are log more) ∙ take_stores j (suc (length log)) (suc (length log)) more))
      (records_stored l log (take j more) h (omega (arith, length-take j more)))

-- The same of a log whose first `stored` records are stored.
pub log_stored_from : (l : Lent) (stored : ℕ) (log : List Rec) → stored ≤ length log → HoldsLog l.stable_log (take stored log)
    → slot_size * length log ≤ length l.stable_log → (j : ℕ) → LogStored l (store_all_bytes (take j (log_stores stored log)) l) (take (stored + j) log)
log_stored_from l stored log s h room j =
    let a : List Rec = take stored log in
    let b : List Rec = drop stored log in
    let e : length a ≡ stored = length-take-le stored log s in
    subst₂ (λ (ts : List Store) (r : List Rec). LogStored l (store_all_bytes (take j ts) l) r)
    (ap₂ log_stores e (take-append-drop stored log))
    (sym (take-add stored j log))
    (log_stored_first l a b h (omega (arith, length-drop stored log)) j)

-- ---- records and then a page

-- Of the lent areas only the stable ones are others: they hold these pages and this log, in the same lengths.
pub record PageStored (l after : Lent) (xs : List Page) (log : List Rec) : Type 0 where
  pub work_pages : after.work_pages ≡ l.work_pages
  pub work_log : after.work_log ≡ l.work_log
  pub stable_pages : HoldsPages after.stable_pages xs
  pub pages_length : length after.stable_pages ≡ length l.stable_pages
  pub stable_log : HoldsLog after.stable_log log
  pub log_length : length after.stable_log ≡ length l.stable_log

page_then : (l k : Lent) (xs : List Page) (log : List Rec) (p : ℕ) (x : Page) → LogStored l k log → HoldsPages l.stable_pages xs → p < length xs
    → PageStored l (store_bytes (store_page p x) k) (set xs p x) log
unfolding store_bytes
page_then l k xs log p x s h inside =
    let g : HoldsPages k.stable_pages xs = subst (λ (b : List ℕ). HoldsPages b xs) (sym s.stable_pages) h in
    record {
      work_pages = s.work_pages;
      work_log = s.work_log;
      stable_pages = store_page_holds k xs p x g inside;
      pages_length = store_page_length k xs p x g inside ∙ ap length s.stable_pages;
      stable_log = s.stable_log;
      log_length = s.log_length;
    }

-- Of the stores of a log and then a page: no more than the log's records, all of them, more than the log's records.
module _ (l : Lent) (log more : List Rec) (p : ℕ) (x : Page) (h : HoldsLog l.stable_log log) (room : slot_size * (length log + length more) ≤ length l.stable_log) where
  pub write_out_first : (j : ℕ) → j ≤ length more
      → LogStored l (store_all_bytes (take j (log_stores (length log) (log ++ more) ++ store_page p x ∷ [])) l) (log ++ take j more)
  write_out_first j few =
      subst (λ (ts : List Store). LogStored l (store_all_bytes ts l) (log ++ take j more))
      (sym (take-append-le j (log_stores (length log) (log ++ more)) (store_page p x ∷ []) (omega (arith, log_stores_count log more))))
      (log_stored_first l log more h room j)

module _ (l : Lent) (xs : List Page) (log more : List Rec) (p : ℕ) (x : Page) (pages : HoldsPages l.stable_pages xs) (inside : p < length xs) (h : HoldsLog l.stable_log log) (room : slot_size * (length log + length more) ≤ length l.stable_log) where
  pub write_out_all : PageStored l (store_all_bytes (log_stores (length log) (log ++ more) ++ store_page p x ∷ []) l) (set xs p x) (log ++ more)
  unfolding store_all_bytes
  write_out_all =
      subst (λ (k : Lent). PageStored l k (set xs p x) (log ++ more))
      (sym (stores_append (log_stores (length log) (log ++ more)) (store_page p x ∷ []) l))
      (page_then l (store_all_bytes (log_stores (length log) (log ++ more)) l) xs (log ++ more) p x (log_stored l log more h room) pages inside)

  pub write_out_last : (j : ℕ) → length more < j
      → PageStored l (store_all_bytes (take j (log_stores (length log) (log ++ more) ++ store_page p x ∷ [])) l) (set xs p x) (log ++ more)
  write_out_last j many =
      let ts : List Store = log_stores (length log) (log ++ more) in
      subst (λ (us : List Store). PageStored l (store_all_bytes us l) (set xs p x) (log ++ more))
      (sym (take_all j (ts ++ store_page p x ∷ []) (omega (arith, length-append ts (store_page p x ∷ []), log_stores_count log more))))
      write_out_all

-- ---- lengths are kept

pub log_stored_lengths : {l after : Lent} {log : List Rec} (n m : ℕ) → LogStored l after log → Lengths l n m → Lengths after n m
log_stored_lengths {l} {after} n m s h =
    lengths_kept l after n m h (ap length s.work_pages) (ap length s.stable_pages) (ap length s.work_log) s.log_length

pub page_stored_lengths : {l after : Lent} {xs : List Page} {log : List Rec} (n m : ℕ) → PageStored l after xs log → Lengths l n m → Lengths after n m
page_stored_lengths {l} {after} n m s h =
    lengths_kept l after n m h (ap length s.work_pages) s.pages_length (ap length s.work_log) s.log_length
