-- WHAT IS WRITTEN IS READ BACK: working pages with their left links, a log, and stores of pages and records, into bytes of any content.
use Rattle.std.specs.Prelude.{ℕ, zero, suc, ◌+◌, ◌*◌, ◌/◌, ◌≤◌, ◌<◌, ◌≡◌, refl, List, [], ◌∷◌, ◌++◌, map, length, set, take, drop, replicate}
use Rattle.std.proofs.Common.{sym, ap, ap₂, ◌∙◌, subst, arith, length-drop}
use Rattle.std.proofs.lemmas.List.{length-replicate}
use Rattle.def_layout.specs.Pages.{Page}
use Rattle.def_layout.specs.PageBytes.{page, page_bytes, read_block}
use Rattle.def_layout.specs.Records.{Rec}
use Rattle.def_layout.specs.RecordBytes.{Slot, empty, full, slot_bytes, read_slot}
use Rattle.def_layout.specs.Sizes.{page_size, slot_size}
use Rattle.def_model.specs.Areas.{Side, Store, store_page, store_slot, store, store_all, slot_stores, log_stores}
use Rattle.def_model.specs.Log.{slot_of, log_area, slots_from}
use Rattle.def_model.specs.OnBytes.{Lent, parts, put_part, read_pages, read_work, read_lefts, read_log, work_bytes, log_bytes, store_bytes, store_all_bytes}
use Rattle.def_model.specs.Calls.{page_stores, format_stores}
use Rattle.law_bytes.specs.Patch.{patch}
use Rattle.law_bytes.specs.Pieces.{read_all, read_all_patch}
use Rattle.law_bytes.specs.PageBytes.{Fits as PageFits, page_bytes_length, read_block_back}
use Rattle.law_bytes.specs.RecordBytes.{Fits as RecordFits, record_bytes_length, read_slot_back}
use Rattle.law_areas.specs.Held.{put_is, put_length}
use Rattle.law_areas.specs.Pages.{AllPagesFit}
use Rattle.law_areas.specs.Working.{paired, AllLinks, work_hold, work_length, work_whole}
use Rattle.law_areas.specs.Logs.{AllFit as RecordsFit, area_holds, area_bytes_length, log_read, empty_read}

-- ---- a working side

pub work_again : (n : ℕ) (xs : List Page) (ls : List ℕ) → length xs ≡ n → length ls ≡ length xs → AllLinks (paired xs ls)
    → (length (work_bytes (map page xs) ls) ≡ page_size * n) × (read_work (work_bytes (map page xs) ls) ≡ map page xs) × (read_lefts (work_bytes (map page xs) ls) ≡ ls)
work_again n xs ls e c f = let s = work_length xs ls ∙ ap (page_size *◌) e in let (p, q) = work_whole n xs ls (work_hold xs ls) s e c f in (s, p, q)

pub log_again : (m : ℕ) (log : List Rec) → length log ≤ m → RecordsFit 1 log → (length (log_bytes (log_area m log)) ≡ slot_size * m) × (read_log (log_bytes (log_area m log)) ≡ log_area m log)
log_again m log h f = let s = area_bytes_length m log h in (s, log_read m log (area_holds m log) s f)

-- ---- one part written over

parts_all : {A : Type 0} (w : ℕ) (f : List ℕ → A) (n : ℕ) (b : List ℕ) → map f (parts n w b) ≡ read_all w f n b
unfolding parts read_all
parts_all w f zero b = refl
parts_all w f (suc n) b = ap (f (take w b) ∷◌) (parts_all w f n (drop w b))

put_read : {A : Type 0} (w : ℕ) (f : List ℕ → A) (n p : ℕ) (v b : List ℕ) → length v ≡ w → p < n → w * n ≤ length b → map f (parts n w (put_part (w * p) v b)) ≡ set (map f (parts n w b)) p (f v)
put_read w f n p v b e h l =
    ap (λ r. map f (parts n w r)) (put_is (w * p) v b) ∙ parts_all w f n (patch b (w * p) v) ∙ read_all_patch w f n p b v e h l ∙ ap (λ r. set r p (f v)) (sym (parts_all w f n b))

pub put_page : (n p : ℕ) (x : Page) (b : List ℕ) → length b ≡ page_size * n → p < n → PageFits x
    → (length (put_part (page_size * p) (page_bytes x) b) ≡ page_size * n) × (read_pages (put_part (page_size * p) (page_bytes x) b) ≡ set (read_pages b) p (page x))
unfolding read_pages
put_page n p x b e h f =
    let z = page_bytes_length x in
    let s : length (put_part (page_size * p) (page_bytes x) b) ≡ page_size * n = put_length (page_size * p) (page_bytes x) b (omega arith) ∙ e in
    let k : length (put_part (page_size * p) (page_bytes x) b) / page_size ≡ n = omega arith in
    let j : length b / page_size ≡ n = omega arith in
    (s, ap (λ q. map read_block (parts q page_size (put_part (page_size * p) (page_bytes x) b))) k ∙ put_read page_size read_block n p (page_bytes x) b z h (omega arith) ∙ ap₂ (λ q y. set (map read_block (parts q page_size b)) p y) (sym j) (read_block_back x f))

-- A slot that is read back.
pub record SlotFits (x : Slot) : Type 0 where
  pub size : length (slot_bytes x) ≡ slot_size
  pub back : read_slot (slot_bytes x) ≡ x

pub put_slot : (m i : ℕ) (x : Slot) (b : List ℕ) → length b ≡ slot_size * m → i < m → SlotFits x
    → (length (put_part (slot_size * i) (slot_bytes x) b) ≡ slot_size * m) × (read_log (put_part (slot_size * i) (slot_bytes x) b) ≡ set (read_log b) i x)
unfolding read_log
put_slot m i x b e h f =
    let z = f.size in
    let s : length (put_part (slot_size * i) (slot_bytes x) b) ≡ slot_size * m = put_length (slot_size * i) (slot_bytes x) b (omega arith) ∙ e in
    let k : length (put_part (slot_size * i) (slot_bytes x) b) / slot_size ≡ m = omega arith in
    let j : length b / slot_size ≡ m = omega arith in
    (s, ap (λ q. map read_slot (parts q slot_size (put_part (slot_size * i) (slot_bytes x) b))) k ∙ put_read slot_size read_slot m i (slot_bytes x) b z h (omega arith) ∙ ap₂ (λ q y. set (map read_slot (parts q slot_size b)) i y) (sym j) f.back)

pub empty_slot_fits : SlotFits empty
unfolding slot_bytes
empty_slot_fits = record { size = length-replicate {A = ℕ} slot_size 0; back = empty_read }

pub full_slot_fits : (n : ℕ) (r : Rec) → RecordFits n r → SlotFits (full n r)
unfolding slot_bytes
full_slot_fits n r f = record { size = record_bytes_length n r; back = read_slot_back n r f }

-- ---- stores

-- A store into n pages and m slots that is read back.
unfoldable pub StoreFits : ℕ → ℕ → Store → Type 0
StoreFits n m (store_page p x) = (p < n) × PageFits x
StoreFits n m (store_slot k x) = (slot_of k < m) × SlotFits x

unfoldable pub StoresFit : ℕ → ℕ → List Store → Type 0
StoresFit n m [] = Unit {0}
StoresFit n m (t ∷ ts) = StoreFits n m t × StoresFit n m ts

pub stores_append : (n m : ℕ) (ts us : List Store) → StoresFit n m ts → StoresFit n m us → StoresFit n m (ts ++ us)
unfolding StoresFit
stores_append n m [] us f g = g
stores_append n m (t ∷ ts) us f g = (f.0, stores_append n m ts us f.1 g)

pub stores_take : (n m j : ℕ) (ts : List Store) → StoresFit n m ts → StoresFit n m (take j ts)
unfolding StoresFit
stores_take n m zero ts f = tt
stores_take n m (suc j) [] f = tt
stores_take n m (suc j) (t ∷ ts) f = (f.0, stores_take n m j ts f.1)

-- The stable side that lent areas show.
abbrev pub stable_of : Lent → Side
stable_of l = record { pages = read_pages l.stable_pages; lefts = []; log = read_log l.stable_log }

pub record Stable (n m : ℕ) (l : Lent) (s : Side) : Type 0 where
  pub pages : length l.stable_pages ≡ page_size * n
  pub log : length l.stable_log ≡ slot_size * m
  pub shows : stable_of l ≡ s

one_again : (n m : ℕ) (t : Store) (l : Lent) (s : Side) → StoreFits n m t → Stable n m l s → Stable n m (store_bytes t l) (store t s)
unfolding StoreFits store_bytes store
one_again n m (store_page p x) l s f h =
    let (z, e) = put_page n p x l.stable_pages h.pages f.0 f.1 in
    record { pages = z; log = h.log; shows = (λ i. record { pages = e i; lefts = []; log = read_log l.stable_log }) ∙ ap (store (store_page p x)) h.shows }
one_again n m (store_slot k x) l s f h =
    let (z, e) = put_slot m (slot_of k) x l.stable_log h.log f.0 f.1 in
    record { pages = h.pages; log = z; shows = (λ i. record { pages = read_pages l.stable_pages; lefts = []; log = e i }) ∙ ap (store (store_slot k x)) h.shows }

-- STORES INTO BYTES, whatever these hold, are stores into what they show.
pub stores_again : (n m : ℕ) (ts : List Store) (l : Lent) (s : Side) → StoresFit n m ts → Stable n m l s → Stable n m (store_all_bytes ts l) (store_all ts s)
unfolding StoresFit store_all_bytes store_all
stores_again n m [] l s f h = h
stores_again n m (t ∷ ts) l s f h = stores_again n m ts (store_bytes t l) (store t s) f.1 (one_again n m t l s f.0 h)

-- Those of a log, of pages, and of empty slots.
slots_store : (n m i : ℕ) (log : List Rec) → RecordsFit (suc i) log → (0 < length log → i + length log ≤ m) → StoresFit n m (slot_stores (suc i) (slots_from (suc i) log))
unfolding StoresFit StoreFits RecordsFit slot_stores slots_from
slots_store n m i [] f h = tt
slots_store n m i (r ∷ log) f h = let w = h (omega arith) in ((omega arith, full_slot_fits (suc i) r f.0), slots_store n m (suc i) log f.1 (λ q. omega arith))

fit_drop : (k j : ℕ) (log : List Rec) → RecordsFit k log → RecordsFit (k + j) (drop j log)
unfolding RecordsFit
fit_drop k zero log f = let e : k ≡ k + 0 = omega arith in subst (λ z. RecordsFit z log) e f
fit_drop k (suc j) [] f = tt
fit_drop k (suc j) (r ∷ log) f = let e : suc k + j ≡ k + suc j = omega arith in subst (λ z. RecordsFit z (drop j log)) e (fit_drop (suc k) j log f.1)

pub log_stores_fit : (n m stored : ℕ) (log : List Rec) → RecordsFit 1 log → length log ≤ m → StoresFit n m (log_stores stored log)
unfolding log_stores
log_stores_fit n m stored log f w =
    let e : 1 + stored ≡ suc stored = omega arith in
    let z = length-drop stored log in
    slots_store n m stored (drop stored log) (subst (λ k. RecordsFit k (drop stored log)) e (fit_drop 1 stored log f)) (λ q. omega arith)

page_stores_fit : (n m p : ℕ) (xs : List Page) → AllPagesFit xs → p + length xs ≤ n → StoresFit n m (page_stores p xs)
unfolding StoresFit StoreFits page_stores
page_stores_fit n m p [] f h = tt
page_stores_fit n m p (x ∷ xs) f h = ((omega arith, f 0 (omega arith)), page_stores_fit n m (suc p) xs (λ i w. f (suc i) (omega arith)) (omega arith))

empties_fit : (n m i k : ℕ) → i + k ≤ m → StoresFit n m (slot_stores (suc i) (replicate k empty))
unfolding StoresFit StoreFits slot_stores
empties_fit n m i zero h = tt
empties_fit n m i (suc k) h = ((omega arith, empty_slot_fits), empties_fit n m (suc i) k (omega arith))

pub format_stores_fit : (n m : ℕ) (xs : List Page) → AllPagesFit xs → length xs ≤ n → StoresFit n m (format_stores xs m)
unfolding format_stores
format_stores_fit n m xs f h = stores_append n m (page_stores 0 xs) (slot_stores 1 (replicate m empty)) (page_stores_fit n m 0 xs f (omega arith)) (empties_fit n m 0 m (omega arith))
