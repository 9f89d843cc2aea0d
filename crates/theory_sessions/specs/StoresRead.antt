-- Stores on the bytes of the lent areas are stores on the typed areas that are read from them.
use Prim.Native.Nat.{ℕ, zero, suc, ◌+◌, ◌*◌, ◌/◌, ◌<◌, ◌≤◌}
use Rattle.std.specs.Prelude.{◌≡◌, length, take, drop, set, replicate}
use Rattle.std.proofs.Math.Path.{refl, subst}
use Rattle.std.proofs.Common.{sym, ap, ◌∙◌}
use mathlib.Core.List.{List, [], ◌∷◌, ◌++◌}
use native.Mathlib.Omega.{arith}
use Rattle.std.proofs.Math.ListN.{length-drop, length-replicate}
use Rattle.def_layout.specs.Pages.{Page, at}
use Rattle.def_layout.specs.PageBytes.{Block, page, page_bytes, read_block}
use Rattle.def_layout.specs.Sizes.{page_size, slot_size}
use Rattle.def_layout.specs.Records.{Rec}
use Rattle.def_layout.specs.RecordBytes.{Slot, empty, read_slot, slot_bytes}
use Rattle.def_model.specs.Log.{slot_of, slots_from}
use Rattle.def_model.specs.Areas.{Side, Store, store_page, store_slot, store, store_all, slot_stores, log_stores}
use Rattle.def_model.specs.Calls.{page_stores, format_stores}
use Rattle.def_model.specs.OnBytes.{Lent, put_part, read_pages, read_log, read_areas, store_bytes, store_all_bytes}
use Rattle.law_bytes.specs.Pieces.{All, read_all, read_all_patch}
use Rattle.law_bytes.specs.PageBytes.{Fits as PageFits, page_bytes_length, read_block_back}
use Rattle.law_bytes.specs.RecordBytes.{record_bytes_length, read_slot_back}
use Rattle.law_areas.specs.AsPieces.{read_pages_is, read_log_is, put_part_is}
use Rattle.law_areas.specs.Held.{put_length}
use Rattle.law_areas.specs.Logs.{AllFit, empty_read}

-- ---- one part written over

module _ (n p : ℕ) (x : Page) (b : List ℕ) (size : length b ≡ page_size * n) (inside : p < n) where
  page_put_length : length (put_part (page_size * p) (page_bytes x) b) ≡ length b
  page_put_length = put_length (page_size * p) (page_bytes x) b (omega (arith, page_bytes_length x))

  page_put_read : PageFits x → read_pages (put_part (page_size * p) (page_bytes x) b) ≡ set (read_pages b) p (page x)
  page_put_read fits =
      let new : List ℕ = put_part (page_size * p) (page_bytes x) b in
      let count : length new / page_size ≡ n = omega (arith, page_put_length) in
      let before : length b / page_size ≡ n = omega arith in
      read_pages_is new ∙ ap (λ (k : ℕ). read_all page_size read_block k new) count
      ∙ ap (read_all page_size read_block n) (put_part_is (page_size * p) (page_bytes x) b)
      ∙ read_all_patch page_size read_block n p b (page_bytes x) (page_bytes_length x) inside (omega arith)
      ∙ ap (λ (y : Block). set (read_all page_size read_block n b) p y) (read_block_back x fits)
      ∙ ap (λ (y : List Block). set y p (page x)) (sym (read_pages_is b ∙ ap (λ (k : ℕ). read_all page_size read_block k b) before))

module _ (m i : ℕ) (x : Slot) (b : List ℕ) (size : length b ≡ slot_size * m) (inside : i < m) (wide : length (slot_bytes x) ≡ slot_size) where
  slot_put_length : length (put_part (slot_size * i) (slot_bytes x) b) ≡ length b
  slot_put_length = put_length (slot_size * i) (slot_bytes x) b (omega arith)

  slot_put_read : read_slot (slot_bytes x) ≡ x → read_log (put_part (slot_size * i) (slot_bytes x) b) ≡ set (read_log b) i x
  slot_put_read back =
      let new : List ℕ = put_part (slot_size * i) (slot_bytes x) b in
      let count : length new / slot_size ≡ m = omega (arith, slot_put_length) in
      let before : length b / slot_size ≡ m = omega arith in
      read_log_is new ∙ ap (λ (k : ℕ). read_all slot_size read_slot k new) count
      ∙ ap (read_all slot_size read_slot m) (put_part_is (slot_size * i) (slot_bytes x) b)
      ∙ read_all_patch slot_size read_slot m i b (slot_bytes x) wide inside (omega arith)
      ∙ ap (λ (y : Slot). set (read_all slot_size read_slot m b) i y) back
      ∙ ap (λ (y : List Slot). set y i x) (sym (read_log_is b ∙ ap (λ (k : ℕ). read_all slot_size read_slot k b) before))

-- ---- stores that fit n pages and m slots

-- The place is there, and what is stored is read back.
unfoldable pub StoreFits : (n m : ℕ) → Store → Type 0
StoreFits n m (store_page p x) = (p < n) × PageFits x
StoreFits n m (store_slot k x) = (slot_of k < m) × (length (slot_bytes x) ≡ slot_size) × (read_slot (slot_bytes x) ≡ x)

abbrev pub stable_side : Lent → Side
stable_side l = (read_areas l).stable

pub record StoredRead (n m : ℕ) (ts : List Store) (l : Lent) : Type 0 where
  pub pages_length : length (store_all_bytes ts l).stable_pages ≡ page_size * n
  pub log_length : length (store_all_bytes ts l).stable_log ≡ slot_size * m
  pub side : stable_side (store_all_bytes ts l) ≡ store_all ts (stable_side l)

module _ (n m : ℕ) where
  pub stores_read : (ts : List Store) (l : Lent) → All (StoreFits n m) ts → length l.stable_pages ≡ page_size * n → length l.stable_log ≡ slot_size * m → StoredRead n m ts l
  unfolding All store_all_bytes store_all store_bytes store StoreFits read_areas
  stores_read [] l f a b = record { pages_length = a; log_length = b; side = refl }
  stores_read (store_page p x ∷ ts) l f a b =
      let t = stores_read ts (store_bytes (store_page p x) l) f.1 (page_put_length n p x l.stable_pages a f.0.0 ∙ a) b in
      let e = page_put_read n p x l.stable_pages a f.0.0 f.0.1 in
      record { pages_length = t.pages_length; log_length = t.log_length; side = t.side ∙ (λ i. store_all ts (record { pages = e i; lefts = []; log = read_log l.stable_log })) }
  stores_read (store_slot k x ∷ ts) l f a b =
      let (inside, wide, back) = f.0 in
      let t = stores_read ts (store_bytes (store_slot k x) l) f.1 a (slot_put_length m (slot_of k) x l.stable_log b inside wide ∙ b) in
      let e = slot_put_read m (slot_of k) x l.stable_log b inside wide back in
      record { pages_length = t.pages_length; log_length = t.log_length; side = t.side ∙ (λ i. store_all ts (record { pages = read_pages l.stable_pages; lefts = []; log = e i })) }

  -- ---- which stores fit

  pub fits_append : (ts us : List Store) → All (StoreFits n m) ts → All (StoreFits n m) us → All (StoreFits n m) (ts ++ us)
  unfolding All
  fits_append [] us f g = g
  fits_append (t ∷ ts) us f g = (f.0, fits_append ts us f.1 g)

  pub fits_first : (j : ℕ) (ts : List Store) → All (StoreFits n m) ts → All (StoreFits n m) (take j ts)
  unfolding All
  fits_first zero ts f = tt
  fits_first (suc j) [] f = tt
  fits_first (suc j) (t ∷ ts) f = (f.0, fits_first j ts f.1)

  records_fit : (i : ℕ) (log : List Rec) → AllFit (suc i) log → i + length log ≤ m → All (StoreFits n m) (slot_stores (suc i) (slots_from (suc i) log))
  unfolding All AllFit StoreFits slot_stores slots_from slot_bytes
  records_fit i [] f h = tt
  records_fit i (r ∷ log) f h = ((omega arith, record_bytes_length (suc i) r, read_slot_back (suc i) r f.0), records_fit (suc i) log f.1 (omega arith))

  fits_from : (k j : ℕ) (log : List Rec) → AllFit k log → AllFit (k + j) (drop j log)
  unfolding AllFit
  fits_from k zero log f = let e : k ≡ k + 0 = omega arith in subst (λ (q : ℕ). AllFit q log) e f
  fits_from k (suc j) [] f = tt
  fits_from k (suc j) (r ∷ log) f = let e : suc k + j ≡ k + suc j = omega arith in subst (λ (q : ℕ). AllFit q (drop j log)) e (fits_from (suc k) j log f.1)

  -- Those of a log after its first records.
  pub log_fits : (stored : ℕ) (log : List Rec) → AllFit 1 log → stored ≤ length log → length log ≤ m → All (StoreFits n m) (log_stores stored log)
  unfolding log_stores
  log_fits stored log f h l =
      let e : 1 + stored ≡ suc stored = omega arith in
      records_fit stored (drop stored log) (subst (λ (q : ℕ). AllFit q (drop stored log)) e (fits_from 1 stored log f)) (omega (arith, length-drop stored log))

  -- Those of a formatting.
  pages_fit : (p : ℕ) (xs : List Page) → ((q : ℕ) → q < length xs → PageFits (at xs q)) → p + length xs ≤ n → All (StoreFits n m) (page_stores p xs)
  unfolding All StoreFits page_stores
  pages_fit p [] f h = tt
  pages_fit p (x ∷ xs) f h = ((omega arith, f 0 (omega arith)), pages_fit (suc p) xs (λ q l. f (suc q) (omega arith)) (omega arith))

  empties_fit : (i k : ℕ) → i + k ≤ m → All (StoreFits n m) (slot_stores (suc i) (replicate k empty))
  unfolding All StoreFits slot_stores slot_bytes
  empties_fit i zero h = tt
  empties_fit i (suc k) h = ((omega arith, length-replicate {A = ℕ} slot_size 0, empty_read), empties_fit (suc i) k (omega arith))

  pub format_fits : (xs : List Page) → ((q : ℕ) → q < length xs → PageFits (at xs q)) → length xs ≡ n → All (StoreFits n m) (format_stores xs m)
  unfolding format_stores
  format_fits xs f e = fits_append (page_stores 0 xs) (slot_stores 1 (replicate m empty)) (pages_fit 0 xs f (omega arith)) (empties_fit 0 m (omega arith))
