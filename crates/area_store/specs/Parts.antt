-- THE DEFINITIONS' STORES of slots in order, and of pages in order, as a program's list names them: each part of the working bytes is one.
use Rattle.std.specs.Prelude.{◌≡◌, refl, ℕ, zero, suc, ◌+◌, ◌-◌, ◌*◌, ◌<◌, List, [], ◌∷◌, ◌++◌, map, take, drop, length, get_or, ltb}
use Rattle.std.proofs.Common.{ap, sym, ◌∙◌, mul-zero, append-nil, length-append, take_at, get_or-append-add}
use Rattle.std.proofs.Math.Path.{subst}
use native.Mathlib.Omega.{arith}
use Rattle.std.proofs.lemmas.List.{length-map}
use Rattle.std.proofs.Math.ListN.{get_or-map, get_or-append}
use Rattle.std.proofs.Math.Seq.{drop-append-add}
use Rattle.def_base.specs.Tests.{Case, yes!, no!, case, true_lt, false_lt}
use Rattle.def_layout.specs.Pages.{Page, at, zero_page}
use Rattle.def_layout.specs.PageBytes.{page, page_bytes, block_bytes, without_left}
use Rattle.def_layout.specs.Sizes.{page_size, slot_size}
use Rattle.def_layout.specs.RecordBytes.{Slot, empty, slot_bytes}
use Rattle.def_model.specs.Areas.{Store, store_page, store_slot, slot_stores}
use Rattle.def_model.specs.Calls.{page_stores}
use Rattle.def_model.specs.OnBytes.{joined, pages_bytes, log_bytes}
use Rattle.law_bytes.specs.Words.{part}
use Rattle.law_bytes.specs.Pieces.{All}
use Rattle.law_bytes.specs.PageBytes.{page_bytes_length}
use Rattle.law_bytes.specs.LeftLinks.{none_gone}
use Rattle.law_areas.specs.Parts.{Wide, mul_up}
use Rattle.area_store.specs.declared.Span.{Span}
use Rattle.area_store.specs.declared.Area.TheVariants.{Pages, Slots}
use Rattle.area_store.specs.declared.Stores.{Stores}
use Rattle.area_store.specs.Lists.{place_at, span_place, place, count, kth, Goes, Lists}
use Rattle.area_store.specs.Steps.{place_first, place_rest}

-- ---- parts of working bytes

-- Of equal parts joined, the i-th.
part_nth : (w i : ℕ) (bs : List (List ℕ)) (d : List ℕ) → Wide w bs → i < length bs → part (joined bs) (w * i) w ≡ get_or bs i d
unfolding joined All
part_nth w i [] d h l = absurd (omega (arith, l))
part_nth w zero (b ∷ bs) d h l = ap (λ (n : ℕ). take w (drop n (b ++ joined bs))) (mul-zero w) ∙ take_at b (joined bs) w h.0
part_nth w (suc i) (b ∷ bs) d h l =
    let e : w * suc i ≡ length b + w * i = omega (arith, mul_up w i, h.0) in
    ap (λ (n : ℕ). take w (drop n (b ++ joined bs))) e ∙ ap (take w) (drop-append-add b (joined bs) (w * i)) ∙ part_nth w i bs d h.1 (omega (arith, l))

-- Slots, or pages, whose bytes stand from place i on.
abbrev pub SlotsAt : List ℕ → ℕ → List Slot → Type 0
SlotsAt wl i xs = (k : ℕ) → k < length xs → slot_bytes (get_or xs k empty) ≡ part wl (slot_size * (i + k)) slot_size

abbrev pub PagesAt : List ℕ → ℕ → List Page → Type 0
PagesAt wp i xs = (k : ℕ) → k < length xs → page_bytes (at xs k) ≡ without_left (part wp (page_size * (i + k)) page_size)

pub slot_part : (xs : List Slot) (i : ℕ) → Wide slot_size (map slot_bytes xs) → i < length xs → part (log_bytes xs) (slot_size * i) slot_size ≡ slot_bytes (get_or xs i empty)
unfolding log_bytes
slot_part xs i h l =
    part_nth slot_size i (map slot_bytes xs) (slot_bytes empty) h (omega (arith, l, length-map xs slot_bytes)) ∙ get_or-map slot_bytes xs i empty

page_parts : (xs : List Page) → pages_bytes (map page xs) ≡ joined (map page_bytes xs)
unfolding pages_bytes joined block_bytes
page_parts [] = refl
page_parts (x ∷ xs) = ap (λ (r : List ℕ). page_bytes x ++ r) (page_parts xs)

wide_pages : (xs : List Page) → Wide page_size (map page_bytes xs)
unfolding All
wide_pages [] = tt
wide_pages (x ∷ xs) = (page_bytes_length x, wide_pages xs)

pub page_part : (xs : List Page) (i : ℕ) → i < length xs → part (pages_bytes (map page xs)) (page_size * i) page_size ≡ page_bytes (at xs i)
page_part xs i l =
    ap (λ (b : List ℕ). part b (page_size * i) page_size) (page_parts xs)
    ∙ part_nth page_size i (map page_bytes xs) (page_bytes zero_page) (wide_pages xs) (omega (arith, l, length-map xs page_bytes))
    ∙ get_or-map page_bytes xs i zero_page

-- A whole log, and all pages.
pub log_at : (wl : List ℕ) (xs : List Slot) → Wide slot_size (map slot_bytes xs) → wl ≡ log_bytes xs → SlotsAt wl 0 xs
log_at wl xs h e k l =
    let z : k ≡ 0 + k = omega arith in
    sym (slot_part xs k h l) ∙ ap (λ (b : List ℕ). part b (slot_size * k) slot_size) (sym e) ∙ ap (λ (i : ℕ). part wl (slot_size * i) slot_size) z

pub pages_at : (wp : List ℕ) (xs : List Page) → wp ≡ pages_bytes (map page xs) → PagesAt wp 0 xs
pages_at wp xs e k l =
    let z : k ≡ 0 + k = omega arith in
    sym (none_gone (at xs k))
    ∙ ap without_left (sym (page_part xs k l) ∙ ap (λ (b : List ℕ). part b (page_size * k) page_size) (sym e) ∙ ap (λ (i : ℕ). part wp (page_size * i) page_size) z)

-- One page.
pub page_alone : (wp : List ℕ) (p : ℕ) (x : Page) → without_left (part wp (page_size * p) page_size) ≡ page_bytes x → PagesAt wp p (x ∷ [])
page_alone wp p x e zero l = let z : p ≡ p + 0 = omega arith in sym e ∙ ap (λ (i : ℕ). without_left (part wp (page_size * i) page_size)) z
page_alone wp p x e (suc k) l = absurd (omega (arith, l))

-- ---- the k-th

kth_slot : (n k : ℕ) (xs : List Slot) → k < length xs → kth (slot_stores n xs) k ≡ store_slot (n + k) (get_or xs k empty)
unfolding slot_stores
kth_slot n k [] h = absurd (omega (arith, h))
kth_slot n zero (x ∷ xs) h = let e : n ≡ n + 0 = omega arith in ap (λ (i : ℕ). store_slot i x) e
kth_slot n (suc k) (x ∷ xs) h = let e : suc n + k ≡ n + suc k = omega arith in kth_slot (suc n) k xs (omega (arith, h)) ∙ ap (λ (i : ℕ). store_slot i (get_or xs k empty)) e

kth_page : (n k : ℕ) (xs : List Page) → k < length xs → kth (page_stores n xs) k ≡ store_page (n + k) (at xs k)
unfolding page_stores
kth_page n k [] h = absurd (omega (arith, h))
kth_page n zero (x ∷ xs) h = let e : n ≡ n + 0 = omega arith in ap (λ (i : ℕ). store_page i x) e
kth_page n (suc k) (x ∷ xs) h = let e : suc n + k ≡ n + suc k = omega arith in kth_page (suc n) k xs (omega (arith, h)) ∙ ap (λ (i : ℕ). store_page i (at xs k)) e

pub slot_stores_length : (n : ℕ) (s : List Slot) → length (slot_stores n s) ≡ length s
unfolding slot_stores
slot_stores_length n [] = refl
slot_stores_length n (x ∷ s) = ap suc (slot_stores_length (suc n) s)

pub page_stores_length : (p : ℕ) (xs : List Page) → length (page_stores p xs) ≡ length xs
unfolding page_stores
page_stores_length p [] = refl
page_stores_length p (x ∷ xs) = ap suc (page_stores_length (suc p) xs)

-- ---- lists

-- A span stands for stores as a list does.
pub record SpanLists (wp wl : List ℕ) (s : Span) (ts : List Store) : Type 0 where
  pub size : length ts ≡ s.count
  pub goes : (k : ℕ) → k < s.count → Goes wp wl (span_place s k) (kth ts k)

module _ (wp wl : List ℕ) where
  pub slots_span : (i n : ℕ) (xs : List Slot) → length xs ≡ n → SlotsAt wl i xs → SpanLists wp wl (record { area = Slots; from = i; count = n }) (slot_stores (suc i) xs)
  unfolding Goes place_at
  slots_span i n xs e h =
      record {
        size = slot_stores_length (suc i) xs ∙ e;
        goes = λ (k : ℕ) (l : k < n). subst (Goes wp wl (place_at Slots (i + k))) (sym (kth_slot (suc i) k xs (omega (arith, l, e)))) (omega arith, h k (omega (arith, l, e)));
      }

  pub pages_span : (i n : ℕ) (xs : List Page) → length xs ≡ n → PagesAt wp i xs → SpanLists wp wl (record { area = Pages; from = i; count = n }) (page_stores i xs)
  unfolding Goes place_at
  pages_span i n xs e h =
      record {
        size = page_stores_length i xs ∙ e;
        goes = λ (k : ℕ) (l : k < n). subst (Goes wp wl (place_at Pages (i + k))) (sym (kth_page i k xs (omega (arith, l, e)))) (refl, h k (omega (arith, l, e)));
      }

  -- ONE SPAN, THEN ANOTHER.
  pub both : (s : Stores) (ts us : List Store) → SpanLists wp wl s.first ts → SpanLists wp wl s.rest us → Lists wp wl s (ts ++ us)
  both s ts us a b = record { size = omega (arith, length-append ts us, a.size, b.size); goes = λ (k : ℕ) (h : k < count s). go k h (case (ltb k s.first.count)) }
    where
      go : (k : ℕ) → k < count s → Case (ltb k s.first.count) → Goes wp wl (place s k) (kth (ts ++ us) k)
      go k h (yes! e) =
          let l = true_lt k s.first.count e in
          rw (place_first s k e, get_or-append ts us (store_slot 0 empty) k (omega (arith, l, a.size))) (a.goes k l)
      go k h (no! e) =
          let l = false_lt k s.first.count e in
          let j : ℕ = k - s.first.count in
          let o : k ≡ length ts + j = omega (arith, l, a.size) in
          let q : kth (ts ++ us) k ≡ kth us j = ap (kth (ts ++ us)) o ∙ get_or-append-add ts us j (store_slot 0 empty) in
          rw (place_rest s k e, q) (b.goes j (omega (arith, l, h)))

-- SLOTS ALONE.
pub slots_list : (wp wl : List ℕ) (i n : ℕ) (xs : List Slot) → length xs ≡ n → SlotsAt wl i xs
    → Lists wp wl (record { first = record { area = Slots; from = i; count = n }; rest = record { area = Pages; from = 0; count = 0 } }) (slot_stores (suc i) xs)
unfolding page_stores
slots_list wp wl i n xs e h =
    let s : Stores = record { first = record { area = Slots; from = i; count = n }; rest = record { area = Pages; from = 0; count = 0 } } in
    subst (Lists wp wl s) (append-nil (slot_stores (suc i) xs))
    (both wp wl s (slot_stores (suc i) xs) [] (slots_span wp wl i n xs e h) (pages_span wp wl 0 0 [] refl (λ (k : ℕ) (l : k < 0). absurd (omega (arith, l)))))
