-- A CALL'S LIST OF STORES as the program names it, by spans of places, and the definitions' list of stores that it stands for.
use Rattle.std.specs.Prelude.{◌≡◌, ℕ, ◌+◌, ◌-◌, ◌*◌, ◌≤◌, ◌<◌, List, take, length, get_or, ltb}
use Rattle.def_base.specs.Tests.{pick}
use Rattle.def_layout.specs.Sizes.{page_size, slot_size, most_slots}
use Rattle.def_layout.specs.PageBytes.{page_bytes, without_left}
use Rattle.def_layout.specs.RecordBytes.{empty, slot_bytes}
use Rattle.def_model.specs.Areas.{Store, store_page, store_slot}
use Rattle.def_model.specs.Log.{slot_of}
use Rattle.def_model.specs.OnBytes.{Lent, store_all_bytes}
use Rattle.law_bytes.specs.Words.{part}
use Rattle.area_lengths.specs.Lent.{lent}
use Rattle.area_store.specs.declared.Span.{Span}
use Rattle.area_store.specs.declared.Area.{Area}
use Rattle.area_store.specs.declared.Area.TheVariants.{Pages, Slots}
use Rattle.area_store.specs.declared.Stores.{Stores}
use Rattle.area_store.specs.declared.Place.{Place}
use Rattle.area_store.specs.declared.Place.TheVariants.{Page, Slot}

-- ---- places

unfoldable pub place_at : Area → ℕ → Place
place_at Pages i = Page i
place_at Slots i = Slot i

-- The place of a span's k-th store.
abbrev pub span_place : Span → ℕ → Place
span_place s k = place_at s.area (s.from + k)

-- How many stores there are, and the place of the k-th: in the first span while that lasts, then in the other.
abbrev pub count : Stores → ℕ
count s = s.first.count + s.rest.count

unfoldable pub place : Stores → ℕ → Place
place s k = pick (ltb k s.first.count) (span_place s.first k) (span_place s.rest (k - s.first.count))

-- The first n places are within the areas, working and stable.
abbrev pub reaches : Area → ℕ → (wp sp wl sl : List ℕ) → Type 0
reaches Pages n wp sp wl sl = (page_size * n ≤ length sp) × (page_size * n ≤ length wp)
reaches Slots n wp sp wl sl = (slot_size * n ≤ length sl) × (slot_size * n ≤ length wl)

abbrev pub Fits : Stores → (wp sp wl sl : List ℕ) → Type 0
Fits s wp sp wl sl =
    (s.first.from + s.first.count ≤ most_slots) × (s.rest.from + s.rest.count ≤ most_slots)
    × reaches s.first.area (s.first.from + s.first.count) wp sp wl sl × reaches s.rest.area (s.rest.from + s.rest.count) wp sp wl sl

-- ---- stores

-- The k-th store of a list. (Past its end there is none, and nothing is asked of it.)
abbrev pub kth : List Store → ℕ → Store
kth ts k = get_or ts k (store_slot 0 empty)

-- A STORE GOES TO A PLACE: it is that place's, and its bytes stand there in the working area, a page's with its left link.
unfoldable pub Goes : (wp wl : List ℕ) → Place → Store → Type 0
Goes wp wl (Page p) (store_page q x) = (q ≡ p) × (page_bytes x ≡ without_left (part wp (page_size * p) page_size))
Goes wp wl (Page p) (store_slot n x) = ⊥
Goes wp wl (Slot i) (store_page q x) = ⊥
Goes wp wl (Slot i) (store_slot n x) = (slot_of n ≡ i) × (slot_bytes x ≡ part wl (slot_size * i) slot_size)

-- STANDS FOR the definitions' list ts: as many stores, and the k-th of ts goes to the k-th place.
pub record Lists (wp wl : List ℕ) (s : Stores) (ts : List Store) : Type 0 where
  pub size : length ts ≡ count s
  pub goes : (k : ℕ) → k < count s → Goes wp wl (place s k) (kth ts k)

-- THE FIRST k STORES of a list lead from some areas to others.
abbrev pub Leads : Stores → ℕ → (wp wl : List ℕ) (start now : Lent) → Type 0
Leads s k wp wl start now = (ts : List Store) → Lists wp wl s ts → now ≡ store_all_bytes (take k ts) start

-- They are made: they lead to these areas from some others.
pub record Made (s : Stores) (k : ℕ) (wp sp wl sl : List ℕ) : Type 0 where
  pub start : Lent
  pub leads : Leads s k wp wl start (lent wp sp wl sl)
