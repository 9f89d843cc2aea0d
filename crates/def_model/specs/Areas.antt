-- The four lent areas, typed, and stores.
use Rattle.std.specs.Prelude.{ℕ, suc, Bool, true, false, ◌&&◌, List, [], ◌∷◌, map, take, drop, set, replicate}
use Rattle.def_layout.specs.Pages.{Page, zero_page, layout}
use Rattle.def_layout.specs.PageBytes.{Block, page, other}
use Rattle.def_layout.specs.Records.{Rec}
use Rattle.def_layout.specs.RecordBytes.{Slot, empty}
use Rattle.def_model.specs.Log.{slot_of, slots_from}

-- Pages and a log: the working ones, or the stable ones. Working pages have left links, page by page (0 none); stable ones have no such list.
pub record Side : Type 0 where
  pub pages : List Block
  pub lefts : List ℕ
  pub log : List Slot

pub record Areas : Type 0 where
  pub work : Side
  pub stable : Side

-- The pages that stand in an area.
unfoldable pub page_in : Block → Page
page_in (page x) = x
page_in (other b) = zero_page

abbrev pub pages_of : List Block → List Page
pages_of bs = map page_in bs

-- Refusal 3: "a page breaks the layout", of the pages from place p on, of n in all.
unfoldable pub block_ok : ℕ → ℕ → Block → Bool
block_ok n p (page x) = layout n p x
block_ok n p (other b) = false

unfoldable pub blocks_ok : ℕ → ℕ → List Block → Bool
blocks_ok n p [] = true
blocks_ok n p (b ∷ bs) = block_ok n p b && blocks_ok n (suc p) bs

-- An area of zeros.
abbrev pub zero_side : ℕ → ℕ → Side
zero_side pages slots = record { pages = replicate pages (page zero_page); lefts = replicate pages 0; log = replicate slots empty }

-- ---- stores

-- 01: "One store is one page or one record". (Format stores empty slots too.) 02, U5: "write-out stores it as zero": a page is stored without its left link.
pub data Store : Type 0 where
  store_page : ℕ → Page → Store
  store_slot : ℕ → Slot → Store

unfoldable pub store : Store → Side → Side
store (store_page p x) s = record { pages = set s.pages p (page x); lefts = s.lefts; log = s.log }
store (store_slot n x) s = record { pages = s.pages; lefts = s.lefts; log = set s.log (slot_of n) x }

unfoldable pub store_all : List Store → Side → Side
store_all [] s = s
store_all (t ∷ ts) s = store_all ts (store t s)

-- 01: "a call's stores are a run of one-store steps with a budget": the stable areas after so many of them.
unfoldable pub store_some : ℕ → List Store → Side → Side
store_some budget ts s = store_all (take budget ts) s

-- 01: "every unstored record, in order": those after the first `stored`.
unfoldable pub slot_stores : ℕ → List Slot → List Store
slot_stores n [] = []
slot_stores n (x ∷ xs) = store_slot n x ∷ slot_stores (suc n) xs

unfoldable pub log_stores : ℕ → List Rec → List Store
log_stores stored log = slot_stores (suc stored) (slots_from (suc stored) (drop stored log))
