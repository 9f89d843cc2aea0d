-- Redo. 01: "redoes from record 1 each page change whose page log number is lower"; live work applies its records by the same function.
use Rattle.std.specs.Prelude.{ℕ, suc, ◌+◌, Bool, true, false, ◌&&◌, List, [], ◌∷◌, set, ltb}
use Rattle.def_base.specs.Tests.{pick}
use Rattle.def_layout.specs.Pages.{Page, at}
use Rattle.def_layout.specs.Records.{Rec}
use Rattle.def_model.specs.Change.{shape, act}
use Rattle.def_model.specs.Fit.{fits}

-- The pages that a record changes, in order: A, then B or C, then the map.
unfoldable pub when_named : (named : Bool) → ℕ → List ℕ → List ℕ
when_named true p ps = p ∷ ps
when_named false p ps = ps

unfoldable pub places : Rec → List ℕ
places r =
    when_named (shape r.kind).a r.pageA
    (when_named (shape r.kind).b r.pageB (when_named (shape r.kind).c r.pageC (when_named (shape r.kind).m 0 [])))

abbrev pub is_lower : ℕ → ℕ → List Page → Bool
is_lower n p pages = ltb (at pages p).lsn n

-- Record r, number n, at page p, where the page's number is lower.
unfoldable pub redo_at : ℕ → Rec → ℕ → Page → Page
redo_at n r p x = pick (ltb x.lsn n) (act p n r x) x

unfoldable pub redo_page : ℕ → Rec → ℕ → List Page → List Page
redo_page n r p pages = set pages p (redo_at n r p (at pages p))

unfoldable pub redo_places : ℕ → Rec → List ℕ → List Page → List Page
redo_places n r [] pages = pages
redo_places n r (p ∷ ps) pages = redo_places n r ps (redo_page n r p pages)

unfoldable pub redo_record : ℕ → Rec → List Page → List Page
redo_record n r pages = redo_places n r (places r) pages

-- A page that is changed is written whole: its left link is none from then on, until the call's end (`Links: relinked`).
unfoldable pub redo_left : ℕ → ℕ → List Page → List ℕ → List ℕ
redo_left n p pages lefts = pick (is_lower n p pages) (set lefts p 0) lefts

unfoldable pub redo_lefts : ℕ → Rec → List ℕ → List Page → List ℕ → List ℕ
redo_lefts n r [] pages lefts = lefts
redo_lefts n r (p ∷ ps) pages lefts = redo_lefts n r ps (redo_page n r p pages) (redo_left n p pages lefts)

-- The records from number n on.
unfoldable pub replay : ℕ → List Rec → List Page → List Page
replay n [] pages = pages
replay n (r ∷ l) pages = replay (suc n) l (redo_record n r pages)

-- 01's redo count: "the number of pairs of record and page where the page's number was lower when redo reached them".
unfoldable pub count_places : ℕ → Rec → List ℕ → List Page → ℕ
count_places n r [] pages = 0
count_places n r (p ∷ ps) pages = pick (is_lower n p pages) 1 0 + count_places n r ps (redo_page n r p pages)

unfoldable pub redo_count : ℕ → List Rec → List Page → ℕ
redo_count n [] pages = 0
redo_count n (r ∷ l) pages = count_places n r (places r) pages + redo_count (suc n) l (redo_record n r pages)

-- Each of those pairs fits (5).
unfoldable pub fits_places : ℕ → Rec → List ℕ → List Page → Bool
fits_places n r [] pages = true
fits_places n r (p ∷ ps) pages = pick (is_lower n p pages) (fits p r (at pages p)) true && fits_places n r ps (redo_page n r p pages)

unfoldable pub redo_fits : ℕ → List Rec → List Page → Bool
redo_fits n [] pages = true
redo_fits n (r ∷ l) pages = fits_places n r (places r) pages && redo_fits (suc n) l (redo_record n r pages)
