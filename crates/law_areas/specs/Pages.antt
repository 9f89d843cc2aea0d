-- An area that holds pages: a page that is not there is a zero page, and pages that fit are read back.
use Rattle.std.specs.Prelude.{◌≡◌, refl, ℕ, zero, suc, ◌-◌, ◌*◌, ◌/◌, ◌<◌, ◌≤◌, set, replicate}
use Rattle.std.proofs.Math.Path.{ap}
use Rattle.std.proofs.Common.{ap₂, sym, ◌∙◌, subst, lit<, lit≤, length-append}
use native.Mathlib.Omega.{arith}
use mathlib.Core.List.{List, [], ◌∷◌, ◌++◌, map, map-append, append-nil}
use Rattle.std.proofs.Math.ListN.{length, length-map}
use Rattle.std.proofs.lemmas.List.{length-replicate}
use Rattle.def_layout.specs.Numbers.{zeros, put32, chunks, entry_bytes, entries_bytes}
use Rattle.def_layout.specs.Pages.{Page, at, zero_page, page_kind_number}
use Rattle.def_layout.specs.PageBytes.{Block, page, page_front, page_body, page_bytes, read_block, block_bytes}
use Rattle.def_layout.specs.Sizes.{page_size}
use Rattle.def_model.specs.Areas.{pages_of}
use Rattle.def_model.specs.OnBytes.{parts, joined, put_part, read_pages, pages_bytes}
use Rattle.law_bytes.specs.Patch.{patch}
use Rattle.law_bytes.specs.Pieces.{All, write_all}
use Rattle.law_bytes.specs.PageBytes.{Fits, NodeFits, BodyFits, page_bytes_length, read_block_back}
use Rattle.law_bytes.specs.PageAreas.{pages_bytes_set}
use Rattle.law_areas.specs.Typed.{pages_back}
use Rattle.law_areas.specs.Parts.{Wide, joined_length, joined_blank, parts_length, map_same}
use Rattle.law_areas.specs.Held.{Holds, holds_itself, holds_fit, holds_filled, holds_read, put_is, put_inside}

abbrev pub HoldsPages : List ℕ → List Page → Type 0
HoldsPages area xs = Holds area (pages_bytes (map page xs))

-- m pages: those, and zero pages after them.
abbrev pub filled : ℕ → List Page → List Page
filled m xs = xs ++ replicate (m - length xs) zero_page

pub filled_length : (m : ℕ) (xs : List Page) → length xs ≤ m → length (filled m xs) ≡ m
filled_length m xs h = length-append xs (replicate (m - length xs) zero_page) ∙ omega (arith, length-replicate (m - length xs) zero_page)

pub filled_whole : (m : ℕ) (xs : List Page) → length xs ≡ m → filled m xs ≡ xs
filled_whole m xs h = let e : m - length xs ≡ 0 = omega arith in ap (λ (k : ℕ). xs ++ replicate k zero_page) e ∙ append-nil xs

pub filled_at : (m p : ℕ) (xs : List Page) → at (filled m xs) p ≡ at xs p
filled_at m p xs = go p xs (m - length xs)
  where
    rest : (p k : ℕ) → at (replicate k zero_page) p ≡ zero_page
    rest p zero = refl
    rest zero (suc k) = refl
    rest (suc p) (suc k) = rest p k

    go : (p : ℕ) (xs : List Page) (k : ℕ) → at (xs ++ replicate k zero_page) p ≡ at xs p
    go p [] k = rest p k
    go zero (x ∷ xs) k = refl
    go (suc p) (x ∷ xs) k = go p xs k

-- ---- the zero page

pub zero_bytes : page_bytes zero_page ≡ zeros page_size
unfolding page_bytes page_front page_body page_kind_number put32 entries_bytes chunks entry_bytes
zero_bytes = refl

pub zero_fits : Fits zero_page
unfolding BodyFits
zero_fits =
    let body : NodeFits zero_page = record { count = lit≤ tt; entry = λ i. (lit< tt, lit< tt); marks = refl } in
    record { level = lit< tt; right = lit< tt; high = lit< tt; lsn = lit< tt; own = lit< tt; body = body }

pub zero_read : read_block (zeros page_size) ≡ page zero_page
zero_read = ap read_block (sym zero_bytes) ∙ read_block_back zero_page zero_fits

-- ---- pages that all fit

abbrev pub AllPagesFit : List Page → Type 0
AllPagesFit xs = (p : ℕ) → p < length xs → Fits (at xs p)

-- Past the last one too, for those are zero pages.
pub fits_past : (xs : List Page) → AllPagesFit xs → (p : ℕ) → Fits (at xs p)
fits_past [] fits p = zero_fits
fits_past (x ∷ xs) fits zero = fits 0 (omega arith)
fits_past (x ∷ xs) fits (suc p) = fits_past xs (λ q h. fits (suc q) (omega arith)) p

pub fits_filled : (m : ℕ) (xs : List Page) → AllPagesFit xs → AllPagesFit (filled m xs)
fits_filled m xs fits p h = subst Fits (sym (filled_at m p xs)) (fits_past xs fits p)

pub fits_set : (xs : List Page) (p : ℕ) (x : Page) → Fits x → AllPagesFit xs → AllPagesFit (set xs p x)
fits_set [] p x f fits q h = absurd (omega arith)
fits_set (y ∷ xs) zero x f fits zero h = f
fits_set (y ∷ xs) zero x f fits (suc q) h = fits (suc q) h
fits_set (y ∷ xs) (suc p) x f fits zero h = fits 0 (omega arith)
fits_set (y ∷ xs) (suc p) x f fits (suc q) h = fits_set xs p x f (λ i l. fits (suc i) (omega arith)) q (omega arith)

-- ---- in parts

abbrev page_parts : List Page → List (List ℕ)
page_parts xs = map block_bytes (map page xs)

wide_pages : (xs : List Page) → Wide page_size (page_parts xs)
unfolding All block_bytes
wide_pages [] = tt
wide_pages (x ∷ xs) = (page_bytes_length x, wide_pages xs)

pub pages_length : (xs : List Page) → length (pages_bytes (map page xs)) ≡ page_size * length xs
unfolding pages_bytes
pages_length xs =
    joined_length page_size (page_parts xs) (wide_pages xs) ∙ ap (λ (n : ℕ). page_size * n) (length-map (map page xs) block_bytes ∙ length-map xs page)

pub read_pages_length : (m : ℕ) (area : List ℕ) → length area ≡ page_size * m → length (read_pages area) ≡ m
unfolding read_pages
read_pages_length m area size =
    let n : ℕ = length area / page_size in
    length-map (parts n page_size area) read_block ∙ parts_length n page_size area ∙ omega arith

pub zero_pages_bytes : (n : ℕ) → pages_bytes (replicate n (page zero_page)) ≡ zeros (page_size * n)
unfolding pages_bytes block_bytes
zero_pages_bytes n = joined_blank page_size block_bytes (page zero_page) zero_bytes n

blocks_back : (xs : List Page) → AllPagesFit xs → map read_block (page_parts xs) ≡ map page xs
unfolding block_bytes
blocks_back [] fits = refl
blocks_back (x ∷ xs) fits =
    ap₂ (λ (b : Block) (bs : List Block). b ∷ bs) (read_block_back x (fits 0 (omega arith))) (blocks_back xs (λ p h. fits (suc p) (omega arith)))

filled_blocks : (m : ℕ) (xs : List Page) → map page xs ++ replicate (m - length (map page xs)) (page zero_page) ≡ map page (filled m xs)
filled_blocks m xs =
    ap (λ (n : ℕ). map page xs ++ replicate (m - n) (page zero_page)) (length-map xs page)
    ∙ sym (map-append page xs (replicate (m - length xs) zero_page) ∙ ap (λ (r : List Block). map page xs ++ r) (map_same page (m - length xs) zero_page))

-- ---- an area of m pages

module _ (m : ℕ) (xs : List Page) {area : List ℕ} (h : HoldsPages area xs) (size : length area ≡ page_size * m) where
  pub pages_fit : length xs ≤ m
  unfolding pages_bytes block_bytes
  pages_fit = omega (arith, holds_fit page_size m block_bytes (page zero_page) (map page xs) (lit< tt) zero_bytes (wide_pages xs) h size, length-map xs page)

  -- Zero pages are held too, and then there is nothing else.
  pub pages_filled : area ≡ pages_bytes (map page (filled m xs))
  unfolding pages_bytes block_bytes
  pages_filled =
      holds_filled page_size m block_bytes (page zero_page) (map page xs) (lit< tt) zero_bytes (wide_pages xs) h size ∙ ap pages_bytes (filled_blocks m xs)

  pub holds_zero_pages : HoldsPages area (filled m xs)
  holds_zero_pages = subst (λ (a : List ℕ). HoldsPages a (filled m xs)) (sym pages_filled) (holds_itself (pages_bytes (map page (filled m xs))))

  -- READING: pages that fit are read back.
  pub pages_read : AllPagesFit xs → read_pages area ≡ map page (filled m xs)
  unfolding pages_bytes block_bytes read_pages
  pages_read fits =
      let n : length area / page_size ≡ m = omega arith in
      ap (λ (k : ℕ). map read_block (parts k page_size area)) n
      ∙ holds_read page_size m block_bytes (page zero_page) (map page xs) (lit< tt) zero_bytes (wide_pages xs) h size read_block (blocks_back xs fits) zero_read
      ∙ filled_blocks m xs

  pub pages_read_of : AllPagesFit xs → pages_of (read_pages area) ≡ filled m xs
  pages_read_of fits = ap pages_of (pages_read fits) ∙ pages_back (filled m xs)

-- WRITING: the bytes of pages hold them, with nothing to spare.
abbrev pub pages_hold : (xs : List Page) → HoldsPages (pages_bytes (map page xs)) xs
pages_hold xs = holds_itself (pages_bytes (map page xs))

-- An area of zeros holds no page, and shows zero pages.
pub no_pages : (k : ℕ) → HoldsPages (zeros k) []
unfolding pages_bytes joined
no_pages k = record { spare = k; is = refl }

pub zero_pages_read : (n : ℕ) → read_pages (zeros (page_size * n)) ≡ replicate n (page zero_page)
zero_pages_read n =
    let e : n - 0 ≡ n = omega arith in
    pages_read n [] (no_pages (page_size * n)) (length-replicate (page_size * n) 0) (λ p h. absurd (omega arith))
    ∙ ap (λ (k : ℕ). map page (replicate k zero_page)) e ∙ map_same page n zero_page

-- ---- page p written over

written : (xs : List Page) → pages_bytes (map page xs) ≡ write_all page_bytes xs
unfolding pages_bytes joined block_bytes write_all
written [] = refl
written (x ∷ xs) = ap (λ (r : List ℕ). page_bytes x ++ r) (written xs)

pub pages_put : (xs : List Page) (p : ℕ) (x : Page) {area : List ℕ} → p < length xs → HoldsPages area xs → HoldsPages (put_part (page_size * p) (page_bytes x) area) (set xs p x)
pages_put xs p x {area} l h =
    subst (λ (r : List ℕ). Holds (put_part (page_size * p) (page_bytes x) area) r)
    (put_is (page_size * p) (page_bytes x) (pages_bytes (map page xs))
    ∙ ap (λ (r : List ℕ). patch r (page_size * p) (page_bytes x)) (written xs)
    ∙ sym (written (set xs p x) ∙ pages_bytes_set xs p x l))
    (put_inside (page_size * p) (page_bytes x) (omega (arith, pages_length xs, page_bytes_length x)) h)
