-- A working area: pages with their left links (02, U5), read back.
use Rattle.std.specs.Prelude.{◌≡◌, refl, ℕ, zero, suc, ◌+◌, ◌-◌, ◌*◌, ◌/◌, ◌<◌, ◌≤◌, get_or, drop}
use Rattle.std.proofs.Math.Path.{ap, ap₂, sym}
use Rattle.std.proofs.Common.{◌∙◌, subst, lit<, length-append, length-drop}
use native.Mathlib.Omega.{arith}
use Rattle.std.proofs.Math.Dec.{eqb-suc-zero}
use mathlib.Core.List.{List, [], ◌∷◌, ◌++◌, map, map-append, append-nil}
use Rattle.std.proofs.Math.ListN.{length, replicate}
use Rattle.std.proofs.lemmas.List.{length-replicate, length-map}
use Rattle.def_layout.specs.Numbers.{be32, put32, zeros}
use Rattle.def_layout.specs.Pages.{Page, at, zero_page}
use Rattle.def_layout.specs.PageBytes.{Block, page, page_bytes, read_block, block_bytes, left_in, without_left, with_left}
use Rattle.def_layout.specs.Sizes.{page_size}
use Rattle.def_model.specs.OnBytes.{parts, joined, read_work, read_lefts, work_parts, work_bytes, pages_bytes}
use Rattle.law_bytes.specs.Pieces.{All}
use Rattle.law_bytes.specs.Words.{put32_length}
use Rattle.law_bytes.specs.PageBytes.{Fits, page_bytes_length, read_block_back}
use Rattle.law_bytes.specs.LeftLinks.{Links, left_said, left_gone}
use Rattle.law_areas.specs.Parts.{Wide, joined_length, parts_length, map_same}
use Rattle.law_areas.specs.Held.{Holds, holds_itself, holds_fit, holds_filled, holds_map}
use Rattle.law_areas.specs.Pages.{AllPagesFit, filled, filled_whole, zero_bytes, zero_fits}

-- A page and its left link.
pub record Linked : Type 0 where
  pub page_of : Page
  pub left : ℕ

abbrev none_there : Linked
none_there = record { page_of = zero_page; left = 0 }

unfoldable pub paired : List Page → List ℕ → List Linked
paired [] ls = []
paired (x ∷ xs) [] = record { page_of = x; left = 0 } ∷ paired xs []
paired (x ∷ xs) (l ∷ ls) = record { page_of = x; left = l } ∷ paired xs ls

abbrev pub linked_bytes : Linked → List ℕ
linked_bytes y = with_left y.left (page_bytes y.page_of)

unfoldable pub AllLinks : List Linked → Type 0
AllLinks [] = Unit {0}
AllLinks (y ∷ ys) = Links y.page_of y.left × Fits y.page_of × AllLinks ys

pub paired_length : (xs : List Page) (ls : List ℕ) → length (paired xs ls) ≡ length xs
unfolding paired
paired_length [] ls = refl
paired_length (x ∷ xs) [] = ap suc (paired_length xs [])
paired_length (x ∷ xs) (l ∷ ls) = ap suc (paired_length xs ls)

paired_pages : (xs : List Page) (ls : List ℕ) → map (λ y. page y.page_of) (paired xs ls) ≡ map page xs
unfolding paired
paired_pages [] ls = refl
paired_pages (x ∷ xs) [] = ap (page x ∷◌) (paired_pages xs [])
paired_pages (x ∷ xs) (l ∷ ls) = ap (page x ∷◌) (paired_pages xs ls)

pub with_bytes : (xs : List Page) (ls : List ℕ) → work_bytes (map page xs) ls ≡ joined (map linked_bytes (paired xs ls))
unfolding work_bytes work_parts paired with_left block_bytes
with_bytes xs ls = ap joined (go xs ls)
  where
    go : (xs : List Page) (ls : List ℕ) → work_parts (map page xs) ls ≡ map linked_bytes (paired xs ls)
    go [] ls = refl
    go (x ∷ xs) [] = ap (page_bytes x ∷◌) (go xs [])
    go (x ∷ xs) (l ∷ ls) = ap (with_left l (page_bytes x) ∷◌) (go xs ls)

-- As many links as pages.
pub paired_lefts : (xs : List Page) (ls : List ℕ) → length ls ≡ length xs → map (λ y. y.left) (paired xs ls) ≡ ls
unfolding paired
paired_lefts [] [] e = refl
paired_lefts [] (l ∷ ls) e = absurd (omega arith)
paired_lefts (x ∷ xs) [] e = absurd (omega arith)
paired_lefts (x ∷ xs) (l ∷ ls) e = ap (l ∷◌) (paired_lefts xs ls (omega arith))

paired_longer : (xs : List Page) (ls : List ℕ) (k : ℕ) → length ls ≡ length xs → paired (xs ++ replicate k zero_page) (ls ++ replicate k 0) ≡ paired xs ls ++ replicate k none_there
unfolding paired
paired_longer [] [] zero e = refl
paired_longer [] [] (suc k) e = ap (none_there ∷◌) (paired_longer [] [] k e)
paired_longer [] (l ∷ ls) k e = absurd (omega arith)
paired_longer (x ∷ xs) [] k e = absurd (omega arith)
paired_longer (x ∷ xs) (l ∷ ls) k e = ap (record { page_of = x; left = l } ∷◌) (paired_longer xs ls k (omega arith))

pub all_links : (xs : List Page) (ls : List ℕ) → length ls ≡ length xs → ((p : ℕ) → p < length xs → Links (at xs p) (get_or ls p 0)) → AllPagesFit xs → AllLinks (paired xs ls)
unfolding paired AllLinks
all_links [] [] e h f = tt
all_links [] (l ∷ ls) e h f = absurd (omega arith)
all_links (x ∷ xs) [] e h f = absurd (omega arith)
all_links (x ∷ xs) (l ∷ ls) e h f = (h 0 (omega arith), f 0 (omega arith), all_links xs ls (omega arith) (λ p k. h (suc p) (omega arith)) (λ p k. f (suc p) (omega arith)))

-- No links: the pages' own bytes.
pub work_unlinked : (bs : List Block) (n : ℕ) → work_bytes bs (replicate n 0) ≡ pages_bytes bs
unfolding work_bytes pages_bytes work_parts with_left
work_unlinked bs n = ap joined (go bs n)
  where
    go : (bs : List Block) (n : ℕ) → work_parts bs (replicate n 0) ≡ map block_bytes bs
    go [] n = refl
    go (b ∷ bs) zero = ap (block_bytes b ∷◌) (go bs 0)
    go (b ∷ bs) (suc n) = ap (block_bytes b ∷◌) (go bs n)

-- ---- widths

pub left_length : (l : ℕ) (b : List ℕ) → 4 ≤ length b → length (with_left l b) ≡ length b
unfolding with_left
left_length zero b h = refl
left_length (suc l) b h = rw (eqb-suc-zero l) (length-append (put32 (be32 b 0 + 4 * suc l)) (drop 4 b) ∙ (let a = put32_length (be32 b 0 + 4 * suc l) in let d = length-drop 4 b in omega arith))

wide_linked : (ys : List Linked) → Wide page_size (map linked_bytes ys)
unfolding All
wide_linked [] = tt
wide_linked (y ∷ ys) = let n = page_bytes_length y.page_of in (left_length y.left (page_bytes y.page_of) (omega arith) ∙ n, wide_linked ys)

blank_linked : linked_bytes none_there ≡ zeros page_size
unfolding with_left
blank_linked = zero_bytes

-- ---- reading

blocks_back : (ys : List Linked) → AllLinks ys → map (λ b. read_block (without_left b)) (map linked_bytes ys) ≡ map (λ y. page y.page_of) ys
unfolding AllLinks
blocks_back [] f = refl
blocks_back (y ∷ ys) f = ap₂ (λ (b : Block) (bs : List Block). b ∷ bs) (ap read_block (left_gone y.page_of y.left f.0) ∙ read_block_back y.page_of f.1) (blocks_back ys f.2)

lefts_back : (ys : List Linked) → AllLinks ys → map left_in (map linked_bytes ys) ≡ map (λ y. y.left) ys
unfolding AllLinks
lefts_back [] f = refl
lefts_back (y ∷ ys) f = ap₂ (λ (l : ℕ) (ls : List ℕ). l ∷ ls) (left_said y.page_of y.left f.0) (lefts_back ys f.2)

zero_links : Links zero_page 0
zero_links = record { narrow = lit< tt; other = λ e. refl }

abbrev pub HoldsWork : List ℕ → List Page → List ℕ → Type 0
HoldsWork area xs ls = Holds area (work_bytes (map page xs) ls)

abbrev pub filled_lefts : ℕ → List Page → List ℕ → List ℕ
filled_lefts m xs ls = map (λ y. y.left) (paired xs ls) ++ replicate (m - length xs) 0

module _ (m : ℕ) (xs : List Page) (ls : List ℕ) {area : List ℕ} (h : HoldsWork area xs ls) (size : length area ≡ page_size * m) where
  held : Holds area (joined (map linked_bytes (paired xs ls)))
  held = subst (Holds area) (with_bytes xs ls) h

  -- Zero pages are held too, without links.
  pub work_filled : length ls ≡ length xs → area ≡ work_bytes (map page (filled m xs)) (ls ++ replicate (m - length xs) 0)
  work_filled e =
      holds_filled page_size m linked_bytes none_there (paired xs ls) (lit< tt) blank_linked (wide_linked (paired xs ls)) held size
      ∙ ap (λ k. joined (map linked_bytes (paired xs ls ++ replicate (m - k) none_there))) (paired_length xs ls)
      ∙ ap (λ ys. joined (map linked_bytes ys)) (sym (paired_longer xs ls (m - length xs) e))
      ∙ sym (with_bytes (filled m xs) (ls ++ replicate (m - length xs) 0))

  pub holds_zero_work : length ls ≡ length xs → HoldsWork area (filled m xs) (ls ++ replicate (m - length xs) 0)
  holds_zero_work e = subst (λ (a : List ℕ). HoldsWork a (filled m xs) (ls ++ replicate (m - length xs) 0)) (sym (work_filled e)) (holds_itself _)

  pub work_fits : length xs ≤ m
  work_fits = let a = paired_length xs ls in let b = holds_fit page_size m linked_bytes none_there (paired xs ls) (lit< tt) blank_linked (wide_linked (paired xs ls)) held size in omega arith

  -- READING: pages and links that fit are read back.
  pub work_read : AllLinks (paired xs ls) → read_work area ≡ map page (filled m xs)
  unfolding read_work
  work_read fits =
      let n : length area / page_size ≡ m = omega arith in
      ap (λ (k : ℕ). map (λ b. read_block (without_left b)) (parts k page_size area)) n
      ∙ holds_map page_size m linked_bytes none_there (paired xs ls) (lit< tt) blank_linked (wide_linked (paired xs ls)) held size (λ b. read_block (without_left b))
      ∙ ap₂ (λ (bs : List Block) (b : Block). bs ++ replicate (m - length (paired xs ls)) b) (blocks_back (paired xs ls) fits)
      (ap (λ b. read_block (without_left b)) (sym blank_linked) ∙ ap read_block (left_gone zero_page 0 zero_links) ∙ read_block_back zero_page zero_fits)
      ∙ done
    where
      done : map (λ y. page y.page_of) (paired xs ls) ++ replicate (m - length (paired xs ls)) (page zero_page) ≡ map page (filled m xs)
      done =
          ap₂ (λ (bs : List Block) (k : ℕ). bs ++ replicate (m - k) (page zero_page)) (paired_pages xs ls) (paired_length xs ls)
          ∙ sym (map-append page xs (replicate (m - length xs) zero_page) ∙ ap (λ (r : List Block). map page xs ++ r) (map_same page (m - length xs) zero_page))

  pub lefts_read : AllLinks (paired xs ls) → read_lefts area ≡ filled_lefts m xs ls
  unfolding read_lefts
  lefts_read fits =
      let n : length area / page_size ≡ m = omega arith in
      ap (λ (k : ℕ). map left_in (parts k page_size area)) n
      ∙ holds_map page_size m linked_bytes none_there (paired xs ls) (lit< tt) blank_linked (wide_linked (paired xs ls)) held size left_in
      ∙ ap₂ (λ (ms : List ℕ) (l : ℕ). ms ++ replicate (m - length (paired xs ls)) l) (lefts_back (paired xs ls) fits) (ap left_in (sym blank_linked) ∙ left_said zero_page 0 zero_links)
      ∙ ap (λ k. map (λ y. y.left) (paired xs ls) ++ replicate (m - k) 0) (paired_length xs ls)

  -- As many pages as the area has, and a link for each: nothing is filled up.
  pub work_whole : length xs ≡ m → length ls ≡ length xs → AllLinks (paired xs ls) → (read_work area ≡ map page xs) × (read_lefts area ≡ ls)
  work_whole e c fits =
      let none : m - length xs ≡ 0 = omega arith in
      (work_read fits ∙ ap (map page) (filled_whole m xs e), lefts_read fits ∙ ap₂ (λ a k. a ++ replicate k 0) (paired_lefts xs ls c) none ∙ append-nil ls)

pub read_work_length : (m : ℕ) (area : List ℕ) → length area ≡ page_size * m → length (read_work area) ≡ m
unfolding read_work
read_work_length m area size = length-map (parts (length area / page_size) page_size area) (λ b. read_block (without_left b)) ∙ parts_length (length area / page_size) page_size area ∙ omega arith

pub read_lefts_length : (m : ℕ) (area : List ℕ) → length area ≡ page_size * m → length (read_lefts area) ≡ m
unfolding read_lefts
read_lefts_length m area size = length-map (parts (length area / page_size) page_size area) left_in ∙ parts_length (length area / page_size) page_size area ∙ omega arith

-- WRITING: the bytes of pages and links hold them, with nothing to spare.
abbrev pub work_hold : (xs : List Page) (ls : List ℕ) → HoldsWork (work_bytes (map page xs) ls) xs ls
work_hold xs ls = holds_itself (work_bytes (map page xs) ls)

pub work_length : (xs : List Page) (ls : List ℕ) → length (work_bytes (map page xs) ls) ≡ page_size * length xs
work_length xs ls =
    ap length (with_bytes xs ls) ∙ joined_length page_size (map linked_bytes (paired xs ls)) (wide_linked (paired xs ls))
    ∙ ap (λ (n : ℕ). page_size * n) (length-map (paired xs ls) linked_bytes ∙ paired_length xs ls)

-- An area of zeros holds no page, and shows zero pages without links.
no_work : (k : ℕ) → HoldsWork (zeros k) [] []
unfolding work_bytes work_parts joined
no_work k = record { spare = k; is = refl }

none_linked : AllLinks (paired [] [])
unfolding paired AllLinks
none_linked = tt

pub zero_work_read : (n : ℕ) → read_work (zeros (page_size * n)) ≡ replicate n (page zero_page)
zero_work_read n =
    let e : n - 0 ≡ n = omega arith in
    work_read n [] [] (no_work (page_size * n)) (length-replicate (page_size * n) 0) none_linked ∙ ap (λ (k : ℕ). map page (replicate k zero_page)) e ∙ map_same page n zero_page

pub zero_lefts_read : (n : ℕ) → read_lefts (zeros (page_size * n)) ≡ replicate n 0
unfolding paired
zero_lefts_read n =
    let e : n - 0 ≡ n = omega arith in
    lefts_read n [] [] (no_work (page_size * n)) (length-replicate (page_size * n) 0) none_linked ∙ ap (λ (k : ℕ). replicate k 0) e
