-- A pass over an area's pages, a turn at a time: the layout of each, and its log number.
use Rattle.std.specs.Prelude.{◌≡◌, ℕ, ◌+◌, ◌*◌, ◌<◌, ◌≤◌, Bool, true, false, drop}
use Rattle.std.proofs.Common.{◌∙◌, arith, drop_of_length-le, drop-cons}
use Rattle.std.proofs.Math.Numerals.{add-one}
use mathlib.Core.List.{List, [], ◌∷◌}
use Rattle.def_base.specs.Tests.{every, le_true, le_false}
use Rattle.def_layout.specs.Numbers.{be32}
use Rattle.def_layout.specs.Pages.{zero_page}
use Rattle.def_layout.specs.PageBytes.{page, page_fields, read_block}
use Rattle.def_layout.specs.Sizes.{page_size}
use Rattle.def_model.specs.Sound.{numbers_ok}
use Rattle.law_bytes.specs.Words.{part, be32_take, be32_drop}
use Rattle.law_bytes.specs.Pieces.{read_all, read_all_length, read_all_at}
use Rattle.def_model.specs.Areas.{block_ok, blocks_ok}
use Rattle.law_bytes.specs.PageAreas.{judged, blocks_by, pages_of}

-- The pages from p on are page p and those after it.
from_page : {A : Type 0} (f : List ℕ → A) (d : A) (n p : ℕ) (b : List ℕ) → p < n
    → drop p (read_all page_size f n b) ≡ f (part b (page_size * p) page_size) ∷ drop (p + 1) (read_all page_size f n b)
from_page f d n p b h =
    let l = read_all page_size f n b in
    drop-cons l p d (omega (arith, read_all_length page_size f n b))
    ∙ rw (read_all_at page_size f n p b d h, add-one p)

none_from : {A : Type 0} (f : List ℕ → A) (n p : ℕ) (b : List ℕ) → n ≤ p → drop p (read_all page_size f n b) ≡ []
none_from f n p b h = drop_of_length-le (read_all page_size f n b) {i = p} (omega (arith, read_all_length page_size f n b))

-- ---- layouts

module _ (w : Bool) (n p : ℕ) (b : List ℕ) {t : Bool} (e : t ≡ block_ok n p (read_block (judged w (part b (page_size * p) page_size)))) (h : p < n) where
  pub laid_out : t ≡ true → blocks_ok n p (drop p (blocks_by w n b)) ≡ blocks_ok n (p + 1) (drop (p + 1) (blocks_by w n b))
  unfolding blocks_ok
  laid_out k =
      rw (from_page (λ (x : List ℕ). read_block (judged w x)) (page zero_page) n p b h, blocks_ok, ← e, k, add-one p)

  pub breaks : t ≡ false → blocks_ok n p (drop p (blocks_by w n b)) ≡ false
  unfolding blocks_ok
  breaks k =
      rw (from_page (λ (x : List ℕ). read_block (judged w x)) (page zero_page) n p b h, blocks_ok, ← e, k)

pub laid_none : (w : Bool) (n p : ℕ) (b : List ℕ) → n ≤ p → blocks_ok n p (drop p (blocks_by w n b)) ≡ true
unfolding blocks_ok
laid_none w n p b h = rw (none_from (λ (x : List ℕ). read_block (judged w x)) n p b h)

-- ---- log numbers

-- A page's log number is its third word.
lsn_word : (b : List ℕ) (p : ℕ) → (page_fields (part b (page_size * p) page_size)).lsn ≡ be32 b (page_size * p + 8)
unfolding page_fields
lsn_word b p = be32_take (drop (page_size * p) b) page_size 8 (omega arith) ∙ be32_drop b (page_size * p) 8

module _ (n p last x : ℕ) (b : List ℕ) (e : x ≡ be32 b (page_size * p + 8)) (h : p < n) where
  pub numbered : x ≤ last → numbers_ok last (drop p (pages_of n b)) ≡ numbers_ok last (drop (p + 1) (pages_of n b))
  unfolding numbers_ok every
  numbered k = rw (from_page page_fields zero_page n p b h, every, lsn_word b p, ← e, le_true x last k)

  pub too_high : last < x → numbers_ok last (drop p (pages_of n b)) ≡ false
  unfolding numbers_ok every
  too_high k = rw (from_page page_fields zero_page n p b h, every, lsn_word b p, ← e, le_false x last k)

pub numbered_none : (n p last : ℕ) (b : List ℕ) → n ≤ p → numbers_ok last (drop p (pages_of n b)) ≡ true
unfolding numbers_ok every
numbered_none n p last b h = rw (none_from page_fields n p b h)
