-- Bytes whose pages all keep the layout are the bytes of typed pages, each of which keeps its fields' widths.
use Rattle.std.specs.Prelude.{◌≡◌, refl, ℕ, zero, suc, ◌*◌, true, List, [], ◌∷◌, ◌++◌, map, length, take, drop}
use Rattle.std.proofs.Common.{ap, ap₂, sym, ◌∙◌, arith, length-drop, take-append-drop}
use Rattle.def_base.specs.Tests.{and_true}
use Rattle.def_layout.specs.Pages.{Page}
use Rattle.def_layout.specs.PageBytes.{Block, page, page_fields, read_block}
use Rattle.def_layout.specs.Sizes.{page_size}
use Rattle.def_model.specs.Areas.{block_ok, blocks_ok}
use Rattle.def_model.specs.Areas as areas
use Rattle.law_bytes.specs.Pieces.{read_all, read_all_length, write_all, All}
use Rattle.law_bytes.specs.PageBytes.{Fits}
use Rattle.law_bytes.specs.PageAreas.{blocks_of, pages_of, pages_bytes}
use Rattle.law_areas.specs.Typed.{pages_back}
use Rattle.law_areas.specs.Pages.{AllPagesFit}
use Rattle.law_areas.specs.LaidPages.{laid_page}

-- The area's n pages are those that its bytes show, and nothing else stands there.
pub record Laid (n : ℕ) (area : List ℕ) : Type 0 where
  pub blocks : blocks_of n area ≡ map page (pages_of n area)
  pub shown : areas.pages_of (blocks_of n area) ≡ pages_of n area
  pub bytes : area ≡ pages_bytes (pages_of n area)
  pub fits : AllPagesFit (pages_of n area)
  pub size : length (pages_of n area) ≡ n

pub all_fit : (xs : List Page) → All Fits xs → AllPagesFit xs
unfolding All
all_fit [] f p h = absurd (omega arith)
all_fit (x ∷ xs) f zero h = f.0
all_fit (x ∷ xs) f (suc p) h = all_fit xs f.1 p (omega arith)

laid_from : (k p n : ℕ) (b : List ℕ) → blocks_ok k p (blocks_of n b) ≡ true → length b ≡ page_size * n
    → (blocks_of n b ≡ map page (pages_of n b)) × (b ≡ pages_bytes (pages_of n b)) × All Fits (pages_of n b)
unfolding blocks_ok read_all write_all All
laid_from k p zero [] l size = (refl, refl, tt)
laid_from k p zero (x ∷ b) l size = absurd (omega arith)
laid_from k p (suc n) b l size =
    let e = and_true (block_ok k p (read_block (take page_size b))) (blocks_ok k (suc p) (blocks_of n (drop page_size b))) l in
    let x = laid_page k p (take page_size b) e.0 in
    let r = laid_from k (suc p) n (drop page_size b) e.1 (omega (arith, length-drop page_size b)) in (
      ap₂ (λ (y : Block) (ys : List Block). y ∷ ys) x.block r.0,
      sym (take-append-drop page_size b) ∙ ap₂ (λ (u v : List ℕ). u ++ v) x.bytes r.1,
      (x.fits, r.2),
    )

-- LAID PAGES: what `layouts_ok` takes are typed pages, each within its fields.
pub laid_pages : (n : ℕ) (area : List ℕ) → blocks_ok n 0 (blocks_of n area) ≡ true → length area ≡ page_size * n → Laid n area
laid_pages n area l size =
    let h = laid_from n 0 n area l size in
    record {
      blocks = h.0;
      shown = ap areas.pages_of h.0 ∙ pages_back (pages_of n area);
      bytes = h.1;
      fits = all_fit (pages_of n area) h.2;
      size = read_all_length page_size page_fields n area;
    }
