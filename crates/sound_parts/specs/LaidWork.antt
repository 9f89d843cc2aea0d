-- Working pages that all keep the layout (02, U5): the bytes of typed pages and of their left links.
use Rattle.std.specs.Prelude.{◌≡◌, refl, ℕ, zero, suc, ◌*◌, ◌/◌, true, false, ◌&&◌, List, [], ◌∷◌, ◌++◌, map, length, take, drop, eqb}
use Rattle.std.proofs.Common.{ap, ap₂, sym, ◌∙◌, subst, arith, length-drop, take-append-drop}
use Rattle.def_base.specs.Tests.{and_true, Case, yes!, no!, case, true_eq, clash}
use Rattle.def_layout.specs.Numbers.{be32, put32, same_bytes}
use Rattle.def_layout.specs.Pages.{page_kind}
use Rattle.def_layout.specs.PageBytes.{Block, page, page_bytes, page_fields, block_bytes, read_block, left_by, left_in, without_left, with_left}
use Rattle.def_layout.specs.Sizes.{page_size}
use Rattle.def_model.specs.Areas.{block_ok, blocks_ok}
use Rattle.def_model.specs.Areas as areas
use Rattle.def_model.specs.OnBytes.{joined, work_parts, work_bytes}
use Rattle.law_bytes.specs.Pieces.{read_all, read_all_length, All}
use Rattle.law_bytes.specs.PageBytes.{Fits}
use Rattle.law_bytes.specs.PageAreas.{judged, blocks_by, pages_of, lefts_of}
use Rattle.law_bytes.specs.LeftLinks.{leaf?, Links, left_narrow, left_back}
use Rattle.law_bytes.specs.LeftFields.{alike_fields, without_alike}
use Rattle.law_areas.specs.Typed.{pages_back}
use Rattle.law_areas.specs.Pages.{AllPagesFit}
use Rattle.law_areas.specs.Working.{AllLinks, paired}
use Rattle.law_areas.specs.LaidPages.{laid_page}
use Rattle.sound_parts.specs.Laid.{all_fit}

-- The area's n pages are those that its bytes show, with the left links that they show, and nothing else stands there.
pub record LaidWork (n : ℕ) (area : List ℕ) : Type 0 where
  pub shown : areas.pages_of (blocks_by true n area) ≡ pages_of n area
  pub bytes : area ≡ work_bytes (map page (pages_of n area)) (lefts_of n area)
  pub links : AllLinks (paired (pages_of n area) (lefts_of n area))
  pub fits : AllPagesFit (pages_of n area)
  pub size : length (pages_of n area) ≡ n

-- Only a leaf's bytes have a link.
other_none : (b : List ℕ) → leaf? (page_fields b).kind ≡ false → left_in b ≡ 0
unfolding page_fields left_in left_by page_kind
other_none b e = go (case (eqb (be32 b 0 / 1073741824) 1))
  where
    go : Case (eqb (be32 b 0 / 1073741824) 1) → left_by (eqb (be32 b 0 / 1073741824) 1 && same_bytes (put32 (be32 b 0)) (take 4 b)) b ≡ 0
    go (yes! t) = let k : be32 b 0 / 1073741824 ≡ 1 = true_eq (be32 b 0 / 1073741824) 1 t in clash (sym (ap (λ q. leaf? (page_kind q)) k) ∙ e)
    go (no! t) = rw t

module _ (k p : ℕ) (b : List ℕ) (l : block_ok k p (read_block (without_left b)) ≡ true) where
  fields : page_fields (without_left b) ≡ page_fields b
  fields = sym (alike_fields b (without_left b) (without_alike b))

  page_block : read_block (without_left b) ≡ page (page_fields b)
  page_block = (laid_page k p (without_left b) l).block ∙ ap page fields

  page_linked : b ≡ with_left (left_in b) (page_bytes (page_fields b))
  page_linked = sym (left_back b) ∙ ap (with_left (left_in b)) ((laid_page k p (without_left b) l).bytes ∙ ap page_bytes fields)

  page_fits : Fits (page_fields b)
  page_fits = subst Fits fields (laid_page k p (without_left b) l).fits

  page_links : Links (page_fields b) (left_in b)
  page_links = record { narrow = left_narrow b; other = other_none b }

laid_from : (k p n : ℕ) (b : List ℕ) → blocks_ok k p (blocks_by true n b) ≡ true → length b ≡ page_size * n
    → (blocks_by true n b ≡ map page (pages_of n b)) × (b ≡ work_bytes (map page (pages_of n b)) (lefts_of n b)) × AllLinks (paired (pages_of n b) (lefts_of n b)) × All Fits (pages_of n b)
unfolding blocks_ok read_all All judged AllLinks paired work_bytes work_parts joined block_bytes
laid_from k p zero [] l size = (refl, refl, tt, tt)
laid_from k p zero (x ∷ b) l size = absurd (omega arith)
laid_from k p (suc n) b l size =
    let e = and_true (block_ok k p (read_block (without_left (take page_size b)))) (blocks_ok k (suc p) (blocks_by true n (drop page_size b))) l in
    let r = laid_from k (suc p) n (drop page_size b) e.1 (omega (arith, length-drop page_size b)) in
    let x = take page_size b in (
      ap₂ (λ (y : Block) (ys : List Block). y ∷ ys) (page_block k p x e.0) r.0,
      sym (take-append-drop page_size b) ∙ ap₂ (λ (u v : List ℕ). u ++ v) (page_linked k p x e.0) r.1,
      (page_links k p x e.0, page_fits k p x e.0, r.2),
      (page_fits k p x e.0, r.3),
    )

-- LAID PAGES of a working area.
pub laid_work : (n : ℕ) (area : List ℕ) → blocks_ok n 0 (blocks_by true n area) ≡ true → length area ≡ page_size * n → LaidWork n area
laid_work n area l size =
    let h = laid_from n 0 n area l size in
    record {
      shown = ap areas.pages_of h.0 ∙ pages_back (pages_of n area);
      bytes = h.1;
      links = h.2;
      fits = all_fit (pages_of n area) h.3;
      size = read_all_length page_size page_fields n area;
    }
