-- WHERE A LEFT LINK MAY STAND. 02, U5: "Leaves get a left link in the first 10 spare bits after the right link, in working pages only; write-out stores it as zero".
-- A stable page with one was not stored by a call: 3. In a working page that is no leaf these bits are spare, and so are the two after a leaf's link: 11.
use Prim.Native.Nat.{ℕ, zero, suc, ◌+◌, ◌*◌, ◌/◌, ◌%◌, ◌<◌, ◌≤◌}
use Rattle.std.specs.Prelude.{◌≡◌, ◌≢◌, Bool, true, false, ◌&&◌, List, ◌++◌, map, take, drop}
use Rattle.std.proofs.Math.Path.{refl}
use Rattle.std.proofs.Common.{ap, sym, ◌∙◌, subst, append_assoc, arith, length-take, drop-drop, take_at, drop_at, lit<}
use Rattle.std.proofs.Math.ListN.{length}
use Rattle.def_base.specs.Tests.{Case, yes!, no!, case, neq_false}
use Rattle.def_layout.specs.declared.Desk.{Desk}
use Rattle.def_layout.specs.Numbers.{be32, same_bytes}
use Rattle.def_layout.specs.Pages.{Page}
use Rattle.def_layout.specs.PageBytes.{Block, page_bytes, page_fields, block_by, read_block, left_by, left_in, without_left, with_left}
use Rattle.def_layout.specs.Sizes.{page_size}
use Rattle.def_model.specs.declared.Refusal.TheVariants.{Layout}
use Rattle.def_model.specs.declared.Answer.TheVariants.{Refused}
use Rattle.def_model.specs.Answers.{first_broken}
use Rattle.def_model.specs.Areas.{store_page, block_ok, blocks_ok}
use Rattle.def_model.specs.Sound.{layouts_ok, sound}
use Rattle.def_model.specs.Restart.{restart_checks}
use Rattle.def_model.specs.OnBytes.{restart, checks, Lent, parts, read_pages, read_work, read_areas, lengths_ok, call, put_part, store_bytes}
use Rattle.law_bytes.specs.Same.{same_true}
use Rattle.law_bytes.specs.PageBytes.{word_0, page_bytes_length}
use Rattle.law_bytes.specs.LeftLinks.{left_low, left_said}
use Rattle.law_bytes.specs.LeftFields.{without_word}
use Rattle.theory_refusals.specs.Order.{refused_exactly}

-- Bytes that show a link are not those of the fields that they show.
linked_other : (b : List ℕ) (n p : ℕ) → 0 < left_in b → block_ok n p (read_block b) ≡ false
unfolding read_block block_by block_ok
linked_other b n p h = go (case (same_bytes (page_bytes (page_fields b)) b))
  where
    go : Case (same_bytes (page_bytes (page_fields b)) b) → block_ok n p (block_by (same_bytes (page_bytes (page_fields b)) b) b) ≡ false
    go (yes! t) =
        let e : be32 (page_bytes (page_fields b)) 0 ≡ be32 b 0 = ap (λ x. be32 x 0) (same_true (page_bytes (page_fields b)) b t) in
        let w = word_0 (page_fields b) in
        let low = left_low b in
        absurd (omega arith)
    go (no! t) = rw t refl

-- One of m pages.
one_other : (f : List ℕ → Block) (n p q m : ℕ) (s : List ℕ) → q < m → ((r : ℕ) → block_ok n r (f (take page_size (drop (page_size * q) s))) ≡ false)
    → blocks_ok n p (map f (parts m page_size s)) ≡ false
unfolding blocks_ok parts
one_other f n p q zero s l h = absurd (omega arith)
one_other f n p zero (suc m) s l h = rw (h p) refl
one_other f n p (suc q) (suc m) s l h =
    let e : page_size * suc q ≡ page_size + page_size * q = omega arith in
    let d : drop (page_size * suc q) s ≡ drop (page_size * q) (drop page_size s) = ap (λ i. drop i s) e ∙ sym (drop-drop (page_size * q) page_size s) in
    and_off (block_ok n p (f (take page_size s))) (one_other f n (suc p) q m (drop page_size s) (omega arith) (λ r. subst (λ x. block_ok n r (f (take page_size x)) ≡ false) d (h r)))
  where
    and_off : (a : Bool) {b : Bool} → b ≡ false → a && b ≡ false
    and_off true e = e
    and_off false e = refl

-- ---- stable pages

pub stored_link : (l : Lent) (d : Desk) (p : ℕ) → lengths_ok l ≡ true → p < length l.stable_pages / page_size → 0 < left_in (take page_size (drop (page_size * p) l.stable_pages))
    → (call restart l d).answer ≡ Refused Layout
unfolding checks restart_checks first_broken layouts_ok read_areas read_pages
stored_link l d p e k h =
    let m : ℕ = length l.stable_pages / page_size in
    let n : ℕ = length (map read_block (parts m page_size l.stable_pages)) in
    (refused_exactly restart l d Layout).1 (rw e (rw (one_other read_block n 0 p m l.stable_pages k (λ r. linked_other _ n r h)) refl))

-- A store leaves a page without one.
pub stored_unlinked : (p : ℕ) (x : Page) (l : Lent) → page_size * suc p ≤ length l.stable_pages
    → left_in (take page_size (drop (page_size * p) (store_bytes (store_page p x) l).stable_pages)) ≡ 0
unfolding store_bytes put_part with_left
stored_unlinked p x l h =
    let s : List ℕ = l.stable_pages in
    let f : ℕ = page_size * p in
    let c = length-take f s in
    let w = page_bytes_length x in
    let e : length (take f s) ≡ f = omega arith in
    let rest : List ℕ = drop (f + length (page_bytes x)) s in
    ap (λ b. left_in (take page_size (drop f b))) (append_assoc (take f s) (page_bytes x) rest) ∙ ap (λ b. left_in (take page_size b)) (drop_at (take f s) (page_bytes x ++ rest) f e) ∙ ap left_in (take_at (page_bytes x) rest page_size w)
    ∙ left_said x 0 (record { narrow = lit< tt; other = λ e. refl })

-- ---- working pages

-- Bits of the first word that are no field's and not the left link's.
spare_other : (b : List ℕ) (n p : ℕ) → be32 b 0 % 4096 ≢ 4 * left_in b → block_ok n p (read_block (without_left b)) ≡ false
unfolding read_block block_by block_ok
spare_other b n p h = go (case (same_bytes (page_bytes (page_fields (without_left b))) (without_left b)))
  where
    go : Case (same_bytes (page_bytes (page_fields (without_left b))) (without_left b)) → block_ok n p (block_by (same_bytes (page_bytes (page_fields (without_left b))) (without_left b)) (without_left b)) ≡ false
    go (yes! t) =
        let x : Page = page_fields (without_left b) in
        let e : be32 (page_bytes x) 0 ≡ be32 (without_left b) 0 = ap (λ y. be32 y 0) (same_true (page_bytes x) (without_left b) t) in
        let w = word_0 x in
        let v = without_word b in
        let low = left_low b in
        absurd (h (omega arith))
    go (no! t) = rw t refl

-- The first word of working page p.
abbrev pub first_word : ℕ → Lent → ℕ
first_word p l = be32 (take page_size (drop (page_size * p) l.work_pages)) 0

module _ (l : Lent) (d : Desk) (p : ℕ) (k : p < length l.work_pages / page_size) where
  page_there : List ℕ
  page_there = take page_size (drop (page_size * p) l.work_pages)

  not_laid : be32 page_there 0 % 4096 ≢ 4 * left_in page_there → sound (read_areas l) d ≡ false
  unfolding sound layouts_ok read_areas read_work page_there
  not_laid h =
      let m : ℕ = length l.work_pages / page_size in
      rw (one_other (λ x. read_block (without_left x)) (length (map (λ x. read_block (without_left x)) (parts m page_size l.work_pages))) 0 p m l.work_pages k (λ r. spare_other _ _ r h)) refl

  -- A page that is no leaf has no left link: the register is not sound (11) where its bits are not zero.
  pub spare_elsewhere : first_word p l / 1073741824 ≢ 1 → first_word p l % 4096 ≢ 0 → sound (read_areas l) d ≡ false
  unfolding page_there left_in left_by
  spare_elsewhere k h = not_laid (rw (neq_false {a = first_word p l / 1073741824} {b = 1} k) h)

  -- Nor where one of the two bits after a leaf's left link is not zero.
  pub spare_in_leaf : first_word p l % 4 ≢ 0 → sound (read_areas l) d ≡ false
  unfolding page_there
  spare_in_leaf h = not_laid (λ e. h (omega arith))
