-- A page's fields do not show its left link (02, U5).
use Rattle.std.specs.Prelude.{ℕ, zero, suc, ◌+◌, ◌-◌, ◌*◌, ◌/◌, ◌%◌, ◌^◌, ◌≡◌, List, ◌++◌, drop}
use Rattle.std.proofs.Math.Path.{refl, ap, ap₂}
use Rattle.std.proofs.Common.{sym, ◌∙◌, arith}
use Rattle.std.proofs.Math.Dec.{eqb, eqb-suc-zero}
use Rattle.def_base.specs.Tests.{pick}
use Rattle.def_layout.specs.Entries.{entry}
use Rattle.def_layout.specs.Numbers.{be32, put32, tab, read_entry}
use Rattle.def_layout.specs.Pages.{Page, page_kind, map_bits}
use Rattle.def_layout.specs.declared.page.PageKind.{PageKind}
use Rattle.def_layout.specs.declared.page.PageKind.TheVariants.{Free, Leaf, Index, Map}
use Rattle.def_layout.specs.PageBytes.{page_bytes, page_fields, read_entries, read_mark, read_marks, left_in, without_left, with_left}
use Rattle.law_bytes.specs.Words.{be32_skip, be32_put, be32_drop, put32_length}
use Rattle.law_bytes.specs.PageBytes.{Fits, page_fields_back}
use Rattle.law_bytes.specs.LeftLinks.{Links, left_low, left_word, left_gone}

-- Bytes whose first words differ in their last 12 bits alone, and whose other words are the same.
pub record Alike (b c : List ℕ) : Type 0 where
  pub first : be32 b 0 / 4096 ≡ be32 c 0 / 4096
  pub rest : (i : ℕ) → be32 b (4 + i) ≡ be32 c (4 + i)

module _ (b c : List ℕ) (h : Alike b c) where
  pub alike_kind : be32 b 0 / 1073741824 ≡ be32 c 0 / 1073741824
  alike_kind = omega (arith, h.first)

  pub alike_level : be32 b 0 / 67108864 % 16 ≡ be32 c 0 / 67108864 % 16
  alike_level = let e : be32 b 0 / 67108864 ≡ be32 c 0 / 67108864 = omega (arith, h.first) in ap (◌% 16) e

  pub alike_count : be32 b 0 / 4194304 % 16 ≡ be32 c 0 / 4194304 % 16
  alike_count = let e : be32 b 0 / 4194304 ≡ be32 c 0 / 4194304 = omega (arith, h.first) in ap (◌% 16) e

  pub alike_right : be32 b 0 / 4096 % 1024 ≡ be32 c 0 / 4096 % 1024
  alike_right = ap (◌% 1024) h.first

  alike_from : (i j : ℕ) → i ≡ 4 + j → be32 b i ≡ be32 c i
  alike_from i j e = ap (be32 b) e ∙ h.rest j ∙ sym (ap (be32 c) e)

  pub alike_high : be32 b 4 ≡ be32 c 4
  alike_high = h.rest 0

  pub alike_lsn : be32 b 8 ≡ be32 c 8
  alike_lsn = h.rest 4

  pub alike_own : be32 b 12 ≡ be32 c 12
  alike_own = h.rest 8

  pub alike_entry : (i : ℕ) → read_entry b 16 i ≡ read_entry c 16 i
  unfolding read_entry
  alike_entry i = ap₂ (λ (x y : ℕ). entry x y) (alike_from (16 + 8 * i) (12 + 8 * i) (omega arith)) (alike_from (16 + 8 * i + 4) (16 + 8 * i) (omega arith))

  alike_mark : (p : ℕ) → read_mark b p ≡ read_mark c p
  unfolding read_mark
  alike_mark p = ap (λ (x : ℕ). eqb (x / 2 ^ (31 - p % 32) % 2) 1) (alike_from (16 + 4 * (p / 32)) (12 + 4 * (p / 32)) (omega arith))

  alike_entries : (k : PageKind) → read_entries k b ≡ read_entries k c
  unfolding read_entries
  alike_entries Free = λ i. tab (alike_count i) (λ j. alike_entry j i)
  alike_entries Leaf = λ i. tab (alike_count i) (λ j. alike_entry j i)
  alike_entries Index = λ i. tab (alike_count i) (λ j. alike_entry j i)
  alike_entries Map = refl

  alike_marks : (k : PageKind) → read_marks k b ≡ read_marks k c
  unfolding read_marks
  alike_marks Free = refl
  alike_marks Leaf = refl
  alike_marks Index = refl
  alike_marks Map = λ i. tab map_bits (λ p. alike_mark p i)

  -- THE SAME FIELDS.
  pub alike_fields : page_fields b ≡ page_fields c
  unfolding page_fields
  alike_fields =
      let k : page_kind (be32 b 0 / 1073741824) ≡ page_kind (be32 c 0 / 1073741824) = ap page_kind alike_kind in
      let es = alike_entries (page_kind (be32 b 0 / 1073741824)) ∙ ap (λ q. read_entries q c) k in
      let ms = alike_marks (page_kind (be32 b 0 / 1073741824)) ∙ ap (λ q. read_marks q c) k in
      λ i. record { kind = k i; level = alike_level i; right = alike_right i; high = alike_high i; lsn = alike_lsn i; own = alike_own i / 4194304; entries = es i; marks = ms i }

-- The first word without it.
pub without_word : (b : List ℕ) → be32 (without_left b) 0 ≡ be32 b 0 - 4 * left_in b
unfolding without_left
without_word b = go (left_in b) refl
  where
    go : (l : ℕ) → left_in b ≡ l → be32 (pick (eqb l 0) b (put32 (be32 b 0 - 4 * l) ++ drop 4 b)) 0 ≡ be32 b 0 - 4 * l
    go zero e = omega arith
    go (suc l) e = let w = left_word b (omega arith) in rw (eqb-suc-zero l) (be32_put (be32 b 0 - 4 * suc l) (drop 4 b) (omega arith))

-- With the left link and without it.
pub without_alike : (b : List ℕ) → Alike b (without_left b)
unfolding without_left
without_alike b = go (left_in b) refl
  where
    go : (l : ℕ) → left_in b ≡ l → Alike b (pick (eqb l 0) b (put32 (be32 b 0 - 4 * l) ++ drop 4 b))
    go zero e = record { first = refl; rest = λ i. refl }
    go (suc l) e =
        let low = left_low b in
        let w = left_word b (omega arith) in
        let x : ℕ = be32 b 0 - 4 * suc l in
        let f : be32 (put32 x ++ drop 4 b) 0 ≡ x = be32_put x (drop 4 b) (omega arith) in
        rw (eqb-suc-zero l) (record { first = omega arith; rest = λ i. sym (be32_skip (put32 x) (drop 4 b) 4 i (put32_length x) ∙ be32_drop b 4 i) })

-- A page is read from its bytes, whatever its left link.
pub linked_fields : (x : Page) (l : ℕ) → Links x l → Fits x → page_fields (with_left l (page_bytes x)) ≡ x
linked_fields x l h f = alike_fields _ _ (without_alike (with_left l (page_bytes x))) ∙ ap page_fields (left_gone x l h) ∙ page_fields_back x f
