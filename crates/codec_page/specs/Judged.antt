-- The test of a page's layout (refusal 3) on its bytes: the spare bits, the unused entries, then the layout of its kind.
use Rattle.std.specs.Prelude.{◌≡◌, eqb, ltb, Bool, true, false, take, drop}
use Rattle.std.proofs.Math.Path.{ap, ap₂, sym}
use Rattle.std.proofs.Common.{◌∙◌, subst, mod-lt, div-add-mod', arith, lit<, take_all}
use Prim.Native.Nat.{ℕ, ◌+◌, ◌*◌, ◌/◌, ◌%◌, ◌<◌, ◌≤◌}
use Rattle.std.proofs.Math.Nat.{mod-eq_of_lt, div-div-eq-div-mul}
use mathlib.Core.List.{List, ◌++◌}
use Rattle.std.proofs.Math.ListN.{length}
use Rattle.std.proofs.Math.Seq.{take-add}
use Rattle.def_base.specs.Tests.{pick, Case, yes!, no!, case, clash, true_lt, false_lt, eq_true, true_eq}
use Rattle.def_layout.specs.declared.Entry.{Entry}
use Rattle.def_layout.specs.Entries.{no_entry}
use Rattle.def_layout.specs.Numbers.{be32, put32, tab, read_entry, entries_bytes, same_bytes}
use Rattle.def_layout.specs.Pages.{page_kind, page_kind_number, map_bits}
use Rattle.def_layout.specs.PageBytes.{page_front, page_body, page_bytes, page_fields, read_entries, read_mark, marks_word, marks_bytes, page, other, block_by, read_block}
use Rattle.def_model.specs.Areas.{block_ok}
use Rattle.law_bytes.specs.Words.{Bytes, be32_lt, put_be32_at}
use Rattle.law_bytes.specs.Tables.{getD_tab, tab_length}
use Rattle.law_bytes.specs.Chunks.{chunks_is}
use Rattle.law_bytes.specs.Same.{same_refl, same_false}
use Rattle.law_bytes.specs.EntryBytes.{Unused, entries_read, entries_unused}
use Rattle.law_bytes.specs.Blank.{blank, blank_from, from_blank}
use Rattle.codec_page.specs.Typed.{shown_page, has_marks, marks_none, number_entries, number_marks}
use Rattle.law_bytes.specs.PageKinds.{number_node, number_map, read_entries_node, read_entries_map, read_marks_map, page_body_node, page_body_map}
use Rattle.law_bytes.specs.Marks.{word_of_marks, word_mark}
use Rattle.law_bytes.specs.PageBytes.{page_front_length, page_bytes_length, word_0, word_12, front_word}
use Rattle.codec_page.specs.declared.Page as program

-- 01: "spare bits and unused entries are zero". Of the map's count, which stands for nothing, too.
unfoldable pub unused_zero : program.Page → Bool
unused_zero p = pick (has_marks p.kind) (eqb p.count 0) (blank (drop p.count p.entries))

-- A quotient by m, by its own digits to the base k.
digit : (x m k : ℕ) → x / m ≡ x / (m * k) * k + x / m % k
digit x m k = sym (ap (λ (q : ℕ). q * k + x / m % k) (sym (div-div-eq-div-mul x m k)) ∙ div-add-mod' (x / m) k)

-- The body of the fields that bytes show.
page_fields_body_node : (b : List ℕ) → be32 b 0 / 1073741824 < 3
    → page_body (page_fields b).kind (page_fields b) ≡ entries_bytes (tab (be32 b 0 / 4194304 % 16) (read_entry b 16))
unfolding page_fields
page_fields_body_node b k = page_body_node (be32 b 0 / 1073741824) (page_fields b) k ∙ ap entries_bytes (read_entries_node b (be32 b 0 / 1073741824) k)

page_fields_body_map : (b : List ℕ) → 3 ≤ be32 b 0 / 1073741824
    → page_body (page_fields b).kind (page_fields b) ≡ marks_bytes (tab map_bits (read_mark b))
unfolding page_fields
page_fields_body_map b k = page_body_map (be32 b 0 / 1073741824) (page_fields b) k ∙ ap marks_bytes (read_marks_map b (be32 b 0 / 1073741824) k)

marks_read : (b : List ℕ) → Bytes b → length b ≡ 128 → take 16 b ++ marks_bytes (tab map_bits (read_mark b)) ≡ b
unfolding marks_bytes read_mark
marks_read b w size =
    let word : ℕ → ℕ = λ j. be32 b (16 + 4 * j) in
    chunks_is b 16 4 28 (λ j. put32 (marks_word (tab map_bits (word_mark word)) j))
    (λ j h. ap put32 (word_of_marks word j h ∙ mod-eq_of_lt (be32_lt b (16 + 4 * j) w)) ∙ put_be32_at b (16 + 4 * j) w (omega arith)) (omega arith)
    ∙ take_all (16 + 4 * 28) b (omega arith)

module _ (b : List ℕ) (w : Bytes b) (size : length b ≡ 128) where
  -- The front's words are the fields', where spare bits are zero and the count is that of the entries.
  front_shown : be32 b 0 % 4096 ≡ 0 → be32 b 12 % 4194304 ≡ 0
      → page_kind_number (page_kind (be32 b 0 / 1073741824)) ≡ be32 b 0 / 1073741824
      → length (read_entries (page_kind (be32 b 0 / 1073741824)) b) % 16 ≡ be32 b 0 / 4194304 % 16
      → page_front (page_fields b) ≡ take 16 b
  unfolding page_front page_fields
  front_shown s t k n =
      let x : ℕ = be32 b 0 in
      let l : x / 67108864 % 16 % 16 ≡ x / 67108864 % 16 = mod-eq_of_lt (mod-lt (x / 67108864) (lit< tt)) in
      let r : x / 4096 % 1024 % 1024 ≡ x / 4096 % 1024 = mod-eq_of_lt (mod-lt (x / 4096) (lit< tt)) in
      let o : be32 b 12 / 4194304 % 1024 ≡ be32 b 12 / 4194304 = mod-eq_of_lt (omega (arith, be32_lt b 12 w)) in
      let w0 : x / 1073741824 * 1073741824 + x / 67108864 % 16 * 67108864 + x / 4194304 % 16 * 4194304 + x / 4096 % 1024 * 4096 ≡ x =
      omega (arith, digit x 4096 1024, digit x 4194304 16, digit x 67108864 16) in
      let w12 : be32 b 12 / 4194304 * 4194304 ≡ be32 b 12 = omega (arith, t) in
      rw (l, r, o, k, n, w0, w12)
      (ap₂ (λ (x y : List ℕ). x ++ y) (ap₂ (λ (x y : List ℕ). x ++ y) (ap₂ (λ (x y : List ℕ). x ++ y)
      (put_be32_at b 0 w (omega arith)) (put_be32_at b 4 w (omega arith))) (put_be32_at b 8 w (omega arith))) (put_be32_at b 12 w (omega arith))
      ∙ sym (rw (take-add 12 4 b, take-add 8 4 b, take-add 4 4 b)))

  -- Bytes with zero spare bits and unused entries are those of their fields: a page with entries.
  node_shown : be32 b 0 % 4096 ≡ 0 → be32 b 12 % 4194304 ≡ 0 → be32 b 0 / 1073741824 < 3 → Unused b 16 (be32 b 0 / 4194304 % 16)
      → page_bytes (page_fields b) ≡ b
  unfolding page_bytes
  node_shown s t k u =
      let q : ℕ = be32 b 0 / 1073741824 in
      let n : ℕ = be32 b 0 / 4194304 % 16 in
      let c : length (read_entries (page_kind q) b) % 16 ≡ n =
      ap (λ (m : ℕ). m % 16) (ap length (read_entries_node b q k) ∙ tab_length n (read_entry b 16)) ∙ mod-eq_of_lt (mod-lt (be32 b 0 / 4194304) (lit< tt)) in
      ap₂ (λ (x y : List ℕ). x ++ y) (front_shown s t (number_node q k) c) (page_fields_body_node b k) ∙ entries_read b 16 n w size u

  -- And the map.
  map_shown : be32 b 0 % 4096 ≡ 0 → be32 b 12 % 4194304 ≡ 0 → 3 ≤ be32 b 0 / 1073741824 → be32 b 0 / 4194304 % 16 ≡ 0
      → page_bytes (page_fields b) ≡ b
  unfolding page_bytes
  map_shown s t k z =
      let q : ℕ = be32 b 0 / 1073741824 in
      let c : length (read_entries (page_kind q) b) % 16 ≡ be32 b 0 / 4194304 % 16 = ap (λ (es : List Entry). length es % 16) (read_entries_map b q k) ∙ sym z in
      let three : q ≡ 3 = omega (arith, be32_lt b 0 w) in
      ap₂ (λ (x y : List ℕ). x ++ y) (front_shown s t (number_map q k ∙ sym three) c) (page_fields_body_map b k)
      ∙ marks_read b w size

-- A block by whether the bytes are those of the fields that they show.
block_page : (b : List ℕ) → page_bytes (page_fields b) ≡ b → read_block b ≡ page (page_fields b)
unfolding read_block block_by
block_page b e = let t : same_bytes (page_bytes (page_fields b)) b ≡ true = rw e (same_refl b) in rw t

block_other : (b : List ℕ) → (page_bytes (page_fields b) ≡ b → ⊥) → read_block b ≡ other b
unfolding read_block block_by
block_other b n = rw (same_false (page_bytes (page_fields b)) b n)

-- READ AS A PAGE: bytes whose spare bits and unused entries are zero.
pub reads_as_page : (b : List ℕ) → Bytes b → length b ≡ 128 → be32 b 0 % 4096 ≡ 0 → be32 b 12 % 4194304 ≡ 0 → unused_zero (shown_page b) ≡ true
    → read_block b ≡ page (page_fields b)
unfolding unused_zero shown_page
reads_as_page b w size s t u = go (case (ltb (be32 b 0 / 1073741824) 3)) u
  where
    q : ℕ
    q = be32 b 0 / 1073741824

    n : ℕ
    n = be32 b 0 / 4194304 % 16

    go : Case (ltb q 3) → pick (has_marks (page_kind q)) (eqb n 0) (blank (drop n (tab 14 (read_entry b 16)))) ≡ true → read_block b ≡ page (page_fields b)
    go (yes! e) u =
        let f = marks_none (page_kind q) (number_entries q (true_lt q 3 e)) in
        let v : blank (drop n (tab 14 (read_entry b 16))) ≡ true = rw f at u in
        block_page b (node_shown b w size s t (true_lt q 3 e) (λ i l h. sym (getD_tab 14 i (read_entry b 16) no_entry h) ∙ blank_from n (tab 14 (read_entry b 16)) v i l))
    go (no! e) u =
        let f = number_marks q (false_lt q 3 e) in
        let v : eqb n 0 ≡ true = rw f at u in
        block_page b (map_shown b w size s t (false_lt q 3 e) (true_eq n 0 v))

-- And only such.
pub spare_0_breaks : (b : List ℕ) → (be32 b 0 % 4096 ≡ 0 → ⊥) → read_block b ≡ other b
spare_0_breaks b n =
    block_other b (λ e. n (let h : be32 b 0 ≡ front_word (page_fields b) = ap (λ (r : List ℕ). be32 r 0) (sym e) ∙ word_0 (page_fields b) in omega arith))

pub spare_12_breaks : (b : List ℕ) → (be32 b 12 % 4194304 ≡ 0 → ⊥) → read_block b ≡ other b
spare_12_breaks b n =
    block_other b (λ e. n (let h : be32 b 12 ≡ (page_fields b).own % 1024 * 4194304 = ap (λ (r : List ℕ). be32 r 12) (sym e) ∙ word_12 (page_fields b) in omega arith))

pub size_breaks : (b : List ℕ) → (length b ≡ 128 → ⊥) → read_block b ≡ other b
size_breaks b n = block_other b (λ e. n (ap length (sym e) ∙ page_bytes_length (page_fields b)))

no_count : (w k l c r : ℕ) → l < 16 → r < 1024 → c ≡ 0 → w ≡ k * 1073741824 + l * 67108864 + c * 4194304 + r * 4096 → w / 4194304 % 16 ≡ 0
no_count w k l c r hl hr z e =
    let q : w / 4194304 ≡ k * 256 + l * 16 = omega arith in
    omega arith

count_of_map : (b : List ℕ) → 3 ≤ be32 b 0 / 1073741824 → be32 b 0 ≡ front_word (page_fields b) → be32 b 0 / 4194304 % 16 ≡ 0
unfolding page_fields
count_of_map b k h =
    let q : ℕ = be32 b 0 / 1073741824 in
    let e : length (read_entries (page_kind q) b) ≡ 0 = ap length (read_entries_map b q k) in
    no_count (be32 b 0) (page_kind_number (page_kind q)) (be32 b 0 / 67108864 % 16 % 16) (length (read_entries (page_kind q) b) % 16) (be32 b 0 / 4096 % 1024 % 1024)
    (mod-lt (be32 b 0 / 67108864 % 16) (lit< tt)) (mod-lt (be32 b 0 / 4096 % 1024) (lit< tt)) (ap (λ (n : ℕ). n % 16) e) h

unused_must : (b : List ℕ) → page_bytes (page_fields b) ≡ b → unused_zero (shown_page b) ≡ true
unfolding unused_zero shown_page page_bytes
unused_must b e = go (case (ltb (be32 b 0 / 1073741824) 3))
  where
    q : ℕ
    q = be32 b 0 / 1073741824

    n : ℕ
    n = be32 b 0 / 4194304 % 16

    go : Case (ltb q 3) → pick (has_marks (page_kind q)) (eqb n 0) (blank (drop n (tab 14 (read_entry b 16)))) ≡ true
    go (yes! t) =
        let f : page_front (page_fields b) ++ entries_bytes (tab n (read_entry b 16)) ≡ b =
        ap (λ (r : List ℕ). page_front (page_fields b) ++ r) (sym (page_fields_body_node b (true_lt q 3 t))) ∙ e in
        let g = marks_none (page_kind q) (number_entries q (true_lt q 3 t)) in
        rw g (from_blank n (tab 14 (read_entry b 16))
        (λ i l h.
        let h' : i < 14 = subst (λ (k : ℕ). i < k) (tab_length 14 (read_entry b 16)) h in
        getD_tab 14 i (read_entry b 16) no_entry h' ∙ entries_unused b 16 n (page_front (page_fields b)) (page_front_length (page_fields b)) f i l h'))
    go (no! t) = let g = number_marks q (false_lt q 3 t) in rw g (eq_true n 0 (count_of_map b (false_lt q 3 t) (ap (λ (r : List ℕ). be32 r 0) (sym e) ∙ word_0 (page_fields b))))

pub unused_breaks : (b : List ℕ) → unused_zero (shown_page b) ≡ false → read_block b ≡ other b
unused_breaks b u = block_other b (λ e. clash (sym (unused_must b e) ∙ u))

pub keeps_other : (n p : ℕ) (b : List ℕ) → read_block b ≡ other b → block_ok n p (read_block b) ≡ false
unfolding block_ok
keeps_other n p b e = rw e
