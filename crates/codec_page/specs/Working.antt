-- A working page judged: as a stable one, without its left link (02, U5).
use Rattle.std.specs.Prelude.{◌≡◌, Bool, ◌&&◌, List, ◌++◌, length, get_or, take}
use Rattle.std.proofs.Math.Path.{refl, ap, sym, subst}
use Rattle.std.proofs.Common.{◌∙◌, add-zero, lit≤, get_or-drop, length-drop, length-take}
use Prim.Native.Nat.{ℕ, zero, suc, ◌+◌, ◌-◌, ◌*◌, ◌/◌, ◌%◌, ◌<◌}
use native.Mathlib.Omega.{arith}
use Rattle.std.proofs.Math.Dec.{eqb, eqb-suc-zero}
use Rattle.std.proofs.Math.Bool.{true, false}
use Rattle.std.proofs.Math.ListN.{drop, take-append-drop}
use Rattle.def_base.specs.Tests.{pick}
use Rattle.def_layout.specs.Numbers.{be32, put32, tab, same_bytes}
use Rattle.def_layout.specs.Pages.{page_kind}
use Rattle.def_layout.specs.PageBytes.{left_by, left_in, without_left}
use Rattle.law_bytes.specs.Same.{same_refl}
use Rattle.def_layout.specs.Sizes.{page_size}
use Rattle.law_bytes.specs.Words.{Bytes, part, bytes_take, bytes_drop, be32_put, put_be32_at, be32_take, be32_drop, put32_length}
use Rattle.law_bytes.specs.PageAreas.{judged, lefts_of}
use Rattle.law_bytes.specs.Pieces.{read_all_at}
use Rattle.law_bytes.specs.Patch.{patch, patch_zero, part_length}
use Rattle.law_bytes.specs.LeftLinks.{left_bytes, left_low, left_word}
use Rattle.law_bytes.specs.LeftFields.{Alike, without_alike, alike_kind, alike_level, alike_count, alike_right, alike_high, alike_lsn, alike_own, alike_entry}
use Rattle.codec_page.specs.Typed.{shown_page}

-- The first word's spare bits.
unfoldable pub spare_zero : (working : Bool) → ℕ → Bool
spare_zero working w = pick (working && eqb (w / 1073741824) 1) (eqb (w % 4) 0) (eqb (w % 4096) 0)

pub judged_alike : (t : Bool) (b : List ℕ) → Alike b (judged t b)
unfolding judged
judged_alike true b = without_alike b
judged_alike false b = record { first = refl; rest = λ i. refl }

pub judged_length : (t : Bool) (b : List ℕ) → length (judged t b) ≡ length b
unfolding judged without_left put32
judged_length false b = refl
judged_length true b = go (left_in b) refl
  where
    go : (l : ℕ) → left_in b ≡ l → length (pick (eqb l 0) b (put32 (be32 b 0 - 4 * l) ++ drop 4 b)) ≡ length b
    go zero e = refl
    go (suc l) e =
        let f = ap length (left_bytes b (omega arith)) in
        let t = length-take 4 b in
        let d = length-drop 4 b in
        rw (eqb-suc-zero l) (omega arith)

pub without_length : (b : List ℕ) → length (without_left b) ≡ length b
unfolding judged
without_length b = judged_length true b

-- The same page is shown.
pub judged_shown : (t : Bool) (b : List ℕ) → shown_page (judged t b) ≡ shown_page b
unfolding shown_page
judged_shown t b =
    let h = judged_alike t b in
    let c = judged t b in
    sym (λ i. record {
      kind = page_kind (alike_kind b c h i);
      level = alike_level b c h i;
      count = alike_count b c h i;
      right = alike_right b c h i;
      high = alike_high b c h i;
      lsn = alike_lsn b c h i;
      own = alike_own b c h i / 4194304;
      entries = tab 14 (λ j. alike_entry b c h j i);
    })

-- ---- the first word

without_word : (b : List ℕ) → be32 (without_left b) 0 ≡ be32 b 0 - 4 * left_in b
unfolding without_left
without_word b = go (left_in b) refl
  where
    go : (l : ℕ) → left_in b ≡ l → be32 (pick (eqb l 0) b (put32 (be32 b 0 - 4 * l) ++ drop 4 b)) 0 ≡ be32 b 0 - 4 * l
    go zero e = omega arith
    go (suc l) e = let w = left_word b (omega arith) in rw (eqb-suc-zero l) (be32_put (be32 b 0 - 4 * suc l) (drop 4 b) (omega arith))

pub judged_none : (t : Bool) (b : List ℕ) → be32 b 0 ≡ 0 → judged t b ≡ b
unfolding judged without_left
judged_none false b e = refl
judged_none true b e = let low = left_low b in let z : left_in b ≡ 0 = omega arith in rw z

module _ (b : List ℕ) (w : Bytes b) (size : length b ≡ 128) where
  -- A leaf's, or none.
  pub left_is : left_in b ≡ pick (eqb (be32 b 0 / 1073741824) 1) (be32 b 0 / 4 % 1024) 0
  unfolding left_in left_by
  left_is =
      let s : same_bytes (put32 (be32 b 0)) (take 4 b) ≡ true = ap (λ q. same_bytes q (take 4 b)) (put_be32_at b 0 w (omega arith)) ∙ same_refl (take 4 b) in
      rw s (go (eqb (be32 b 0 / 1073741824) 1))
    where
      go : (t : Bool) → left_by (t && true) b ≡ pick t (be32 b 0 / 4 % 1024) 0
      go true = refl
      go false = refl

  pub judged_word : (t : Bool) → be32 (judged t b) 0 % 4096 ≡ pick (t && eqb (be32 b 0 / 1073741824) 1) (be32 b 0 % 4) (be32 b 0 % 4096)
  unfolding judged
  judged_word false = refl
  judged_word true = ap (◌% 4096) (without_word b ∙ ap (λ l. be32 b 0 - 4 * l) left_is) ∙ go (eqb (be32 b 0 / 1073741824) 1)
    where
      go : (t : Bool) → (be32 b 0 - 4 * pick t (be32 b 0 / 4 % 1024) 0) % 4096 ≡ pick t (be32 b 0 % 4) (be32 b 0 % 4096)
      go true = omega arith
      go false = omega arith

  -- What the test of the spare bits says.
  pub spare_told : (t : Bool) → spare_zero t (be32 b 0) ≡ eqb (be32 (judged t b) 0 % 4096) 0
  unfolding spare_zero
  spare_told t = go (t && eqb (be32 b 0 / 1073741824) 1) ∙ ap (λ x. eqb x 0) (sym (judged_word t))
    where
      go : (q : Bool) → pick q (eqb (be32 b 0 % 4) 0) (eqb (be32 b 0 % 4096) 0) ≡ eqb (pick q (be32 b 0 % 4) (be32 b 0 % 4096)) 0
      go true = refl
      go false = refl

  pub judged_bytes : (t : Bool) → Bytes (judged t b)
  unfolding judged without_left put32
  judged_bytes false = w
  judged_bytes true = go (left_in b) refl
    where
      go : (l : ℕ) → left_in b ≡ l → Bytes (pick (eqb l 0) b (put32 (be32 b 0 - 4 * l) ++ drop 4 b))
      go zero e = w
      go (suc l) e = rw (eqb-suc-zero l) each
        where
          each : Bytes (put32 (be32 b 0 - 4 * suc l) ++ drop 4 b)
          each zero = omega arith
          each (suc zero) = omega arith
          each (suc (suc zero)) = omega arith
          each (suc (suc (suc zero))) = omega arith
          each (suc (suc (suc (suc i)))) = subst (λ x. x < 256) (sym (get_or-drop 4 b i 0)) (w (4 + i))

-- ---- a page where it stands

-- Its first word.
pub front_there : (s : List ℕ) (p : ℕ) → be32 (part s (page_size * p) page_size) 0 ≡ be32 s (page_size * p)
front_there s p = be32_take (drop (page_size * p) s) page_size 0 (lit≤ tt) ∙ be32_drop s (page_size * p) 0 ∙ ap (be32 s) (add-zero (page_size * p))

module _ (s : List ℕ) (w : Bytes s) (n p : ℕ) (size : length s ≡ page_size * n) (h : p < n) where
  there_length : length (part s (page_size * p) page_size) ≡ 128
  there_length = part_length s (page_size * p) page_size (omega arith)

  there_left : get_or (lefts_of n s) p 0 ≡ pick (eqb (be32 s (page_size * p) / 1073741824) 1) (be32 s (page_size * p) / 4 % 1024) 0
  there_left =
      read_all_at page_size left_in n p s 0 h
      ∙ left_is (part s (page_size * p) page_size) (bytes_take page_size (drop (page_size * p) s) (bytes_drop s (page_size * p) w)) there_length
      ∙ ap (λ (x : ℕ). pick (eqb (x / 1073741824) 1) (x / 4 % 1024) 0) (front_there s p)

  pub left_there : (x : ℕ) → x ≡ be32 s (page_size * p) → eqb (x / 1073741824) 1 ≡ true → x / 4 % 1024 ≡ get_or (lefts_of n s) p 0
  left_there x e k = sym (there_left ∙ ap (λ (y : ℕ). pick (eqb (y / 1073741824) 1) (y / 4 % 1024) 0) (sym e) ∙ rw k)

  pub no_left_there : (x : ℕ) → x ≡ be32 s (page_size * p) → eqb (x / 1073741824) 1 ≡ false → 0 ≡ get_or (lefts_of n s) p 0
  no_left_there x e k = sym (there_left ∙ ap (λ (y : ℕ). pick (eqb (y / 1073741824) 1) (y / 4 % 1024) 0) (sym e) ∙ rw k)

-- ---- copied without it

module _ (b : List ℕ) (w : Bytes b) (size : length b ≡ 128) where
  without_is : (l : ℕ) → left_in b ≡ l → put32 (be32 b 0 - 4 * l) ++ drop 4 b ≡ without_left b
  unfolding without_left
  without_is zero e = rw e (ap (λ x. put32 x ++ drop 4 b) same ∙ ap (◌++ drop 4 b) (put_be32_at b 0 w (omega arith)) ∙ take-append-drop 4 b)
    where
      same : be32 b 0 - 4 * 0 ≡ be32 b 0
      same = omega arith
  without_is (suc l) e = rw e (sym (rw (eqb-suc-zero l)))

  pub leaf_copied : (x : ℕ) → x ≡ be32 b 0 → eqb (x / 1073741824) 1 ≡ true → patch b 0 (put32 (x - x / 4 % 1024 * 4)) ≡ without_left b
  leaf_copied x e k =
      let f : left_in b ≡ x / 4 % 1024 = left_is b w size ∙ ap (λ y. pick (eqb (y / 1073741824) 1) (y / 4 % 1024) 0) (sym e) ∙ rw k in
      let g : x - x / 4 % 1024 * 4 ≡ be32 b 0 - 4 * (x / 4 % 1024) = omega arith in
      patch_zero b (put32 (x - x / 4 % 1024 * 4)) 4 (put32_length (x - x / 4 % 1024 * 4)) ∙ ap (λ y. put32 y ++ drop 4 b) g ∙ without_is (x / 4 % 1024) f

  pub other_copied : (x : ℕ) → x ≡ be32 b 0 → eqb (x / 1073741824) 1 ≡ false → b ≡ without_left b
  unfolding without_left
  other_copied x e k =
      let f : left_in b ≡ 0 = left_is b w size ∙ ap (λ y. pick (eqb (y / 1073741824) 1) (y / 4 % 1024) 0) (sym e) ∙ rw k in
      sym (rw f)
