-- The left link in a working leaf's bytes (02, U5): taken out and put back.
use Prim.Native.Nat.{ℕ, zero, suc, ◌+◌, ◌-◌, ◌*◌, ◌/◌, ◌%◌, ◌^◌, ◌<◌, ◌≤◌}
use Rattle.std.specs.Prelude.{◌≡◌, ◌≢◌, Bool, ◌&&◌, List, [], ◌++◌, take, eqb}
use Rattle.std.proofs.Math.Path.{refl, ap, sym}
use Rattle.std.proofs.Common.{ap₂, ◌∙◌, subst, append-nil, take-append-drop, take_at, lit<}
use Rattle.std.proofs.Math.Bool.{true, false}
use native.Mathlib.Omega.{arith}
use Rattle.std.proofs.Math.ListN.{drop}
use Rattle.std.proofs.Math.Seq.{drop_at}
use Rattle.std.proofs.Math.Dec.{eqb-suc-zero}
use Rattle.def_base.specs.Tests.{pick, Case, yes!, no!, case, clash, eq_true, neq_false, and_true, and_both}
use Rattle.def_layout.specs.Numbers.{be32, put32, same_bytes}
use Rattle.def_layout.specs.Pages.{Page, page_kind_number}
use Rattle.def_layout.specs.declared.page.PageKind.{PageKind}
use Rattle.def_layout.specs.declared.page.PageKind.TheVariants.{Free, Leaf, Index, Map}
use Rattle.def_layout.specs.PageBytes.{page_front, page_bytes, left_by, left_in, without_left, with_left}
use Rattle.law_bytes.specs.Same.{same_refl, same_true}
use Rattle.law_bytes.specs.Words.{put32_length, put32_mod, be32_put, be32_take}
use Rattle.law_bytes.specs.PageBytes.{front_word, front_word_lt, word_0}

-- ---- any numbers

abbrev word : List ℕ → ℕ
word b = be32 b 0

-- Bytes of a leaf, or none.
leaf_bytes : List ℕ → Bool
leaf_bytes b = eqb (word b / 1073741824) 1 && same_bytes (put32 (word b)) (take 4 b)

pub left_low : (b : List ℕ) → 4 * left_in b ≤ word b % 4096
unfolding left_in left_by
left_low b = go (eqb (word b / 1073741824) 1 && same_bytes (put32 (word b)) (take 4 b))
  where
    go : (t : Bool) → 4 * left_by t b ≤ word b % 4096
    go true = omega arith
    go false = omega arith

left_few : (b : List ℕ) → 4 * left_in b ≤ word b
left_few b = let h = left_low b in omega arith

pub left_narrow : (b : List ℕ) → left_in b < 1024
unfolding left_in left_by
left_narrow b = go (eqb (word b / 1073741824) 1 && same_bytes (put32 (word b)) (take 4 b))
  where
    go : (t : Bool) → left_by t b < 1024
    go true = omega arith
    go false = omega arith

-- Where there is one, the first four are bytes.
pub left_bytes : (b : List ℕ) → 0 < left_in b → put32 (word b) ≡ take 4 b
unfolding left_in left_by
left_bytes b h = go (case (eqb (word b / 1073741824) 1 && same_bytes (put32 (word b)) (take 4 b))) h
  where
    go : Case (eqb (word b / 1073741824) 1 && same_bytes (put32 (word b)) (take 4 b)) → 0 < left_by (eqb (word b / 1073741824) 1 && same_bytes (put32 (word b)) (take 4 b)) b → put32 (word b) ≡ take 4 b
    go (yes! t) h = same_true (put32 (word b)) (take 4 b) (and_true (eqb (word b / 1073741824) 1) (same_bytes (put32 (word b)) (take 4 b)) t).1
    go (no! t) h = absurd (let z : 0 < 0 = subst (λ q. 0 < left_by q b) t h in omega arith)

pub left_word : (b : List ℕ) → 0 < left_in b → word b < 2 ^ 32
left_word b h =
    let e = left_bytes b h in
    let a : word b ≡ be32 (put32 (word b)) 0 = sym (be32_take b 4 0 (omega arith)) ∙ ap (λ x. be32 x 0) (sym e) in
    let c : be32 (put32 (word b % 4294967296) ++ []) 0 ≡ word b % 4294967296 = be32_put (word b % 4294967296) [] (omega arith) in
    let d : be32 (put32 (word b)) 0 ≡ be32 (put32 (word b % 4294967296) ++ []) 0 = ap (λ x. be32 x 0) (sym (append-nil (put32 (word b % 4294967296)) ∙ put32_mod (word b))) in
    omega arith

-- PUT BACK: what was there.
pub left_back : (b : List ℕ) → with_left (left_in b) (without_left b) ≡ b
unfolding with_left without_left
left_back b = go (left_in b) refl
  where
    go : (l : ℕ) → left_in b ≡ l → pick (eqb l 0) (pick (eqb l 0) b (put32 (word b - 4 * l) ++ drop 4 b)) (put32 (be32 (pick (eqb l 0) b (put32 (word b - 4 * l) ++ drop 4 b)) 0 + 4 * l) ++ drop 4 (pick (eqb l 0) b (put32 (word b - 4 * l) ++ drop 4 b))) ≡ b
    go zero e = refl
    go (suc l) e =
        let h : 0 < left_in b = omega arith in
        let few = left_few b in
        let lt = left_word b h in
        let w : be32 (put32 (word b - 4 * suc l) ++ drop 4 b) 0 ≡ word b - 4 * suc l = be32_put (word b - 4 * suc l) (drop 4 b) (omega arith) in
        let d : drop 4 (put32 (word b - 4 * suc l) ++ drop 4 b) ≡ drop 4 b = drop_at (put32 (word b - 4 * suc l)) (drop 4 b) 4 (put32_length (word b - 4 * suc l)) in
        let s : word b - 4 * suc l + 4 * suc l ≡ word b = omega arith in
        rw (eqb-suc-zero l) (ap₂ (λ x y. put32 (x + 4 * suc l) ++ y) w d ∙ ap (λ x. put32 x ++ drop 4 b) s ∙ ap (◌++ drop 4 b) (left_bytes b h) ∙ take-append-drop 4 b)

-- A leaf's first word with another left link.
abbrev pub linked_word : (word l : ℕ) → ℕ
linked_word w l = w - w / 4 % 1024 * 4 + l * 4

-- ---- a page's bytes

abbrev pub leaf? : PageKind → Bool
leaf? Free = false
leaf? Leaf = true
leaf? Index = false
leaf? Map = false

-- A left link that its page may have.
pub record Links (x : Page) (l : ℕ) : Type 0 where
  pub narrow : l < 1024
  pub other : leaf? x.kind ≡ false → l ≡ 0

kind_less : (k : PageKind) → leaf? k ≡ false → page_kind_number k ≢ 1
unfolding page_kind_number
kind_less Free e q = absurd (omega arith)
kind_less Leaf e q = clash e
kind_less Index e q = absurd (omega arith)
kind_less Map e q = absurd (omega arith)

kind_one : (k : PageKind) → leaf? k ≡ true → page_kind_number k ≡ 1
unfolding page_kind_number
kind_one Free e = clash (sym e)
kind_one Leaf e = refl
kind_one Index e = clash (sym e)
kind_one Map e = clash (sym e)

-- The word leaves twelve bits.
front_least : (x : Page) → front_word x + 4096 ≤ 2 ^ 32
front_least x = let w = front_word_lt x in omega arith

front_again : (x : Page) → put32 (front_word x) ++ drop 4 (page_bytes x) ≡ page_bytes x
unfolding page_bytes page_front put32
front_again x = refl

module _ (x : Page) (l : ℕ) (h : Links x l) where
  -- As one form, whether there is one or not.
  pub form : with_left l (page_bytes x) ≡ put32 (front_word x + 4 * l) ++ drop 4 (page_bytes x)
  unfolding with_left
  form = go l refl
    where
      go : (k : ℕ) → l ≡ k → pick (eqb k 0) (page_bytes x) (put32 (word (page_bytes x) + 4 * k) ++ drop 4 (page_bytes x)) ≡ put32 (front_word x + 4 * k) ++ drop 4 (page_bytes x)
      go zero e = let z : front_word x ≡ front_word x + 4 * 0 = omega arith in sym (front_again x) ∙ ap (λ w. put32 w ++ drop 4 (page_bytes x)) z
      go (suc k) e = rw (eqb-suc-zero k) (ap (λ w. put32 (w + 4 * suc k) ++ drop 4 (page_bytes x)) (word_0 x))

  pub said : word (with_left l (page_bytes x)) ≡ front_word x + 4 * l
  said = let a = h.narrow in let b = front_least x in ap word form ∙ be32_put (front_word x + 4 * l) (drop 4 (page_bytes x)) (omega arith)

  first_four : same_bytes (put32 (word (with_left l (page_bytes x)))) (take 4 (with_left l (page_bytes x))) ≡ true
  first_four =
      let t : take 4 (with_left l (page_bytes x)) ≡ put32 (front_word x + 4 * l) = ap (take 4) form ∙ take_at (put32 (front_word x + 4 * l)) (drop 4 (page_bytes x)) 4 (put32_length (front_word x + 4 * l)) in
      ap₂ same_bytes (ap put32 said) t ∙ same_refl (put32 (front_word x + 4 * l))

  pub left_said : left_in (with_left l (page_bytes x)) ≡ l
  unfolding left_in left_by
  left_said = go (leaf? x.kind) refl
    where
      go : (b : Bool) → leaf? x.kind ≡ b → left_by (eqb (word (with_left l (page_bytes x)) / 1073741824) 1 && same_bytes (put32 (word (with_left l (page_bytes x)))) (take 4 (with_left l (page_bytes x)))) (with_left l (page_bytes x)) ≡ l
      go true e =
          let k = kind_one x.kind e in
          let a = h.narrow in
          let w = said in
          let q : word (with_left l (page_bytes x)) / 1073741824 ≡ 1 = omega arith in
          rw (and_both (eq_true (word (with_left l (page_bytes x)) / 1073741824) 1 q) first_four) (omega arith)
      go false e =
          let k = kind_less x.kind e in
          let z = h.other e in
          let w = said in
          rw (neq_false {a = word (with_left l (page_bytes x)) / 1073741824} {b = 1} (λ q. k (omega arith))) (sym z)

  pub left_gone : without_left (with_left l (page_bytes x)) ≡ page_bytes x
  unfolding without_left
  left_gone = go l refl left_said
    where
      go : (k : ℕ) → l ≡ k → left_in (with_left l (page_bytes x)) ≡ k
          → pick (eqb (left_in (with_left l (page_bytes x))) 0) (with_left l (page_bytes x)) (put32 (word (with_left l (page_bytes x)) - 4 * left_in (with_left l (page_bytes x))) ++ drop 4 (with_left l (page_bytes x))) ≡ page_bytes x
      go k e s = rw s (each k e)
        where
          each : (k : ℕ) → l ≡ k → pick (eqb k 0) (with_left l (page_bytes x)) (put32 (word (with_left l (page_bytes x)) - 4 * k) ++ drop 4 (with_left l (page_bytes x))) ≡ page_bytes x
          each zero e = let z : front_word x + 4 * l ≡ front_word x = omega arith in form ∙ ap (λ w. put32 w ++ drop 4 (page_bytes x)) z ∙ front_again x
          each (suc k) e =
              let w = said in
              let z : word (with_left l (page_bytes x)) - 4 * suc k ≡ front_word x = omega arith in
              let d : drop 4 (with_left l (page_bytes x)) ≡ drop 4 (page_bytes x) = ap (drop 4) form ∙ drop_at (put32 (front_word x + 4 * l)) (drop 4 (page_bytes x)) 4 (put32_length (front_word x + 4 * l)) in
              rw (eqb-suc-zero k) (ap₂ (λ u v. put32 u ++ v) z d ∙ front_again x)

-- A page without a link.
pub none_gone : (x : Page) → without_left (page_bytes x) ≡ page_bytes x
unfolding with_left
none_gone x = left_gone x 0 (record { narrow = lit< tt; other = λ e. refl })
