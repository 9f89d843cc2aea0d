-- What an area of bytes holds from its start on, with zeros after it: how that grows, fills equal parts and is written over.
use Rattle.std.specs.Prelude.{◌≡◌, refl, ℕ, zero, suc, ◌+◌, ◌-◌, ◌*◌, ◌<◌, ◌≤◌, List, ◌++◌, map, take, drop, length, replicate}
use Rattle.std.proofs.Common.{ap, ap₂, sym, ◌∙◌, subst, arith, append_assoc, append-nil, length-append}
use Rattle.std.proofs.Math.Nat.{mul-sub, le_of_mul-le-mul_left}
use Rattle.std.proofs.lemmas.List.{map-append, length-replicate, length-map, replicate-append-replicate, take-append-le, drop-append-le}
use Rattle.std.proofs.Math.Seq.{take-append_seam, drop-append-add}
use Rattle.def_layout.specs.Numbers.{zeros}
use Rattle.def_model.specs.OnBytes.{parts, joined, put_part}
use Rattle.law_bytes.specs.Patch.{patch, patch_length}
use Rattle.law_areas.specs.Parts.{Wide, joined_append, joined_length, joined_blank, parts_joined, wide_append, wide_blank, map_same}

pub record Holds (area first : List ℕ) : Type 0 where
  pub spare : ℕ
  pub is : area ≡ first ++ zeros spare

pub holds_length : {area first : List ℕ} (h : Holds area first) → length area ≡ length first + h.spare
holds_length {area} {first} h = ap length h.is ∙ length-append first (zeros h.spare) ∙ ap (λ (k : ℕ). length first + k) (length-replicate h.spare 0)

-- With nothing to spare.
abbrev pub holds_itself : (first : List ℕ) → Holds first first
holds_itself first = record { spare = 0; is = sym (append-nil first) }

-- GROWTH: zeros at the end.
pub holds_grown : {area first : List ℕ} (j : ℕ) → Holds area first → Holds (area ++ zeros j) first
holds_grown {area} {first} j h =
    record {
      spare = h.spare + j;
      is =
          ap (λ (r : List ℕ). r ++ zeros j) h.is ∙ append_assoc first (zeros h.spare) (zeros j)
          ∙ ap (λ (r : List ℕ). first ++ r) (replicate-append-replicate h.spare j 0);
    }

-- ---- m parts of w bytes

-- Each element of ys written by g in w bytes, and z as w zeros.
module _ {A : Type 0} {area : List ℕ} (w m : ℕ) (g : A → List ℕ) (z : A) (ys : List A) (pos : 0 < w) (blank : g z ≡ zeros w) (wide : Wide w (map g ys)) (h : Holds area (joined (map g ys))) (size : length area ≡ w * m) where
  spare_size : w * length ys + h.spare ≡ w * m
  spare_size = ap (λ (n : ℕ). w * n + h.spare) (sym (length-map ys g)) ∙ omega (arith, holds_length h, joined_length w (map g ys) wide)

  pub holds_fit : length ys ≤ m
  holds_fit = le_of_mul-le-mul_left {m = length ys} {n = m} {k = w} (omega (arith, spare_size)) pos

  spare_is : h.spare ≡ w * (m - length ys)
  spare_is = omega (arith, spare_size, mul-sub w m (length ys))

  -- The other parts are zeros, and there is nothing else.
  pub holds_filled : area ≡ joined (map g (ys ++ replicate (m - length ys) z))
  holds_filled =
      let none : List A = replicate (m - length ys) z in
      h.is
      ∙ ap (λ (r : List ℕ). joined (map g ys) ++ r) (ap zeros spare_is ∙ sym (joined_blank w g z blank (m - length ys)))
      ∙ sym (ap joined (map-append g ys none) ∙ joined_append (map g ys) (map g none))

  holds_parts : parts m w area ≡ map g (ys ++ replicate (m - length ys) z)
  holds_parts =
      let none : List A = replicate (m - length ys) z in
      let all : List A = ys ++ none in
      let count : m ≡ length (map g all) = omega (arith, length-map all g, length-append ys none, length-replicate (m - length ys) z, holds_fit) in
      ap (λ (r : List ℕ). parts m w r) holds_filled ∙ ap (λ (n : ℕ). parts n w (joined (map g all))) count
      ∙ parts_joined w (map g all) (subst (Wide w) (sym (map-append g ys none)) (wide_append w (map g ys) (map g none) wide (wide_blank w g z blank (m - length ys))))

  -- READING: what f reads back of each element and of zeros, it reads back of the area.
  -- What is read of each part.
  pub holds_map : {B : Type 0} (f : List ℕ → B) → map f (parts m w area) ≡ map f (map g ys) ++ replicate (m - length ys) (f (zeros w))
  holds_map {B} f =
      let k : ℕ = m - length ys in
      ap (map f) (holds_parts ∙ map-append g ys (replicate k z)) ∙ map-append f (map g ys) (map g (replicate k z))
      ∙ ap (λ (y : List B). map f (map g ys) ++ y) (ap (map f) (map_same g k z) ∙ map_same f k (g z) ∙ ap (λ (y : B). replicate k y) (ap f blank))

  pub holds_read : (f : List ℕ → A) → map f (map g ys) ≡ ys → f (zeros w) ≡ z → map f (parts m w area) ≡ ys ++ replicate (m - length ys) z
  holds_read f back back_z = holds_map f ∙ ap₂ (λ (x : List A) (y : A). x ++ replicate (m - length ys) y) back back_z

-- ---- written over

pub put_is : (i : ℕ) (v b : List ℕ) → put_part i v b ≡ patch b i v
unfolding put_part patch
put_is i v b = refl

pub put_length : (i : ℕ) (v b : List ℕ) → i + length v ≤ length b → length (put_part i v b) ≡ length b
put_length i v b h = ap length (put_is i v b) ∙ patch_length b i v h

drop_zeros : (n k : ℕ) → drop n (zeros k) ≡ zeros (k - n)
drop_zeros zero k = let e : k ≡ k - 0 = omega arith in ap zeros e
drop_zeros (suc n) zero = let e : 0 ≡ 0 - suc n = omega arith in ap zeros e
drop_zeros (suc n) (suc k) = let e : k - n ≡ suc k - suc n = omega arith in drop_zeros n k ∙ ap zeros e

-- Next to what the area holds.
pub put_next : {area first : List ℕ} (v : List ℕ) → Holds area first → Holds (put_part (length first) v area) (first ++ v)
unfolding put_part
put_next {area} {first} v h =
    record {
      spare = h.spare - length v;
      is =
          ap (put_part (length first) v) h.is
          ∙ ap₂ (λ (x y : List ℕ). x ++ v ++ y)
          (take-append_seam first (zeros h.spare))
          (drop-append-add first (zeros h.spare) (length v) ∙ drop_zeros (length v) h.spare);
    }

-- Inside it.
pub put_inside : {area first : List ℕ} (i : ℕ) (v : List ℕ) → i + length v ≤ length first → Holds area first → Holds (put_part i v area) (put_part i v first)
unfolding put_part
put_inside {area} {first} i v l h =
    let z : List ℕ = zeros h.spare in
    record {
      spare = h.spare;
      is =
          ap (put_part i v) h.is
          ∙ ap₂ (λ (x y : List ℕ). x ++ v ++ y) (take-append-le i first z (omega arith)) (drop-append-le (i + length v) first z l)
          ∙ sym (append_assoc (take i first ++ v) (drop (i + length v) first) z);
    }
