-- Bytes in equal parts: what is joined is parted again, whatever width the parts have, and zeros are parts of zeros.
use Rattle.std.specs.Prelude.{◌≡◌, refl, drop, replicate}
use Rattle.std.proofs.Math.Path.{ap, ap₂}
use Rattle.std.proofs.Common.{sym, ◌∙◌, mul-suc, mul-zero, add_comm, arith, length-append, take_at, drop_at}
use Prim.Native.Nat.{ℕ, zero, suc, ◌+◌, ◌*◌}
use mathlib.Core.List.{List, [], ◌∷◌, ◌++◌, map, append_assoc}
use Rattle.std.proofs.Math.ListN.{length, length-replicate, replicate-append-replicate}
use Rattle.def_layout.specs.Numbers.{zeros}
use Rattle.def_model.specs.OnBytes.{parts, joined}
use Rattle.law_bytes.specs.Pieces.{All}

pub mul_up : (w n : ℕ) → w * suc n ≡ w + w * n
mul_up w n = mul-suc w n ∙ add_comm (w * n) w

-- Every part has w bytes.
abbrev pub Wide : ℕ → List (List ℕ) → Type 0
Wide w bs = All (λ (b : List ℕ). length b ≡ w) bs

pub joined_append : (bs cs : List (List ℕ)) → joined (bs ++ cs) ≡ joined bs ++ joined cs
unfolding joined
joined_append [] cs = refl
joined_append (b ∷ bs) cs = ap (λ (r : List ℕ). b ++ r) (joined_append bs cs) ∙ sym (append_assoc b (joined bs) (joined cs))

pub joined_length : (w : ℕ) (bs : List (List ℕ)) → Wide w bs → length (joined bs) ≡ w * length bs
unfolding joined All
joined_length w [] h = sym (mul-zero w)
joined_length w (b ∷ bs) h = length-append b (joined bs) ∙ omega (arith, h.0, joined_length w bs h.1, mul_up w (length bs))

pub parts_joined : (w : ℕ) (bs : List (List ℕ)) → Wide w bs → parts (length bs) w (joined bs) ≡ bs
unfolding joined parts All
parts_joined w [] h = refl
parts_joined w (b ∷ bs) h =
    ap₂ (λ (x : List ℕ) (y : List (List ℕ)). x ∷ y)
    (take_at b (joined bs) w h.0)
    (ap (parts (length bs) w) (drop_at b (joined bs) w h.0) ∙ parts_joined w bs h.1)

pub parts_length : (n w : ℕ) (b : List ℕ) → length (parts n w b) ≡ n
unfolding parts
parts_length zero w b = refl
parts_length (suc n) w b = ap suc (parts_length n w (drop w b))

-- ---- many times the same

pub map_same : {A B : Type 0} (f : A → B) (n : ℕ) (x : A) → map f (replicate n x) ≡ replicate n (f x)
map_same f zero x = refl
map_same {B = B} f (suc n) x = ap (λ (r : List B). f x ∷ r) (map_same f n x)

-- What is written as zeros, n times.
module _ {A : Type 0} (w : ℕ) (g : A → List ℕ) (z : A) (blank : g z ≡ zeros w) where
  pub joined_blank : (n : ℕ) → joined (map g (replicate n z)) ≡ zeros (w * n)
  unfolding joined
  joined_blank zero = ap zeros (sym (mul-zero w))
  joined_blank (suc n) =
      ap₂ (λ (x y : List ℕ). x ++ y) blank (joined_blank n) ∙ replicate-append-replicate w (w * n) 0 ∙ ap zeros (sym (mul_up w n))

  pub wide_blank : (n : ℕ) → Wide w (map g (replicate n z))
  unfolding All
  wide_blank zero = tt
  wide_blank (suc n) = (ap length blank ∙ length-replicate w 0, wide_blank n)

pub wide_append : (w : ℕ) (bs cs : List (List ℕ)) → Wide w bs → Wide w cs → Wide w (bs ++ cs)
unfolding All
wide_append w [] cs h k = k
wide_append w (b ∷ bs) cs h k = (h.0, wide_append w bs cs h.1 k)
