-- 32-bit numbers in bytes: what was written is read, and what was read writes the same bytes.
use Rattle.std.specs.Prelude.{◌≡◌, refl, ℕ, suc, ◌+◌, ◌*◌, ◌/◌, ◌%◌, ◌^◌, ◌≤◌, ◌<◌, List, [], ◌∷◌, ◌++◌, get_or, take, drop, length}
use Rattle.std.proofs.Common.{ap, sym, ◌∙◌, subst, add_assoc, mod-eq_of_lt, arith, lit<, length-take, get_or-append-add, drop-cons, get_or-drop, get_or-take}
use Rattle.std.proofs.Math.Numerals.{towards_suc}
use Rattle.std.proofs.Math.Decide.{dec_lt}
use Rattle.std.proofs.Math.ListN.{get_or-eq_default}
use Rattle.def_layout.specs.Numbers.{be32, put32}

-- Every element is a byte: what a lent area of bytes is known to hold.
abbrev pub Bytes : List ℕ → Type 0
Bytes b = (i : ℕ) → get_or b i 0 < 256

-- The n elements from a on.
abbrev pub part : {A : Type 0} → List A → ℕ → ℕ → List A
part s a n = take n (drop a s)

pub put32_length : (x : ℕ) → length (put32 x) ≡ 4
unfolding put32
put32_length x = refl

pub be32_skip : (p s : List ℕ) (n i : ℕ) → length p ≡ n → be32 (p ++ s) (n + i) ≡ be32 s i
unfolding be32
be32_skip p s n i e =
    subst (λ (k : ℕ). be32 (p ++ s) (k + i) ≡ be32 s i) e
    (simp (add_assoc, get_or-append-add))

pub be32_put : (x : ℕ) (s : List ℕ) → x < 2 ^ 32 → be32 (put32 x ++ s) 0 ≡ x
unfolding be32 put32
be32_put x s h =
    let e : x / 16777216 % 256 ≡ x / 16777216 = mod-eq_of_lt (omega arith) in
    omega arith

-- Only the last 32 bits are written.
pub put32_mod : (x : ℕ) → put32 (x % 4294967296) ≡ put32 x
unfolding put32
put32_mod x =
    let a : x % 4294967296 / 16777216 % 256 ≡ x / 16777216 % 256 = omega arith in
    let b : x % 4294967296 / 65536 % 256 ≡ x / 65536 % 256 = omega arith in
    let c : x % 4294967296 / 256 % 256 ≡ x / 256 % 256 = omega arith in
    let d : x % 4294967296 % 256 ≡ x % 256 = omega arith in
    rw (a, b, c, d)

-- Past the end there are zeros.
pub be32_past : (b : List ℕ) (j : ℕ) → length b ≤ j → be32 b j ≡ 0
unfolding be32
be32_past b j h =
    rw (
      get_or-eq_default b 0 {n = j} h,
      get_or-eq_default b 0 {n = j + 1} (omega arith),
      get_or-eq_default b 0 {n = j + 2} (omega arith),
      get_or-eq_default b 0 {n = j + 3} (omega arith),
    )

pub be32_lt : (b : List ℕ) (j : ℕ) → Bytes b → be32 b j < 2 ^ 32
unfolding be32
be32_lt b j w = omega (arith, w j, w (j + 1), w (j + 2), w (j + 3))

put_be32 : (a b c d : ℕ) → a < 256 → b < 256 → c < 256 → d < 256
    → put32 (a * 16777216 + b * 65536 + c * 256 + d) ≡ a ∷ b ∷ c ∷ d ∷ []
unfolding put32
put_be32 a b c d ha hb hc hd =
    let x : ℕ = a * 16777216 + b * 65536 + c * 256 + d in
    let ea : x / 16777216 % 256 ≡ a = omega arith in
    let eb : x / 65536 % 256 ≡ b = omega arith in
    let ec : x / 256 % 256 ≡ c = omega arith in
    let ed : x % 256 ≡ d = omega arith in
    cc

drop_four : (b : List ℕ) (j : ℕ) → j + 4 ≤ length b
    → drop j b ≡ get_or b j 0 ∷ get_or b (j + 1) 0 ∷ get_or b (j + 2) 0 ∷ get_or b (j + 3) 0 ∷ drop (j + 4) b
drop_four b j h =
    let h0 : j < length b = omega arith in
    let h1 : suc j < length b = omega arith in
    let h2 : suc (suc j) < length b = omega arith in
    let h3 : suc (suc (suc j)) < length b = omega arith in
    simp towards_suc (rw (drop-cons b j 0, drop-cons b (suc j) 0, drop-cons b (suc (suc j)) 0, drop-cons b (suc (suc (suc j))) 0))

-- What was read writes the same four bytes.
pub put_be32_at : (b : List ℕ) (j : ℕ) → Bytes b → j + 4 ≤ length b → put32 (be32 b j) ≡ part b j 4
unfolding be32
put_be32_at b j w h =
    put_be32 (get_or b j 0) (get_or b (j + 1) 0) (get_or b (j + 2) 0) (get_or b (j + 3) 0) (w j) (w (j + 1)) (w (j + 2)) (w (j + 3))
    ∙ sym (ap (λ (r : List ℕ). take 4 r) (drop_four b j h))

pub bytes_drop : (b : List ℕ) (a : ℕ) → Bytes b → Bytes (drop a b)
bytes_drop b a w i = rw (get_or-drop a b i 0) (w (a + i))

pub bytes_take : (n : ℕ) (b : List ℕ) → Bytes b → Bytes (take n b)
bytes_take n b w i =
    elim (dec_lt i n) [
      | yes h ↦ rw (get_or-take n b i 0 h) (w i)
      | no h ↦ rw (get_or-eq_default (take n b) 0 {n = i} (omega (arith, length-take n b))) (lit< tt)
    ]

pub be32_drop : (b : List ℕ) (a i : ℕ) → be32 (drop a b) i ≡ be32 b (a + i)
unfolding be32
be32_drop b a i = rw (get_or-drop a b i 0, get_or-drop a b (i + 1) 0, get_or-drop a b (i + 2) 0, get_or-drop a b (i + 3) 0, ← add_assoc a i 1, ← add_assoc a i 2, ← add_assoc a i 3)

pub be32_take : (b : List ℕ) (n i : ℕ) → i + 4 ≤ n → be32 (take n b) i ≡ be32 b i
unfolding be32
be32_take b n i h =
    rw (get_or-take n b i 0 (omega arith), get_or-take n b (i + 1) 0 (omega arith), get_or-take n b (i + 2) 0 (omega arith), get_or-take n b (i + 3) 0 (omega arith))
