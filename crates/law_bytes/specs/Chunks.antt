-- Lists of one length in a row: where each stands, and what a loop that writes them one after the other makes turn by turn.
use Rattle.std.specs.Prelude.{◌≡◌, refl, ℕ, zero, suc, ◌+◌, ◌*◌, ◌<◌, ◌≤◌, List, [], ◌++◌, take, drop, length}
use Rattle.std.proofs.Common.{ap, sym, ◌∙◌, ⊎_elim, eq-or-lt_of_le, le_of_suc-le-suc, not-suc-le-zero, add-one, arith, append_assoc, append-nil, length-append, take-append-drop, take-add}
use Rattle.def_layout.specs.Numbers.{be32, chunks}
use Rattle.law_bytes.specs.Words.{be32_skip}
use Rattle.law_bytes.specs.Patch.{patch, patch_patch}

pub chunks_length : (k n : ℕ) (f : ℕ → List ℕ) → ((i : ℕ) → length (f i) ≡ k) → length (chunks n f) ≡ k * n
unfolding chunks
chunks_length k zero f h = omega arith
chunks_length k (suc n) f h = length-append (chunks n f) (f n) ∙ omega (arith, chunks_length k n f h, h n)

-- A loop that writes chunk after chunk from a on: before, and at a turn.
pub chunks_none : (s : List ℕ) (a : ℕ) (f : ℕ → List ℕ) → s ≡ patch s a (chunks 0 f)
unfolding chunks patch
chunks_none s a f = let z : a + 0 ≡ a = omega arith in sym (rw (append-nil, z) (take-append-drop a s))

pub chunks_more : (s t : List ℕ) (a i k : ℕ) (f : ℕ → List ℕ) → ((i : ℕ) → length (f i) ≡ k) → a + k * i ≤ length s → t ≡ patch s a (chunks i f)
    → patch t (a + k * i) (f i) ≡ patch s a (chunks (i + 1) f)
unfolding chunks
chunks_more s t a i k f hf h e =
    rw (e, add-one i) (patch_patch s a (a + k * i) (chunks i f) (f i) (ap (λ (n : ℕ). a + n) (sym (chunks_length k i f hf))) h)

pub chunks_split : (n i : ℕ) (f : ℕ → List ℕ) → i < n → (r : List ℕ) × (chunks n f ≡ chunks i f ++ (f i ++ r))
unfolding chunks
chunks_split zero i f h = absurd (not-suc-le-zero h)
chunks_split (suc n) i f h =
    ⊎_elim
    (λ (e : i ≡ n). ([], rw (e, append-nil)))
    (λ (l : i < n). let s = chunks_split n i f l in (s.0 ++ f n, rw s.1 (simp append_assoc)))
    (eq-or-lt_of_le (le_of_suc-le-suc h))

-- The number at place r of chunk i.
pub chunks_at : (k n i r : ℕ) (f : ℕ → List ℕ) → ((i : ℕ) → length (f i) ≡ k) → i < n
    → (t : List ℕ) × (be32 (chunks n f) (k * i + r) ≡ be32 (f i ++ t) r)
chunks_at k n i r f hf h =
    let s = chunks_split n i f h in (
      s.0,
      ap (λ (b : List ℕ). be32 b (k * i + r)) s.1 ∙ be32_skip (chunks i f) (f i ++ s.0) (k * i) r (chunks_length k i f hf),
    )

-- A list of n chunks behind a front of length m, each where it stands.
pub chunks_is : (b : List ℕ) (m k n : ℕ) (f : ℕ → List ℕ) → ((i : ℕ) → i < n → f i ≡ take k (drop (m + k * i) b)) → m + k * n ≤ length b
    → take m b ++ chunks n f ≡ take (m + k * n) b
unfolding chunks
chunks_is b m k zero f e h = let z : m + k * 0 ≡ m = omega arith in rw (z, append-nil)
chunks_is b m k (suc n) f e h =
    let q : m + k * suc n ≡ m + k * n + k = omega arith in
    sym (append_assoc (take m b) (chunks n f) (f n))
    ∙ ap (λ (r : List ℕ). r ++ f n) (chunks_is b m k n f (λ i l. e i (omega arith)) (omega arith))
    ∙ ap (λ (r : List ℕ). take (m + k * n) b ++ r) (e n (omega arith))
    ∙ sym (take-add (m + k * n) k b)
    ∙ ap (λ (j : ℕ). take j b) (sym q)

pub chunks_same : (n : ℕ) (f g : ℕ → List ℕ) → ((i : ℕ) → i < n → f i ≡ g i) → chunks n f ≡ chunks n g
unfolding chunks
chunks_same zero f g e = refl
chunks_same (suc n) f g e = rw (chunks_same n f g (λ i h. e i (omega arith)), e n (omega arith))

-- Two chunks at a time.
pub chunks_pairs : (n : ℕ) (f : ℕ → List ℕ) → chunks (n + n) f ≡ chunks n (λ i. f (i + i) ++ f (i + i + 1))
unfolding chunks
chunks_pairs zero f = refl
chunks_pairs (suc n) f =
    let e : suc n + suc n ≡ suc (suc (n + n)) = omega arith in
    rw (e, add-one (n + n)) (ap (λ (r : List ℕ). r ++ f (n + n) ++ f (suc (n + n))) (chunks_pairs n f) ∙ append_assoc (chunks n (λ i. f (i + i) ++ f (i + i + 1))) (f (n + n)) (f (suc (n + n))))
