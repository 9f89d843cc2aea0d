-- A part of an area that is written over: the one form in which every store is said.
use Rattle.std.specs.Prelude.{◌≡◌, ℕ, zero, suc, ◌+◌, ◌-◌, ◌≤◌, ◌<◌, List, [], ◌∷◌, ◌++◌, get_or, take, drop, set, length, replicate}
use Rattle.std.proofs.Common.{ap, ap₂, sym, ◌∙◌, add_assoc, suc-add, add-one, arith, append_assoc, append-nil, length-append, length-drop, take-append-drop, drop_of_length-le, take_at, take-suc, take_all, drop-cons, drop-drop, take-take, length-take-le}
use Rattle.std.proofs.Math.Numerals.{towards_suc}
use Rattle.std.proofs.lemmas.List.{length-replicate, replicate-append-replicate, set_at, drop-append-le, take-append-le}
use Rattle.std.proofs.lemmas.List.Edits.{sets-eq}
use Rattle.std.proofs.Math.Seq.{drop-append-add, take-nil, drop-length}
use Rattle.law_bytes.specs.Words.{part}

-- s with w over what stands from i on.
unfoldable pub patch : List ℕ → ℕ → List ℕ → List ℕ
patch s i w = take i s ++ w ++ drop (i + length w) s

pub part_length : {A : Type 0} (s : List A) (a n : ℕ) → a + n ≤ length s → length (part s a n) ≡ n
part_length s a n h = length-take-le n (drop a s) (omega (arith, length-drop a s))

-- Four stores in a row are the four bytes in their place.
pub stores4 : (s : List ℕ) (i a b c d : ℕ) → i + 4 ≤ length s
    → set (set (set (set s i a) (i + 1) b) (i + 2) c) (i + 3) d ≡ patch s i (a ∷ b ∷ c ∷ d ∷ [])
unfolding patch
stores4 s i a b c d h = simp towards_suc (simp towards_suc at (sets-eq (a ∷ b ∷ c ∷ d ∷ []) s i h))

pub patch_length : (s : List ℕ) (i : ℕ) (w : List ℕ) → i + length w ≤ length s → length (patch s i w) ≡ length s
unfolding patch
patch_length s i w h = simp (length-append, length-drop, take-append-drop, length-take-le i s (omega arith)) (omega arith)

-- A list that is written from the front: p is written, and the rest is b.
pub patch_front : (p b : List ℕ) (n : ℕ) (w : List ℕ) → length p ≡ n → patch (p ++ drop n b) n w ≡ p ++ w ++ drop (n + length w) b
unfolding patch
patch_front p b n w e =
    rw (take_at p (drop n b) n)
    (ap (λ (r : List ℕ). p ++ w ++ r)
    (ap (λ (k : ℕ). drop (k + length w) (p ++ drop n b)) (sym e) ∙ drop-append-add p (drop n b) (length w) ∙ drop-drop (length w) n b))

-- Two parts written one after the other are one part.
pub patch_patch : (s : List ℕ) (i n : ℕ) (x y : List ℕ) → n ≡ i + length x → n ≤ length s → patch (patch s i x) n y ≡ patch s i (x ++ y)
unfolding patch
patch_patch s i n x y e h =
    let l : length (take i s ++ x) ≡ n = length-append (take i s) x ∙ omega (arith, length-take-le i s (omega arith)) in
    let k : n + length y ≡ i + length (x ++ y) = omega (arith, length-append x y) in
    ap (λ (j : ℕ). patch (take i s ++ x ++ drop j s) n y) (sym e)
    ∙ patch_front (take i s ++ x) s n y l
    ∙ ap (λ (j : ℕ). take i s ++ x ++ y ++ drop j s) k
    ∙ ap (λ (r : List ℕ). r ++ drop (i + length (x ++ y)) s) (append_assoc (take i s) x y)

-- The same as a chain of calls has it.
pub then_patch : (s s₁ s₂ : List ℕ) (i n : ℕ) (x y : List ℕ) → s₁ ≡ patch s i x → s₂ ≡ patch s₁ n y → n ≡ i + length x → n ≤ length s
    → s₂ ≡ patch s i (x ++ y)
then_patch s s₁ s₂ i n x y e₁ e₂ e h = e₂ ∙ ap (λ (r : List ℕ). patch r n y) e₁ ∙ patch_patch s i n x y e h

-- A part that was lent and came back as w.
pub patch_back : (s : List ℕ) (a e : ℕ) (w : List ℕ) → e ≡ a + length w → take a s ++ (w ++ drop (e - a) (drop a s)) ≡ patch s a w
unfolding patch
patch_back s a e w h =
    let k : a + (e - a) ≡ a + length w = omega arith in
    sym (append_assoc (take a s) w (drop (e - a) (drop a s)))
    ∙ ap (λ (r : List ℕ). take a s ++ w ++ r) (drop-drop (e - a) a s ∙ ap (λ (j : ℕ). drop j s) k)

pub patch_zero : (s w : List ℕ) (n : ℕ) → length w ≡ n → patch s 0 w ≡ w ++ drop n s
unfolding patch
patch_zero s w n h = let e : 0 + length w ≡ n = omega arith in ap (λ (j : ℕ). w ++ drop j s) e

pub patch_whole : (s w : List ℕ) → length w ≡ length s → patch s 0 w ≡ w
patch_whole s w h = patch_zero s w (length s) h ∙ ap (λ (r : List ℕ). w ++ r) (drop-length s) ∙ append-nil w

-- What a patch leaves before it, and what it is after the first m elements.
pub take_patch : (s w : List ℕ) (m a : ℕ) → m + a ≤ length s → take m (patch s (m + a) w) ≡ take m s
unfolding patch
take_patch s w m a h =
    let l : length (take (m + a) s) ≡ m + a = length-take-le (m + a) s h in
    ap (λ (r : List ℕ). take m r) (append_assoc (take (m + a) s) w (drop (m + a + length w) s))
    ∙ take-append-le m (take (m + a) s) (w ++ drop (m + a + length w) s) (omega arith)
    ∙ take-take m (m + a) s (omega arith)

pub drop_take : {A : Type 0} (n m : ℕ) (s : List A) → drop n (take (n + m) s) ≡ take m (drop n s)
drop_take zero m s = let e : 0 + m ≡ m = omega arith in ap (λ (k : ℕ). take k s) e
drop_take (suc n) m [] = rw suc-add (sym (take-nil m))
drop_take (suc n) m (x ∷ s) = rw suc-add (drop_take n m s)

pub drop_patch : (s w : List ℕ) (m a : ℕ) → m + a ≤ length s → drop m (patch s (m + a) w) ≡ patch (drop m s) a w
unfolding patch
drop_patch s w m a h =
    let l : length (take (m + a) s) ≡ m + a = length-take-le (m + a) s h in
    ap (λ (r : List ℕ). drop m r) (append_assoc (take (m + a) s) w (drop (m + a + length w) s))
    ∙ drop-append-le m (take (m + a) s) (w ++ drop (m + a + length w) s) (omega arith)
    ∙ ap₂ (λ (x y : List ℕ). x ++ (w ++ y)) (drop_take m a s) (ap (λ (k : ℕ). drop k s) (add_assoc m a (length w)) ∙ sym (drop-drop (a + length w) m s))
    ∙ sym (append_assoc (take a (drop m s)) w (drop (a + length w) (drop m s)))

-- A turn of a copy from the front, and its end.
pub copy_step : (w s d : List ℕ) (i : ℕ) → i < length w → i < length s → d ≡ take i w ++ drop i s
    → set d i (get_or w i 0) ≡ take (i + 1) w ++ drop (i + 1) s
copy_step w s d i h hs e =
    rw (e, drop-cons s i 0, set_at (take i w) (get_or s i 0) (drop (suc i) s) (get_or w i 0) i (length-take-le i w (omega arith)), add-one i, take-suc w i 0 h)
    (sym (append_assoc (take i w) (get_or w i 0 ∷ []) (drop (suc i) s)))

pub copy_end : (w s d : List ℕ) (i : ℕ) → length w ≤ i → length s ≤ i → d ≡ take i w ++ drop i s → d ≡ w
copy_end w s d i h hs e = e ∙ rw (take_all i w h, drop_of_length-le s {i = i} hs) (append-nil w)

-- A turn of a clearing from the front, and its end.
pub zero_step : (s d : List ℕ) (i : ℕ) → i < length s → d ≡ replicate i 0 ++ drop i s → set d i 0 ≡ replicate (i + 1) 0 ++ drop (i + 1) s
zero_step s d i h e =
    rw (e, drop-cons s i 0, set_at (replicate i 0) (get_or s i 0) (drop (suc i) s) 0 i (length-replicate i 0))
    (ap (λ (k : ℕ). replicate i 0 ++ 0 ∷ drop k s) (sym (add-one i)) ∙ sym (append_assoc (replicate i 0) (0 ∷ []) (drop (i + 1) s))
    ∙ ap (λ (r : List ℕ). r ++ drop (i + 1) s) (replicate-append-replicate i 1 0))

pub zero_end : (s d : List ℕ) (i : ℕ) → i ≡ length s → d ≡ replicate i 0 ++ drop i s → d ≡ replicate (length s) 0
zero_end s d i h e = e ∙ rw h (ap (λ (r : List ℕ). replicate (length s) 0 ++ r) (drop-length s) ∙ append-nil (replicate (length s) 0))

-- What is written as it stood makes no difference.
pub patch_more : (s : List ℕ) (a : ℕ) (w z : List ℕ) → take (length z) (drop (a + length w) s) ≡ z → patch s a (w ++ z) ≡ patch s a w
unfolding patch
patch_more s a w z e =
    let k : a + length (w ++ z) ≡ a + length w + length z = omega (arith, length-append w z) in
    ap (λ (i : ℕ). take a s ++ (w ++ z) ++ drop i s) k
    ∙ ap (λ (r : List ℕ). r ++ drop (a + length w + length z) s) (sym (append_assoc (take a s) w z))
    ∙ append_assoc (take a s ++ w) z (drop (a + length w + length z) s)
    ∙ ap (λ (r : List ℕ). take a s ++ w ++ r) (ap₂ (λ (x y : List ℕ). x ++ y) (sym e) (sym (drop-drop (length z) (a + length w) s)) ∙ take-append-drop (length z) (drop (a + length w) s))
