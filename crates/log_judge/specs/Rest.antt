-- The slots behind the last record: all empty just when their bytes are all zero.
use Rattle.std.specs.Prelude.{ℕ, zero, suc, ◌+◌, ◌-◌, ◌*◌, ◌≤◌, ◌<◌, ◌≡◌, refl, Bool, true, false, ◌&&◌, List, [], ◌∷◌, ◌++◌, length, take, drop, eqb}
use Rattle.std.proofs.Common.{sym, ap, ap₂, ◌∙◌, arith, length-drop, take-append-drop, length-take-le, take_all, drop-drop}
use Rattle.std.proofs.lemmas.List.{length-replicate, replicate-append-replicate}
use Rattle.def_base.specs.Tests.{every, Case, yes!, no!, case}
use Rattle.def_layout.specs.Numbers.{be32, same_bytes, zeros}
use Rattle.def_layout.specs.RecordBytes.{record_bytes, record_fields, full_by, slot_by, read_slot}
use Rattle.def_layout.specs.Sizes.{slot_size}
use Rattle.def_model.specs.Log.{is_empty}
use Rattle.law_bytes.specs.Words.{part}
use Rattle.law_bytes.specs.Pieces.{read_all}
use Rattle.law_bytes.specs.LogAreas.{slots_of}

empty_is : (b : List ℕ) → is_empty (read_slot b) ≡ same_bytes (zeros slot_size) b
unfolding read_slot slot_by full_by is_empty
empty_is b = go (case (same_bytes (zeros slot_size) b)) (case (same_bytes (record_bytes (be32 b 4) (record_fields b)) b))
  where
    go : Case (same_bytes (zeros slot_size) b) → Case (same_bytes (record_bytes (be32 b 4) (record_fields b)) b)
        → is_empty (slot_by (same_bytes (zeros slot_size) b) b) ≡ same_bytes (zeros slot_size) b
    go (yes! e) c = rw e
    go (no! e) (yes! f) = rw (e, f)
    go (no! e) (no! f) = rw (e, f)

-- Bytes compared in two parts.
same_append : (x y u v : List ℕ) → length x ≡ length u → same_bytes (x ++ y) (u ++ v) ≡ same_bytes x u && same_bytes y v
unfolding same_bytes
same_append [] y [] v h = refl
same_append [] y (a ∷ u) v h = absurd (omega arith)
same_append (a ∷ x) y [] v h = absurd (omega arith)
same_append (a ∷ x) y (c ∷ u) v h = go (eqb a c) (same_append x y u v (omega arith))
  where
    go : (t : Bool) → same_bytes (x ++ y) (u ++ v) ≡ same_bytes x u && same_bytes y v → t && same_bytes (x ++ y) (u ++ v) ≡ (t && same_bytes x u) && same_bytes y v
    go true i = i
    go false i = refl

rest_zero : (k : ℕ) (b : List ℕ) → length b ≡ slot_size * k → same_bytes (zeros (length b)) b ≡ every is_empty (slots_of k b)
unfolding every read_all same_bytes
rest_zero zero [] h = refl
rest_zero zero (x ∷ b) h = absurd (omega arith)
rest_zero (suc k) b h =
    let n : length b ≡ slot_size + slot_size * k = omega (arith, h) in
    let d : length (drop slot_size b) ≡ slot_size * k = length-drop slot_size b ∙ omega (arith, n) in
    let t : length (take slot_size b) ≡ slot_size = length-take-le slot_size b (omega (arith, n)) in
    let z : zeros (length b) ≡ zeros slot_size ++ zeros (length (drop slot_size b)) =
    ap zeros (n ∙ ap (λ (x : ℕ). slot_size + x) (sym d)) ∙ sym (replicate-append-replicate {A = ℕ} slot_size (length (drop slot_size b)) 0) in
    ap₂ (λ (x y : List ℕ). same_bytes x y) z (sym (take-append-drop slot_size b))
    ∙ same_append (zeros slot_size) (zeros (length (drop slot_size b))) (take slot_size b) (drop slot_size b) (length-replicate {A = ℕ} slot_size 0 ∙ sym t)
    ∙ ap₂ (λ (x y : Bool). x && y) (sym (empty_is (take slot_size b))) (rest_zero k (drop slot_size b) d)

-- The slots from number i on are those of the bytes from there on.
slots_drop : (i m : ℕ) (b : List ℕ) → i ≤ m → drop i (slots_of m b) ≡ slots_of (m - i) (drop (slot_size * i) b)
unfolding read_all
slots_drop zero m b h = ap (λ (k : ℕ). slots_of k b) (all m)
  where
    all : (m : ℕ) → m ≡ m - 0
    all m = omega arith
slots_drop (suc i) zero b h = absurd (omega arith)
slots_drop (suc i) (suc m) b h =
    let e : suc m - suc i ≡ m - i = omega arith in
    let n : slot_size + slot_size * i ≡ slot_size * suc i = omega arith in
    slots_drop i m (drop slot_size b) (omega arith)
    ∙ ap₂ (λ (x : ℕ) (y : List ℕ). slots_of x y) (sym e) (drop-drop (slot_size * i) slot_size b ∙ ap (λ (k : ℕ). drop k b) n)

-- What the program finds of the slots from number i on.
pub rest_found : (t : Bool) (i m : ℕ) (b : List ℕ) → length b ≡ slot_size * m → i ≤ m
    → t ≡ same_bytes (zeros (length (take (slot_size * m - slot_size * i) (drop (slot_size * i) b)))) (take (slot_size * m - slot_size * i) (drop (slot_size * i) b))
    → t ≡ every is_empty (drop i (slots_of m b))
rest_found t i m b l h e =
    let n : length (drop (slot_size * i) b) ≡ slot_size * (m - i) = length-drop (slot_size * i) b ∙ omega (arith, l, h) in
    let a : take (slot_size * m - slot_size * i) (drop (slot_size * i) b) ≡ drop (slot_size * i) b =
    take_all (slot_size * m - slot_size * i) (drop (slot_size * i) b) (omega (arith, n, h)) in
    e ∙ ap (λ (x : List ℕ). same_bytes (zeros (length x)) x) a ∙ rest_zero (m - i) (drop (slot_size * i) b) n ∙ ap (every is_empty) (sym (slots_drop i m b h))

pub slot_found : (t : Bool) (i m : ℕ) (b : List ℕ) → length b ≡ slot_size * m → i < m
    → t ≡ same_bytes (zeros (length (part b (slot_size * i) slot_size))) (part b (slot_size * i) slot_size) → t ≡ is_empty (read_slot (part b (slot_size * i) slot_size))
slot_found t i m b l h e =
    let n : length (part b (slot_size * i) slot_size) ≡ slot_size =
    length-take-le slot_size (drop (slot_size * i) b) (omega (arith, length-drop (slot_size * i) b, l, h)) in
    e ∙ ap (λ (k : ℕ). same_bytes (zeros k) (part b (slot_size * i) slot_size)) n ∙ sym (empty_is (part b (slot_size * i) slot_size))
