-- The stable log holds the first records of the working one and nothing else: the bytes that are compared, and the slots that they show.
use Rattle.std.specs.Prelude.{◌≡◌, refl, ℕ, zero, suc, ◌+◌, ◌-◌, ◌*◌, ◌/◌, ◌<◌, ◌≤◌, Bool, true, false, ◌&&◌, take, drop, leb}
use Rattle.std.proofs.Math.Path.{ap, ap₂, sym}
use Rattle.std.proofs.Common.{◌∙◌, mul-zero, mul-suc, arith, length-drop, take-append-drop, take_all, take_at, drop_at, length-take-le}
use mathlib.Core.List.{List, [], ◌∷◌, ◌++◌}
use Rattle.std.proofs.Math.ListN.{length, replicate, length-append}
use Rattle.std.proofs.lemmas.List.{length-replicate, drop-append-le}
use Rattle.std.proofs.Math.Seq.{take-append-le}
use Rattle.def_base.specs.Tests.{clash, and_true, and_both, le_true, le_false}
use Rattle.def_layout.specs.Numbers.{same_bytes, zeros}
use Rattle.def_layout.specs.Records.{Rec}
use Rattle.def_layout.specs.RecordBytes.{Slot, empty, full, other, record_bytes, read_slot, slot_bytes}
use Rattle.def_layout.specs.Sizes.{slot_size}
use Rattle.def_model.specs.Log.{slots_from, log_area}
use Rattle.def_model.specs.Sound.{same_slot, same_slots}
use Rattle.law_bytes.specs.Words.{part}
use Rattle.law_bytes.specs.Pieces.{read_all, read_all_length, write_all}
use Rattle.law_bytes.specs.Same.{same_refl, same_true, same_false, same_iff}
use Rattle.law_bytes.specs.LogAreas.{slots_of, slots_bytes, slots_back}
use Rattle.law_areas.specs.AsPieces.{read_log_is}
use Rattle.law_areas.specs.Typed.{slots_length}
use Rattle.law_areas.specs.Logs.{empty_log_read}

-- ---- slots are the same where their bytes are

same_slot_refl : (s : Slot) → same_slot s s ≡ true
unfolding same_slot
same_slot_refl empty = refl
same_slot_refl (full n r) = same_refl (record_bytes n r)
same_slot_refl (other b) = same_refl b

same_slot_bytes : (s t : Slot) → same_slot s t ≡ true → slot_bytes s ≡ slot_bytes t
unfolding same_slot slot_bytes
same_slot_bytes empty empty e = refl
same_slot_bytes empty (full m q) e = clash (sym e)
same_slot_bytes empty (other c) e = clash (sym e)
same_slot_bytes (full n r) empty e = clash (sym e)
same_slot_bytes (full n r) (full m q) e = same_true (record_bytes n r) (record_bytes m q) e
same_slot_bytes (full n r) (other c) e = clash (sym e)
same_slot_bytes (other b) empty e = clash (sym e)
same_slot_bytes (other b) (full m q) e = clash (sym e)
same_slot_bytes (other b) (other c) e = same_true b c e

same_slots_refl : (s : List Slot) → same_slots s s ≡ true
unfolding same_slots
same_slots_refl [] = refl
same_slots_refl (x ∷ s) = and_both (same_slot_refl x) (same_slots_refl s)

same_slots_bytes : (s t : List Slot) → same_slots s t ≡ true → slots_bytes s ≡ slots_bytes t
unfolding same_slots write_all
same_slots_bytes [] [] e = refl
same_slots_bytes [] (y ∷ t) e = clash (sym e)
same_slots_bytes (x ∷ s) [] e = clash (sym e)
same_slots_bytes (x ∷ s) (y ∷ t) e =
    let p = and_true (same_slot x y) (same_slots s t) e in
    ap₂ (λ (u v : List ℕ). u ++ v) (same_slot_bytes x y p.0) (same_slots_bytes s t p.1)

-- SAME: two logs as long show the same slots exactly where they have the same bytes.
pub same_slots_is : (m : ℕ) (x y : List ℕ) → length x ≡ slot_size * m → length y ≡ slot_size * m → same_slots (slots_of m x) (slots_of m y) ≡ same_bytes x y
same_slots_is m x y h l =
    same_iff (same_slots (slots_of m x) (slots_of m y)) x y
    (λ e. sym (slots_back m x h) ∙ same_slots_bytes (slots_of m x) (slots_of m y) e ∙ slots_back m y l)
    (λ e. ap (λ (r : List ℕ). same_slots (slots_of m x) (slots_of m r)) (sym e) ∙ same_slots_refl (slots_of m x))

-- ---- the first records, and empty slots

-- Pieces of a front, and of the rest.
read_parts : {A : Type 0} (w : ℕ) (f : List ℕ → A) (n k j : ℕ) (x y : List ℕ) → k + j ≡ n → length x ≡ w * k
    → read_all w f n (x ++ y) ≡ read_all w f k x ++ read_all w f j y
unfolding read_all
read_parts w f n zero j [] y e h = let z : n ≡ j = omega arith in ap (λ (i : ℕ). read_all w f i y) z
read_parts w f n zero j (a ∷ x) y e h = absurd (omega (arith, mul-zero w))
read_parts w f zero (suc k) j x y e h = absurd (omega arith)
read_parts w f (suc n) (suc k) j x y e h =
    let u : w * suc k ≡ w * k + w = mul-suc w k in
    ap₂ (λ (z : _) (zs : List _). z ∷ zs)
    (ap f (take-append-le w x y (omega arith)))
    (ap (read_all w f n) (drop-append-le w x y (omega arith)) ∙ read_parts w f n k j (drop w x) y (omega arith) (omega (arith, length-drop w x)))

-- The first k slots are those of the first bytes.
first_slots : (m k : ℕ) (b : List ℕ) → k ≤ m → length b ≡ slot_size * m → slots_of k (take (slot_size * k) b) ≡ take k (slots_of m b)
first_slots m k b h size =
    let i : ℕ = slot_size * k in
    let e : k + (m - k) ≡ m = omega arith in
    sym (ap (λ (r : List ℕ). take k (slots_of m r)) (sym (take-append-drop i b))
    ∙ ap (take k) (read_parts slot_size read_slot m k (m - k) (take i b) (drop i b) e (length-take-le i b (omega arith)))
    ∙ take_at (slots_of k (take i b)) (slots_of (m - k) (drop i b)) k (read_all_length slot_size read_slot k (take i b)))

no_slots : (n : ℕ) → slots_of n (zeros (slot_size * n)) ≡ replicate n empty
no_slots n =
    let e : length (zeros (slot_size * n)) / slot_size ≡ n = omega (arith, length-replicate {A = ℕ} (slot_size * n) 0) in
    ap (λ (k : ℕ). slots_of k (zeros (slot_size * n))) (sym e) ∙ sym (read_log_is (zeros (slot_size * n))) ∙ empty_log_read n

take_slots : (n k : ℕ) (l : List Rec) → take k (slots_from n l) ≡ slots_from n (take k l)
unfolding slots_from
take_slots n zero l = refl
take_slots n (suc k) [] = refl
take_slots n (suc k) (r ∷ l) = ap (λ (s : List Slot). full n r ∷ s) (take_slots (suc n) k l)

-- The bytes of the first k slots, and zeros.
abbrev kept : ℕ → ℕ → List ℕ → List ℕ
kept m k w = take (slot_size * k) w ++ zeros (slot_size * (m - k))

module _ (m k : ℕ) (w : List ℕ) (l : List Rec) (size : length w ≡ slot_size * m) (reads : slots_of m w ≡ log_area m l) where
  fits : length l ≤ m
  unfolding log_area
  fits =
      omega (arith, sym (read_all_length slot_size read_slot m w) ∙ ap length reads ∙ length-append (slots_from 1 l) (replicate (m - length l) empty), slots_length 1 l)

  module _ (h : k ≤ length l) where
    first_length : length (take (slot_size * k) w) ≡ slot_size * k
    first_length = length-take-le (slot_size * k) w (omega (arith, fits))

    kept_length : length (kept m k w) ≡ slot_size * m
    kept_length =
        length-append (take (slot_size * k) w) (zeros (slot_size * (m - k)))
        ∙ omega (arith, fits, first_length, length-replicate {A = ℕ} (slot_size * (m - k)) 0)

    kept_slots : slots_of m (kept m k w) ≡ log_area m (take k l)
    unfolding log_area
    kept_slots =
        let e : k + (m - k) ≡ m = omega (arith, fits) in
        let n : m - length (take k l) ≡ m - k = ap (λ (i : ℕ). m - i) (length-take-le k l h) in
        read_parts slot_size read_slot m k (m - k) (take (slot_size * k) w) (zeros (slot_size * (m - k))) e first_length
        ∙ ap₂ (λ (s t : List Slot). s ++ t)
        (first_slots m k w (omega (arith, fits)) size ∙ ap (take k) reads
        ∙ take-append-le k (slots_from 1 l) (replicate (m - length l) empty) (omega (arith, slots_length 1 l)) ∙ take_slots 1 k l)
        (no_slots (m - k) ∙ ap (λ (i : ℕ). replicate i empty) (sym n))

    stored_bytes : (s : List ℕ) → length s ≡ slot_size * m → same_slots (slots_of m s) (log_area m (take k l)) ≡ same_bytes s (kept m k w)
    stored_bytes s ss = ap (same_slots (slots_of m s)) (sym kept_slots) ∙ same_slots_is m s (kept m k w) ss kept_length

-- ---- the answers

-- A part up to the end is all the rest.
pub zero_rest : (s : List ℕ) (n a : ℕ) {u : Bool} → n ≡ length s → u ≡ same_bytes (zeros (length (take (n - a) (drop a s)))) (take (n - a) (drop a s))
    → u ≡ same_bytes (zeros (length s - a)) (drop a s)
zero_rest s n a e h =
    let r : take (n - a) (drop a s) ≡ drop a s = take_all (n - a) (drop a s) (omega (arith, length-drop a s)) in
    h ∙ ap (λ (x : List ℕ). same_bytes (zeros (length x)) x) r ∙ ap (λ (i : ℕ). same_bytes (zeros i) (drop a s)) (length-drop a s)

-- The test of `stored_ok` on a log l and m stable slots, of which k are said to be stored.
abbrev pub stored_is : ℕ → List Slot → List Rec → ℕ → Bool
stored_is m s l k = leb k (length l) && same_slots s (log_area m (take k l))

module _ (m k : ℕ) (w s : List ℕ) (sw : length w ≡ slot_size * m) (ss : length s ≡ slot_size * m) (l : List Rec) (reads : slots_of m w ≡ log_area m l) where
  pub more_than_logged : length l < k → stored_is m (slots_of m s) l k ≡ false
  more_than_logged h = rw (le_false k (length l) h)

  pub more_than_slots : m < k → stored_is m (slots_of m s) l k ≡ false
  more_than_slots h = more_than_logged (omega (arith, fits m k w l sw reads))

  module _ (h : k ≤ length l) where
    by_bytes : stored_is m (slots_of m s) l k ≡ same_bytes s (kept m k w)
    by_bytes = rw (le_true k (length l) h) (stored_bytes m k w l sw reads h s ss)

    kept_first : s ≡ kept m k w → take (slot_size * k) s ≡ take (slot_size * k) w
    kept_first e =
        ap (take (slot_size * k)) e ∙ take_at (take (slot_size * k) w) (zeros (slot_size * (m - k))) (slot_size * k) (first_length m k w l sw reads h)

    kept_rest : s ≡ kept m k w → drop (slot_size * k) s ≡ zeros (slot_size * (m - k))
    kept_rest e =
        ap (drop (slot_size * k)) e ∙ drop_at (take (slot_size * k) w) (zeros (slot_size * (m - k))) (slot_size * k) (first_length m k w l sw reads h)

    module _ {t : Bool} (et : t ≡ same_bytes (part w 0 (slot_size * k)) (part s 0 (slot_size * k))) where
      pub other_records : t ≡ false → stored_is m (slots_of m s) l k ≡ false
      other_records f =
          by_bytes
          ∙ same_false s (kept m k w)
          (λ e. clash (sym (ap (same_bytes (take (slot_size * k) w)) (kept_first e) ∙ same_refl (take (slot_size * k) w)) ∙ sym et ∙ f))

      pub rest_decides : {u : Bool} → t ≡ true → u ≡ same_bytes (zeros (length s - slot_size * k)) (drop (slot_size * k) s) → u ≡ stored_is m (slots_of m s) l k
      rest_decides {u} f eu =
          let n : length s - slot_size * k ≡ slot_size * (m - k) = omega arith in
          let eu' : u ≡ same_bytes (zeros (slot_size * (m - k))) (drop (slot_size * k) s) = eu ∙ ap (λ (i : ℕ). same_bytes (zeros i) (drop (slot_size * k) s)) n in
          same_iff u s (kept m k w)
          (λ e. sym (take-append-drop (slot_size * k) s)
          ∙ ap₂ (λ (a b : List ℕ). a ++ b)
          (sym (same_true (take (slot_size * k) w) (take (slot_size * k) s) (sym et ∙ f)))
          (sym (same_true (zeros (slot_size * (m - k))) (drop (slot_size * k) s) (sym eu' ∙ e))))
          (λ e. eu' ∙ ap (same_bytes (zeros (slot_size * (m - k)))) (kept_rest e) ∙ same_refl (zeros (slot_size * (m - k))))
          ∙ sym by_bytes
