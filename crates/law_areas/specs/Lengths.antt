-- What refusal 1 says of lent areas that pass it: their lengths in pages and slots.
use Rattle.std.specs.Prelude.{◌≡◌, ℕ, ◌*◌, ◌/◌, ◌%◌, ◌≤◌, Bool, true, ◌&&◌, length, leb, eqb}
use Rattle.std.proofs.Common.{arith}
use Rattle.def_base.specs.Tests.{and_true, and_both, true_eq, eq_true, true_le, le_true}
use Rattle.def_layout.specs.Sizes.{page_size, slot_size}
use Rattle.def_model.specs.OnBytes.{Lent, measures, lengths_ok}

-- n pages and m slots, lent twice.
pub record Lengths (l : Lent) (n m : ℕ) : Type 0 where
  pub work_pages : length l.work_pages ≡ page_size * n
  pub stable_pages : length l.stable_pages ≡ page_size * n
  pub work_log : length l.work_log ≡ slot_size * m
  pub stable_log : length l.stable_log ≡ slot_size * m
  pub least_pages : 16 ≤ n
  pub most_pages : n ≤ 896
  pub least_slots : 64 ≤ m
  pub most_slots : m ≤ 16384

-- The three tests of a measure.
measured : (size low high bytes : ℕ) → measures size low high bytes ≡ true → (bytes % size ≡ 0) × (low * size ≤ bytes) × (bytes ≤ high * size)
unfolding measures
measured size low high bytes e =
    let (a, bc) = and_true (eqb (bytes % size) 0) (leb (low * size) bytes && leb bytes (high * size)) e in
    let (b, c) = and_true (leb (low * size) bytes) (leb bytes (high * size)) bc in
    (true_eq (bytes % size) 0 a, true_le (low * size) bytes b, true_le bytes (high * size) c)

measure : (size low high bytes : ℕ) → bytes % size ≡ 0 → low * size ≤ bytes → bytes ≤ high * size → measures size low high bytes ≡ true
unfolding measures
measure size low high bytes a b c = and_both (eq_true (bytes % size) 0 a) (and_both (le_true (low * size) bytes b) (le_true bytes (high * size) c))

-- SAID by the test, and enough for it.
pub lengths_said : (l : Lent) → lengths_ok l ≡ true → Lengths l (length l.work_pages / page_size) (length l.work_log / slot_size)
unfolding lengths_ok
lengths_said l e =
    let same_pages : Bool = eqb (length l.stable_pages) (length l.work_pages) in
    let logs : Bool = measures slot_size 64 16384 (length l.work_log) in
    let same_logs : Bool = eqb (length l.stable_log) (length l.work_log) in
    let (a, bcd) = and_true (measures page_size 16 896 (length l.work_pages)) (same_pages && (logs && same_logs)) e in
    let (b, cd) = and_true same_pages (logs && same_logs) bcd in
    let (c, d) = and_true logs same_logs cd in
    go (measured page_size 16 896 (length l.work_pages) a) (true_eq (length l.stable_pages) (length l.work_pages) b)
    (measured slot_size 64 16384 (length l.work_log) c) (true_eq (length l.stable_log) (length l.work_log) d)
  where
    go : (length l.work_pages % 128 ≡ 0) × (16 * 128 ≤ length l.work_pages) × (length l.work_pages ≤ 896 * 128) → length l.stable_pages ≡ length l.work_pages
        → (length l.work_log % 144 ≡ 0) × (64 * 144 ≤ length l.work_log) × (length l.work_log ≤ 16384 * 144) → length l.stable_log ≡ length l.work_log
        → Lengths l (length l.work_pages / page_size) (length l.work_log / slot_size)
    go p q s t =
        record {
          work_pages = omega arith;
          stable_pages = omega arith;
          work_log = omega arith;
          stable_log = omega arith;
          least_pages = omega arith;
          most_pages = omega arith;
          least_slots = omega arith;
          most_slots = omega arith;
        }

pub lengths_enough : (l : Lent) (n m : ℕ) → Lengths l n m → lengths_ok l ≡ true
unfolding lengths_ok
lengths_enough l n m h =
    and_both
    (measure page_size 16 896 (length l.work_pages) (omega arith) (omega arith) (omega arith))
    (and_both (eq_true (length l.stable_pages) (length l.work_pages) (omega arith))
    (and_both (measure slot_size 64 16384 (length l.work_log) (omega arith) (omega arith) (omega arith)) (eq_true (length l.stable_log) (length l.work_log) (omega arith))))

-- The counts are the lengths'.
pub lengths_counts : (l : Lent) (n m : ℕ) → Lengths l n m → (length l.work_pages / page_size ≡ n) × (length l.work_log / slot_size ≡ m)
lengths_counts l n m h = (omega arith, omega arith)

-- Areas of the same lengths pass with them.
pub lengths_kept : (l k : Lent) (n m : ℕ) → Lengths l n m → length k.work_pages ≡ length l.work_pages → length k.stable_pages ≡ length l.stable_pages
    → length k.work_log ≡ length l.work_log → length k.stable_log ≡ length l.stable_log → Lengths k n m
lengths_kept l k n m h a b c d =
    record {
      work_pages = omega arith;
      stable_pages = omega arith;
      work_log = omega arith;
      stable_log = omega arith;
      least_pages = h.least_pages;
      most_pages = h.most_pages;
      least_slots = h.least_slots;
      most_slots = h.most_slots;
    }
