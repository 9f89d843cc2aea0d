-- The map of pages that are used from the first on.
use Rattle.std.specs.Prelude.{ℕ, zero, suc, ◌+◌, ◌-◌, ◌*◌, ◌/◌, ◌%◌, ◌^◌, ◌≤◌, ◌<◌, ◌≡◌, refl, ◌≢◌, Bool, true, false, ◌&&◌, List, ◌++◌, get_or, replicate, leb, ltb, eqb}
use Rattle.std.proofs.Common.{sym, ap, ◌∙◌, arith, length-append}
use Rattle.std.proofs.Math.Decide.{dec_lt}
use Rattle.std.proofs.lemmas.List.{length-replicate}
use Rattle.std.proofs.Math.Dec.{leb-suc-suc}
use Rattle.def_base.specs.Tests.{pick, Case, yes!, no!, case, clash, and_true, true_eq, eq_true, true_lt, false_lt, lt_true, lt_false, le_true, le_false, true_le, false_le}
use Rattle.def_layout.specs.declared.Entry.{Entry}
use Rattle.def_layout.specs.Entries.{entry, entry_at, no_entry}
use Rattle.def_layout.specs.Numbers.{tab}
use Rattle.def_layout.specs.Pages.{Page, map_page, map_bits}
use Rattle.def_layout.specs.declared.page.PageKind.TheVariants.{Map}
use Rattle.law_bytes.specs.Tables.{tab_is, getD_tab}
use Rattle.codec_page.specs.Shown.{program_page}
use Rattle.codec_page.specs.Typed.{typed, used_entries, used_marks, map_word, map_mark}

-- Of a word's 32 marks so many are of used pages.
unfoldable pub of_word : (used j : ℕ) → ℕ
of_word used j = pick (leb 32 (used - 32 * j)) 32 (used - 32 * j)

-- A word whose first k of 32 bits are ones.
abbrev pub first_ones : ℕ → ℕ
first_ones k = 4294967295 - 4294967295 / 2 ^ k

abbrev pub used_word : (used j : ℕ) → ℕ
used_word used j = first_ones (of_word used j)

abbrev pub used_marks_of : ℕ → List Bool
used_marks_of used = replicate used true ++ replicate (map_bits - used) false

abbrev pub used_map : ℕ → Page
used_map used = map_page (used_marks_of used)

pub word_none : (used j : ℕ) → used ≤ 32 * j → 0 ≡ used_word used j
unfolding of_word
word_none used j h = let e : used - 32 * j ≡ 0 = omega arith in rw e refl

pub word_all : (used j : ℕ) → 32 ≤ used - 32 * j → 4294967295 ≡ used_word used j
unfolding of_word
word_all used j h = rw (le_true 32 (used - 32 * j) h) refl

pub word_some : (used j : ℕ) → used - 32 * j < 32 → first_ones (used - 32 * j) ≡ used_word used j
unfolding of_word
word_some used j h = rw (le_false 32 (used - 32 * j) h) refl

-- ---- its bits

-- All numbers below n pass.
all_below : ℕ → (ℕ → Bool) → Bool
all_below zero f = true
all_below (suc n) f = f n && all_below n f

below_at : (n : ℕ) (f : ℕ → Bool) → all_below n f ≡ true → (i : ℕ) → i < n → f i ≡ true
unfolding all_below
below_at zero f e i h = absurd (omega arith)
below_at (suc n) f e i h = let (a, b) = and_true (f n) (all_below n f) e in go (dec_lt i n) a (below_at n f b i)
  where
    go : Dec (i < n) → f n ≡ true → (i < n → f i ≡ true) → f i ≡ true
    go (yes l) a b = b l
    go (no l) a b = let q : i ≡ n = omega arith in rw q a

-- Each bit of each such word: 33 words of 32 bits.
bits_right : all_below 33 (λ k. all_below 32 (λ i. eqb (first_ones k / 2 ^ (31 - i) % 2) (pick (ltb i k) 1 0))) ≡ true
unfolding all_below
bits_right = refl

bit_at : (k i : ℕ) → k ≤ 32 → i < 32 → first_ones k / 2 ^ (31 - i) % 2 ≡ pick (ltb i k) 1 0
bit_at k i a b = true_eq _ _ (below_at 32 (λ i. eqb (first_ones k / 2 ^ (31 - i) % 2) (pick (ltb i k) 1 0)) (below_at 33 (λ k. all_below 32 (λ i. eqb (first_ones k / 2 ^ (31 - i) % 2) (pick (ltb i k) 1 0))) bits_right k (omega arith)) i b)

of_word_most : (used j : ℕ) → of_word used j ≤ 32
unfolding of_word
of_word_most used j = go (case (leb 32 (used - 32 * j)))
  where
    go : Case (leb 32 (used - 32 * j)) → pick (leb 32 (used - 32 * j)) 32 (used - 32 * j) ≤ 32
    go (yes! t) = rw t (omega arith)
    go (no! t) = let a = false_le 32 (used - 32 * j) t in rw t (omega arith)

pick_bit : (b : Bool) → eqb (pick b 1 0) 1 ≡ b
pick_bit true = refl
pick_bit false = refl

-- Page p's bit is one where p is below the number used.
below_used : (used p : ℕ) → ltb (p % 32) (of_word used (p / 32)) ≡ ltb p used
unfolding of_word
below_used used p = go (case (leb 32 (used - 32 * (p / 32)))) (case (ltb p used))
  where
    go : Case (leb 32 (used - 32 * (p / 32))) → Case (ltb p used) → ltb (p % 32) (pick (leb 32 (used - 32 * (p / 32))) 32 (used - 32 * (p / 32))) ≡ ltb p used
    go (yes! t) (yes! u) = rw (t, u) (lt_true (p % 32) 32 (omega arith))
    go (yes! t) (no! u) = let a = true_le 32 (used - 32 * (p / 32)) t in let b = false_lt p used u in absurd (omega arith)
    go (no! t) (yes! u) = let b = true_lt p used u in rw (t, u) (lt_true (p % 32) (used - 32 * (p / 32)) (omega arith))
    go (no! t) (no! u) = let b = false_lt p used u in rw (t, u) (lt_false (p % 32) (used - 32 * (p / 32)) (omega arith))

marks_below : (u k p : ℕ) → get_or (replicate u true ++ replicate k false) p false ≡ ltb p u
marks_below zero zero p = sym (lt_false p 0 (omega arith))
marks_below zero (suc k) zero = refl
marks_below zero (suc k) (suc p) = marks_below zero k p ∙ lt_false p 0 (omega arith) ∙ sym (lt_false (suc p) 0 (omega arith))
marks_below (suc u) k zero = sym (lt_true 0 (suc u) (omega arith))
marks_below (suc u) k (suc p) = marks_below u k p ∙ sym (leb-suc-suc (suc p) u)

-- ---- the whole map

abbrev pub used_entry : (used i : ℕ) → Entry
used_entry used i = entry (used_word used (2 * i)) (used_word used (2 * i + 1))

word_of : (used j : ℕ) → j < 28 → map_word (tab 14 (used_entry used)) j ≡ used_word used j
unfolding map_word
word_of used j h = go (case (eqb (j % 2) 0)) (getD_tab 14 (j / 2) (used_entry used) no_entry (omega arith))
  where
    go : Case (eqb (j % 2) 0) → entry_at (tab 14 (used_entry used)) (j / 2) ≡ used_entry used (j / 2)
        → pick (eqb (j % 2) 0) (entry_at (tab 14 (used_entry used)) (j / 2)).key (entry_at (tab 14 (used_entry used)) (j / 2)).val ≡ used_word used j
    go (yes! t) e = let a = true_eq (j % 2) 0 t in let q : 2 * (j / 2) ≡ j = omega arith in rw t (ap (λ x. x.key) e ∙ ap (used_word used) q)
    go (no! t) e = let q : 2 * (j / 2) + 1 ≡ j = odd (λ z. clash (sym (eq_true (j % 2) 0 z) ∙ t)) in rw t (ap (λ x. x.val) e ∙ ap (used_word used) q)
      where
        odd : j % 2 ≢ 0 → 2 * (j / 2) + 1 ≡ j
        odd n = omega arith

pub typed_used : (used : ℕ) → used ≤ map_bits → typed (program_page Map 0 0 0 0 0 0 (tab 14 (used_entry used))) ≡ used_map used
unfolding typed used_entries used_marks map_mark
typed_used used h =
    ap map_page
    (tab_is map_bits (map_mark (tab 14 (used_entry used))) (used_marks_of used) false (length-append (replicate used true) (replicate (map_bits - used) false) ∙ (let a = length-replicate used true in let b = length-replicate (map_bits - used) false in omega arith))
    (λ p l. mark p l ∙ sym (marks_below used (map_bits - used) p)))
  where
    mark : (p : ℕ) → p < map_bits → map_mark (tab 14 (used_entry used)) p ≡ ltb p used
    mark p l =
        ap (λ w. eqb (w / 2 ^ (31 - p % 32) % 2) 1) (word_of used (p / 32) (omega arith)) ∙ ap (λ d. eqb d 1) (bit_at (of_word used (p / 32)) (p % 32) (of_word_most used (p / 32)) (omega arith))
        ∙ pick_bit (ltb (p % 32) (of_word used (p / 32))) ∙ below_used used p
