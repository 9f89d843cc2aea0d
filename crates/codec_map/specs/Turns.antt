-- Word by word over the map: how many of the first n pages are marked, and the highest of them that is not.
use Rattle.std.specs.Prelude.{◌≡◌, refl, ℕ, suc, ◌+◌, ◌-◌, ◌*◌, ◌/◌, ◌%◌, ◌^◌, ◌<◌, ◌≤◌, eqb, Bool, true, false, List, length, take, drop}
use Rattle.std.proofs.Common.{ap, ap₂, sym, ◌∙◌, subst, length-drop, take-add, get_or-drop}
use native.Mathlib.Omega.{arith}
use Rattle.std.specs.Int.Count.{count_trailing_zeros}
use Rattle.std.specs.Int.Count as digits
use Rattle.def_layout.specs.declared.Entry.{Entry}
use Rattle.def_layout.specs.Numbers.{tab}
use Rattle.def_layout.specs.Pages.{map_bits}
use Rattle.law_bytes.specs.Tables.{tab_length, getD_tab}
use Rattle.def_model.specs.TreeRules.{ones}
use Rattle.def_model.specs.Update.{highest}
use Rattle.codec_page.specs.Typed.{map_word, map_mark}
use Rattle.codec_map.specs.Words.{ones_append, ones_word, clear, LastClear, last_clear}

-- The map's 896 marks, as the typed page has them.
abbrev pub marks : List Entry → List Bool
marks es = tab map_bits (map_mark es)

module _ (es : List Entry) where
  marks_length : length (marks es) ≡ map_bits
  marks_length = tab_length map_bits (map_mark es)

  -- The marks of word j are its digits.
  mark_digit : (j k i : ℕ) → k + suc i ≡ 32 → map_mark es (32 * j + k) ≡ eqb (map_word es j / 2 ^ i % 2) 1
  unfolding map_mark
  mark_digit j k i e =
      let q : (32 * j + k) / 32 ≡ j = omega arith in
      let r : 31 - (32 * j + k) % 32 ≡ i = omega arith in
      rw (q, r)

  -- The ones of a word's first k digits are the marks of k pages from a word's first one on.
  pub ones_run : (j k x : ℕ) → j < 28 → k ≤ 32 → x ≡ map_word es j → x < 2 ^ 32 → digits.ones (x / 2 ^ (32 - k)) ≡ ones (take k (drop (32 * j) (marks es)))
  ones_run j k x h l e small =
      sym (ones_word 32 x (drop (32 * j) (marks es)) small (omega (arith, length-drop (32 * j) (marks es), marks_length))
      (λ a i q. get_or-drop (32 * j) (marks es) a false ∙ getD_tab map_bits (32 * j + a) (map_mark es) false (omega arith) ∙ mark_digit j a i q
      ∙ ap (λ (w : ℕ). eqb (w / 2 ^ i % 2) 1) (sym e))
      k (32 - k) (omega arith))

  pub ones_more : (p k s r : ℕ) → s ≡ ones (take p (marks es)) → r ≡ ones (take k (drop p (marks es))) → s + r ≡ ones (take (p + k) (marks es))
  ones_more p k s r e f = ap₂ (λ (a b : ℕ). a + b) e f ∙ sym (ap ones (take-add p k (marks es)) ∙ ones_append (take p (marks es)) (take k (drop p (marks es))))

  -- A turn of the search from above: p is the page after those looked at, k of them in the word.
  pub word_clear : (j k x : ℕ) → j < 28 → k ≤ 32 → x ≡ map_word es j → x < 2 ^ 32 → LastClear (marks es) (32 * j) k 32 (clear (32 - k) x)
  word_clear j k x h l e small =
      last_clear (marks es) (32 * j) x small
      (λ a i q. getD_tab map_bits (32 * j + a) (map_mark es) true (omega arith) ∙ mark_digit j a i q ∙ ap (λ (w : ℕ). eqb (w / 2 ^ i % 2) 1) (sym e))
      k (32 - k) 32 (omega arith) l

pub ones_start : (es : List Entry) → 0 ≡ ones (take 0 (marks es))
unfolding ones
ones_start es = refl

pub highest_none : (p : ℕ) (m : List Bool) → p ≡ 0 → highest p m ≡ 0
unfolding highest
highest_none p m e = rw e

-- The word of the last page below p: its lowest clear mark is the highest free page, or there is none in it.
module _ (es : List Entry) (p x c : ℕ) (pos : 0 < p) (top : p ≤ 896) (ex : x ≡ map_word es ((p - 1) / 32)) (small : x < 2 ^ 32)
    (ec : c ≡ clear (32 - (p - 32 * ((p - 1) / 32))) x) where
  in_word : LastClear (marks es) (32 * ((p - 1) / 32)) (p - 32 * ((p - 1) / 32)) 32 c
  in_word =
      subst (λ (y : ℕ). LastClear (marks es) (32 * ((p - 1) / 32)) (p - 32 * ((p - 1) / 32)) 32 y) (sym ec)
      (word_clear es ((p - 1) / 32) (p - 32 * ((p - 1) / 32)) x (omega arith) (omega arith) ex small)

  whole : 32 * ((p - 1) / 32) + (p - 32 * ((p - 1) / 32)) ≡ p
  whole = omega arith

  pub highest_here : (c ≡ 0 → ⊥) → highest p (marks es) + 1 + count_trailing_zeros 32 c ≡ p
  highest_here n = subst (λ (q : ℕ). highest q (marks es) + 1 + count_trailing_zeros 32 c ≡ q) whole (in_word.1 n)

  pub highest_lower : c ≡ 0 → highest p (marks es) ≡ highest (32 * ((p - 1) / 32)) (marks es)
  highest_lower z = subst (λ (q : ℕ). highest q (marks es) ≡ highest (32 * ((p - 1) / 32)) (marks es)) whole (in_word.0 z)
