-- Fourteen entries put together of parts: the array by the rule of its elements, and the list in use.
use Rattle.std.specs.Prelude.{◌≡◌, ℕ, ◌+◌, ◌-◌, ◌<◌, ◌≤◌, min, List, [], ◌∷◌, ◌++◌, get_or, length, take, drop, set, ltb, eqb}
use Rattle.std.proofs.Math.Path.{ap}
use Rattle.std.proofs.Common.{sym, ◌∙◌, add-one, append_assoc, length-append, length-take, length-drop, length-set, take-append-drop, get_or-take, get_or-drop, get_or-set_same, get_or-set_other, length-take-le, get_or-append-add, take_all, take-suc-set, lt-ltb, le-ltb}
use Rattle.std.proofs.Math.Decide.{dec_lt}
use native.Mathlib.Omega.{arith}
use Rattle.std.proofs.Math.ListN.{get_or-append}
use Rattle.std.proofs.lemmas.List.{take-append-le}
use Rattle.std.proofs.lemmas.Bool.{eqb-false}
use Rattle.def_base.specs.Tests.{pick, Case, yes!, no!, case, true_eq}
use Rattle.def_layout.specs.declared.Entry.{Entry}
use Rattle.def_layout.specs.Entries.{entry_at, no_entry}
use Rattle.def_layout.specs.Numbers.{tab}
use Rattle.law_bytes.specs.Tables.{tab_length, getD_tab, tab_is}
use Rattle.law_bytes.specs.EntryBytes.{used, used_in}

-- Element j of two lists of which the first has n.
abbrev pub joined : List Entry → ℕ → List Entry → ℕ → Entry
joined es n fs j = pick (ltb j n) (entry_at es j) (entry_at fs (j - n))

pub getD_joined : (l m : List Entry) (j : ℕ) → get_or (l ++ m) j no_entry ≡ joined l (length l) m j
getD_joined l m j =
    elim (dec_lt j (length l)) [
      | yes q ↦ rw (lt-ltb j (length l) q) (get_or-append l m no_entry j q)
      | no q ↦
          let s : length l + (j - length l) ≡ j = omega arith in
          rw (le-ltb j (length l) (omega arith)) (ap (λ (k : ℕ). get_or (l ++ m) k no_entry) (sym s) ∙ get_or-append-add l m (j - length l) no_entry)
    ]

-- Element j of the first i of an array and another's from k on.
abbrev pub splice : List Entry → ℕ → List Entry → ℕ → ℕ → Entry
splice es i fs k j = pick (ltb j i) (entry_at es j) (entry_at fs (k + (j - i)))

-- Fewer of the same array; one entry set.
pub used_take : (es : List Entry) (i n : ℕ) → i ≤ n → used i es ≡ take i (used n es)
used_take es i n h =
    tab_is i (entry_at es) (take i (used n es)) no_entry (length-take-le i (used n es) (omega (arith, tab_length n (entry_at es))))
    (λ j q. sym (get_or-take i (used n es) j no_entry q ∙ used_in n j es (omega arith)))

pub used_set : (es : List Entry) (n i : ℕ) (e : Entry) → i < n → n ≤ length es → used n (set es i e) ≡ set (used n es) i e
used_set es n i e h l =
    tab_is n (entry_at (set es i e)) (set (used n es) i e) no_entry (length-set (used n es) i e ∙ tab_length n (entry_at es))
    (λ j q. at j q (case (eqb j i)))
  where
    at : (j : ℕ) → j < n → Case (eqb j i) → entry_at (set es i e) j ≡ entry_at (set (used n es) i e) j
    at j q (yes! r) =
        rw (true_eq j i r) (get_or-set_same es i e no_entry (omega arith) ∙ sym (get_or-set_same (used n es) i e no_entry (omega (arith, tab_length n (entry_at es)))))
    at j q (no! r) = get_or-set_other es i j e no_entry (eqb-false j i r) ∙ sym (get_or-set_other (used n es) i j e no_entry (eqb-false j i r) ∙ used_in n j es q)

-- THE LIST IN USE: the first i, and those of m from k on.
module _ (es fs : List Entry) (i k m : ℕ) (h : k ≤ m) where
  abbrev parts : List Entry
  parts = used i es ++ drop k (used m fs)

  parts_length : length parts ≡ i + (m - k)
  parts_length = length-append (used i es) (drop k (used m fs)) ∙ omega (arith, tab_length i (entry_at es), length-drop k (used m fs), tab_length m (entry_at fs))

  parts_at : (j : ℕ) → j < i + (m - k) → entry_at parts j ≡ splice es i fs k j
  parts_at j q =
      getD_joined (used i es) (drop k (used m fs)) j
      ∙ rw (tab_length i (entry_at es))
      (elim (dec_lt j i) [
        | yes r ↦ rw (lt-ltb j i r) (used_in i j es r)
        | no r ↦ rw (le-ltb j i (omega arith)) (get_or-drop k (used m fs) (j - i) no_entry ∙ used_in m (k + (j - i)) fs (omega arith))
      ])

  pub spliced : used (min 14 (i + (m - k))) (tab 14 (splice es i fs k)) ≡ take 14 (used i es ++ drop k (used m fs))
  spliced =
      tab_is (min 14 (i + (m - k))) (entry_at (tab 14 (splice es i fs k))) (take 14 parts) no_entry (length-take 14 parts ∙ ap (λ (n : ℕ). min 14 n) parts_length)
      (λ j q. getD_tab 14 j (splice es i fs k) no_entry (omega arith) ∙ sym (get_or-take 14 parts j no_entry (omega arith) ∙ parts_at j (omega arith)))

  -- Where there is room for all.
  spliced_all : i + (m - k) ≤ 14 → used (i + (m - k)) (tab 14 (splice es i fs k)) ≡ used i es ++ drop k (used m fs)
  spliced_all room =
      let e : i + (m - k) ≡ min 14 (i + (m - k)) = omega arith in
      ap (λ (n : ℕ). used n (tab 14 (splice es i fs k))) e ∙ spliced ∙ take_all 14 parts (omega (arith, parts_length))

-- An entry put in, taken out; the upper ones; all of two arrays.
module _ (es r : List Entry) (n i : ℕ) where
  pub inserted : (e : Entry) → length es ≡ 14 → i ≤ n → i < 14 → r ≡ tab 14 (splice (set es i e) (i + 1) es i)
      → used (min 14 (n + 1)) r ≡ take 14 (take i (used n es) ++ e ∷ drop i (used n es))
  inserted e l h q s =
      let c : n + 1 ≡ i + 1 + (n - i) = omega arith in
      let front : used (i + 1) (set es i e) ≡ take i (used n es) ++ e ∷ [] =
      used_set es (i + 1) i e (omega arith) (omega arith)
      ∙ sym (take_all (i + 1) (set (used (i + 1) es) i e) (omega (arith, length-set (used (i + 1) es) i e, tab_length (i + 1) (entry_at es))))
      ∙ ap (λ (k : ℕ). take k (set (used (i + 1) es) i e)) (add-one i)
      ∙ take-suc-set (used (i + 1) es) i e (omega (arith, tab_length (i + 1) (entry_at es)))
      ∙ ap (λ (x : List Entry). x ++ e ∷ []) (sym (used_take es i (i + 1) (omega arith)) ∙ used_take es i n h) in
      ap (λ (k : ℕ). used (min 14 k) r) c
      ∙ ap (used (min 14 (i + 1 + (n - i)))) s
      ∙ spliced (set es i e) es (i + 1) i n h
      ∙ ap (take 14) (ap (λ (x : List Entry). x ++ drop i (used n es)) front ∙ append_assoc (take i (used n es)) (e ∷ []) (drop i (used n es)))

  -- The fifteenth is not kept.
  pub inserted_none : (e : Entry) → n ≤ 14 → i ≤ n → i ≡ 14 → used (min 14 (n + 1)) es ≡ take 14 (take i (used n es) ++ e ∷ drop i (used n es))
  inserted_none e room h q =
      let c : min 14 (n + 1) ≡ 14 = omega arith in
      let u : length (take i (used n es)) ≡ i = length-take-le i (used n es) (omega (arith, tab_length n (entry_at es))) in
      ap (λ (k : ℕ). used k es) (c ∙ sym q) ∙ used_take es i n h
      ∙ sym (take-append-le 14 (take i (used n es)) (e ∷ drop i (used n es)) (omega arith) ∙ take_all 14 (take i (used n es)) (omega arith))

  pub removed : n ≤ 14 → i < n → r ≡ tab 14 (splice es i es (i + 1)) → used (n - 1) r ≡ take i (used n es) ++ drop (i + 1) (used n es)
  removed room h s =
      let c : n - 1 ≡ i + (n - (i + 1)) = omega arith in
      ap (λ (k : ℕ). used k r) c ∙ ap (used (i + (n - (i + 1)))) s ∙ spliced_all es es i (i + 1) n (omega arith) (omega arith)
      ∙ ap (λ (x : List Entry). x ++ drop (i + 1) (used n es)) (used_take es i n (omega arith))

  pub moved_down : n ≤ 14 → i ≤ n → r ≡ tab 14 (splice es 0 es i) → used (n - i) r ≡ drop i (used n es)
  unfolding tab
  moved_down room h s =
      let c : n - i ≡ 0 + (n - i) = omega arith in
      ap (λ (k : ℕ). used k r) c ∙ ap (used (0 + (n - i))) s ∙ spliced_all es es 0 i n h (omega arith)

pub appended : (es fs r : List Entry) (n m : ℕ) → r ≡ tab 14 (splice es n fs 0) → used (min 14 (n + m)) r ≡ take 14 (used n es ++ used m fs)
appended es fs r n m s = let c : n + m ≡ n + (m - 0) = omega arith in ap (λ (k : ℕ). used (min 14 k) r) c ∙ ap (used (min 14 (n + (m - 0)))) s ∙ spliced es fs n 0 m (omega arith)

-- Before the first turn of the loop that fills it, the array is es.
pub splice_none : (es fs : List Entry) (i k : ℕ) → i ≤ length es → es ≡ tab i (splice es i fs k) ++ drop i es
splice_none es fs i k h =
    sym (ap (λ (x : List Entry). x ++ drop i es) (tab_is i (splice es i fs k) (take i es) no_entry (length-take-le i es h) (λ j q. rw (lt-ltb j i q) (sym (get_or-take i es j no_entry q))))
    ∙ take-append-drop i es)
