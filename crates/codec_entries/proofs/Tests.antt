-- Tests of entries by the library's words.
use Rattle.std.specs.Prelude.{◌≡◌, refl, ℕ, suc, ◌+◌, ◌<◌, ◌≤◌, Bool, true, false, not, ◌&&◌, List, [], ◌∷◌, take, drop, length, nat_eq, nat_lt}
use Rattle.std.specs.Cmp.Lexicographic.{pointwise}
use Rattle.std.specs.List.{list_all}
use Rattle.std.proofs.Common.{ap, sym, ◌∙◌, add-one, drop-cons, get_or-take, length-take-le}
use Rattle.def_layout.specs.declared.Entry.{Entry}
use Rattle.def_layout.specs.Entries.{entry_at, no_entry, ten_bits, same_entries}
use Rattle.law_bytes.specs.Tables.{tab_is}
use Rattle.law_bytes.specs.Blank.{blank}
use Rattle.law_bytes.specs.EntryBytes.{used}

pub used_front : (n : ℕ) (es : List Entry) → n ≤ length es → used n es ≡ take n es
used_front n es h = tab_is n (entry_at es) (take n es) no_entry (length-take-le n es h) (λ i q. sym (get_or-take n es i no_entry q))

and_assoc : (a b c : Bool) → ((a && b) && c) ≡ (a && (b && c))
and_assoc true b c = refl
and_assoc false b c = refl

pub pairwise : (E : Entry → Entry → Bool) → ((x y : Entry) → E x y ≡ (nat_eq x.key y.key && nat_eq x.val y.val)) → (xs ys : List Entry)
    → pointwise E xs ys ≡ same_entries xs ys
unfolding same_entries
pairwise E h [] [] = refl
pairwise E h [] (y ∷ ys) = refl
pairwise E h (x ∷ xs) [] = refl
pairwise E h (x ∷ xs) (y ∷ ys) =
    ap (λ (b : Bool). b && pointwise E xs ys) (h x y)
    ∙ ap (λ (b : Bool). (nat_eq x.key y.key && nat_eq x.val y.val) && b) (pairwise E h xs ys)
    ∙ and_assoc (nat_eq x.key y.key) (nat_eq x.val y.val) (same_entries xs ys)

pub all_ten : (es : List Entry) → list_all (λ (e : Entry). nat_lt e.val 1024) es ≡ ten_bits es
unfolding ten_bits
all_ten [] = refl
all_ten (e ∷ es) = ap (λ (b : Bool). nat_lt e.val 1024 && b) (all_ten es)

-- Entry i and those behind it.
blank_turn : (es : List Entry) (i : ℕ) → i < length es → blank (drop i es) ≡ (nat_eq (entry_at es i).key 0 && nat_eq (entry_at es i).val 0 && blank (drop (i + 1) es))
unfolding blank
blank_turn es i h =
    rw (drop-cons es i no_entry, blank, add-one i)
    (sym (and_assoc (nat_eq (entry_at es i).key 0) (nat_eq (entry_at es i).val 0) (blank (drop (suc i) es))))

module _ (es : List Entry) (i k v : ℕ) (r : Bool) (h : i < length es) (kz : k ≡ 0) (vz : v ≡ 0) (e : r ≡ not (nat_eq (entry_at es i).key k && nat_eq (entry_at es i).val v)) where
  unequal : (b : Bool) → r ≡ not b → r ≡ true → b ≡ false
  unequal true p q = sym q ∙ p
  unequal false p q = refl

  equal : (b : Bool) → r ≡ not b → r ≡ false → b ≡ true
  equal true p q = refl
  equal false p q = sym q ∙ p

  test : r ≡ not (nat_eq (entry_at es i).key 0 && nat_eq (entry_at es i).val 0)
  test = rw (kz, vz) at e

  pub blank_off : r ≡ true → blank (drop i es) ≡ false
  blank_off q = blank_turn es i h ∙ ap (λ (b : Bool). b && blank (drop (i + 1) es)) (unequal (nat_eq (entry_at es i).key 0 && nat_eq (entry_at es i).val 0) test q)

  pub blank_on : r ≡ false → blank (drop i es) ≡ blank (drop (i + 1) es)
  blank_on q = blank_turn es i h ∙ ap (λ (b : Bool). b && blank (drop (i + 1) es)) (equal (nat_eq (entry_at es i).key 0 && nat_eq (entry_at es i).val 0) test q)
