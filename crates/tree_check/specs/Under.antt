-- How the pages of a level stand under the entries of the level above, page by page.
use Rattle.std.specs.Prelude.{◌≡◌, refl, ℕ, ◌<◌, ◌≤◌, Bool, true, false, ◌&&◌, List, [], ◌∷◌, leb, ltb, eqb}
use Rattle.std.proofs.Common.{sym, ◌∙◌, ⊎_elim, eq-or-lt_of_le, arith}
use Rattle.std.proofs.lemmas.Bool.{eqb-false}
use Rattle.def_base.specs.Tests.{pick, Case, yes!, no!, case, true_lt, false_lt, lt_false, le_true, le_false, true_eq, neq_false}
use Rattle.def_layout.specs.declared.Entry.{Entry}
use Rattle.def_model.specs.TreeRules.{Node, matches}

-- An entry's child may end below the entry's key; then the page after it, the indirect one, is due.

-- Whether page p, of high key h, is the one that the entries ask for next.
unfoldable pub stands : Bool → List Entry → ℕ → ℕ → Bool
stands due [] p h = false
stands true (e ∷ es) p h = eqb h e.key
stands false (e ∷ es) p h = eqb e.val p && leb h e.key

-- Whether an indirect page is due after it.
unfoldable pub due_after : List Entry → ℕ → Bool
due_after [] h = false
due_after (e ∷ es) h = ltb h e.key

-- The entries that are left after it.
unfoldable pub left_after : List Entry → ℕ → List Entry
left_after [] h = []
left_after (e ∷ es) h = pick (ltb h e.key) (e ∷ es) es

-- Nothing is due, and no entry is left.
unfoldable pub all_met : Bool → List Entry → Bool
all_met true es = false
all_met false [] = true
all_met false (e ∷ es) = false

unfoldable pub met : Bool → List Entry → List Node → Bool
met due es [] = all_met due es
met due es (n ∷ ns) = stands due es n.page n.high && met (due_after es n.high) (left_after es n.high) ns

pub and_false : (a : Bool) → a && false ≡ false
and_false true = refl
and_false false = refl

and_on : (a b : Bool) → (a && true) && b ≡ a && b
and_on true b = refl
and_on false b = refl

pub and_pass : (a b c : Bool) → (a && b) && c ≡ a && (b && c)
and_pass true b c = refl
and_pass false b c = refl

-- Up to the key, and not below it.
at_key : (h k : ℕ) → k ≤ h → leb h k ≡ eqb h k
at_key h k l = go (case (eqb h k))
  where
    go : Case (eqb h k) → leb h k ≡ eqb h k
    go (yes! t) = let q : h ≡ k = true_eq h k t in le_true h k (omega arith) ∙ sym t
    go (no! t) = let n : h ≡ k → ⊥ = eqb-false h k t in ⊎_elim (λ (q : k ≡ h). absurd (n (sym q))) (λ (w : k < h). le_false h k w ∙ sym t) (eq-or-lt_of_le l)

-- The page that is due reaches the key, and then none is due.
met_due : (e : Entry) (es : List Entry) (m : Node) (ns : List Node) → met true (e ∷ es) (m ∷ ns) ≡ eqb m.high e.key && met false es ns
unfolding met stands due_after left_after
met_due e es m ns = go (case (eqb m.high e.key))
  where
    go : Case (eqb m.high e.key) → met true (e ∷ es) (m ∷ ns) ≡ eqb m.high e.key && met false es ns
    go (yes! t) = let q : m.high ≡ e.key = true_eq m.high e.key t in rw (t, lt_false m.high e.key (omega arith))
    go (no! t) = rw t

-- THE RULE of the definition, met page by page.
pub met_matches : (es : List Entry) (ns : List Node) → met false es ns ≡ matches es ns
unfolding met matches stands due_after left_after all_met
met_matches [] [] = refl
met_matches [] (n ∷ ns) = refl
met_matches (e ∷ es) [] = refl
met_matches (e ∷ es) (n ∷ []) = go (case (ltb n.high e.key)) (met_matches es [])
  where
    go : Case (ltb n.high e.key) → met false es [] ≡ matches es [] → met false (e ∷ es) (n ∷ []) ≡ matches (e ∷ es) (n ∷ [])
    go (yes! t) again =
        let l : n.high < e.key = true_lt n.high e.key t in
        rw (t, neq_false (λ (q : n.high ≡ e.key). omega arith), and_false (eqb e.val n.page))
        (and_false (eqb e.val n.page && leb n.high e.key))
    go (no! t) again =
        let l : e.key ≤ n.high = false_lt n.high e.key t in
        rw (t, at_key n.high e.key l, again) (and_pass (eqb e.val n.page) (eqb n.high e.key) (matches es []))
met_matches (e ∷ es) (n ∷ m ∷ ns) = go (case (ltb n.high e.key)) (met_matches es ns) (met_matches es (m ∷ ns))
  where
    go : Case (ltb n.high e.key) → met false es ns ≡ matches es ns → met false es (m ∷ ns) ≡ matches es (m ∷ ns)
        → met false (e ∷ es) (n ∷ m ∷ ns) ≡ matches (e ∷ es) (n ∷ m ∷ ns)
    go (yes! t) skip again =
        let l : n.high < e.key = true_lt n.high e.key t in
        rw (t, le_true n.high e.key (omega arith), met_due e es m ns, skip) (and_on (eqb e.val n.page) (eqb m.high e.key && matches es ns))
    go (no! t) skip again =
        let l : e.key ≤ n.high = false_lt n.high e.key t in
        rw (t, at_key n.high e.key l, again) (and_pass (eqb e.val n.page) (eqb n.high e.key) (matches es (m ∷ ns)))
