-- ENTRIES IN PAGES, as a loading cuts them (02, U3): none is lost, each page has 4 to 10, and how many pages there are.
use Rattle.std.specs.Prelude.{ℕ, zero, suc, ◌+◌, ◌/◌, ◌≤◌, ◌<◌, ◌≡◌, Bool, true, false, List, [], ◌∷◌, ◌++◌, length, take, drop, leb}
use Rattle.std.proofs.Common.{ap, ◌∙◌, append-nil, arith, length-take, length-drop, take-append-drop}
use Rattle.def_base.specs.Tests.{pick, Case, yes!, no!, case, true_le, false_le}
use Rattle.def_layout.specs.declared.Entry.{Entry}
use Rattle.def_model.specs.Loading.{share, groups, group_count}

-- The groups' entries, one after another.
unfoldable pub joined : List (List Entry) → List Entry
joined [] = []
joined (g ∷ gs) = g ++ joined gs

unfoldable pub Sized : List (List Entry) → Type 0
Sized [] = Unit {0}
Sized (g ∷ gs) = (4 ≤ length g) × (length g ≤ 10) × Sized gs

-- NONE IS LOST.
pub groups_join : (f : ℕ) (es : List Entry) → joined (groups f es) ≡ es
unfolding groups joined
groups_join zero es = append-nil es
groups_join (suc f) es = go (leb (length es) share) (leb (length es) 13) (groups_join f (drop share es))
  where
    n : ℕ
    n = (length es + 1) / 2

    go : (a b : Bool) → joined (groups f (drop share es)) ≡ drop share es
        → joined (pick a (es ∷ []) (pick b (take n es ∷ drop n es ∷ []) (take share es ∷ groups f (drop share es)))) ≡ es
    go true b i = append-nil es
    go false true i = ap (take n es ++◌) (append-nil (drop n es)) ∙ take-append-drop n es
    go false false i = ap (take share es ++◌) i ∙ take-append-drop share es

-- EACH PAGE HAS 4 TO 10.
pub groups_sized : (f : ℕ) (es : List Entry) → 4 ≤ length es → length es ≤ f → Sized (groups f es)
unfolding groups Sized
groups_sized zero es a b = absurd (omega arith)
groups_sized (suc f) es a b = go (case (leb (length es) share)) (case (leb (length es) 13)) (λ h. let d = length-drop share es in groups_sized f (drop share es) (omega arith) (omega arith))
  where
    n : ℕ
    n = (length es + 1) / 2

    go : Case (leb (length es) share) → Case (leb (length es) 13) → (13 < length es → Sized (groups f (drop share es)))
        → Sized (pick (leb (length es) share) (es ∷ []) (pick (leb (length es) 13) (take n es ∷ drop n es ∷ []) (take share es ∷ groups f (drop share es))))
    go (yes! t) c i = rw t (a, true_le (length es) share t, tt)
    go (no! t) (yes! u) i =
        let x = false_le (length es) share t in
        let y = true_le (length es) 13 u in
        let h = length-take n es in
        let k = length-drop n es in
        rw (t, u) (omega arith, omega arith, (omega arith, omega arith, tt))
    go (no! t) (no! u) i =
        let y = false_le (length es) 13 u in
        let h = length-take share es in
        rw (t, u) (omega arith, omega arith, i y)

-- HOW MANY PAGES.
pub groups_count : (f : ℕ) (es : List Entry) → 0 < length es → length es ≤ f → length (groups f es) ≡ group_count (length es)
unfolding groups
groups_count zero es a b = absurd (omega arith)
groups_count (suc f) es a b = go (case (leb (length es) share)) (case (leb (length es) 13)) (λ h. let d = length-drop share es in groups_count f (drop share es) (omega arith) (omega arith))
  where
    n : ℕ
    n = (length es + 1) / 2

    go : Case (leb (length es) share) → Case (leb (length es) 13) → (13 < length es → length (groups f (drop share es)) ≡ group_count (length (drop share es)))
        → length (pick (leb (length es) share) (es ∷ []) (pick (leb (length es) 13) (take n es ∷ drop n es ∷ []) (take share es ∷ groups f (drop share es)))) ≡ group_count (length es)
    go (yes! t) c i = let x = true_le (length es) share t in rw t (omega arith)
    go (no! t) (yes! u) i =
        let x = false_le (length es) share t in
        let y = true_le (length es) 13 u in
        rw (t, u) (omega arith)
    go (no! t) (no! u) i =
        let y = false_le (length es) 13 u in
        let d = length-drop share es in
        let k = i y in
        rw (t, u) (omega arith)
