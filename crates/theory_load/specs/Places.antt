-- WHERE THE GROUPS OF A LEVEL BEGIN AND END, by their number: so a page of a loading is known without those before it.
use Rattle.std.specs.Prelude.{ℕ, zero, suc, ◌+◌, ◌-◌, ◌*◌, ◌/◌, ◌≤◌, ◌<◌, ◌≡◌, refl, List, [], ◌∷◌, length, get_or, take, drop, leb, eqb}
use Rattle.std.proofs.Common.{sym, ap, ap₂, ◌∙◌, arith, length-drop, take_all, drop-drop}
use Rattle.std.proofs.Math.Decide.{dec_lt}
use Rattle.def_base.specs.Tests.{pick, Case, yes!, no!, case, true_le, le_true, le_false, false_le, eq_true, neq_false}
use Rattle.def_layout.specs.declared.Entry.{Entry}
use Rattle.def_model.specs.Loading.{share, groups, group_count}

-- How many of n entries the next page takes.
abbrev pub share_of : ℕ → ℕ
share_of n = pick (leb n share) n (pick (leb n 13) ((n + 1) / 2) share)

pub share_all : (n : ℕ) → n ≤ share → n ≡ share_of n
share_all n h = rw (le_true n share h)

pub share_half : (n : ℕ) → share < n → n ≤ 13 → (n + 1) / 2 ≡ share_of n
share_half n h l = rw (le_false n share h, le_true n 13 l)

pub share_full : (n : ℕ) → 13 < n → share ≡ share_of n
share_full n h = rw (le_false n share (omega arith), le_false n 13 h)

pub share_same : (a b : ℕ) → a ≡ b → share_of a ≡ share_of b
share_same a b e = ap share_of e

pub share_fits : (n : ℕ) → share_of n ≤ n
share_fits n = go (case (leb n share)) (case (leb n 13))
  where
    go : Case (leb n share) → Case (leb n 13) → share_of n ≤ n
    go (yes! t) c = rw t (omega arith)
    go (no! t) (yes! u) = let a = false_le n share t in rw (t, u) (omega arith)
    go (no! t) (no! u) = let a = false_le n share t in rw (t, u) (omega arith)

pub share_some : (n : ℕ) → 0 < n → (0 < share_of n) × (share_of n ≤ share)
share_some n h = go (case (leb n share)) (case (leb n 13))
  where
    go : Case (leb n share) → Case (leb n 13) → (0 < share_of n) × (share_of n ≤ share)
    go (yes! t) c = let a = true_le n share t in rw t (h, omega arith)
    go (no! t) (yes! u) = let a = true_le n 13 u in rw (t, u) (omega arith, omega arith)
    go (no! t) (no! u) = rw (t, u) (omega arith, omega arith)

-- So many of n entries are taken after page j, and before it.
unfoldable pub group_end : ℕ → ℕ → ℕ
group_end n j = pick (eqb (suc j) (group_count n)) n (10 * j + share_of (n - 10 * j))

unfoldable pub group_start : ℕ → ℕ → ℕ
group_start n zero = 0
group_start n (suc j) = group_end n j

pub start_none : (n j : ℕ) → j ≡ 0 → 0 ≡ group_start n j
unfolding group_start
start_none n j e = rw e refl

pub start_some : (n j : ℕ) → 0 < j → group_end n (j - 1) ≡ group_start n j
unfolding group_start
start_some n zero h = absurd (omega arith)
start_some n (suc j) h = let e : suc j - 1 ≡ j = omega arith in ap (group_end n) e

pub end_last : (n j : ℕ) → suc j ≡ group_count n → group_end n j ≡ n
unfolding group_end
end_last n j e = rw (eq_true (suc j) (group_count n) e) refl

pub end_within : (n j : ℕ) → suc j < group_count n → group_end n j ≡ 10 * j + share_of (n - 10 * j)
unfolding group_end
end_within n j h = rw (neq_false {a = suc j} {b = group_count n} (λ e. omega arith)) refl

-- The rest, once a full page is taken.
end_next : (n j : ℕ) → 13 < n → j < group_count (n - 10) → group_end n (suc j) ≡ 10 + group_end (n - 10) j
end_next n j h l = go (dec_lt (suc j) (group_count (n - 10)))
  where
    go : Dec (suc j < group_count (n - 10)) → group_end n (suc j) ≡ 10 + group_end (n - 10) j
    go (yes m) =
        let a = end_within n (suc j) (omega arith) in
        let b = end_within (n - 10) j m in
        let c = share_same (n - 10 * suc j) (n - 10 - 10 * j) (omega arith) in
        omega arith
    go (no m) = let a = end_last n (suc j) (omega arith) in let b = end_last (n - 10) j (omega arith) in omega arith

start_next : (n j : ℕ) → 13 < n → j < group_count (n - 10) → group_start n (suc j) ≡ 10 + group_start (n - 10) j
unfolding group_start
start_next n zero h l = let a = end_within n 0 (omega arith) in let b = share_full n h in let c = share_same (n - 10 * 0) n (omega arith) in omega arith
start_next n (suc j) h l = end_next n j h (omega arith)

-- Each page takes some, and none past the last.
pub end_fits : (n j : ℕ) → j < group_count n → (group_start n j < group_end n j) × (group_end n j ≤ n) × (group_end n j ≤ group_start n j + 10)
unfolding group_start
end_fits n zero h = go (dec_lt 1 (group_count n))
  where
    go : Dec (1 < group_count n) → (0 < group_end n 0) × (group_end n 0 ≤ n) × (group_end n 0 ≤ 0 + 10)
    go (yes m) =
        let a = end_within n 0 m in
        let c = share_same (n - 10 * 0) n (omega arith) in
        let (s, t) = share_some n (omega arith) in
        let f = share_fits n in
        (omega arith, omega arith, omega arith)
    go (no m) = let a = end_last n 0 (omega arith) in (omega arith, omega arith, omega arith)
end_fits n (suc j) h = go (dec_lt (suc (suc j)) (group_count n))
  where
    before : group_end n j ≡ 10 * j + share_of (n - 10 * j)
    before = end_within n j h

    go : Dec (suc (suc j) < group_count n) → (group_end n j < group_end n (suc j)) × (group_end n (suc j) ≤ n) × (group_end n (suc j) ≤ group_end n j + 10)
    go (yes m) =
        let a = end_within n (suc j) m in
        let b = before in
        let c = share_full (n - 10 * j) (omega arith) in
        let (s, t) = share_some (n - 10 * suc j) (omega arith) in
        let f = share_fits (n - 10 * suc j) in
        (omega arith, omega arith, omega arith)
    go (no m) = last (dec_lt 13 (n - 10 * j))
      where
        last : Dec (13 < n - 10 * j) → (group_end n j < group_end n (suc j)) × (group_end n (suc j) ≤ n) × (group_end n (suc j) ≤ group_end n j + 10)
        last (yes w) = let a = end_last n (suc j) (omega arith) in let b = before in let c = share_full (n - 10 * j) w in (omega arith, omega arith, omega arith)
        last (no w) = let a = end_last n (suc j) (omega arith) in let b = before in let c = share_half (n - 10 * j) (omega arith) (omega arith) in (omega arith, omega arith, omega arith)

-- ---- the groups themselves

groups_one : (f : ℕ) (es : List Entry) → length es ≤ share → groups f es ≡ es ∷ []
unfolding groups
groups_one zero es h = refl
groups_one (suc f) es h = rw (le_true (length es) share h) refl

groups_more : (f : ℕ) (es : List Entry) → share < length es → groups (suc f) es ≡ take (share_of (length es)) es ∷ groups f (drop (share_of (length es)) es)
unfolding groups
groups_more f es h = go (case (leb (length es) 13))
  where
    n : ℕ
    n = (length es + 1) / 2

    go : Case (leb (length es) 13)
        → pick (leb (length es) share) (es ∷ []) (pick (leb (length es) 13) (take n es ∷ drop n es ∷ []) (take share es ∷ groups f (drop share es))) ≡ take (share_of (length es)) es ∷ groups f (drop (share_of (length es)) es)
    go (yes! u) = let d = length-drop n es in let l = true_le (length es) 13 u in rw (le_false (length es) share h, u) (ap (take n es ∷◌) (sym (groups_one f (drop n es) (omega arith))))
    go (no! u) = rw (le_false (length es) share h, u) refl

-- GROUP j holds the entries between its two ends.
abbrev pub group_of : List Entry → ℕ → List Entry
group_of es j = take (group_end (length es) j - group_start (length es) j) (drop (group_start (length es) j) es)

first_of : (es : List Entry) (k : ℕ) → group_end (length es) 0 ≡ k → take k es ≡ group_of es 0
unfolding group_start
first_of es k e = let z : k ≡ k - 0 = omega arith in rw e (ap (λ q. take q es) z)

second_of : (es : List Entry) → group_end (length es) 1 ≡ length es → group_end (length es) 0 ≡ share_of (length es) → drop (share_of (length es)) es ≡ group_of es 1
unfolding group_start
second_of es u v = let e = length-drop (share_of (length es)) es in rw (u, v) (sym (take_all (length es - share_of (length es)) (drop (share_of (length es)) es) (omega arith)))

pub nth_group : (f : ℕ) (es : List Entry) (j : ℕ) → 0 < length es → length es ≤ f → j < group_count (length es) → get_or (groups f es) j [] ≡ group_of es j
nth_group zero es j a b h = absurd (omega arith)
nth_group (suc f) es j a b h = go (dec_lt share (length es)) j h (nth_group f (drop (share_of (length es)) es))
  where
    Rest : Type 0
    Rest = (k : ℕ) → 0 < length (drop (share_of (length es)) es) → length (drop (share_of (length es)) es) ≤ f → k < group_count (length (drop (share_of (length es)) es))
        → get_or (groups f (drop (share_of (length es)) es)) k [] ≡ group_of (drop (share_of (length es)) es) k

    rest : List Entry
    rest = drop (share_of (length es)) es

    left : length rest ≡ length es - share_of (length es)
    left = length-drop (share_of (length es)) es

    more : (k : ℕ) → Rest → share < length es → suc k < group_count (length es) → get_or (groups f rest) k [] ≡ group_of es (suc k)
    more k again m l = ends (dec_lt 13 (length es))
      where
        ends : Dec (13 < length es) → get_or (groups f rest) k [] ≡ group_of es (suc k)
        ends (yes w) =
            let c = share_full (length es) w in
            let e = left in
            let n : length rest ≡ length es - 10 = omega arith in
            let i = again k (omega arith) (omega arith) (omega arith) in
            let u : group_end (length es) (suc k) ≡ 10 + group_end (length rest) k = end_next (length es) k w (omega arith) ∙ ap (λ q. 10 + group_end q k) (sym n) in
            let v : group_start (length es) (suc k) ≡ 10 + group_start (length rest) k = start_next (length es) k w (omega arith) ∙ ap (λ q. 10 + group_start q k) (sym n) in
            let at : share_of (length es) + group_start (length rest) k ≡ group_start (length es) (suc k) = omega arith in
            let dd : drop (group_start (length rest) k) rest ≡ drop (group_start (length es) (suc k)) es = drop-drop (group_start (length rest) k) (share_of (length es)) es ∙ ap (λ q. drop q es) at in
            let size : group_end (length rest) k - group_start (length rest) k ≡ group_end (length es) (suc k) - group_start (length es) (suc k) = omega arith in
            i ∙ ap₂ take size dd
        ends (no w) =
            let c = share_half (length es) m (omega arith) in
            let e = left in
            let z : k ≡ 0 = omega arith in
            let u : group_end (length es) 1 ≡ length es = end_last (length es) 1 (omega arith) in
            let v = end_within (length es) 0 (omega arith) in
            let q = share_same (length es - 10 * 0) (length es) (omega arith) in
            rw z (ap (λ gs. get_or gs 0 []) (groups_one f rest (omega arith)) ∙ second_of es u (omega arith))

    go : Dec (share < length es) → (k : ℕ) → k < group_count (length es) → Rest → get_or (groups (suc f) es) k [] ≡ group_of es k
    go (yes m) zero l again =
        let v = end_within (length es) 0 (omega arith) in
        let q = share_same (length es - 10 * 0) (length es) (omega arith) in
        ap (λ gs. get_or gs 0 []) (groups_more f es m) ∙ first_of es (share_of (length es)) (omega arith)
    go (yes m) (suc k) l again = ap (λ gs. get_or gs (suc k) []) (groups_more f es m) ∙ more k again m l
    go (no m) k l again =
        let z : k ≡ 0 = omega arith in
        let v = end_last (length es) 0 (omega arith) in
        rw z (ap (λ gs. get_or gs 0 []) (groups_one (suc f) es (omega arith)) ∙ (sym (take_all (length es) es (omega arith)) ∙ first_of es (length es) v))
