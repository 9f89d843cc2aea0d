-- 01's redo count is a sum over the pages: of each page, the records whose change it lacked.
use Rattle.std.specs.Prelude.{ℕ, zero, suc, ◌+◌, ◌<◌, ◌≡◌, refl, ◌≢◌, Bool, true, false, ◌&&◌, List, [], ◌∷◌, ◌++◌, length, ltb}
use Rattle.std.proofs.Common.{sym, ap, ◌∙◌, subst, arith}
use Rattle.std.proofs.Math.Decide.{ℕ_discrete}
use Rattle.def_base.specs.Tests.{pick, Case, yes!, no!, case, true_lt, lt_false, eq_true, neq_false, and_true}
use Rattle.def_layout.specs.Pages.{Page, at}
use Rattle.def_layout.specs.Records.{Rec}
use Rattle.def_layout.specs.Rows.{names_pages}
use Rattle.def_model.specs.Change.{shape, act, hits, act_stamp}
use Rattle.def_model.specs.Redo.{when_named, places, is_lower, redo_at, redo_page, redo_record, count_places, redo_count}
use Rattle.theory_redo.specs.OnePage.{redo1, count, hit_count, count_law}
use Rattle.theory_redo.specs.Area.{member, lsn_of, length_redo_page, length_redo_record, get_redo_same, get_redo_other, member_places, get_record}
use Rattle.theory_redo.specs.Current.{page_run}

-- f 0 + f 1 up to f (n - 1).
unfoldable pub sum : ℕ → (ℕ → ℕ) → ℕ
sum zero f = 0
sum (suc n) f = sum n f + f n

-- The pages that a record changes are in an area of n pages.
unfoldable pub Inside : ℕ → List ℕ → Type 0
Inside n [] = Unit {0}
Inside n (p ∷ ps) = (p < n) × Inside n ps

unfoldable pub AllInside : ℕ → List Rec → Type 0
AllInside n [] = Unit {0}
AllInside n (r ∷ l) = Inside n (places r) × AllInside n l

-- ---- sums

pub sum_same : (n : ℕ) (f g : ℕ → ℕ) → ((p : ℕ) → p < n → f p ≡ g p) → sum n f ≡ sum n g
unfolding sum
sum_same zero f g h = refl
sum_same (suc n) f g h =
    let i = sum_same n f g (λ p l. h p (omega arith)) in
    let e = h n (omega arith) in
    omega arith

-- Two sums that differ at one place.
pub sum_change : (n q : ℕ) (f g : ℕ → ℕ) (c : ℕ) → q < n → f q ≡ c + g q → ((p : ℕ) → p < n → p ≢ q → f p ≡ g p) → sum n f ≡ c + sum n g
unfolding sum
sum_change zero q f g c l e h = absurd (omega arith)
sum_change (suc n) q f g c l e h = go (ℕ_discrete n q) (λ k. sum_change n q f g c k e (λ p j. h p (omega arith)))
  where
    go : Dec (n ≡ q) → (q < n → sum n f ≡ c + sum n g) → sum n f + f n ≡ c + (sum n g + g n)
    go (yes w) i =
        let s = sum_same n f g (λ p k. h p (omega arith) (λ z. omega arith)) in
        let e' : f n ≡ c + g n = subst (λ z. f z ≡ c + g z) (sym w) e in
        omega arith
    go (no d) i =
        let s = i (omega arith) in
        let e' = h n (omega arith) d in
        omega arith

pub sum_add : (n : ℕ) (f g : ℕ → ℕ) → sum n (λ p. f p + g p) ≡ sum n f + sum n g
unfolding sum
sum_add zero f g = refl
sum_add (suc n) f g = let i = sum_add n f g in omega arith

sum_zero : (n : ℕ) → sum n (λ p. 0) ≡ 0
unfolding sum
sum_zero zero = refl
sum_zero (suc n) = let i = sum_zero n in omega arith

-- ---- one record

-- After a record a page's number is not below the record's.
pub redo_at_number : (n : ℕ) (r : Rec) (p : ℕ) (x : Page) → ltb (redo_at n r p x).lsn n ≡ false
unfolding redo_at
redo_at_number n r p x = go (case (ltb x.lsn n))
  where
    go : Case (ltb x.lsn n) → ltb (pick (ltb x.lsn n) (act p n r x) x).lsn n ≡ false
    go (yes! e) = rw e (lt_false n n (omega arith))
    go (no! e) = rw (e, e)

abbrev lacks : ℕ → List ℕ → List Page → ℕ → ℕ
lacks n ps pages p = pick (member p ps && is_lower n p pages) 1 0

count_places_sum : (n : ℕ) (r : Rec) (ps : List ℕ) (pages : List Page) → Inside (length pages) ps
    → count_places n r ps pages ≡ sum (length pages) (lacks n ps pages)
unfolding count_places member Inside
count_places_sum n r [] pages i = sym (sum_zero (length pages))
count_places_sum n r (q ∷ qs) pages i =
    let l = length_redo_page n r q pages in
    let j : Inside (length (redo_page n r q pages)) qs = rw l i.1 in
    let h = count_places_sum n r qs (redo_page n r q pages) j in
    let k : sum (length (redo_page n r q pages)) (lacks n qs (redo_page n r q pages)) ≡ sum (length pages) (lacks n qs (redo_page n r q pages))
    = ap (λ z. sum z (lacks n qs (redo_page n r q pages))) l in
    let c = sum_change (length pages) q (lacks n (q ∷ qs) pages) (lacks n qs (redo_page n r q pages)) (pick (is_lower n q pages) 1 0) i.0 here there in
    omega arith
  where
    off : (b : Bool) → ◌≡◌ {A = ℕ} (pick (b && false) 1 0) 0
    off true = refl
    off false = refl

    here : lacks n (q ∷ qs) pages q ≡ pick (is_lower n q pages) 1 0 + lacks n qs (redo_page n r q pages) q
    here =
        let a : is_lower n q (redo_page n r q pages) ≡ false = ap (λ x. ltb x.lsn n) (get_redo_same n r q pages i.0) ∙ redo_at_number n r q (at pages q) in
        let b = off (member q qs) in
        rw (eq_true q q refl, a) (omega arith)

    there : (p : ℕ) → p < length pages → p ≢ q → lacks n (q ∷ qs) pages p ≡ lacks n qs (redo_page n r q pages) p
    there p l d = rw (neq_false d, get_redo_other n r q pages p d)

-- ---- the whole log

-- The changes that redo applies to page p.
abbrev pub page_count : ℕ → ℕ → List Rec → Page → ℕ
page_count p n log x = count lsn_of (hits p) (act p) n log x

pub redo_count_sum : (n : ℕ) (log : List Rec) (pages : List Page) → AllInside (length pages) log
    → redo_count n log pages ≡ sum (length pages) (λ p. page_count p n log (at pages p))
unfolding redo_count count AllInside
redo_count_sum n [] pages i = sym (sum_zero (length pages))
redo_count_sum n (r ∷ l) pages i =
    let e = length_redo_record n r pages in
    let h = redo_count_sum (suc n) l (redo_record n r pages) (subst (λ z. AllInside z l) (sym e) i.1) in
    let g : sum (length (redo_record n r pages)) (λ p. page_count p (suc n) l (at (redo_record n r pages) p)) ≡ sum (length pages) (λ p. page_count p (suc n) l (redo1 lsn_of (hits p) (act p) n r (at pages p)))
    = ap (λ z. sum z (λ p. page_count p (suc n) l (at (redo_record n r pages) p))) e ∙ sum_same (length pages) _ _ (λ p k. ap (page_count p (suc n) l) (get_record n r pages p k)) in
    let f : count_places n r (places r) pages ≡ sum (length pages) (λ p. pick (hits p r && ltb (at pages p).lsn n) 1 0)
    = count_places_sum n r (places r) pages i.0 ∙ sum_same (length pages) _ _ (λ p k. ap (λ b. pick (b && ltb (at pages p).lsn n) 1 0) (member_places r p)) in
    let s = sum_add (length pages) (λ p. pick (hits p r && ltb (at pages p).lsn n) 1 0) (λ p. page_count p (suc n) l (redo1 lsn_of (hits p) (act p) n r (at pages p))) in
    ap (count_places n r (places r) pages +◌) (h ∙ g) ∙ ap (◌+ sum (length pages) (λ p. page_count p (suc n) l (redo1 lsn_of (hits p) (act p) n r (at pages p)))) f ∙ sym s

-- Of a page that holds the changes of a first part of the log, the rest is counted.
pub page_count_behind : (p n : ℕ) (a b : List Rec) (x y : Page) → x.lsn < n → y ≡ page_run p n a x
    → page_count p n (a ++ b) y ≡ hit_count lsn_of (hits p) (act p) b
page_count_behind p n a b x y h e = count_law lsn_of (hits p) (act p) (act_stamp p) n a b x y h e

-- ---- where the pages are inside

inside_when : (n : ℕ) (b : Bool) (p : ℕ) (ps : List ℕ) → p < n → Inside n ps → Inside n (when_named b p ps)
unfolding when_named Inside
inside_when n true p ps h i = (h, i)
inside_when n false p ps h i = i

-- A record that names pages below n changes such pages.
pub names_inside : (n : ℕ) (r : Rec) → 0 < n → names_pages n r ≡ true → Inside n (places r)
unfolding places names_pages Inside
names_inside n r h e =
    let (a, e₁) = and_true (ltb r.pageA n) _ e in
    let (b, c) = and_true (ltb r.pageB n) _ e₁ in
    inside_when n (shape r.kind).a r.pageA _ (true_lt _ _ a)
    (inside_when n (shape r.kind).b r.pageB _ (true_lt _ _ b)
    (inside_when n (shape r.kind).c r.pageC _ (true_lt _ _ c) (inside_when n (shape r.kind).m 0 [] h tt)))
