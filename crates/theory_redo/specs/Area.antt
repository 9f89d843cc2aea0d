-- Redo over the pages area, record by record as it goes, is redo of each page by itself.
use Rattle.std.specs.Prelude.{ℕ, suc, ◌+◌, ◌<◌, ◌≡◌, refl, ◌≢◌, Bool, true, false, ◌&&◌, ◌||◌, List, [], ◌∷◌, ◌++◌, length, ltb, eqb}
use Rattle.std.proofs.Common.{sym, ap, ◌∙◌, arith, suc-add, add-suc, add-zero, length-set, get_or-set_same, get_or-set_other}
use Rattle.def_base.specs.Tests.{pick, Case, yes!, no!, case, clash, lt_false, true_eq, eq_true}
use Rattle.def_layout.specs.Pages.{Page, zero_page, at}
use Rattle.def_layout.specs.Records.{Rec}
use Rattle.def_model.specs.Change.{as_a, as_b, as_c, as_map, shape, role, hit, act, hits}
use Rattle.def_model.specs.Change
use Rattle.def_model.specs.Redo.{when_named, places, redo_at, redo_page, redo_places, redo_record, replay}
use Rattle.theory_redo.specs.OnePage.{redo1, redo}

-- Page p is one of these.
unfoldable pub member : ℕ → List ℕ → Bool
member p [] = false
member p (q ∷ qs) = eqb p q || member p qs

abbrev pub lsn_of : Page → ℕ
lsn_of x = x.lsn

-- ---- lengths

pub length_redo_page : (n : ℕ) (r : Rec) (p : ℕ) (pages : List Page) → length (redo_page n r p pages) ≡ length pages
unfolding redo_page
length_redo_page n r p pages = length-set pages p (redo_at n r p (at pages p))

pub length_redo_places : (n : ℕ) (r : Rec) (ps : List ℕ) (pages : List Page) → length (redo_places n r ps pages) ≡ length pages
unfolding redo_places
length_redo_places n r [] pages = refl
length_redo_places n r (p ∷ ps) pages = length_redo_places n r ps (redo_page n r p pages) ∙ length_redo_page n r p pages

pub length_redo_record : (n : ℕ) (r : Rec) (pages : List Page) → length (redo_record n r pages) ≡ length pages
unfolding redo_record
length_redo_record n r pages = length_redo_places n r (places r) pages

pub length_replay : (n : ℕ) (l : List Rec) (pages : List Page) → length (replay n l pages) ≡ length pages
unfolding replay
length_replay n [] pages = refl
length_replay n (r ∷ l) pages = length_replay (suc n) l (redo_record n r pages) ∙ length_redo_record n r pages

-- ---- one page of the area

pub get_redo_same : (n : ℕ) (r : Rec) (p : ℕ) (pages : List Page) → p < length pages → at (redo_page n r p pages) p ≡ redo_at n r p (at pages p)
unfolding redo_page
get_redo_same n r p pages h = get_or-set_same pages p (redo_at n r p (at pages p)) zero_page h

pub get_redo_other : (n : ℕ) (r : Rec) (q : ℕ) (pages : List Page) (p : ℕ) → p ≢ q → at (redo_page n r q pages) p ≡ at pages p
unfolding redo_page
get_redo_other n r q pages p d = get_or-set_other pages q p (redo_at n r q (at pages q)) zero_page d

-- A change that is done a second time does nothing: the page has the record's number by then.
pub redo_at_twice : (n : ℕ) (r : Rec) (p : ℕ) (x : Page) → redo_at n r p (redo_at n r p x) ≡ redo_at n r p x
unfolding redo_at
redo_at_twice n r p x = go (case (ltb x.lsn n))
  where
    go : Case (ltb x.lsn n) → redo_at n r p (redo_at n r p x) ≡ redo_at n r p x
    go (no! e) = rw (e, e)
    go (yes! e) = rw (e, lt_false n n (omega arith))

pub test_neq : {p q : ℕ} → eqb p q ≡ false → p ≢ q
test_neq {p} {q} e w = clash (sym (eq_true p q w) ∙ e)

get_redo_places : (n : ℕ) (r : Rec) (ps : List ℕ) (pages : List Page) (p : ℕ) → p < length pages
    → at (redo_places n r ps pages) p ≡ pick (member p ps) (redo_at n r p (at pages p)) (at pages p)
unfolding redo_places member
get_redo_places n r [] pages p h = refl
get_redo_places n r (q ∷ qs) pages p h =
    let k : p < length (redo_page n r q pages) = rw length_redo_page h in
    get_redo_places n r qs (redo_page n r q pages) p k ∙ go (case (eqb p q))
  where
    x' : Page
    x' = at (redo_page n r q pages) p

    same : (b : Bool) → pick b (redo_at n r p (redo_at n r p (at pages p))) (redo_at n r p (at pages p)) ≡ redo_at n r p (at pages p)
    same true = redo_at_twice n r p (at pages p)
    same false = refl

    go : Case (eqb p q) → pick (member p qs) (redo_at n r p x') x' ≡ pick (eqb p q || member p qs) (redo_at n r p (at pages p)) (at pages p)
    go (yes! e) =
        let z : p ≡ q = true_eq p q e in
        let w : x' ≡ redo_at n r p (at pages p) = ap (λ u. at (redo_page n r u pages) p) (sym z) ∙ get_redo_same n r p pages h in
        rw (e, w) (same (member p qs))
    go (no! e) = rw (e, get_redo_other n r q pages p (test_neq e))

-- ---- the places of a record are the pages that it hits

member_when : (b : Bool) (p q : ℕ) (qs : List ℕ) → member p (when_named b q qs) ≡ (b && eqb p q) || member p qs
unfolding when_named member
member_when true p q qs = refl
member_when false p q qs = refl

pub member_places : (r : Rec) (p : ℕ) → member p (places r) ≡ hits p r
unfolding places role member
member_places r p =
    rw (
      member_when (shape r.kind).a p r.pageA,
      member_when (shape r.kind).b p r.pageB,
      member_when (shape r.kind).c p r.pageC,
      member_when (shape r.kind).m p 0,
    )
    (by_tests ((shape r.kind).a && eqb p r.pageA) ((shape r.kind).b && eqb p r.pageB) ((shape r.kind).c && eqb p r.pageC) ((shape r.kind).m && eqb p 0))
  where
    by_tests : (a b c m : Bool) → a || (b || (c || (m || member p []))) ≡ hit (pick a as_a (pick b as_b (pick c as_c (pick m as_map Change.none))))
    by_tests true b c m = refl
    by_tests false true c m = refl
    by_tests false false true m = refl
    by_tests false false false true = refl
    by_tests false false false false = refl

-- ---- one record, and all of them

pub get_record : (n : ℕ) (r : Rec) (pages : List Page) (p : ℕ) → p < length pages
    → at (redo_record n r pages) p ≡ redo1 lsn_of (hits p) (act p) n r (at pages p)
unfolding redo_record redo1 redo_at
get_record n r pages p h = get_redo_places n r (places r) pages p h ∙ rw member_places (go (hits p r) (at pages p))
  where
    go : (b : Bool) (x : Page) → pick b (redo_at n r p x) x ≡ pick (b && ltb x.lsn n) (act p n r x) x
    go true x = refl
    go false x = refl

pub get_replay : (n : ℕ) (l : List Rec) (pages : List Page) (p : ℕ) → p < length pages
    → at (replay n l pages) p ≡ redo lsn_of (hits p) (act p) n l (at pages p)
unfolding replay redo
get_replay n [] pages p h = refl
get_replay n (r ∷ l) pages p h =
    let k : p < length (redo_record n r pages) = rw length_redo_record h in
    get_replay (suc n) l (redo_record n r pages) p k ∙ ap (redo lsn_of (hits p) (act p) (suc n) l) (get_record n r pages p h)

pub replay_append : (n : ℕ) (a b : List Rec) (pages : List Page) → replay n (a ++ b) pages ≡ replay (n + length a) b (replay n a pages)
unfolding replay
replay_append n [] b pages = ap (λ z. replay z b pages) (sym (add-zero n))
replay_append n (r ∷ a) b pages = replay_append (suc n) a b (redo_record n r pages) ∙ ap (λ z. replay z b (replay (suc n) a (redo_record n r pages))) (suc-add n (length a) ∙ sym (add-suc n (length a)))
