-- What redo comes to: whether every change that it reaches fits, how many page changes it applies, and the pages after it. Of a page, of a
-- record at its places, of a log.
use Rattle.std.specs.Prelude.{◌≡◌, refl, ℕ, ◌+◌, Bool, true, false, ◌&&◌, List, [], Option, MatchOption}
use Rattle.std.proofs.Common.{ap, ap₂, sym, ◌∙◌, subst, arith, zero-add}
use Rattle.def_base.specs.Tests.{pick}
use Rattle.def_layout.specs.Pages.{Page, at}
use Rattle.def_layout.specs.Records.{Rec}
use Rattle.def_model.specs.Change.{Shape, shape}
use Rattle.def_model.specs.Fit.{fits}
use Rattle.def_model.specs.Redo.{when_named, places, is_lower, redo_page, redo_places, replay, count_places, redo_count, fits_places, redo_fits}
use Rattle.record_pages.specs.Pages.{Pages}

pub record Outcome : Type 0 where
  pub fits : Bool
  pub count : ℕ
  pub pages : List Page

-- Record r, number k, at page p.
abbrev pub pair : ℕ → Rec → ℕ → List Page → Outcome
pair k r p xs =
    record { fits = pick (is_lower k p xs) (fits p r (at xs p)) true; count = pick (is_lower k p xs) 1 0; pages = redo_page k r p xs }

abbrev pub in_places : ℕ → Rec → List ℕ → List Page → Outcome
in_places k r ps xs = record { fits = fits_places k r ps xs; count = count_places k r ps xs; pages = redo_places k r ps xs }

abbrev pub one_record : ℕ → Rec → List Page → Outcome
one_record k r xs = in_places k r (places r) xs

-- The records l, from number k on.
abbrev pub whole : ℕ → List Rec → List Page → Outcome
whole k l xs = record { fits = redo_fits k l xs; count = redo_count k l xs; pages = replay k l xs }

-- The program's count of the changes that it applied says so, and every change fits.
pub record Counted (n : ℕ) (area : List ℕ) (count : ℕ) (o : Outcome) : Type 0 where
  pub fits : o.fits ≡ true
  pub counts : count ≡ o.count
  pub pages : Pages n area o.pages []

-- The program's answer: a count, or none where a change does not fit.
abbrev pub Answers : ℕ → List ℕ → Option ℕ → Outcome → Type 0
Answers n area d o = MatchOption d (o.fits ≡ false) (λ count. Counted n area count o)

-- ---- one after the other

abbrev pub followed : Outcome → Outcome → Outcome
followed a b = record { fits = a.fits && b.fits; count = a.count + b.count; pages = b.pages }

-- Nothing is to be done.
abbrev pub nothing : List Page → Outcome
nothing xs = record { fits = true; count = 0; pages = xs }

pub followed_assoc : (a b c : Outcome) → followed a (followed b c) ≡ followed (followed a b) c
followed_assoc a b c =
    let z : a.count + (b.count + c.count) ≡ a.count + b.count + c.count = omega arith in
    ap₂ (λ (f : Bool) (n : ℕ). record { fits = f; count = n; pages = c.pages }) (all a.fits) z
  where
    all : (f : Bool) → f && (b.fits && c.fits) ≡ (f && b.fits) && c.fits
    all true = refl
    all false = refl

pub followed_nothing : (a : Outcome) → followed a (nothing a.pages) ≡ a
followed_nothing a =
    let z : a.count + 0 ≡ a.count = omega arith in
    ap₂ (λ (f : Bool) (n : ℕ). record { fits = f; count = n; pages = a.pages }) (all a.fits) z
  where
    all : (f : Bool) → f && true ≡ f
    all true = refl
    all false = refl

pub nothing_followed : (xs : List Page) (a : Outcome) → followed (nothing xs) a ≡ a
nothing_followed xs a = ap (λ (n : ℕ). record { fits = a.fits; count = n; pages = a.pages }) (zero-add a.count)

-- The program's count of that.
pub none_count : {n : ℕ} {area : List ℕ} (xs : List Page) → Pages n area xs [] → Counted n area 0 (nothing xs)
none_count xs h = record { fits = refl; counts = refl; pages = h }

-- ---- the program's answer after what was done so far

pub was_misfit : (o a : Outcome) → o.fits ≡ false → (followed o a).fits ≡ false
was_misfit o a e = ap (λ (f : Bool). f && a.fits) e

module _ {n : ℕ} {area : List ℕ} {i : ℕ} {o : Outcome} (h : Counted n area i o) where
  pub is_misfit : (a : Outcome) → a.fits ≡ false → (followed o a).fits ≡ false
  is_misfit a e = ap₂ (λ (f g : Bool). f && g) h.fits e

  pub both_count : {area' : List ℕ} {j : ℕ} {a : Outcome} → Counted n area' j a → Counted n area' (i + j) (followed o a)
  both_count k = record { fits = ap₂ (λ (f g : Bool). f && g) h.fits k.fits; counts = ap₂ (λ (x y : ℕ). x + y) h.counts k.counts; pages = k.pages }

-- ---- a record's four parts

abbrev pub part : Bool → ℕ → Rec → ℕ → List Page → Outcome
part b k r p xs = pick b (pair k r p xs) (nothing xs)

-- One part, and the places behind it.
part_first : (b : Bool) (k p : ℕ) (r : Rec) (ps : List ℕ) (xs : List Page)
    → in_places k r (when_named b p ps) xs ≡ followed (part b k r p xs) (in_places k r ps (part b k r p xs).pages)
unfolding when_named redo_places count_places fits_places
part_first true k p r ps xs = refl
part_first false k p r ps xs = sym (nothing_followed xs (in_places k r ps xs))

abbrev pub with_part : Bool → ℕ → Rec → ℕ → Outcome → Outcome
with_part b k r p o = followed o (part b k r p o.pages)

next_part : (b : Bool) (k p : ℕ) (r : Rec) (ps : List ℕ) (o : Outcome)
    → followed o (in_places k r (when_named b p ps) o.pages) ≡ followed (with_part b k r p o) (in_places k r ps (part b k r p o.pages).pages)
next_part b k p r ps o =
    ap (followed o) (part_first b k p r ps o.pages) ∙ followed_assoc o (part b k r p o.pages) (in_places k r ps (part b k r p o.pages).pages)

-- The four parts in order, by which of them the record's kind has.
module _ (k : ℕ) (r : Rec) (s : Shape) (xs : List Page) (e : s ≡ shape r.kind) where
  abbrev with_a : Outcome
  with_a = part s.a k r r.pageA xs

  abbrev with_b : Outcome
  with_b = with_part s.b k r r.pageB with_a

  abbrev with_c : Outcome
  with_c = with_part s.c k r r.pageC with_b

  abbrev with_map : Outcome
  with_map = with_part s.m k r 0 with_c

  four_parts : with_map ≡ one_record k r xs
  unfolding places redo_places count_places fits_places
  four_parts =
      let p4 = when_named s.m 0 [] in
      let p3 = when_named s.c r.pageC p4 in
      let p2 = when_named s.b r.pageB p3 in
      sym (rw (← e)
      (part_first s.a k r.pageA r p2 xs
      ∙ next_part s.b k r.pageB r p3 with_a
      ∙ next_part s.c k r.pageC r p4 with_b
      ∙ next_part s.m k 0 r [] with_c
      ∙ followed_nothing with_map))

  pub all_fit : {n : ℕ} {area : List ℕ} {i : ℕ} → Counted n area i with_map → Counted n area i (one_record k r xs)
  all_fit {n} {area} {i} h = subst (Counted n area i) four_parts h

  whole_misfit : with_map.fits ≡ false → (one_record k r xs).fits ≡ false
  whole_misfit = subst (λ (o : Outcome). o.fits ≡ false) four_parts

  -- What the four come to where one of them does not fit.
  after_a : with_a.fits ≡ false → with_b.fits ≡ false
  after_a f = was_misfit with_a (part s.b k r r.pageB with_a.pages) f

  after_b : with_b.fits ≡ false → with_c.fits ≡ false
  after_b f = was_misfit with_b (part s.c k r r.pageC with_b.pages) f

  after_c : with_c.fits ≡ false → (one_record k r xs).fits ≡ false
  after_c f = whole_misfit (was_misfit with_c (part s.m k r 0 with_c.pages) f)

  pub misfit_a : with_a.fits ≡ false → (one_record k r xs).fits ≡ false
  misfit_a f = after_c (after_b (after_a f))

  module _ {n : ℕ} {area : List ℕ} {i : ℕ} where
    pub misfit_b : Counted n area i with_a → (part s.b k r r.pageB with_a.pages).fits ≡ false → (one_record k r xs).fits ≡ false
    misfit_b h f = after_c (after_b (is_misfit h (part s.b k r r.pageB with_a.pages) f))

    pub misfit_c : Counted n area i with_b → (part s.c k r r.pageC with_b.pages).fits ≡ false → (one_record k r xs).fits ≡ false
    misfit_c h f = after_c (is_misfit h (part s.c k r r.pageC with_b.pages) f)

    pub misfit_map : Counted n area i with_c → (part s.m k r 0 with_c.pages).fits ≡ false → (one_record k r xs).fits ≡ false
    misfit_map h f = whole_misfit (is_misfit h (part s.m k r 0 with_c.pages) f)
