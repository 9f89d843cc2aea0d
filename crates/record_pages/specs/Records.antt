-- A record at the pages that it names, one after the other.
use Rattle.std.specs.Prelude.{◌≡◌, refl, ℕ, ◌<◌, ◌≤◌, Bool, List, []}
use Rattle.std.proofs.Math.Path.{ap, sym, subst, subst₂}
use Rattle.std.proofs.Common.{◌∙◌}
use Rattle.std.proofs.Math.Bool.{true, false}
use Rattle.std.proofs.Math.ListN.{set}
use Rattle.std.proofs.lemmas.List.{set-get_or}
use Rattle.std.proofs.Math.Dec.{ltb}
use Rattle.def_base.specs.Tests.{pick, lt_true, lt_false}
use Rattle.def_layout.specs.Pages.{Page, zero_page, at}
use Rattle.def_layout.specs.Records.{Rec}
use Rattle.def_model.specs.Change.{Shape, shape, act}
use Rattle.def_model.specs.Redo.{when_named, places, redo_at, redo_page, redo_places, redo_record, redo_left, redo_lefts}
use Rattle.codec_page.specs.declared.Page as program
use Rattle.codec_page.specs.Typed.{typed}
use Rattle.law_bytes.specs.PageBytes.{Fits}
use Rattle.law_areas.specs.Pages.{fits_past}
use Rattle.record_pages.specs.Pages.{Pages, Reads}

-- Record r, number k, leaves every page within its fields' widths.
abbrev pub Keeps : ℕ → Rec → Type 0
Keeps k r = (p : ℕ) (x : Page) → Fits x → Fits (act p k r x)

module _ {n : ℕ} {area : List ℕ} (k p : ℕ) (r : Rec) (x : program.Page) (xs : List Page) (ls : List ℕ) (h : Pages n area xs ls) (q : Reads x (at xs p)) where
  lsn_is : x.lsn ≡ (at xs p).lsn
  unfolding typed
  lsn_is = ap (λ (y : Page). y.lsn) q.is

  -- A page whose number is lower gets the change.
  pub redo_lower : {area' : List ℕ} (y : program.Page) → x.lsn < k → typed y ≡ act p k r (typed x) → (Fits (typed y) → Pages n area' (set xs p (typed y)) (set ls p 0)) → Keeps k r
      → Pages n area' (redo_page k r p xs) (redo_left k p xs ls)
  unfolding redo_page redo_at redo_left
  redo_lower {area'} y l e put keeps =
      let t : ltb (at xs p).lsn k ≡ true = lt_true (at xs p).lsn k (subst (λ (i : ℕ). i < k) lsn_is l) in
      let c : redo_page k r p xs ≡ set xs p (act p k r (at xs p)) = rw t in
      let f : Fits (typed y) = subst Fits (sym (e ∙ ap (act p k r) q.is)) (keeps p (at xs p) (fits_past xs h.fits p)) in
      let d : redo_left k p xs ls ≡ set ls p 0 = rw t in
      subst₂ (Pages n area') (ap (set xs p) (e ∙ ap (act p k r) q.is) ∙ sym c) (sym d) (put f)

  -- Any other stays.
  pub redo_higher : k ≤ x.lsn → Pages n area (redo_page k r p xs) (redo_left k p xs ls)
  unfolding redo_page redo_at redo_left
  redo_higher l =
      let t : ltb (at xs p).lsn k ≡ false = lt_false (at xs p).lsn k (subst (λ (i : ℕ). k ≤ i) lsn_is l) in
      let c : redo_page k r p xs ≡ set xs p (at xs p) = rw t in
      let d : redo_left k p xs ls ≡ ls = rw t in
      subst₂ (Pages n area) (sym (set-get_or xs p zero_page) ∙ sym c) (sym d) h

-- Where there are no links there are none afterwards.
pub left_none : (k p : ℕ) (xs : List Page) → redo_left k p xs [] ≡ []
unfolding redo_left
left_none k p xs = go (ltb (at xs p).lsn k)
  where
    go : (b : Bool) → ◌≡◌ {A = List ℕ} (pick b [] []) []
    go true = refl
    go false = refl

-- ---- the four parts

places_step : (b : Bool) (k p : ℕ) (r : Rec) (ps : List ℕ) (xs : List Page) → redo_places k r (when_named b p ps) xs ≡ redo_places k r ps (pick b (redo_page k r p xs) xs)
unfolding when_named redo_places
places_step true k p r ps xs = refl
places_step false k p r ps xs = refl

abbrev pub when_part : Bool → ℕ → Rec → ℕ → List Page → List Page
when_part b k r p xs = pick b (redo_page k r p xs) xs

pub record_parts : (k : ℕ) (r : Rec) (s : Shape) (xs : List Page) → s ≡ shape r.kind
    → when_part s.m k r 0 (when_part s.c k r r.pageC (when_part s.b k r r.pageB (when_part s.a k r r.pageA xs))) ≡ redo_record k r xs
unfolding redo_record places redo_places
record_parts k r s xs e =
    let p4 = when_named s.m 0 [] in
    let p3 = when_named s.c r.pageC p4 in
    let p2 = when_named s.b r.pageB p3 in
    let x1 = when_part s.a k r r.pageA xs in
    let x2 = when_part s.b k r r.pageB x1 in
    let x3 = when_part s.c k r r.pageC x2 in
    sym (rw (← e) (places_step s.a k r.pageA r p2 xs ∙ places_step s.b k r.pageB r p3 x1 ∙ places_step s.c k r.pageC r p4 x2 ∙ places_step s.m k 0 r [] x3))

-- Their left links.
lefts_step : (b : Bool) (k p : ℕ) (r : Rec) (ps : List ℕ) (xs : List Page) (ls : List ℕ)
    → redo_lefts k r (when_named b p ps) xs ls ≡ redo_lefts k r ps (pick b (redo_page k r p xs) xs) (pick b (redo_left k p xs ls) ls)
unfolding when_named redo_lefts
lefts_step true k p r ps xs ls = refl
lefts_step false k p r ps xs ls = refl

abbrev pub when_left : Bool → ℕ → ℕ → List Page → List ℕ → List ℕ
when_left b k p xs ls = pick b (redo_left k p xs ls) ls

pub record_lefts : (k : ℕ) (r : Rec) (s : Shape) (xs : List Page) (ls : List ℕ) → s ≡ shape r.kind
    → when_left s.m k 0 (when_part s.c k r r.pageC (when_part s.b k r r.pageB (when_part s.a k r r.pageA xs)))
    (when_left s.c k r.pageC (when_part s.b k r r.pageB (when_part s.a k r r.pageA xs)) (when_left s.b k r.pageB (when_part s.a k r r.pageA xs) (when_left s.a k r.pageA xs ls)))
    ≡ redo_lefts k r (places r) xs ls
unfolding places redo_lefts
record_lefts k r s xs ls e =
    let p4 = when_named s.m 0 [] in
    let p3 = when_named s.c r.pageC p4 in
    let p2 = when_named s.b r.pageB p3 in
    let x1 = when_part s.a k r r.pageA xs in
    let x2 = when_part s.b k r r.pageB x1 in
    let x3 = when_part s.c k r r.pageC x2 in
    let l1 = when_left s.a k r.pageA xs ls in
    let l2 = when_left s.b k r.pageB x1 l1 in
    let l3 = when_left s.c k r.pageC x2 l2 in
    sym (rw (← e) (lefts_step s.a k r.pageA r p2 xs ls ∙ lefts_step s.b k r.pageB r p3 x1 l1 ∙ lefts_step s.c k r.pageC r p4 x2 l2 ∙ lefts_step s.m k 0 r [] x3 l3))
