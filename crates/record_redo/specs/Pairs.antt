-- A record at one page: the page's number is not lower, or the page does not fit, or the change is made.
use Rattle.std.specs.Prelude.{◌≡◌, refl, ℕ, ◌<◌, ◌≤◌, Bool, true, false, List, [], set}
use Rattle.std.proofs.Math.Path.{ap}
use Rattle.std.proofs.Common.{sym, ◌∙◌, subst}
use Rattle.def_base.specs.Tests.{lt_true, lt_false}
use Rattle.def_layout.specs.Pages.{Page, at}
use Rattle.def_layout.specs.Records.{Rec}
use Rattle.def_model.specs.Change.{act}
use Rattle.def_model.specs.Fit.{fits}
use Rattle.def_model.specs.Redo.{is_lower, redo_page}
use Rattle.codec_page.specs.declared.Page as program
use Rattle.codec_page.specs.Typed.{typed}
use Rattle.law_bytes.specs.PageBytes.{Fits}
use Rattle.record_pages.specs.Pages.{Pages, Reads}
use Rattle.record_pages.specs.Records.{Keeps, redo_lower, redo_higher, left_none}
use Rattle.record_redo.specs.Outcomes.{Counted, pair}

module _ {n : ℕ} {area : List ℕ} (k p : ℕ) (r : Rec) (x : program.Page) (xs : List Page) (h : Pages n area xs []) (q : Reads x (at xs p)) where
  lsn_is : x.lsn ≡ (at xs p).lsn
  unfolding typed
  lsn_is = ap (λ (y : Page). y.lsn) q.is

  lower_is : x.lsn < k → is_lower k p xs ≡ true
  lower_is l = lt_true (at xs p).lsn k (subst (λ (i : ℕ). i < k) lsn_is l)

  fits_is : {t : Bool} → fits p r (typed x) ≡ t → fits p r (at xs p) ≡ t
  fits_is e = ap (fits p r) (sym q.is) ∙ e

  pub pair_higher : k ≤ x.lsn → Counted n area 0 (pair k r p xs)
  pair_higher l =
      let t : is_lower k p xs ≡ false = lt_false (at xs p).lsn k (subst (λ (i : ℕ). k ≤ i) lsn_is l) in
      record { fits = rw t refl; counts = rw t refl; pages = subst (Pages n area (redo_page k r p xs)) (left_none k p xs) (redo_higher k p r x xs [] h q l) }

  pub pair_misfit : x.lsn < k → fits p r (typed x) ≡ false → (pair k r p xs).fits ≡ false
  pair_misfit l e = rw (lower_is l) (fits_is e)

  pub pair_done : {area' : List ℕ} (y : program.Page) → x.lsn < k → fits p r (typed x) ≡ true → typed y ≡ act p k r (typed x)
      → (Fits (typed y) → Pages n area' (set xs p (typed y)) []) → Keeps k r → Counted n area' 1 (pair k r p xs)
  pair_done {area'} y l e a put keeps =
      record { fits = rw (lower_is l) (fits_is e); counts = rw (lower_is l) refl; pages = subst (Pages n area' (redo_page k r p xs)) (left_none k p xs) (redo_lower k p r x xs [] h q y l a put keeps) }
