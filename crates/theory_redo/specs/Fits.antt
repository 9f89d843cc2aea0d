-- Redo of an area meets no page that a change does not fit (refusal 5), where each page's own records fitted it when they were written.
use Rattle.std.specs.Prelude.{ℕ, suc, ◌+◌, ◌<◌, ◌≡◌, refl, Bool, true, false, ◌&&◌, ◌||◌, List, [], ◌∷◌, length, ltb, eqb}
use Rattle.std.proofs.Common.{sym, ap, ◌∙◌, subst}
use Rattle.std.proofs.Math.Decide.{ℕ_discrete}
use Rattle.def_base.specs.Tests.{pick, eq_true, and_true, and_both}
use Rattle.def_layout.specs.Pages.{Page, at}
use Rattle.def_layout.specs.Records.{Rec}
use Rattle.def_model.specs.Change.{act, hits, act_stamp}
use Rattle.def_model.specs.Fit.{fits}
use Rattle.def_model.specs.Redo.{places, is_lower, redo_page, redo_record, fits_places, redo_fits}
use Rattle.theory_redo.specs.OnePage.{run_ok, redo_ok, run_ok_append, redo_ok_law}
use Rattle.theory_redo.specs.Area.{member, lsn_of, length_redo_page, length_redo_record, get_redo_same, get_redo_other, member_places, get_record}
use Rattle.theory_redo.specs.Current.{Behind}
use Rattle.theory_redo.specs.Count.{Inside, AllInside, redo_at_number}

-- Where each page passes, so does the area.
fits_places_true : (n : ℕ) (r : Rec) (ps : List ℕ) (pages : List Page) → Inside (length pages) ps
    → ((p : ℕ) → p < length pages → member p ps ≡ true → pick (is_lower n p pages) (fits p r (at pages p)) true ≡ true)
    → fits_places n r ps pages ≡ true
unfolding fits_places member Inside
fits_places_true n r [] pages i h = refl
fits_places_true n r (q ∷ qs) pages i h =
    let l = length_redo_page n r q pages in
    let a : pick (is_lower n q pages) (fits q r (at pages q)) true ≡ true = h q i.0 (rw (eq_true q q refl)) in
    and_both a (fits_places_true n r qs (redo_page n r q pages) (rw l i.1) (λ p k m. rest p (rw l at k) m (ℕ_discrete p q)))
  where
    or_true : (a b : Bool) → b ≡ true → a || b ≡ true
    or_true true b e = refl
    or_true false b e = e

    rest : (p : ℕ) → p < length pages → member p qs ≡ true → Dec (p ≡ q)
        → pick (is_lower n p (redo_page n r q pages)) (fits p r (at (redo_page n r q pages) p)) true ≡ true
    rest p k m (yes w) =
        let a : is_lower n p (redo_page n r q pages) ≡ false
        = subst (λ z. is_lower n p (redo_page n r z pages) ≡ false) w (ap (λ x. ltb x.lsn n) (get_redo_same n r p pages k) ∙ redo_at_number n r p (at pages p)) in
        rw a
    rest p k m (no d) = subst (λ x. pick (ltb x.lsn n) (fits p r x) true ≡ true) (sym (get_redo_other n r q pages p d)) (h p k (or_true (eqb p q) (member p qs) m))

-- Of one page: every change of it that redo applies fits.
abbrev pub page_ok : ℕ → ℕ → List Rec → Page → Bool
page_ok p n log x = redo_ok lsn_of (hits p) (act p) (act_stamp p) (fits p) n log x

-- Of one page: every record that hits it fitted it when it was done.
abbrev pub page_fitted : ℕ → ℕ → List Rec → Page → Type 0
page_fitted p n log x = run_ok lsn_of (hits p) (act p) (act_stamp p) (fits p) n log x

pub redo_fits_area : (n : ℕ) (log : List Rec) (pages : List Page) → AllInside (length pages) log
    → ((p : ℕ) → p < length pages → page_ok p n log (at pages p) ≡ true) → redo_fits n log pages ≡ true
unfolding redo_fits redo_ok AllInside
redo_fits_area n [] pages i h = refl
redo_fits_area n (r ∷ l) pages i h =
    let e = length_redo_record n r pages in
    and_both (fits_places_true n r (places r) pages i.0 (λ p k m. first p (sym (member_places r p) ∙ m) (h p k)))
    (redo_fits_area (suc n) l (redo_record n r pages) (subst (λ z. AllInside z l) (sym e) i.1)
    (λ p k. let k' : p < length pages = rw e at k in
    subst (λ x. page_ok p (suc n) l x ≡ true) (sym (get_record n r pages p k')) (and_true (pick (hits p r && ltb (at pages p).lsn n) (fits p r (at pages p)) true) _ (h p k')).1))
  where
    first : (p : ℕ) → hits p r ≡ true → page_ok p n (r ∷ l) (at pages p) ≡ true → pick (is_lower n p pages) (fits p r (at pages p)) true ≡ true
    first p m o = rw m at (and_true (pick (hits p r && ltb (at pages p).lsn n) (fits p r (at pages p)) true) _ o).0

-- REFUSAL 5 NEVER COMES, of pages that are each behind by their own amount, where every record fitted every page that it changed.
pub redo_fits_behind : (n : ℕ) (base : ℕ → Page) (log : List Rec) (pages : List Page) → ((p : ℕ) → (base p).lsn < n) → AllInside (length pages) log
    → ((p : ℕ) → p < length pages → page_fitted p n log (base p)) → Behind n base log pages → redo_fits n log pages ≡ true
unfolding Behind
redo_fits_behind n base log pages low i f h =
    redo_fits_area n log pages i (λ p k. let (a, b, e, w) = h p k in
    subst (λ z. page_ok p n z (at pages p) ≡ true) (sym e)
    (redo_ok_law lsn_of (hits p) (act p) (act_stamp p) (fits p) n a b (base p) (at pages p) (low p) w
    (subst (λ x. page_fitted p (n + length a) b x) (sym w)
    (run_ok_append lsn_of (hits p) (act p) (act_stamp p) (fits p) n a b (base p) (subst (λ z. page_fitted p n z (base p)) e (f p k))))))
