-- A ranged history stays one when the areas grow: the pages that are added are as they were before the first record.
use Rattle.std.specs.Prelude.{ℕ, suc, ◌-◌, ◌≤◌, ◌<◌, ◌≡◌, List, [], ◌∷◌, ◌++◌, length, replicate}
use Rattle.std.proofs.Common.{sym, ◌∙◌, subst, arith, length-append}
use Rattle.std.proofs.Math.Decide.{dec_le}
use Rattle.std.proofs.lemmas.List.{length-replicate}
use Rattle.def_layout.specs.Pages.{at, zero_page}
use Rattle.def_layout.specs.Records.{Rec}
use Rattle.theory_redo.specs.Count.{AllInside, names_inside}
use Rattle.theory_redo.specs.Current.{Current, current_unique}
use Rattle.theory_redo.specs.Grown.{zeros_extend, zeros_beyond, current_grow}
use Rattle.law_areas.specs.Pages.{zero_fits}
use Rattle.theory_history.specs.Origin.{Origin, two_pages}
use Rattle.theory_history.specs.Start.{pages_after, length_after, after_current}
use Rattle.theory_history.specs.Core.{NamesOk}
use Rattle.theory_history.specs.History.{History}
use Rattle.law_bytes.specs.PageBytes.{Fits as PageFits}
use Rattle.theory_ranges.specs.Pages.{AllFit}
use Rattle.theory_ranges.specs.Histories.{RangedHistory}

names_all_inside : (n : ℕ) (log : List Rec) → 0 < n → NamesOk n log → AllInside n log
unfolding NamesOk AllInside
names_all_inside n [] h k = tt
names_all_inside n (r ∷ log) h k = (names_inside n r h k.0, names_all_inside n log h k.1)

module _ (o : Origin) (n m : ℕ) (least : o.least ≤ n) (longer : n ≤ m) where
  -- The same pages, and zero pages after them.
  pub after_longer : (log : List Rec) → NamesOk n log → pages_after o m log ≡ pages_after o n log ++ replicate (m - n) zero_page
  after_longer log k =
      let e = length_after o n log in
      let t = two_pages o in
      let l = length-append (pages_after o n log) (replicate (m - n) zero_page) in
      let z = length-replicate (m - n) zero_page in
      let len : length (pages_after o m log) ≡ length (pages_after o n log ++ replicate (m - n) zero_page) = length_after o m log ∙ omega arith in
      let grown : Current 1 o.base log (pages_after o n log ++ replicate (m - n) zero_page)
      = current_grow 1 o.base log (pages_after o n log) (pages_after o n log ++ replicate (m - n) zero_page) (zeros_extend (pages_after o n log) (m - n) (omega arith)) (zeros_beyond (pages_after o n log) (m - n))
      (λ p h. o.beyond p (omega arith)) (subst (λ q. AllInside q log) (sym e) (names_all_inside n log (omega arith) k)) (after_current o n log) in
      current_unique 1 o.base log (pages_after o m log) (pages_after o n log ++ replicate (m - n) zero_page) len (after_current o m log) grown

  longer_fits : (log : List Rec) → NamesOk n log → AllFit (pages_after o n log) → AllFit (pages_after o m log)
  longer_fits log k fit = subst AllFit (sym (after_longer log k)) (λ p h. go p (dec_le (suc p) (length (pages_after o n log))))
    where
      go : (p : ℕ) → Dec (p < length (pages_after o n log)) → PageFits (at (pages_after o n log ++ replicate (m - n) zero_page) p)
      go p (yes i) = subst PageFits (sym ((zeros_extend (pages_after o n log) (m - n) (omega arith)).same p i)) (fit p i)
      go p (no i) = subst PageFits (sym (zeros_beyond (pages_after o n log) (m - n) p (omega arith))) zero_fits

-- A RANGED HISTORY STAYS ONE when pages are added.
pub ranged_history_grow : (o : Origin) (n m : ℕ) → o.least ≤ n → n ≤ m → (log : List Rec) → History o n log → RangedHistory o n log → RangedHistory o m log
ranged_history_grow o n m least longer log h g =
    record {
      firsts = λ a b e.
          let x = g.firsts a b e in
          record { pages = longer_fits o n m least longer a (h.firsts a b e).names x.pages; records = x.records; values = x.values; lasts = x.lasts };
    }
