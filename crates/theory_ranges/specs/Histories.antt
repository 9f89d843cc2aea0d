-- RANGED HISTORIES: every number that a first part of the log leads to fits its field, from an origin on.
use Rattle.std.specs.Prelude.{ℕ, ◌≤◌, ◌<◌, ◌^◌, ◌≡◌, refl, ◌⊎◌, List, [], ◌∷◌, ◌++◌, length}
use Rattle.std.proofs.Common.{sym, ap, ◌∙◌, subst, inl, inr, append-nil, append_assoc, arith}
use Rattle.def_layout.specs.declared.Entry.{Entry}
use Rattle.def_layout.specs.Pages.{Page, map_bits}
use Rattle.def_layout.specs.Records.{Rec}
use Rattle.def_model.specs.Redo.{redo_record, replay}
use Rattle.def_model.specs.Update.{Run}
use Rattle.def_model.specs.Batches.{told, open_batches}
use Rattle.theory_redo.specs.Current.{Behind, Current}
use Rattle.theory_update.specs.Run.Way.{written_by}
use Rattle.theory_history.specs.Origin.{Origin, origin_length, origin_page}
use Rattle.theory_history.specs.Start.{pages_after, length_after, pages_more, after_current}
use Rattle.theory_history.specs.Core.{NextRecord}
use Rattle.theory_history.specs.Trail.{Trail, stay, more}
use Rattle.theory_history.specs.History.{run_after, first_parts, Standing, trail_standing}
use Rattle.law_bytes.specs.PageBytes.{Fits as PageFits}
use Rattle.law_areas.specs.Logs.{AllFit as RecordsFit}
use Rattle.law_widths.specs.Each.{Each}
use Rattle.theory_ranges.specs.Batches.{Valued, Lasts}
use Rattle.theory_ranges.specs.Pages.{AllFit}
use Rattle.theory_ranges.specs.Ranged.{Ranged, ranged_more}

-- ---- the start

pub ranged_start : (o : Origin) (n : ℕ) → Ranged (run_after o n [])
unfolding pages_after replay RecordsFit open_batches told Each
ranged_start o n = record { pages = λ p h. let e = origin_length o n in subst PageFits (sym (origin_page o n p (omega arith))) (o.fits p); records = tt; values = tt; lasts = tt }

-- Only pages and log matter.
pub ranged_same : (s t : Run) → s.pages ≡ t.pages → s.log ≡ t.log → Ranged s → Ranged t
ranged_same s t p l g =
    record {
      pages = subst AllFit p g.pages;
      records = subst (RecordsFit 1) l g.records;
      values = subst (λ z. Each Valued (open_batches z)) l g.values;
      lasts = subst (λ z. Each (Lasts (length z)) (open_batches z)) l g.lasts;
    }

-- ---- first parts

pub record RangedHistory (o : Origin) (n : ℕ) (log : List Rec) : Type 0 where
  pub firsts : (a b : List Rec) → log ≡ a ++ b → Ranged (run_after o n a)

pub ranged_now : (o : Origin) (n : ℕ) (log : List Rec) → RangedHistory o n log → Ranged (run_after o n log)
ranged_now o n log h = h.firsts log [] (sym (append-nil log))

pub ranged_history_start : (o : Origin) (n : ℕ) → RangedHistory o n []
ranged_history_start o n = record { firsts = λ a b e. first a b e }
  where
    first : (a b : List Rec) → [] ≡ a ++ b → Ranged (run_after o n a)
    first [] b e = ranged_start o n
    first (x ∷ a) b e = let w : ◌≡◌ {A = ℕ} 0 1 = cc in absurd (omega arith)

pub ranged_first : (o : Origin) (n : ℕ) (a b : List Rec) → RangedHistory o n (a ++ b) → RangedHistory o n a
ranged_first o n a b h = record { firsts = λ x y e. h.firsts x (y ++ b) (ap (◌++ b) e ∙ append_assoc x y b) }

-- Pages that each hold the changes of a first part fit, whichever part it is.
pub behind_fits : (o : Origin) (n : ℕ) (log : List Rec) (pages : List Page) → length pages ≤ n → RangedHistory o n log → Behind 1 o.base log pages → AllFit pages
unfolding Behind Current
behind_fits o n log pages few g b p h =
    let (a, c, e, w) = b p h in
    let l = length_after o n a in
    subst PageFits (after_current o n a p (omega arith) ∙ sym w) ((g.firsts a c e).pages p (omega arith))

module _ (o : Origin) (n : ℕ) (most : n ≤ map_bits) where
  -- A run at the end of a ranged history.
  pub ranged_standing : (s : Run) (sl : List Entry) → Standing o n s sl → RangedHistory o n s.log → Ranged s
  ranged_standing s sl t h = ranged_same (run_after o n s.log) s (sym t.pages) refl (ranged_now o n s.log h)

  -- ONE RECORD MORE.
  pub ranged_history_more : (s : Run) (sl sl' : List Entry) (r : Rec) → Standing o n s sl → NextRecord s sl r sl' → s.due < 2 ^ 32 → RangedHistory o n s.log → RangedHistory o n (s.log ++ r ∷ [])
  ranged_history_more s sl sl' r t x low h = record { firsts = λ a b e. first a b (first_parts s.log r a b e) }
    where
      now : Ranged (run_after o n (s.log ++ r ∷ []))
      now =
          let d = t.core.due in
          let p : redo_record s.due r s.pages ≡ pages_after o n (s.log ++ r ∷ []) = (λ i. redo_record (d i) r (t.pages i)) ∙ sym (pages_more o n s.log r) in
          ranged_same (written_by r s) (run_after o n (s.log ++ r ∷ [])) p refl (ranged_more n most s sl sl' r t.core x low (ranged_standing s sl t h))

      first : (a b : List Rec) → (a ≡ s.log ++ r ∷ []) ⊎ ((c : List Rec) × (s.log ≡ a ++ c)) → Ranged (run_after o n a)
      first a b (inl f) = subst (λ z. Ranged (run_after o n z)) (sym f) now
      first a b (inr f) = h.firsts a f.0 f.1

  -- ALONG A TRAIL.
  pub ranged_history_trail : {s t : Run} {sl sl' : List Entry} → Trail s sl t sl' → Standing o n s sl → t.due ≤ 2 ^ 32 → RangedHistory o n s.log → RangedHistory o n t.log
  ranged_history_trail stay x l h = h
  ranged_history_trail (more {t = t} {sl₁ = a} {r = r} p y) x l h =
      ranged_history_more t a a r (trail_standing o n most p x) y l (ranged_history_trail p x (omega arith) h)
