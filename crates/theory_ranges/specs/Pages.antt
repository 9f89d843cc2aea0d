-- The pages of an area, each within its fields: a record that fits its slot keeps them so.
use Rattle.std.specs.Prelude.{ℕ, ◌<◌, ◌≡◌, Bool, true, false, ◌&&◌, List, length, ltb, eqb}
use Rattle.std.proofs.Common.{sym, subst}
use Rattle.def_base.specs.Tests.{pick}
use Rattle.def_layout.specs.Pages.{Page, kind_at, at}
use Rattle.def_layout.specs.declared.page.PageKind.TheVariants.{Leaf, Index}
use Rattle.def_layout.specs.Records.{Rec}
use Rattle.def_model.specs.Change.{act, hits}
use Rattle.def_model.specs.Redo.{redo_record}
use Rattle.theory_redo.specs.OnePage.{redo1}
use Rattle.theory_redo.specs.Area.{length_redo_record, get_record}
use Rattle.law_bytes.specs.PageBytes.{NodeFits, BodyFits, Fits as PageFits}
use Rattle.law_bytes.specs.RecordBytes.{Fits as RecordFits}
use Rattle.law_widths.specs.Acting.{slot_narrow, act_fits}

abbrev pub AllFit : List Page → Type 0
AllFit pages = (p : ℕ) → p < length pages → PageFits (at pages p)

-- A page of the tree holds entries.
pub node_fits : (l : ℕ) (x : Page) → x.kind ≡ kind_at l → PageFits x → NodeFits x
unfolding BodyFits
node_fits l x e h = by_test (eqb l 0) (subst (λ k. BodyFits k x) e h.body)
  where
    by_test : (b : Bool) → BodyFits (pick b Leaf Index) x → NodeFits x
    by_test true f = f
    by_test false f = f

-- EVERY PAGE FITS after a record that fits.
pub pages_fit : (m : ℕ) (r : Rec) (pages : List Page) → RecordFits m r → AllFit pages → AllFit (redo_record m r pages)
unfolding redo1
pages_fit m r pages f fit p h =
    let l : p < length pages = rw length_redo_record at h in
    subst PageFits (sym (get_record m r pages p l)) (by_test (hits p r && ltb (at pages p).lsn m) (fit p l))
  where
    by_test : (b : Bool) → PageFits (at pages p) → PageFits (pick b (act p m r (at pages p)) (at pages p))
    by_test true h = act_fits p m r (at pages p) f.own (slot_narrow m r f) h
    by_test false h = h
