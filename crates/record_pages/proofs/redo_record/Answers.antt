-- `redo_record`: the four parts in order.
use mathlib.Core.Path.{subst₂}
use Rattle.record_apply.specs.Pages.{rec}
use Rattle.record_pages.specs.Pages.{Pages}
use Rattle.record_pages.specs.Records.{record_parts, record_lefts}
use Rattle.record_pages.proofs.redo_record.Goals as goal

pub returns : goal.returns
returns c xs ls h keeps =
    let a = c.args in
    let e = c.parts_of-parts.ensures in
    let h₁ = c.redo_part.ensures xs ls h keeps in
    let h₂ = c.redo_part-2.ensures _ _ h₁ keeps in
    let h₃ = c.redo_part-3.ensures _ _ h₂ keeps in
    let h₄ = c.redo_part-4.ensures _ _ h₃ keeps in
    subst₂ (Pages a.n _) (record_parts a.k (rec a.r) _ xs e) (record_lefts a.k (rec a.r) _ xs ls e) h₄
