-- `redo_places`: the four parts in order. B's outcome is what its call answered, so that a text between the call and its `?` is judged by its value.
use Rattle.record_apply.specs.Pages.{rec}
use Rattle.record_redo.specs.Outcomes.{both_count, all_fit, misfit_a, misfit_b, misfit_c, misfit_map}
use Rattle.record_redo.proofs.redo_places.Goals as goal

pub returns-in_err-a-clause-answer : goal.returns-in_err-a-clause-answer
returns-in_err-a-clause-answer c xs h keeps =
    let a = c.args in
    rw c.from_residual.ensures
    (misfit_a a.k (rec a.r) _ xs c.parts_of-parts.ensures (c.in_err-a.ensures.answer xs h keeps))

pub returns-in_err-b-clause-answer : goal.returns-in_err-b-clause-answer
returns-in_err-b-clause-answer c xs h keeps =
    let a = c.args in
    let h₁ = c.in_ok-a.ensures.answer xs h keeps in
    rw c.from_residual-in_err-b.ensures
    (misfit_b a.k (rec a.r) _ xs c.parts_of-parts.ensures h₁ (rw c.in_err-b.was at (c.redo_part-2.ensures.answer _ h₁.pages keeps)))

pub returns-in_err-c-clause-answer : goal.returns-in_err-c-clause-answer
returns-in_err-c-clause-answer c xs h keeps =
    let a = c.args in
    let h₁ = c.in_ok-a.ensures.answer xs h keeps in
    let h₂ = both_count h₁ (rw c.in_ok-b.was at (c.redo_part-2.ensures.answer _ h₁.pages keeps)) in
    rw c.from_residual-in_err-c.ensures
    (misfit_c a.k (rec a.r) _ xs c.parts_of-parts.ensures h₂ (c.in_err-c.ensures.answer _ h₂.pages keeps))

pub returns-in_err-map-clause-answer : goal.returns-in_err-map-clause-answer
returns-in_err-map-clause-answer c xs h keeps =
    let a = c.args in
    let h₁ = c.in_ok-a.ensures.answer xs h keeps in
    let h₂ = both_count h₁ (rw c.in_ok-b.was at (c.redo_part-2.ensures.answer _ h₁.pages keeps)) in
    let h₃ = both_count h₂ (c.in_ok-c.ensures.answer _ h₂.pages keeps) in
    rw c.from_residual-in_err-map.ensures
    (misfit_map a.k (rec a.r) _ xs c.parts_of-parts.ensures h₃ (c.in_err-map.ensures.answer _ h₃.pages keeps))

pub returns-clause-answer : goal.returns-clause-answer
returns-clause-answer c xs h keeps =
    let a = c.args in
    let h₁ = c.in_ok-a.ensures.answer xs h keeps in
    let h₂ = both_count h₁ (rw c.in_ok-b.was at (c.redo_part-2.ensures.answer _ h₁.pages keeps)) in
    let h₃ = both_count h₂ (c.in_ok-c.ensures.answer _ h₂.pages keeps) in
    all_fit a.k (rec a.r) _ xs c.parts_of-parts.ensures (both_count h₃ (c.in_ok-map.ensures.answer _ h₃.pages keeps))
